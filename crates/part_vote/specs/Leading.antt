-- Which part leads an operation, by tetrahedra with their labels: those of a mesh, or those that a part sees.
use Rattle.std.specs.Prelude.{ℕ, Bool, false, ◌==◌, List, map, Option}
use Rattle.std.specs.Option.{option_map_or}
use Rattle.std.specs.Ordering.{nat_cmp}
use Rattle.ma_cells.specs.Ascending.{ascending_of, has}
use Rattle.ma_cells.specs.Tetrahedron.{Tetrahedron, tet_cmp}
use Rattle.ma_cells.specs.declared.batch.Batch.{Batch}
use Rattle.size_marks.specs.Field.{Field}
use Rattle.cavity_rank.specs.Operations.{Operation}
use Rattle.cavity_rank.specs.declared.verdict.Kind.{Kind}
use Rattle.part_store.specs.Agreement.{around, first_of}
use Rattle.part_store.specs.Labelled.{LabelledMesh, label_of, tet_of}
use Rattle.pass_rules.specs.Moves.{legal_operations}

-- a mesh without its labels
abbrev pub without_labels : LabelledMesh → Batch
without_labels mesh = record { tets = ascending_of tet_cmp (map tet_of mesh.tets); marks = mesh.marks }

-- the legal operations of a pass over it
abbrev pub legal_in : Kind → Field → LabelledMesh → List Operation
legal_in kind field mesh = legal_operations kind field (without_labels mesh)

-- the labels of the tetrahedra in the cavity of an operation, ascending
abbrev pub cavity_labels : List (Tetrahedron × ℕ) → Operation → List ℕ
cavity_labels tets op = ascending_of nat_cmp (map label_of (around op.at tets))

-- whether a part has a tetrahedron in the cavity
abbrev pub reaches : List (Tetrahedron × ℕ) → ℕ → Operation → Bool
reaches tets part op = has nat_cmp part (cavity_labels tets op)

-- the least label of the cavity, if there is one: that of the part that leads the operation, and of all that fills the cavity
abbrev pub leader : List (Tetrahedron × ℕ) → Operation → Option ℕ
leader tets op = first_of (cavity_labels tets op)

-- whether a part leads an operation
abbrev pub leads : List (Tetrahedron × ℕ) → ℕ → Operation → Bool
leads tets part op = option_map_or (λ label. label == part) (leader tets op) false

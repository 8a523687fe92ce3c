-- The marks of a cavity, as the operation that fills it leaves them.
use Rattle.std.specs.Prelude.{◌≡◌, true, List, [], ◌∷◌, filter}
use Rattle.std.specs.List.{AllByRecursion, flat_map}
use Rattle.ma_cells.specs.Cells.{CellMark}
use Rattle.ma_cells.specs.Incidence.{is_on}
use Rattle.ma_cells.specs.Stars.{star_of}
use Rattle.ma_cells.specs.declared.batch.Batch.{Batch}
use Rattle.size_marks.specs.Field.{Field}
use Rattle.cavity_rank.specs.Operations.{Operation}
use Rattle.cavity_rank.specs.declared.verdict.Kind.{Kind}
use Rattle.mesh_laws.specs.Adapted.{IsSoundMesh}
use Rattle.pass_rules.specs.Passes.{changed_by, chosen, filling}

-- the marks on cells of an operation's cavity
abbrev pub marks_around : Batch → Operation → List CellMark
marks_around mesh op = filter (λ mark. is_on (star_of op.at mesh.tets) mark.cell) mesh.marks

-- the same as the operation leaves them
abbrev pub marks_left : Batch → Operation → List CellMark
marks_left mesh op = flat_map (changed_by (op ∷ [])) (marks_around mesh op)

-- that these are on cells of what fills the cavity
abbrev pub StayOnCells : Batch → Operation → Type 0
StayOnCells mesh op = AllByRecursion (λ mark. is_on (filling mesh.tets op) mark.cell ≡ true) (marks_left mesh op)

-- in a sound mesh that is so of each chosen operation of either kind, for every size field
abbrev pub MarksStayOnCells : Type 0
MarksStayOnCells = (kind : Kind) (field : Field) (mesh : Batch) → IsSoundMesh mesh → AllByRecursion (StayOnCells mesh) (chosen kind field mesh)

-- What the fillings of a pass's cavities share with the mesh and with each other.
use Rattle.std.specs.Prelude.{◌≡◌, true}
use Rattle.ma_cells.specs.Ascending.{has}
use Rattle.ma_cells.specs.Tetrahedron.{Tetrahedron, tet_cmp}
use Rattle.ma_cells.specs.declared.batch.Batch.{Batch}
use Rattle.size_marks.specs.Field.{Field}
use Rattle.cavity_rank.specs.Operations.{Operation, rank}
use Rattle.cavity_rank.specs.declared.verdict.Kind.{Kind}
use Rattle.mesh_laws.specs.Adapted.{IsSoundMesh}
use Rattle.pass_rules.specs.Choosing.{is_in}
use Rattle.pass_rules.specs.Passes.{chosen, filling}

-- that a tetrahedron is one of the mesh only if it is in the cavity of an operation, and fills the cavity of none of a pass's other chosen operations
pub record FillsAlone (kind : Kind) (field : Field) (mesh : Batch) (op : Operation) (tet : Tetrahedron) : Type 0 where
  pub within : has tet_cmp tet mesh.tets ≡ true → is_in op tet ≡ true
  pub alone : (other : Operation) → has rank other (chosen kind field mesh) ≡ true → has tet_cmp tet (filling mesh.tets other) ≡ true → other ≡ op

-- in a sound mesh that is so of each tetrahedron of what fills the cavity of a chosen operation of either kind, for every size field
abbrev pub FillingsAreApart : Type 0
FillingsAreApart = (kind : Kind) (field : Field) (mesh : Batch) → IsSoundMesh mesh
    → (op : Operation) (tet : Tetrahedron) → has rank op (chosen kind field mesh) ≡ true → has tet_cmp tet (filling mesh.tets op) ≡ true → FillsAlone kind field mesh op tet

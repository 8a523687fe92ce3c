-- A mesh that is kept to be adapted.
use Rattle.std.specs.Prelude.{Bool}
use Rattle.ma_cells.specs.Ascending.{ascending_of}
use Rattle.ma_cells.specs.Meshes.{MarkedMesh}
use Rattle.ma_cells.specs.Tetrahedron.{tet_cmp}
use Rattle.ma_cells.specs.declared.batch.Batch.{Batch}

-- the mesh, and whether a round was refused
pub record Holding : Type 0 where
  pub mesh : Batch
  pub spent : Bool

-- a mesh as a set of tetrahedra and a set of marks
abbrev pub set_of : MarkedMesh → Batch
set_of mesh = record { tets = ascending_of tet_cmp mesh.tets; marks = mesh.marks }

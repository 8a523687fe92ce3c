-- What a mesh file holds.
use Rattle.std.specs.Prelude.{ℕ, pos, List, slice_index_or}
use Rattle.ma_geom.specs.Coordinates.{Coordinates}
use Rattle.msh_read.specs.GroupNames.{GroupName}
use Rattle.msh_read.specs.declared.raw.RawMark.{RawMark}
use Rattle.msh_read.specs.declared.raw.RawMesh.{RawMesh}
use Rattle.msh_read.specs.declared.raw.RawTet.{RawTet}

-- nodes, tetrahedra and marks in the order of the file, and the set of names
pub record Raw : Type 0 where
  pub nodes : List Coordinates
  pub tets : List RawTet
  pub marks : List RawMark
  pub names : List GroupName

-- the place of a node, by its position, which counts from 0. The origin, where there is no such node
abbrev pub node_at : List Coordinates → ℕ → Coordinates
node_at nodes at = slice_index_or nodes at (record { x = pos 0; y = pos 0; z = pos 0 })

abbrev pub raw : RawMesh → Raw
raw mesh = record { nodes = mesh.nodes.items; tets = mesh.tets.items; marks = mesh.marks.items; names = mesh.names.items }

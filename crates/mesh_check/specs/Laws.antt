-- What holds of all meshes that are accepted.
use Rattle.std.specs.Prelude.{◌≡◌, ℕ, Bool, true, Ok}
use Rattle.std.specs.List.{list_all}
use Rattle.ma_geom.specs.Coordinates.{Coordinates}
use Rattle.ma_cells.specs.Cells.{corners_of, is_cell}
use Rattle.ma_cells.specs.Meshes.{MarkedMesh, are_listed_once}
use Rattle.ma_cells.specs.Tetrahedron.{are_tetrahedra}
use Rattle.ma_cover.specs.Sound.{IsSound}
use Rattle.msh_read.specs.Raw.{Raw}
use Rattle.mesh_check.specs.Accepted.{IsAcceptedMesh, accepted_of}

-- that no tetrahedron is flat, no two have the same corners, each mark is on a cell, the mesh is sound, its outer faces carry their marks, and no point is within two tetrahedra
pub record IsFair (mesh : MarkedMesh) : Type 0 where
  pub not_flat : are_tetrahedra mesh.tets ≡ true
  pub listed : are_listed_once mesh.tets ≡ true
  pub cells : list_all (λ mark. is_cell mark.cell) mesh.marks ≡ true
  pub sound : IsSound mesh.tets mesh.marks
  pub accepted : IsAcceptedMesh mesh.tets mesh.marks
  -- a test that all corners of the tetrahedra pass, all corners of the marked cells pass
  pub marks : (test : Coordinates → Bool) → list_all (λ tet. list_all test tet.corners) mesh.tets ≡ true → list_all (λ mark. list_all test (corners_of mark.cell)) mesh.marks ≡ true

-- whatever is accepted is such a mesh
abbrev pub AcceptedIsFair : Type 0
AcceptedIsFair = (raw : Raw) (shift : ℕ) (mesh : MarkedMesh) → accepted_of raw shift ≡ Ok mesh → IsFair mesh

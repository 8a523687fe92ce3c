-- The set of an accepted mesh is sound, and has as many tetrahedra as the mesh.
use Rattle.std.proofs.Common.{◌≡◌, Bool, true, List, length}
use Rattle.std.specs.List.{list_all}
use Rattle.std.proofs.lemmas.List.Sorted.{length_permutation}
use Rattle.ma_cells.specs.Ascending.{ascending_of}
use Rattle.ma_cells.specs.Meshes.{MarkedMesh}
use Rattle.ma_cells.specs.Tetrahedron.{Tetrahedron, are_corners, tet_cmp}
use Rattle.ma_cells.proofs.Passing.{all_pass, test_all}
use Rattle.ma_cells.proofs.Permutations.{listed_once-permutes}
use Rattle.ma_cells.proofs.SetItems.{all-ascending_of}
use Rattle.ma_cover.proofs.SoundOrder.{sound_in_any_order}
use Rattle.mesh_check.specs.Laws.{IsFair}
use Rattle.mesh_laws.specs.Adapted.{IsSoundMesh}
use Rattle.one_mesh.specs.Holding.{set_of}

-- a test that all tetrahedra of a list pass
pub in_set : (test : Tetrahedron → Bool) (tets : List Tetrahedron) → list_all test tets ≡ true → list_all test (ascending_of tet_cmp tets) ≡ true
in_set test tets h = test_all test (ascending_of tet_cmp tets) (all-ascending_of tet_cmp (λ (t : Tetrahedron). test t ≡ true) tets (all_pass test tets h))

pub set_is_sound : (mesh : MarkedMesh) → IsFair mesh → IsSoundMesh (set_of mesh)
set_is_sound mesh fair = record {
  tetrahedra = in_set (λ tet. are_corners tet.corners) mesh.tets fair.not_flat;
  cells = fair.cells;
  sound = sound_in_any_order mesh.tets (ascending_of tet_cmp mesh.tets) mesh.marks (listed_once-permutes mesh.tets fair.listed) fair.sound;
}

pub set_is_as_many : (mesh : MarkedMesh) → IsFair mesh → length (set_of mesh).tets ≡ length mesh.tets
set_is_as_many mesh fair = length_permutation mesh.tets (ascending_of tet_cmp mesh.tets) (listed_once-permutes mesh.tets fair.listed)

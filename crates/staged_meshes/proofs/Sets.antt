-- Tests that all tetrahedra of a labelled mesh pass, with and without its labels.
use Rattle.std.proofs.Common.{◌≡◌, Bool, true, List}
use Rattle.std.specs.List.{list_all}
use Rattle.ma_cells.specs.Ascending.{ascending_of}
use Rattle.ma_cells.specs.Tetrahedron.{Tetrahedron, tet_cmp}
use Rattle.ma_cells.proofs.CellOrders.{tet_cmp-IsAntisymmetric}
use Rattle.ma_cells.proofs.Passing.{all_pass, test_all}
use Rattle.ma_cells.proofs.SetItems.{all-ascending_of, from-ascending_of}

module _ (test : Tetrahedron → Bool) (tets : List Tetrahedron) where
  abbrev Passes : Tetrahedron → Type 0
  Passes tet = test tet ≡ true

  pub as_set : list_all test tets ≡ true → list_all test (ascending_of tet_cmp tets) ≡ true
  as_set all = test_all test (ascending_of tet_cmp tets) (all-ascending_of tet_cmp Passes tets (all_pass test tets all))

  pub as_list : list_all test (ascending_of tet_cmp tets) ≡ true → list_all test tets ≡ true
  as_list all = test_all test tets (from-ascending_of tet_cmp-IsAntisymmetric Passes tets (all_pass test (ascending_of tet_cmp tets) all))

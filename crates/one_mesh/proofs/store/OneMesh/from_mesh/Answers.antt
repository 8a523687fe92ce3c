use Rattle.std.proofs.Common.{◌≡◌, true, false, ◌∙◌, ap, subst, sym}
use Rattle.std.specs.List.Sorted.{IsStrictlySortedBy}
use Rattle.ma_cells.specs.Cells.{mark_cmp}
use Rattle.ma_cells.proofs.Ascents.{ascending_from_strict}
use Rattle.ma_cells.specs.Ascending.{ascending_of}
use Rattle.ma_cells.specs.Tetrahedron.{tet_cmp, are_corners, are_tetrahedra}
use Rattle.ma_cells.proofs.CellOrders.{mark_cmp_total, tet_cmp-IsAntisymmetric}
use Rattle.ma_cells.proofs.Passing.{all_pass, test_all}
use Rattle.one_mesh.proofs.store.OneMesh.from_mesh.Goals as goal
use Rattle.ma_cells.proofs.SetItems.{all-ascending_of}

pub returns : goal.returns
returns c =
    let tets = c.gather.ensures.is tet_cmp-IsAntisymmetric ∙ ap (ascending_of tet_cmp) (c.in_ok-tets.ensures.items ∙ c.tets.ensures.value) in
    let marks = c.from_vec.ensures ∙ (c.in_ok-marks.ensures.items ∙ c.marks.ensures.value) in
    λ i. record { mesh = record { tets = tets i; marks = marks i }; spent = false }

pub invariant_of-result : goal.invariant_of-result
invariant_of-result c =
    let tets = c.gather.ensures.is tet_cmp-IsAntisymmetric in
    let all = all_pass (λ tet. are_corners tet.corners) c.in_ok-tets.tets.items c.in_ok-tets.ensures.not_flat in
    let rise : IsStrictlySortedBy mark_cmp c.from_vec.result = subst (λ marks. IsStrictlySortedBy mark_cmp marks) (sym (c.from_vec.ensures ∙ c.in_ok-marks.ensures.items)) c.marks.ensures.rise in (
      ap are_tetrahedra tets
          ∙ test_all (λ tet. are_corners tet.corners) (ascending_of tet_cmp c.in_ok-tets.tets.items) (all-ascending_of tet_cmp (λ tet. are_corners tet.corners ≡ true) c.in_ok-tets.tets.items all),
      ascending_from_strict mark_cmp_total c.from_vec.result rise,
    )

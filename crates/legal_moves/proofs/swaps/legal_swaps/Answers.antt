use Rattle.std.proofs.Common.{◌≡◌, ◌++◌, true, sym, ap, ◌∙◌}
use Rattle.std.specs.List.{flat_map, list_all}
use Rattle.ma_geom.specs.Coordinates.{place_cmp}
use Rattle.ma_cells.specs.Ascending.{are_ascending, ascending_of}
use Rattle.ma_cells.specs.Tetrahedron.{are_tetrahedra}
use Rattle.cavity_rank.specs.Operations.{rank}
use Rattle.cavity_rank.proofs.Ranked.{rank-IsAntisymmetric}
use Rattle.legal_moves.specs.Around.{bad_among, parts_of, swaps_around}
use Rattle.legal_moves.proofs.BySpot.{legal_by_swaps, parts_rise}
use Rattle.legal_moves.proofs.swaps.legal_swaps.Goals as goal

pub swaps_of-requires-clause-edges : goal.swaps_of-requires-clause-edges
swaps_of-requires-clause-edges c =
    let solid : are_tetrahedra c.args.mesh.now.tets ≡ true = ap are_tetrahedra (sym c.as_slice.ensures.items) ∙ c.in_ok-bad.ensures.solid in
    ap (list_all (are_ascending place_cmp)) (c.in_ok-edges.ensures ∙ ap (parts_of 2) (c.as_slice-2.ensures.value ∙ c.in_ok-bad.ensures.bad ∙ ap bad_among c.as_slice.ensures.items))
    ∙ parts_rise c.args.mesh.now solid 2

pub swaps_of-requires-clause-faces : goal.swaps_of-requires-clause-faces
swaps_of-requires-clause-faces c =
    let solid : are_tetrahedra c.args.mesh.now.tets ≡ true = ap are_tetrahedra (sym c.as_slice.ensures.items) ∙ c.in_ok-bad.ensures.solid in
    ap (list_all (are_ascending place_cmp)) (c.as_slice-4.ensures.items ∙ c.in_ok-faces.ensures ∙ ap (parts_of 3) (c.as_slice-3.ensures.value ∙ c.in_ok-bad.ensures.bad ∙ ap bad_among c.as_slice.ensures.items))
    ∙ parts_rise c.args.mesh.now solid 3

pub returns : goal.returns
returns c field =
    let solid : are_tetrahedra c.args.mesh.now.tets ≡ true = ap are_tetrahedra (sym c.as_slice.ensures.items) ∙ c.in_ok-bad.ensures.solid in
    let around = swaps_around c.args.mesh.now in
    c.gather.ensures.is rank-IsAntisymmetric
    ∙ ap (ascending_of rank) c.in_ok-ops.ensures
    ∙ ap (λ edges. ascending_of rank (flat_map around edges ++ flat_map around c.as_slice-4.result.now)) (c.in_ok-edges.ensures ∙ ap (parts_of 2) (c.as_slice-2.ensures.value ∙ c.in_ok-bad.ensures.bad ∙ ap bad_among c.as_slice.ensures.items))
    ∙ ap (λ faces. ascending_of rank (flat_map around (parts_of 2 (bad_among c.args.mesh.now.tets)) ++ flat_map around faces)) (c.as_slice-4.ensures.items ∙ c.in_ok-faces.ensures ∙ ap (parts_of 3) (c.as_slice-3.ensures.value ∙ c.in_ok-bad.ensures.bad ∙ ap bad_among c.as_slice.ensures.items))
    ∙ legal_by_swaps field c.args.mesh.now solid

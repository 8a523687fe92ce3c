use Rattle.std.proofs.Common.{◌≡◌, true, ◌++◌, ap, ◌∙◌, arith, flat_map, subst}
use Rattle.std.proofs.lemmas.List.{take_all}
use Rattle.std.proofs.lemmas.List.Elements.{All-more}
use Rattle.ma_geom.specs.Coordinates.{place_cmp}
use Rattle.ma_geom.proofs.PlaceOrder.{place_cmp-IsAntisymmetric}
use Rattle.ma_cells.specs.Ascending.{are_ascending, ascending_of}
use Rattle.ma_cells.proofs.Corners.{corners_rise}
use Rattle.msh_write.proofs.Sets.{collected}
use Rattle.msh_write.proofs.nodes.nodes_of.Goals as goal

pub loop-tet-preserved : goal.loop-tet-preserved
loop-tet-preserved c =
    let rise = corners_rise c.corners.result c.corners.ensures.corners in
    record {
      nodes = collected (λ t. t.corners) c.args.tets.now c.loop-tet.tet-index c.tet-item.result _ _ c.loop-tet-test.true c.tet-item.is c.loop-tet.invariant.nodes
          (c.in_ok-extend_from_slice.ensures.items ∙ ap (λ ps. c.loop-tet.corners.items ++ ps) c.corners.ensures.value);
      corners = All-more (λ t. are_ascending place_cmp t.corners ≡ true) c.args.tets.now c.loop-tet.tet-index c.tet-item.result c.loop-tet-test.true c.loop-tet.invariant.corners
          (subst (λ t. are_ascending place_cmp t.corners ≡ true) c.tet-item.is (subst (λ p. are_ascending place_cmp p ≡ true) c.corners.ensures.value rise));
    }

pub returns-clause-nodes : goal.returns-clause-nodes
returns-clause-nodes c =
    c.gather.ensures.is place_cmp-IsAntisymmetric
    ∙ ap (λ corners. ascending_of place_cmp corners) (c.loop-tet.invariant.nodes ∙ ap (λ tets. flat_map (λ t. t.corners) tets) (take_all c.loop-tet.tet-index c.args.tets.now (omega arith)))

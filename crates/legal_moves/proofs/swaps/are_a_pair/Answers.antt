use Rattle.std.proofs.Common.{not, ap, ◌∙◌, arith}
use Rattle.std.specs.Cmp.Lexicographic.{slice_cmp}
use Rattle.std.specs.Ordering.{eq_by_cmp}
use Rattle.ma_geom.specs.Coordinates.{place_cmp}
use Rattle.legal_moves.proofs.Closed.{pair_is}
use Rattle.legal_moves.proofs.swaps.are_a_pair.Goals as goal

pub returns-in-len2 : goal.returns-in-len2
returns-in-len2 c =
    c.differ.ensures
    ∙ ap (λ corners. not (eq_by_cmp (slice_cmp place_cmp) corners c.corners-in-len2.result)) c.corners.ensures.value
    ∙ ap (λ corners. not (eq_by_cmp (slice_cmp place_cmp) c.s-item.result.corners corners)) c.corners-in-len2.ensures.value
    ∙ pair_is c.args.star.now c.s-item.result c.t-item.result (omega arith) c.s-item.is c.t-item.is

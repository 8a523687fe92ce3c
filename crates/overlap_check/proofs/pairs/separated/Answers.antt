use Rattle.overlap_check.specs.Forms.{axes, slants}
use Rattle.overlap_check.specs.Overlap.{are_separated, is_apart}
use Rattle.overlap_check.proofs.Anys.{among_first, among_rest}
use Rattle.overlap_check.proofs.pairs.separated.Goals as goal

pub returns-then-are_apart_along_an_axis : goal.returns-then-are_apart_along_an_axis
unfolding are_separated
returns-then-are_apart_along_an_axis c =
    let a = c.args.a.now.corners in
    let b = c.args.b.now.corners in
    among_first (λ n. is_apart n a b) axes (slants a b) _ c.are_apart_along_an_axis.ensures c.if-are_apart_along_an_axis.true

pub returns-else-are_apart_along_an_axis : goal.returns-else-are_apart_along_an_axis
unfolding are_separated
returns-else-are_apart_along_an_axis c =
    let a = c.args.a.now.corners in
    let b = c.args.b.now.corners in
    among_rest (λ n. is_apart n a b) axes (slants a b) _ _ c.are_apart_along_an_axis.ensures c.if-are_apart_along_an_axis.false c.are_apart_aslant.ensures

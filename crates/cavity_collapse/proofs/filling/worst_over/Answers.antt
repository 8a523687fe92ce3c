use Rattle.std.proofs.Common.{◌≡◌, ◌+◌, drop, false, rules, sym, ap, ◌∙◌}
use Rattle.cavity_collapse.specs.Facing.{cone_qualities, if_at_least}
use Rattle.cavity_collapse.specs.Steps.{lies_off, with_quality}
use Rattle.cavity_collapse.specs.declared.facing.SidedFace.{SidedFace}
use Rattle.cavity_collapse.proofs.Kept.{at_the_end, given_up, next_face}
use Rattle.cavity_collapse.proofs.Seen.{off_where_seen, passed_at}
use Rattle.cavity_collapse.proofs.filling.worst_over.Goals as goal

pub cone_quality-requires : goal.cone_quality-requires
cone_quality-requires c =
    passed_at (λ (one : SidedFace). lies_off c.args.v one.face) c.args.faces.now c.loop-one.one-index c.one-item.result (off_where_seen c.args.faces.now c.args.v c.requires.sides c.requires.seen) c.loop-one-test.true c.one-item.is

pub returns-then-not-is_at_least : goal.returns-then-not-is_at_least
returns-then-not-is_at_least c =
    let faces = c.args.faces.now in
    let i = c.loop-one.one-index in
    let next =
    next_face c.args.v faces c.loop-one.worst i c.one-item.result c.with_quality-worst.result c.loop-one-test.true c.one-item.is (c.with_quality-worst.ensures ∙ ap (with_quality c.loop-one.worst) c.cone_quality.ensures) c.loop-one.invariant in
    let off : c.is_at_least.result ≡ false = search rules in
    given_up c.args.floor c.with_quality-worst.result (cone_qualities c.args.v (drop (i + 1) faces)) (cone_qualities c.args.v faces) (sym c.is_at_least.ensures ∙ off) next

pub loop-one-preserved : goal.loop-one-preserved
loop-one-preserved c =
    next_face c.args.v c.args.faces.now c.loop-one.worst c.loop-one.one-index c.one-item.result c.with_quality-worst.result c.loop-one-test.true c.one-item.is
    (c.with_quality-worst.ensures ∙ ap (with_quality c.loop-one.worst) c.cone_quality.ensures) c.loop-one.invariant

pub returns : goal.returns
returns c = c.if_at_least.ensures ∙ ap (if_at_least c.args.floor) (c.unwrap_or.ensures ∙ at_the_end c.args.v c.args.faces.now c.loop-one.worst c.loop-one.one-index c.loop-one-test.false c.loop-one.invariant)

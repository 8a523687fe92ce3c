use Rattle.part_vote.specs.Voting.{has_all_votes}
use Rattle.part_vote.proofs.Kept.{kept_step}
use Rattle.part_vote.proofs.winning.won_among.Goals as goal

pub loop-op-preserved : goal.loop-op-preserved
loop-op-preserved c =
    kept_step (has_all_votes c.args.cavities.now c.args.part c.args.mine.now c.args.votes.now) c.args.led.now c.loop-op.op-index c.op-item.result c.loop-op.won.items _ _ c.in_ok-is_wanted.is_wanted
    c.loop-op-test.true c.op-item.is c.in_ok-is_wanted.ensures c.in_ok-push_if.ensures c.loop-op.invariant

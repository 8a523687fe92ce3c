use Rattle.std.proofs.Common.{◌≡◌, ◌++◌, drop, filter}
use Rattle.part_vote.specs.Voting.{has_all_votes}
use Rattle.part_vote.proofs.winning.won_among.Given as goal

-- those so far, and those of the operations that are left
abbrev pub invariant-loop-op : goal.invariant-loop-op
invariant-loop-op l =
    l.won.items ++ filter (has_all_votes l.cavities l.part l.mine l.votes) (drop l.op-index l.led) ≡ filter (has_all_votes l.cavities l.part l.mine l.votes) l.led

use Rattle.part_rules.specs.Bodies.{posts_in}
use Rattle.part_core.proofs.Walks.{IsWalk}
use Rattle.part_core.proofs.ends.directory.Given as goal

abbrev pub invariant-loop-sender : goal.invariant-loop-sender
invariant-loop-sender l = IsWalk l.sender-iterator l.directory (posts_in l.posts)

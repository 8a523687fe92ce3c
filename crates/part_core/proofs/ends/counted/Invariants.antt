use Rattle.std.proofs.Common.{◌≡◌, ◌+◌, ◌*◌, ◌^◌, ◌≤◌, length}
use Rattle.part_rules.specs.Bodies.{posts_in}
use Rattle.part_rules.specs.Ends.{counted}
use Rattle.part_core.proofs.ends.counted.Given as goal

-- those so far, and what the rest tells
abbrev pub invariant-loop-sender : goal.invariant-loop-sender
invariant-loop-sender l = (l.count + counted l.me (posts_in l.sender-iterator) ≡ counted l.me (posts_in l.posts)) × (l.count + length l.sender-iterator * 2 ^ 32 ≤ length l.posts * 2 ^ 32)

use Rattle.std.proofs.Common.{◌≡◌, ◌++◌, not, filter}
use Rattle.std.specs.Prelude.{◌==◌}
use Rattle.part_rules.specs.Bodies.{batches_in}
use Rattle.part_core.proofs.ends.shown.Given as goal

-- those so far, and what is left of the others
abbrev pub invariant-loop-sender : goal.invariant-loop-sender
invariant-loop-sender l = l.got.items ++ filter (λ entry. not (entry.0 == l.me)) (batches_in l.sender-iterator) ≡ filter (λ entry. not (entry.0 == l.me)) (batches_in l.fn.batches)

use Rattle.std.proofs.Common.{◌≡◌, ◌++◌}
use Rattle.std.specs.Vec.Iter.{into_iter_items}
use Rattle.part_gather.specs.Ordered.{batches_of_others}
use Rattle.pass_letters.proofs.taking.of_others.Given as goal

-- those so far, and those of the batches that are left
abbrev pub invariant-loop-sender : goal.invariant-loop-sender
invariant-loop-sender l = l.got.items ++ batches_of_others (into_iter_items l.sender-iterator) l.part ≡ batches_of_others l.fn.batches.items l.part

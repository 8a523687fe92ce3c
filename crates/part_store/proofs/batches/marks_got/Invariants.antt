use Rattle.std.proofs.Common.{◌≡◌, ◌++◌, drop}
use Rattle.part_store.specs.Stores.{marks_got}
use Rattle.part_store.proofs.batches.marks_got.Given as goal

-- those so far, and those of the batches that are left
abbrev pub invariant-loop-batch : goal.invariant-loop-batch
invariant-loop-batch l = l.got.items ++ marks_got (drop l.batch-index l.batches) ≡ marks_got l.batches

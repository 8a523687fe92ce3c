use Rattle.std.proofs.Common.{◌≡◌, ◌++◌, drop}
use Rattle.part_store.specs.Stores.{tets_got}
use Rattle.part_store.proofs.batches.tets_got.Given as goal

-- those so far, and those of the batches that are left
abbrev pub invariant-loop-batch : goal.invariant-loop-batch
invariant-loop-batch l = l.got.items ++ tets_got (drop l.batch-index l.batches) ≡ tets_got l.batches

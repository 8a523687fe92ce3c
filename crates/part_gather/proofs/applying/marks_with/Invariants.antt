use Rattle.std.proofs.Common.{◌≡◌, ◌++◌, drop}
use Rattle.std.specs.List.{flat_map}
use Rattle.ma_cells.specs.declared.batch.Batch.{Batch}
use Rattle.part_store.specs.Labelled.{marks_on}
use Rattle.part_gather.proofs.applying.marks_with.Given as goal

-- those so far, and those of the batches that are left
abbrev pub invariant-loop-batch : goal.invariant-loop-batch
invariant-loop-batch l =
    l.marks.items ++ flat_map (λ (batch : Batch). batch.marks) (drop l.batch-index l.got) ≡ marks_on l.store.own l.store.marks ++ flat_map (λ (batch : Batch). batch.marks) l.got

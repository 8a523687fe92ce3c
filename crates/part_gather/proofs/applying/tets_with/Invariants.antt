use Rattle.std.proofs.Common.{◌≡◌, ◌++◌, drop}
use Rattle.std.specs.List.{flat_map}
use Rattle.ma_cells.specs.declared.batch.Batch.{Batch}
use Rattle.part_gather.proofs.applying.tets_with.Given as goal

-- those so far, and those of the batches that are left
abbrev pub invariant-loop-batch : goal.invariant-loop-batch
invariant-loop-batch l =
    l.tets.items ++ flat_map (λ (batch : Batch). batch.tets) (drop l.batch-index l.got) ≡ l.store.own ++ flat_map (λ (batch : Batch). batch.tets) l.got

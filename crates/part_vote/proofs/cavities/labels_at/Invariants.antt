use Rattle.std.proofs.Common.{◌≡◌, ◌++◌, drop, map}
use Rattle.corner_tables.specs.steps.Near.{picked}
use Rattle.part_store.specs.Labelled.{label_of}
use Rattle.part_vote.proofs.cavities.labels_at.Given as goal

-- those so far, and those at the positions that are left
abbrev pub invariant-loop-i : goal.invariant-loop-i
invariant-loop-i l = l.labels.items ++ map label_of (picked l.entries (drop l.i-index l.at)) ≡ map label_of (picked l.entries l.at)

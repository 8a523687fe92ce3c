use Rattle.std.proofs.Common.{◌≡◌, ◌++◌, drop}
use Rattle.part_gather.specs.Ordered.{ordered_by}
use Rattle.pass_letters.proofs.listed.from_part.Given as goal

-- those so far, and those of the lists that are left
abbrev pub invariant-loop-list : goal.invariant-loop-list
invariant-loop-list l = l.ops.items ++ ordered_by (drop l.list-index l.lists) l.part ≡ ordered_by l.lists l.part

use Rattle.std.proofs.Common.{◌≡◌, ◌++◌, drop}
use Rattle.part_gather.specs.Ordered.{ordered_by_others}
use Rattle.pass_letters.proofs.listed.from_others.Given as goal

-- those so far, and those of the lists that are left
abbrev pub invariant-loop-list : goal.invariant-loop-list
invariant-loop-list l = l.ops.items ++ ordered_by_others (drop l.list-index l.lists) l.part ≡ ordered_by_others l.lists l.part

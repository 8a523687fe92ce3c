use Rattle.std.proofs.Common.{◌≡◌, flat_map, take}
use Rattle.msh_write.specs.steps.Holders.{holders_by}
use Rattle.msh_write.proofs.holders.holders.Given as goal

abbrev pub invariant-loop-member : goal.invariant-loop-member
invariant-loop-member l = l.holders.items ≡ flat_map (holders_by l.marked) (take l.member-index l.members)

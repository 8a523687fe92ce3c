use Rattle.std.proofs.Common.{◌≡◌, take}
use Rattle.msh_write.specs.PartText.{tets_of_members}
use Rattle.msh_write.proofs.members.tets.Given as goal

abbrev pub invariant-loop-member : goal.invariant-loop-member
invariant-loop-member l = l.tets.items ≡ tets_of_members (take l.member-index l.members)

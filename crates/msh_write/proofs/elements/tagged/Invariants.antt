use Rattle.std.proofs.Common.{◌≡◌, take}
use Rattle.std.specs.List.{filter}
use Rattle.msh_write.specs.Text.{is_tagged}
use Rattle.msh_write.proofs.elements.tagged.Given as goal

abbrev pub invariant-loop-mark : goal.invariant-loop-mark
invariant-loop-mark l = l.tagged.items ≡ filter is_tagged (take l.mark-index l.marks)

use Rattle.std.proofs.Common.{◌≡◌, ℕ, ◌+◌, List, ◌++◌}
use Rattle.msh_write.specs.PartText.{Member, member_element}
use Rattle.msh_write.specs.Text.{element_line, ended, item_lines}
use Rattle.msh_write.proofs.TextLines.{lines_from}
use Rattle.msh_write.proofs.part.put_members.Given as goal

abbrev pub invariant-loop-index : goal.invariant-loop-index
invariant-loop-index l =
    let line : ℕ → Member → List ℕ = λ number member. element_line l.nodes (l.before + number) (member_element l.part member) in
    l.out.items ++ ended (lines_from line l.members l.index) ≡ l.fn.out.items ++ ended (item_lines line l.members)

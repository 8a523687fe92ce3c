use Rattle.std.proofs.Common.{ℕ, ◌+◌, List, arith}
use Rattle.msh_write.specs.PartText.{Member, member_element}
use Rattle.msh_write.specs.Text.{element_line}
use Rattle.msh_write.proofs.TextLines.{lines-end, lines-step}
use Rattle.msh_write.proofs.part.put_members.Goals as goal

pub loop-index-preserved : goal.loop-index-preserved
loop-index-preserved c =
    let line : ℕ → Member → List ℕ = λ number member. element_line c.args.nodes.now (c.args.before + number) (member_element c.args.part member) in
    lines-step line c.args.members.now c.loop-index.index c.index-members-index.result _ _ _ c.loop-index-test.true c.index-members-index.is c.loop-index.invariant c.in_ok-put_member.ensures

pub returns : goal.returns
returns c =
    let line : ℕ → Member → List ℕ = λ number member. element_line c.args.nodes.now (c.args.before + number) (member_element c.args.part member) in
    lines-end line c.args.members.now c.loop-index.index _ _ (omega arith) c.loop-index.invariant

use Rattle.std.proofs.Common.{refl}
use Rattle.std.proofs.lemmas.Result.{IfOk-equal}
use Rattle.msh_write.specs.PartText.{member_element, resident_element}
use Rattle.msh_write.proofs.TextLines.{elements-written}
use Rattle.msh_write.proofs.part.put_elements.Goals as goal

pub returns : goal.returns
returns c =
    IfOk-equal _ _ _ _ c.put_bytes-3.ensures
    (elements-written c.args.nodes.now (resident_element c.args.part c.args.members.now) (member_element c.args.part) c.args.marks.now c.args.members.now _ _ _ _ _ _ _ _ refl refl
    c.in_ok-put_bytes.ensures c.in_ok-put_number.ensures c.in_ok-put_bytes-2.ensures c.in_ok-put_marks.ensures c.in_ok-put_members.ensures)

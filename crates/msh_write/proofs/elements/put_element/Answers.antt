use Rattle.std.proofs.Common.{refl}
use Rattle.std.proofs.lemmas.Result.{IfOk-equal}
use Rattle.msh_write.proofs.TextLines.{element_line-written}
use Rattle.msh_write.proofs.elements.put_element.Goals as goal

pub returns : goal.returns
returns c =
    IfOk-equal _ _ _ _ c.put_bytes.ensures
    (element_line-written c.args.nodes.now c.args.number (record { kind = c.args.kind; tags = c.args.tags.now; corners = c.args.corners.now }) _ _ _ _ _ _ _ refl
    c.in_ok-put_number.ensures c.in_ok-put_word.ensures c.in_ok-put_word-2.ensures c.in_ok-put_tags.ensures c.in_ok-put_corners.ensures)

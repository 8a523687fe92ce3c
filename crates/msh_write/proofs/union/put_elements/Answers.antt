use Rattle.std.proofs.Common.{[], refl}
use Rattle.std.proofs.lemmas.Result.{IfOk-equal}
use Rattle.msh_write.specs.Text.{mark_element, tet_element}
use Rattle.msh_write.proofs.TextLines.{elements-written}
use Rattle.msh_write.proofs.union.put_elements.Goals as goal

pub returns : goal.returns
returns c =
    IfOk-equal _ _ _ _ c.put_bytes-3.ensures
    (elements-written c.args.nodes.now (mark_element []) (tet_element []) c.args.marks.now c.args.tets.now _ _ _ _ _ _ _ _ refl refl
    c.in_ok-put_bytes.ensures c.in_ok-put_number.ensures c.in_ok-put_bytes-2.ensures c.in_ok-put_marks.ensures c.in_ok-put_tets.ensures)

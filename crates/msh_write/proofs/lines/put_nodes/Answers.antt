use Rattle.std.proofs.Common.{codes}
use Rattle.std.proofs.lemmas.Result.{IfOk-equal}
use Rattle.msh_write.specs.Text.{node_line, item_lines}
use Rattle.msh_write.proofs.TextLines.{length-item_lines, section-written}
use Rattle.msh_write.proofs.lines.put_nodes.Goals as goal

pub returns : goal.returns
returns c =
    IfOk-equal _ _ _ _ c.put_bytes-3.ensures
    (section-written (codes "Nodes") (item_lines node_line c.args.nodes.now) _ _ _ _ _ _ (length-item_lines node_line c.args.nodes.now)
    c.in_ok-put_bytes.ensures c.in_ok-put_number.ensures c.in_ok-put_bytes-2.ensures c.in_ok-put_node_lines.ensures)

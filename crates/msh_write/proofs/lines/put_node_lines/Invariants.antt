use Rattle.std.proofs.Common.{◌≡◌, ◌++◌}
use Rattle.msh_write.specs.Text.{ended, node_line, item_lines}
use Rattle.msh_write.proofs.TextLines.{lines_from}
use Rattle.msh_write.proofs.lines.put_node_lines.Given as goal

abbrev pub invariant-loop-index : goal.invariant-loop-index
invariant-loop-index l =
    l.out.items ++ ended (lines_from node_line l.nodes l.index) ≡ l.fn.out.items ++ ended (item_lines node_line l.nodes)

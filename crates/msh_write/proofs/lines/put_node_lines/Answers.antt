use Rattle.std.proofs.Common.{arith}
use Rattle.msh_write.specs.Text.{node_line}
use Rattle.msh_write.proofs.TextLines.{lines-end, lines-step}
use Rattle.msh_write.proofs.lines.put_node_lines.Goals as goal

pub loop-index-preserved : goal.loop-index-preserved
loop-index-preserved c =
    lines-step node_line c.args.nodes.now c.loop-index.index c.index-nodes-index.result _ _ _ c.loop-index-test.true c.index-nodes-index.is c.loop-index.invariant c.in_ok-put_node_line.ensures

pub returns : goal.returns
returns c = lines-end node_line c.args.nodes.now c.loop-index.index _ _ (omega arith) c.loop-index.invariant

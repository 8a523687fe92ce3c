use Rattle.msh_write.proofs.TextLines.{head-written}
use Rattle.msh_write.proofs.lines.head.Goals as goal

pub returns : goal.returns
returns c =
    head-written c.args.names.now c.args.nodes.now _ _ _ _ c.new-out.ensures.items c.in_ok-put_bytes.ensures c.in_ok-put_names.ensures c.in_ok-put_nodes.ensures

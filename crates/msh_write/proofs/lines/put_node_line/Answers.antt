use Rattle.std.proofs.Common.{rules, append_assoc}
use Rattle.msh_write.proofs.lines.put_node_line.Goals as goal

pub returns : goal.returns
returns c = search (rules, append_assoc)

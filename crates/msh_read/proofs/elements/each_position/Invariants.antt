use Rattle.std.proofs.Common.{◌≡◌, drop, length}
use Rattle.msh_read.specs.ElementLines.{position_of}
use Rattle.msh_read.specs.Trying.{each}
use Rattle.msh_read.proofs.Each.{behind}
use Rattle.msh_read.proofs.elements.each_position.Given as goal

abbrev pub invariant-loop-node : goal.invariant-loop-node
invariant-loop-node l = (behind l.at.items (each (position_of l.known.keys) (drop l.node-index l.nodes)) ≡ each (position_of l.known.keys) l.nodes) × (length l.at.items ≡ l.node-index)

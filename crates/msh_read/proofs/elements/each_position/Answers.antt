use Rattle.std.proofs.Common.{◌≡◌, ◌+◌, pos, get_or, length, arith, rules, FitsSigned}
use Rattle.std.specs.Int.{w64}
use Rattle.std.proofs.lemmas.Int.{to_z-of_z}
use Rattle.std.proofs.lemmas.Result.{err_from_is_err_and}
use Rattle.msh_read.specs.ElementLines.{position_of}
use Rattle.msh_read.specs.Trying.{each}
use Rattle.msh_read.proofs.ElementNumbers.{walks_on, walk_stops}
use Rattle.msh_read.proofs.elements.each_position.Goals as goal

pub returns-in_err-position : goal.returns-in_err-position
returns-in_err-position c =
    let read = position_of c.args.known.now.keys in
    let fits : FitsSigned w64 (get_or c.args.nodes.now c.loop-node.node-index (pos 0)) = search rules in
    let p = err_from_is_err_and c.from_residual.result c.from_residual.ensures.1 in
    rw (p.1, p.2) (walk_stops read c.in_err-position.field-0.0 c.loop-node.at.items c.args.nodes.now c.loop-node.node-index (each read c.args.nodes.now) c.loop-node-test.true (simp to_z-of_z at c.in_err-position.ensures) c.loop-node.invariant.0)

pub loop-node-preserved : goal.loop-node-preserved
loop-node-preserved c =
    let read = position_of c.args.known.now.keys in
    let fits : FitsSigned w64 (get_or c.args.nodes.now c.loop-node.node-index (pos 0)) = search rules in
    let longer : length c.push.new.self.items ≡ c.loop-node.node-index + 1 = omega (arith, c.push.ensures.len, c.loop-node.invariant.1) in
    (rw c.push.ensures.items (walks_on read c.loop-node.at.items c.args.nodes.now c.loop-node.node-index c.in_ok-position.position (each read c.args.nodes.now) c.loop-node-test.true (simp to_z-of_z at c.in_ok-position.ensures) c.loop-node.invariant.0), longer)

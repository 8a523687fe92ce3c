use Rattle.std.proofs.Common.{◌∙◌}
use Rattle.cavity_swap.proofs.ByFaces.{sees_by_steps}
use Rattle.cavity_swap.proofs.outer.sees.Goals as goal

pub returns : goal.returns
returns c = c.are_seen_from.ensures ∙ sees_by_steps c.args.outer.now c.args.v

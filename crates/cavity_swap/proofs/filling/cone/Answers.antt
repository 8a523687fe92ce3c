use Rattle.std.proofs.Common.{arith}
use Rattle.cavity_collapse.proofs.Moving.{three}
use Rattle.cavity_swap.proofs.filling.cone.Goals as goal

pub returns : goal.returns
returns c = rw (← three c.args.face c.index-face-0.result c.index-face-1.result c.index-face-2.result (omega arith)) c.alike.ensures

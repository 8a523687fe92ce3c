use Rattle.cavity_collapse.proofs.Points.{no_point}
use Rattle.cavity_collapse.proofs.curves.is_point.Goals as goal

pub returns-in_default : goal.returns-in_default
returns-in_default c = no_point c.args.cell c.args.a c.requires c.in_default.not-Point

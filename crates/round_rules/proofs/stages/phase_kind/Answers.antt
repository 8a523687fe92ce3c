use Rattle.std.proofs.Common.{◌≡◌, ◌%◌, arith}
use Rattle.round_rules.proofs.Turns.{is_kind}
use Rattle.round_rules.proofs.stages.phase_kind.Goals as goal

pub returns-in-0 : goal.returns-in-0
returns-in-0 c = is_kind c.args.phase 0 c.in-0.is

pub returns-in-1 : goal.returns-in-1
returns-in-1 c = is_kind c.args.phase 1 c.in-1.is

pub returns-in-2 : goal.returns-in-2
returns-in-2 c = is_kind c.args.phase 2 c.in-2.is

pub returns-in-3 : goal.returns-in-3
returns-in-3 c = is_kind c.args.phase 3 c.in-3.is

pub returns-in-4 : goal.returns-in-4
returns-in-4 c = is_kind c.args.phase 4 c.in-4.is

pub returns-in-5 : goal.returns-in-5
returns-in-5 c = is_kind c.args.phase 5 c.in-5.is

pub returns-in_default : goal.returns-in_default
returns-in_default c = let last : c.args.phase % 7 ≡ 6 = omega arith in is_kind c.args.phase 6 last

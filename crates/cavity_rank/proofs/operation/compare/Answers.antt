use Rattle.cavity_rank.proofs.Ranked.{rank_total, ties}
use Rattle.cavity_rank.proofs.operation.compare.Goals as goal

pub returns-clause-total : goal.returns-clause-total
returns-clause-total c = rank_total

pub returns-clause-equal : goal.returns-clause-equal
returns-clause-equal c = ties c.args.a.now c.args.b.now

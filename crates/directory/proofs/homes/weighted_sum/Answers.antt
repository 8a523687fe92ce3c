use Rattle.std.proofs.Common.{arith}
use Rattle.std.proofs.lemmas.Int.{ints}
use Rattle.directory.proofs.homes.weighted_sum.Goals as goal

pub overflow_add-result-2 : goal.overflow_add-result-2
overflow_add-result-2 c = omega (arith, ints)

pub returns-clause-value : goal.returns-clause-value
returns-clause-value c = omega (arith, ints)

pub returns-clause-bound : goal.returns-clause-bound
returns-clause-bound c = omega (arith, ints)

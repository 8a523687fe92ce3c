use Rattle.std.proofs.Common.{arith}
use Rattle.std.proofs.lemmas.Int.{ints}
use Rattle.ma_geom.proofs.Products.{read}
use Rattle.ma_cover.proofs.exact.parallelogram.Goals as goal

pub returns-clause-value : goal.returns-clause-value
returns-clause-value c = grind (arith, read)

pub returns-clause-bound : goal.returns-clause-bound
returns-clause-bound c = omega (arith, ints)

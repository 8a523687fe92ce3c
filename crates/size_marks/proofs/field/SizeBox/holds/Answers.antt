use Rattle.std.proofs.Common.{arith}
use Rattle.ma_geom.proofs.Products.{read}
use Rattle.size_marks.proofs.field.SizeBox.holds.Goals as goal

pub returns : goal.returns
returns c = grind (arith, read)

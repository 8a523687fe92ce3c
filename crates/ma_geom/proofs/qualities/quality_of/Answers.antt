use Rattle.std.proofs.Common.{◌≡◌, unsigned_abs, arith}
use Rattle.ma_geom.specs.Volume.{vol6}
use Rattle.ma_geom.proofs.Products.{read}
use Rattle.ma_geom.proofs.Volumes.{volume_bound}
use Rattle.ma_geom.proofs.qualities.quality_of.Goals as goal

pub in_parts-requires-clause-bound : goal.in_parts-requires-clause-bound
in_parts-requires-clause-bound c =
    let volume : c.unsigned_abs.result ≡ unsigned_abs (vol6 c.args.a c.args.b c.args.c c.args.d) = grind (arith, read) in
    volume_bound c.args.a c.args.b c.args.c c.args.d c.unsigned_abs.result c.longest2-longest.result c.root.result volume c.longest2-longest.ensures c.root.ensures.square

use Rattle.std.proofs.Common.{refl, arith}
use Rattle.overlap_check.proofs.Adding.{empty_row, row_ends, row_more}
use Rattle.overlap_check.proofs.cubes.push_row.Goals as goal

pub loop-z-init : goal.loop-z-init
loop-z-init c = record { adds = empty_row _ _ _ _ _ _ _; bound = omega arith }

pub loop-z-preserved : goal.loop-z-preserved
loop-z-preserved c = record {
  adds = row_more _ _ _ _ c.args.x c.args.y c.args.zs.now.start c.loop-z.z c.args.tet c.loop-z.invariant.adds c.in_ok-push.ensures.items (omega arith) refl;
  bound = omega arith;
}

pub returns : goal.returns
returns c = row_ends _ _ _ _ _ _ c.args.zs.now.start c.loop-z.z c.args.zs.now.end c.args.tet c.loop-z.invariant.adds (omega arith) (omega arith)

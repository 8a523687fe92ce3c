use Rattle.std.proofs.Common.{arith}
use Rattle.overlap_check.proofs.Adding.{empty_slab, slab_ends, slab_more}
use Rattle.overlap_check.proofs.cubes.push_slab.Goals as goal

pub loop-y-init : goal.loop-y-init
loop-y-init c = record { adds = empty_slab _ _ _ _ _ _ _; bound = omega arith }

pub loop-y-preserved : goal.loop-y-preserved
loop-y-preserved c = record {
  adds = slab_more _ _ _ c.args.x c.args.ys.now.start c.loop-y.y c.args.zs.now.start c.args.zs.now.end c.args.tet c.loop-y.invariant.adds c.in_ok-push_row.ensures (omega arith);
  bound = omega arith;
}

pub returns : goal.returns
returns c = slab_ends _ _ _ _ c.args.ys.now.start c.loop-y.y c.args.ys.now.end _ _ c.args.tet c.loop-y.invariant.adds (omega arith) (omega arith)

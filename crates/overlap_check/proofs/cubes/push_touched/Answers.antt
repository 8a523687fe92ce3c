use Rattle.std.proofs.Common.{arith}
use Rattle.overlap_check.proofs.Adding.{block_ends, block_more, box_added, empty_block}
use Rattle.overlap_check.proofs.cubes.push_touched.Goals as goal

pub loop-x-init : goal.loop-x-init
loop-x-init c = record { adds = empty_block _ _ _ _ _ _ _; bound = omega arith }

pub loop-x-preserved : goal.loop-x-preserved
loop-x-preserved c = record {
  adds = block_more _ _ _ c.touched-xs.result.start c.loop-x.x _ _ _ _ c.args.tet c.loop-x.invariant.adds c.in_ok-push_slab.ensures (omega arith);
  bound = omega arith;
}

pub returns : goal.returns
returns c =
    box_added _ _ c.args.cubes.now.shift c.args.around.now _ _ _ _ _ _ c.args.tet
    (block_ends _ _ c.touched-xs.result.start c.loop-x.x c.touched-xs.result.end _ _ _ _ c.args.tet c.loop-x.invariant.adds (omega arith) (omega arith))
    c.touched-xs.ensures.start c.touched-xs.ensures.end c.touched-ys.ensures.start c.touched-ys.ensures.end c.touched-zs.ensures.start c.touched-zs.ensures.end

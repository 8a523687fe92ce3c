use Rattle.std.proofs.Common.{arith}
use Rattle.size_marks.proofs.slabs.Slabs.along.Goals as goal

pub returns : goal.returns
returns c = record {
  long = omega arith;
  marks = λ s d low. c.loop-slab.invariant.marks s (omega arith) d;
}

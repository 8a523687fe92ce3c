use Rattle.std.proofs.Common.{ℕ, ◌≡◌, ◌<◌, List, length, get_or}
use Rattle.size_marks.specs.steps.Slabs.{MarksFirst}
use Rattle.size_marks.proofs.slabs.Slabs.along.Given as goal

abbrev pub invariant-loop-slab : goal.invariant-loop-slab
invariant-loop-slab l = record {
  long : length l.rows.items ≡ l.slab;
  marks : (s : ℕ) → s < l.slab → (d : List ℕ) → MarksFirst l.boxes l.axis l.cuts.items s (get_or l.rows.items s d) (length l.boxes);
}

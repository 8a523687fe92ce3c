use Rattle.std.proofs.Common.{◌≡◌, ◌<◌, ℕ, get_or, vec_len}
use Rattle.overlap_check.specs.steps.Boxes.{IsBox}
use Rattle.overlap_check.specs.steps.Pairs.{corners_at}
use Rattle.overlap_check.specs.declared.boxes.BoundingBox.{BoundingBox}
use Rattle.overlap_check.proofs.boxes.boxes_around.Given as goal

-- the boxes of the tetrahedra so far
abbrev pub invariant-loop-tet : goal.invariant-loop-tet
invariant-loop-tet l = record {
  count : vec_len l.boxes ≡ l.tet-index;
  each : (i : ℕ) (d : BoundingBox) → i < l.tet-index → IsBox (corners_at l.tets i) (get_or l.boxes.items i d);
}

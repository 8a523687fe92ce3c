-- Tetrahedra whose boxes don't meet are separated.
use Rattle.std.proofs.Common.{◌≡◌, inl, inr, true, false, List}
use Rattle.std.specs.Prelude.{◌&&◌}
use Rattle.std.proofs.lemmas.Bool.{and_cases, or_left, or_right}
use Rattle.ma_geom.specs.Coordinates.{Coordinates}
use Rattle.overlap_check.specs.Forms.{x_axis, y_axis, z_axis}
use Rattle.overlap_check.specs.Overlap.{are_separated, is_apart}
use Rattle.overlap_check.specs.steps.Boxes.{IsBox, boxes_meet, spans_meet}
use Rattle.overlap_check.specs.declared.boxes.BoundingBox.{BoundingBox}
use Rattle.overlap_check.proofs.Spans.{spans_apart}

-- one coordinate that separates them is enough
by_x : (a b : List Coordinates) → is_apart x_axis a b ≡ true → are_separated a b ≡ true
unfolding are_separated
by_x a b h = or_left (is_apart x_axis a b) _ h

by_y : (a b : List Coordinates) → is_apart y_axis a b ≡ true → are_separated a b ≡ true
unfolding are_separated
by_y a b h = or_right (is_apart x_axis a b) _ (or_left (is_apart y_axis a b) _ h)

by_z : (a b : List Coordinates) → is_apart z_axis a b ≡ true → are_separated a b ≡ true
unfolding are_separated
by_z a b h = or_right (is_apart x_axis a b) _ (or_right (is_apart y_axis a b) _ (or_left (is_apart z_axis a b) _ h))

pub boxes_apart : (a b : List Coordinates) (r s : BoundingBox) → IsBox a r → IsBox b s → boxes_meet r s ≡ false → (are_separated a b ≡ true) × (are_separated b a ≡ true)
boxes_apart a b r s left right h = elim (and_cases (spans_meet r.x s.x) (spans_meet r.y s.y && spans_meet r.z s.z) h) [
  | inl k ↦ (let e = spans_apart x_axis a b r.x s.x left.x right.x k in (by_x a b e.0, by_x b a e.1))
  | inr m ↦ elim (and_cases (spans_meet r.y s.y) (spans_meet r.z s.z) m) [
    | inl k ↦ (let e = spans_apart y_axis a b r.y s.y left.y right.y k in (by_y a b e.0, by_y b a e.1))
    | inr k ↦ (let e = spans_apart z_axis a b r.z s.z left.z right.z k in (by_z a b e.0, by_z b a e.1))
  ]
]

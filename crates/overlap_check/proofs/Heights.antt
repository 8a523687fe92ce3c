-- Boxes that share an inner point touch the cube that has the greater of their low ends.
use Rattle.std.proofs.Common.{◌≡◌, ◌<◌, ◌≤◌, ◌+◌, ◌-◌, ◌/◌, ◌^◌, ℕ, max, true, ap, arith}
use Rattle.std.specs.Prelude.{ℤ, ◌≤ℤ◌, ◌<ℤ◌, ◌&&◌, int_lt, List}
use Rattle.std.specs.Int.{int_max}
use Rattle.std.proofs.Math.Pow.{shr_mono}
use Rattle.std.proofs.lemmas.Bool.{and_parts}
use Rattle.std.proofs.lemmas.Int.{clamps, ints}
use Rattle.std.proofs.lemmas.Nat.{shr-shr, shr_below, shr_le}
use Rattle.ma_geom.specs.Coordinates.{Coordinates}
use Rattle.overlap_check.specs.declared.boxes.BoundingBox.{BoundingBox}
use Rattle.overlap_check.specs.declared.boxes.Span.{Span}
use Rattle.overlap_check.specs.steps.Boxes.{IsBox, boxes_meet, least_stored, spans_meet}
use Rattle.overlap_check.specs.steps.Cubes.{IsTouched, Touches, height, home, meeting}

rises : (v w : ℤ) → least_stored ≤ℤ v → v ≤ℤ w → height v ≤ height w
rises v w stored h = omega (arith, ints)

less : (v w : ℤ) → int_lt v w ≡ true → v <ℤ w
less v w h = grind (arith, ints)

first_low : (v w : ℤ) → v ≤ℤ int_max v w
first_low v w = grind (arith, ints, clamps)

second_low : (v w : ℤ) → w ≤ℤ int_max v w
second_low v w = grind (arith, ints, clamps)

-- the greater of two low ends is a low end, or below the high end
first_high : (v w h : ℤ) → least_stored ≤ℤ v → least_stored ≤ℤ w → w <ℤ h → height (int_max v w) ≤ max (height v) (height h - 1)
first_high v w h first second below = grind (arith, ints, clamps)

second_high : (v w h : ℤ) → least_stored ≤ℤ v → least_stored ≤ℤ w → v <ℤ h → height (int_max v w) ≤ max (height w) (height h - 1)
second_high v w h first second below = grind (arith, ints, clamps)

spans_touch : (k : ℕ) (s t : Span) → least_stored ≤ℤ s.low → least_stored ≤ℤ t.low → spans_meet s t ≡ true → IsTouched k s (meeting k s t) × IsTouched k t (meeting k s t)
spans_touch k s t s_stored t_stored h =
    let ends = and_parts (int_lt s.low t.high) (int_lt t.low s.high) h in (
      record {
        low = shr_mono k (rises s.low (int_max s.low t.low) s_stored (first_low s.low t.low));
        high = shr_mono k (first_high s.low t.low s.high s_stored t_stored (less t.low s.high ends.1));
      },
      record {
        low = shr_mono k (rises t.low (int_max s.low t.low) t_stored (second_low s.low t.low));
        high = shr_mono k (second_high s.low t.low t.high s_stored t_stored (less s.low t.high ends.0));
      },
    )

pub home_touched : (k : ℕ) (a b : List Coordinates) (r s : BoundingBox) → IsBox a r → IsBox b s → boxes_meet r s ≡ true → Touches k r (home k r s) × Touches k s (home k r s)
home_touched k a b r s left right h =
    let outer = and_parts (spans_meet r.x s.x) (spans_meet r.y s.y && spans_meet r.z s.z) h in
    let inner = and_parts (spans_meet r.y s.y) (spans_meet r.z s.z) outer.1 in
    let along_x = spans_touch k r.x s.x left.x.stored right.x.stored outer.0 in
    let along_y = spans_touch k r.y s.y left.y.stored right.y.stored inner.0 in
    let along_z = spans_touch k r.z s.z left.z.stored right.z.stored inner.1 in
    (record { x = along_x.0; y = along_y.0; z = along_z.0 }, record { x = along_x.1; y = along_y.1; z = along_z.1 })

-- one more than the number of a cube is stored
pub number_fits : (n k : ℕ) → n < 2 ^ 32 → 1 ≤ k → n / 2 ^ k + 1 < 2 ^ 32
number_fits n k h one =
    let halved : n / 2 ^ 1 / 2 ^ (k - 1) ≡ n / 2 ^ (1 + (k - 1)) = shr-shr n 1 (k - 1) in
    let same : n / 2 ^ (1 + (k - 1)) ≡ n / 2 ^ k = ap (λ j. n / 2 ^ j) (omega arith) in
    let below : n / 2 ^ 1 / 2 ^ (k - 1) ≤ n / 2 ^ 1 = shr_le (n / 2 ^ 1) (k - 1) in
    let half : n / 2 ^ 1 < 2 ^ 31 = shr_below n 31 1 h in
    omega arith

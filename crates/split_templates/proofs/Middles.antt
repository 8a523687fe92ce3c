-- The midpoint of two places is halfway between them.
use Rattle.std.proofs.Common.{◌≡◌, true, false, cond, Option, Some, None, refl, sym, ap, ◌∙◌, arith}
use Rattle.std.specs.Prelude.{ℤ, pos, ◌+ℤ◌, int_div, int_rem}
use Rattle.std.specs.Ordering.{int_eq}
use Rattle.std.proofs.lemmas.Int.{ints}
use Rattle.ma_geom.specs.Coordinates.{Coordinates}
use Rattle.ma_geom.specs.Midpoints.{halved, midpoint, whole_place}
use Rattle.ma_geom.specs.Rational.{IsMiddle}
use Rattle.ma_geom.proofs.Integers.{twice_half}

is_zero : (n : ℤ) → int_eq n (pos 0) ≡ true → n ≡ pos 0
is_zero n h = grind (arith, ints)

halved_twice : (n h : ℤ) → halved n ≡ Some h → h +ℤ h ≡ n
unfolding halved
halved_twice n h is =
    elim (int_eq (int_rem n (pos 2)) (pos 0)) as (λ t. int_eq (int_rem n (pos 2)) (pos 0) ≡ t → cond t (Some (int_div n (pos 2))) None ≡ Some h → h +ℤ h ≡ n) [
      | true ↦ λ even k.
          let same : int_div n (pos 2) ≡ h = cc in
          (λ i. sym same i +ℤ sym same i) ∙ twice_half n (is_zero (int_rem n (pos 2)) even)
      | false ↦ λ _ k. absurd (cc)
    ] refl is

whole_place_parts : (x y z : Option ℤ) (m : Coordinates) → whole_place x y z ≡ Some m → (x ≡ Some m.x) × (y ≡ Some m.y) × (z ≡ Some m.z)
whole_place_parts (Some x) (Some y) (Some z) m h =
    let place : record { x = x; y = y; z = z } ≡ m = cc in
    (ap (λ (p : Coordinates). Some p.x) place, ap (λ (p : Coordinates). Some p.y) place, ap (λ (p : Coordinates). Some p.z) place)
whole_place_parts (Some x) (Some y) None m h = absurd (cc)
whole_place_parts (Some x) None z m h = absurd (cc)
whole_place_parts None y z m h = absurd (cc)

pub midpoint-IsMiddle : (a b m : Coordinates) → midpoint a b ≡ Some m → IsMiddle m a b
midpoint-IsMiddle a b m h =
    let parts = whole_place_parts (halved (a.x +ℤ b.x)) (halved (a.y +ℤ b.y)) (halved (a.z +ℤ b.z)) m h in
    record { x = halved_twice (a.x +ℤ b.x) m.x parts.0; y = halved_twice (a.y +ℤ b.y) m.y parts.1; z = halved_twice (a.z +ℤ b.z) m.z parts.2 }

-- The values of a form over four places, which are taken over bits.
use Rattle.std.proofs.Common.{◌≡◌, refl, List, [], ◌∷◌, ◌≤◌, ◌^◌, length, map, get_or, sym, ap, ◌∙◌, arith}
use Rattle.std.specs.Prelude.{ℤ, FitsSigned, unsigned_abs}
use Rattle.std.specs.Int.{w128}
use mir.Syntax.{w32}
use mir.Val.{to_z, of_z}
use Rattle.std.proofs.lemmas.Int.{ints, to_z-of_z}
use Rattle.ma_geom.specs.Coordinates.{Coordinates}
use Rattle.ma_geom.specs.Volume.{dot}
use Rattle.overlap_check.specs.Forms.{x_axis, y_axis, z_axis}

pub dot-x_axis : (p : Coordinates) → dot x_axis p ≡ p.x
dot-x_axis p = omega (arith, ints)

pub dot-y_axis : (p : Coordinates) → dot y_axis p ≡ p.y
dot-y_axis p = omega (arith, ints)

pub dot-z_axis : (p : Coordinates) → dot z_axis p ≡ p.z
dot-z_axis p = omega (arith, ints)

pub stored : (v : ℤ) → FitsSigned w128 v → to_z w128 (of_z w128 v) ≡ v
stored v fits = simp to_z-of_z

pub widened : (v : ℤ) → unsigned_abs v ≤ 2 ^ 30 → to_z w128 (of_z w128 (to_z w32 (of_z w32 v))) ≡ v
widened v near = omega (arith, ints)

-- a list of four
pub four : (places : List Coordinates) (a b c d : Coordinates) → length places ≡ 4 → places ≡ get_or places 0 a ∷ get_or places 1 b ∷ get_or places 2 c ∷ get_or places 3 d ∷ []
four [] a b c d long = absurd (omega arith)
four (p ∷ []) a b c d long = absurd (omega arith)
four (p ∷ q ∷ []) a b c d long = absurd (omega arith)
four (p ∷ q ∷ r ∷ []) a b c d long = absurd (omega arith)
four (p ∷ q ∷ r ∷ s ∷ []) a b c d long = refl
four (p ∷ q ∷ r ∷ s ∷ t ∷ ts) a b c d long = absurd (omega arith)

-- what is kept of the values at four places is these values
pub four_values : (f : Coordinates → ℤ) (places : List Coordinates) (a b c d : Coordinates) (v w x y : ℤ) → length places ≡ 4
    → v ≡ f (get_or places 0 a) → w ≡ f (get_or places 1 b) → x ≡ f (get_or places 2 c) → y ≡ f (get_or places 3 d)
    → v ∷ w ∷ x ∷ y ∷ [] ≡ map f places
four_values f places a b c d v w x y long va wb xc yd =
    (λ i. va i ∷ wb i ∷ xc i ∷ yd i ∷ []) ∙ sym (ap (map f) (four places a b c d long))

-- a coordinate, as the form's value
pub widened_x : (p : Coordinates) (v : ℤ) → v ≡ p.x → unsigned_abs v ≤ 2 ^ 30 → to_z w128 (of_z w128 (to_z w32 (of_z w32 v))) ≡ dot x_axis p
widened_x p v e near = widened v near ∙ e ∙ sym (dot-x_axis p)

pub widened_y : (p : Coordinates) (v : ℤ) → v ≡ p.y → unsigned_abs v ≤ 2 ^ 30 → to_z w128 (of_z w128 (to_z w32 (of_z w32 v))) ≡ dot y_axis p
widened_y p v e near = widened v near ∙ e ∙ sym (dot-y_axis p)

pub widened_z : (p : Coordinates) (v : ℤ) → v ≡ p.z → unsigned_abs v ≤ 2 ^ 30 → to_z w128 (of_z w128 (to_z w32 (of_z w32 v))) ≡ dot z_axis p
widened_z p v e near = widened v near ∙ e ∙ sym (dot-z_axis p)

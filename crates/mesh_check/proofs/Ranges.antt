-- Coordinates that are in range.
use Rattle.std.proofs.Common.{◌≡◌, ℕ, ◌^◌, cond, Option, Some, None, refl, sym}
use Rattle.std.specs.Prelude.{ℤ, pos, ◌*ℤ◌}
use Rattle.std.proofs.lemmas.Option.{cond_some}
use Rattle.ma_geom.specs.Coordinates.{Coordinates}
use Rattle.mesh_check.specs.Places.{is_near, shifted}
use Rattle.mesh_check.specs.steps.ShiftedPlaces.{within_range}

-- a coordinate after the shift, if it is in range
abbrev scaled : ℕ → ℤ → Option ℤ
scaled shift c = cond (is_near (c *ℤ pos (2 ^ shift))) (Some (c *ℤ pos (2 ^ shift))) None

-- the place of three coordinates that are in range after the shift
pub moved_is : (p : Coordinates) (shift : ℕ) (a b c x y z : ℤ) (moved : Option Coordinates) → a ≡ p.x → b ≡ p.y → c ≡ p.z → Some x ≡ scaled shift a → Some y ≡ scaled shift b → Some z ≡ scaled shift c
    → moved ≡ within_range (record { x = x; y = y; z = z }) → moved ≡ within_range (shifted shift p)
moved_is p shift a b c x y z moved ea eb ec ex ey ez is =
    let fx = cond_some (is_near (a *ℤ pos (2 ^ shift))) (a *ℤ pos (2 ^ shift)) x (sym ex) in
    let fy = cond_some (is_near (b *ℤ pos (2 ^ shift))) (b *ℤ pos (2 ^ shift)) y (sym ey) in
    let fz = cond_some (is_near (c *ℤ pos (2 ^ shift))) (c *ℤ pos (2 ^ shift)) z (sym ez) in
    rw (is, sym fx.1, sym fy.1, sym fz.1, ea, eb, ec) refl

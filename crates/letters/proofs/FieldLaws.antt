-- The grammars of fields are lawful.
use Rattle.std.proofs.Common.{◌≡◌, ℕ, suc, ◌-◌, ◌^◌, Bool, true, false, ltb, refl, arith}
use Rattle.std.specs.Prelude.{ℤ, pos, negsuc}
use Rattle.std.specs.Int.{w32, cast_signed, cast_unsigned}
use mir.Val.{sel}
use Rattle.std.proofs.lemmas.Bool.{lt-ltb, ltb-false, ltb-true}
use Rattle.std.proofs.lemmas.Int.{ints, of_z-to_z, to_z-of_z}
use Rattle.letters.specs.Fields.{between, coordinate, is_coordinate, is_signed, place, signed}
use Rattle.letters.specs.Grammar.{number, ◌then◌}
use Rattle.letters.proofs.Lawful.{IsLawful}
use Rattle.letters.proofs.Combined.{chain_lawful, renamed_lawful, stands_for_lawful, tested_lawful}
use Rattle.letters.proofs.Numbers.{number_lawful}

pub signed_lawful : IsLawful signed
signed_lawful = stands_for_lawful is_signed (cast_signed w32) (cast_unsigned w32) (number 4) (number_lawful 4) (record { there = there; is_proper = proper; back = back })
  where
    there : (n : ℕ) → ltb n (256 ^ 4) ≡ true → cast_unsigned w32 (cast_signed w32 n) ≡ n
    there n h = of_z-to_z w32 n (ltb-true n (256 ^ 4) h)

    proper : (n : ℕ) → ltb n (256 ^ 4) ≡ true → is_signed (cast_signed w32 n) ≡ true
    proper n h = by (ltb n (2 ^ 31)) refl
      where
        by : (b : Bool) → ltb n (2 ^ 31) ≡ b → is_signed (sel b (pos n) (negsuc (2 ^ 32 - suc n))) ≡ true
        by true e = e
        by false e = lt-ltb _ _ (omega (arith, ltb-false n (2 ^ 31) e, ltb-true n (2 ^ 32) h))

    back : (z : ℤ) → is_signed z ≡ true → cast_signed w32 (cast_unsigned w32 z) ≡ z
    back (pos n) h = to_z-of_z w32 (pos n) (omega (arith, ints, ltb-true n (2 ^ 31) h))
    back (negsuc n) h = to_z-of_z w32 (negsuc n) (omega (arith, ints, ltb-true n (2 ^ 31) h))

pub coordinate_lawful : IsLawful coordinate
coordinate_lawful = tested_lawful is_coordinate signed signed_lawful

pub place_lawful : IsLawful place
place_lawful =
    renamed_lawful _ _ (coordinate then coordinate then coordinate)
    (chain_lawful coordinate (λ _. coordinate then coordinate) coordinate_lawful (λ _. chain_lawful coordinate (λ _. coordinate) coordinate_lawful (λ _. coordinate_lawful))) (λ c h. refl) (λ p. refl)

pub between_lawful : (low high : ℕ) → IsLawful (between low high)
between_lawful low high = tested_lawful _ (number 1) (number_lawful 1)

-- The definitions at values that were worked out by hand.
use Rattle.std.proofs.Common.{◌≡◌, ℕ, pos, true, false, [], ◌∷◌, Some, None, refl}
use Rattle.std.specs.declared.cmp.Ordering.TheVariants.{Less, Equal, Greater}
use Rattle.ma_geom.specs.Coordinates.{Coordinates}
use Rattle.cavity_rank.specs.Operations.{Operation, is_spot, rank}
use Rattle.cavity_rank.specs.Verdicts.{first_failing, verdict_of}
use Rattle.cavity_rank.specs.declared.verdict.Verdict.TheVariants.{Legal, Illegal}

abbrev along : ℕ → Coordinates
along x = record { x = pos x; y = pos 0; z = pos 0 }

abbrev removing : ℕ → ℕ → ℕ → Operation
removing a v worst = record { at = along a ∷ []; apex = along v; worst = worst }

the_greater_quality_first : rank (removing 8 0 268435457) (removing 4 0 268435456) ≡ Less
the_greater_quality_first = refl

then_the_lesser_vertex : rank (removing 8 4 268435456) (removing 4 0 268435456) ≡ Greater
then_the_lesser_vertex = refl

then_the_lesser_apex : rank (removing 4 0 7) (removing 4 8 7) ≡ Less
then_the_lesser_apex = refl

a_front_is_lesser : rank (removing 4 8 7) (record { at = along 4 ∷ along 8 ∷ []; apex = along 0; worst = 7 }) ≡ Less
a_front_is_lesser = refl

an_operation_ties_with_itself : rank (removing 4 0 7) (removing 4 0 7) ≡ Equal
an_operation_ties_with_itself = refl

spots : (is_spot [] ≡ false) × (is_spot (along 4 ∷ []) ≡ true) × (is_spot (along 4 ∷ along 8 ∷ along 9 ∷ []) ≡ true) × (is_spot (along 8 ∷ along 4 ∷ []) ≡ false) × (is_spot (along 4 ∷ along 4 ∷ []) ≡ false)
spots = (refl, refl, refl, refl, refl)

the_first_that_fails : (first_failing 1 (true ∷ false ∷ true ∷ false ∷ []) ≡ Some 2) × (first_failing 1 (true ∷ true ∷ []) ≡ None)
the_first_that_fails = (refl, refl)

verdicts : (verdict_of 7 None ≡ Legal 7) × (verdict_of 7 (Some 3) ≡ Illegal 3)
verdicts = (refl, refl)

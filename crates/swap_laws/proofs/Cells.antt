-- Where the marked cells of a cavity are after it is swapped.
use Rattle.std.proofs.Common.{◌≡◌, ℕ, suc, Bool, true, false, List, [], ◌∷◌, refl, ap}
use Rattle.std.specs.Prelude.{ℤ}
use Rattle.std.specs.List.{AllByRecursion}
use Rattle.std.specs.Ordering.{int_eq}
use Rattle.std.proofs.lemmas.Bool.{and_parts, false≢true}
use Rattle.std.proofs.lemmas.Int.{ints}
use Rattle.std.proofs.Common.{arith, ◌&&◌}
use Rattle.ma_cells.specs.Tetrahedron.{Tetrahedron}
use Rattle.ma_cells.proofs.Passing.{all_pass, all_weaker}
use Rattle.cavity_laws.specs.Replaced.{AreOfRegion}
use Rattle.cavity_rank.specs.Verdicts.{first_failing, verdict_of}
use Rattle.cavity_rank.specs.declared.verdict.Verdict.{Verdict}
use Rattle.cavity_rank.specs.declared.verdict.Verdict.TheVariants.{Illegal, Legal}
use Rattle.cavity_swap.specs.Judging.{has_one_region}

-- where a verdict is legal, all tests are passed
pub all_true : (n worst w : ℕ) (tests : List Bool) → verdict_of worst (first_failing n tests) ≡ Legal w → AllByRecursion (λ t. t ≡ true) tests
all_true n worst w [] h = tt
all_true n worst w (true ∷ tests) h = (refl, all_true (suc n) worst w tests h)
all_true n worst w (false ∷ tests) h = absurd (false≢true (ap is_legal h))
  where
    is_legal : Verdict → Bool
    is_legal (Legal worst) = true
    is_legal (Illegal n) = false

-- the region is that of the first
pub one_region : (first : Tetrahedron) (rest : List Tetrahedron) → has_one_region (first ∷ rest) ≡ true → AreOfRegion first.phys first.elem (first ∷ rest)
one_region first rest h = (
  (refl, refl),
  all_weaker (λ (tet : Tetrahedron). (int_eq tet.phys first.phys && int_eq tet.elem first.elem) ≡ true) (λ tet. (tet.phys ≡ first.phys) × (tet.elem ≡ first.elem))
      (λ tet e. let parts = and_parts (int_eq tet.phys first.phys) (int_eq tet.elem first.elem) e in (int_is _ _ parts.0, int_is _ _ parts.1)) rest
      (all_pass (λ (tet : Tetrahedron). int_eq tet.phys first.phys && int_eq tet.elem first.elem) rest h),
)
  where
    int_is : (x y : ℤ) → int_eq x y ≡ true → x ≡ y
    int_is x y h = grind (arith, ints)

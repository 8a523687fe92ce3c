-- Lists whose entries stand one behind the other ascend.
use Rattle.std.proofs.Common.{◌≡◌, Bool, true, ◌&&◌, List, [], ◌∷◌, Some, None, refl, sym, ap, subst, ◌∙◌}
use Rattle.std.specs.Cmp.{IsTotalOrder}
use Rattle.std.specs.List.Sorted.{IsStrictlySortedBy}
use Rattle.std.specs.declared.cmp.Ordering.{Ordering}
use Rattle.std.specs.Ordering.{is_lt}
use Rattle.ma_cells.specs.Ascending.{are_ascending}
use Rattle.ma_cells.proofs.Ascents.{ascending_from_strict, strict_from_ascending}
use Rattle.letters.specs.Grammar.{are_behind}

module _ {K : Type 0} (R : K → K → Ordering) where
  behind_one : (x : K) (xs : List K) → are_behind (λ y z. is_lt (R y z)) (Some x) xs ≡ are_ascending R (x ∷ xs)
  behind_one x [] = refl
  behind_one x (y ∷ ys) = ap (λ (b : Bool). is_lt (R x y) && b) (behind_one y ys)

  pub behind_is : (xs : List K) → are_behind (λ y z. is_lt (R y z)) None xs ≡ are_ascending R xs
  behind_is [] = refl
  behind_is (x ∷ xs) = behind_one x xs

-- entries one behind the other are sorted
pub sorted : {K : Type 0} {R : K → K → Ordering} → IsTotalOrder R → (xs : List K) → are_behind (λ y z. is_lt (R y z)) None xs ≡ true → IsStrictlySortedBy R xs
sorted {R = R} total xs behind = strict_from_ascending total xs (sym (behind_is R xs) ∙ behind)

-- and sorted ones stand one behind the other
pub from_sorted : {K : Type 0} {R : K → K → Ordering} → IsTotalOrder R → (xs : List K) → IsStrictlySortedBy R xs → are_behind (λ y z. is_lt (R y z)) None xs ≡ true
from_sorted {R = R} total xs rises = behind_is R xs ∙ ascending_from_strict total xs rises

pub same_order : {K : Type 0} {R S : K → K → Ordering} → R ≡ S → (xs : List K) → IsStrictlySortedBy S xs → IsStrictlySortedBy R xs
same_order e xs h = subst (λ T. IsStrictlySortedBy T xs) (sym e) h

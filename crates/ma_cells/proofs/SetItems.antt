-- What holds of each item of a list holds of each of its set, and the other way round.
use Rattle.std.proofs.Common.{◌≡◌, cond, List, [], ◌∷◌, refl, sym, subst}
use Rattle.std.specs.FinMap.{IsAntisymmetric}
use Rattle.std.specs.List.{AllByRecursion}
use Rattle.std.specs.Ordering.{is_eq, is_lt}
use Rattle.std.specs.declared.cmp.Ordering.{Ordering}
use Rattle.std.specs.declared.cmp.Ordering.TheVariants.{Less, Equal, Greater}
use Rattle.ma_cells.specs.Ascending.{ascending_of, put}

module _ {K : Type 0} (R : K → K → Ordering) (P : K → Type 0) where
  pub all-put : (x : K) (ys : List K) → P x → AllByRecursion P ys → AllByRecursion P (put R x ys)
  all-put x [] p h = (p, tt)
  all-put x (y ∷ ys) p h =
      elim (R x y) as (λ r. AllByRecursion P (cond (is_lt r) (x ∷ y ∷ ys) (cond (is_eq r) (y ∷ ys) (y ∷ put R x ys)))) [
        | Less ↦ (p, h)
        | Equal ↦ h
        | Greater ↦ (h.0, all-put x ys p h.1)
      ]

  pub all-ascending_of : (xs : List K) → AllByRecursion P xs → AllByRecursion P (ascending_of R xs)
  all-ascending_of [] h = tt
  all-ascending_of (x ∷ xs) h = all-put x (ascending_of R xs) h.0 (all-ascending_of xs h.1)

from-put : {K : Type 0} {R : K → K → Ordering} → IsAntisymmetric R → (P : K → Type 0) (x : K) (ys : List K) → AllByRecursion P (put R x ys) → P x × AllByRecursion P ys
from-put exact P x [] h = (h.0, tt)
from-put {R = R} exact P x (y ∷ ys) h =
    elim (R x y) as (λ r. R x y ≡ r → AllByRecursion P (cond (is_lt r) (x ∷ y ∷ ys) (cond (is_eq r) (y ∷ ys) (y ∷ put R x ys))) → P x × AllByRecursion P (y ∷ ys)) [
      | Less ↦ λ _ k. (k.0, k.1)
      | Equal ↦ λ e k. (subst P (sym (exact x y e)) k.0, k)
      | Greater ↦ λ _ k. let rest = from-put exact P x ys k.1 in (rest.0, (k.0, rest.1))
    ] refl h

pub from-ascending_of : {K : Type 0} {R : K → K → Ordering} → IsAntisymmetric R → (P : K → Type 0) (xs : List K) → AllByRecursion P (ascending_of R xs) → AllByRecursion P xs
from-ascending_of exact P [] h = tt
from-ascending_of {R = R} exact P (x ∷ xs) h = let both = from-put exact P x (ascending_of R xs) h in (both.0, from-ascending_of exact P xs both.1)

-- Items of lists: each with each, what filters leave, and tests that some item passes.
use Rattle.std.proofs.Common.{◌≡◌, Bool, true, false, cond, not, ◌||◌, List, [], ◌∷◌, ◌++◌, filter, refl, sym, ap, ap₂, ◌∙◌}
use Rattle.std.specs.Prelude.{map}
use Rattle.std.specs.declared.cmp.Ordering.{Ordering}
use Rattle.std.specs.declared.cmp.Ordering.TheVariants.{Less, Equal, Greater}
use Rattle.std.specs.Cmp.{IsTotalOrder}
use Rattle.std.specs.FinMap.{IsAntisymmetric}
use Rattle.std.specs.List.{AllByRecursion, flat_map, list_any}
use Rattle.std.specs.List.Sorted.{IsStrictlySortedBy}
use Rattle.std.specs.Ordering.{is_eq, is_lt}
use Rattle.std.proofs.lemmas.List.Elements.{filter-append}
use Rattle.std.proofs.lemmas.List.Folds.{list_any-append}
use Rattle.ma_cells.specs.Ascending.{are_distinct, ascending_of, put}
use Rattle.ma_cells.proofs.Ascents.{has-below}
use Rattle.ma_cells.proofs.Passing.{all_weaker}
use Rattle.mesh_laws.proofs.BothSides.{Pairs}
use Rattle.mesh_laws.proofs.Lists.{all_items, all_two}

-- ---- each with each
pub transposed : {X Y : Type 0} (R : X → Y → Type 0) (xs : List X) (ys : List Y) → AllByRecursion (λ x. AllByRecursion (R x) ys) xs → AllByRecursion (λ y. AllByRecursion (λ x. R x y) xs) ys
transposed R xs [] h = tt
transposed R xs (y ∷ ys) h = (
  all_weaker (λ x. AllByRecursion (R x) (y ∷ ys)) (λ x. R x y) (λ x k. k.0) xs h,
  transposed R xs ys (all_weaker (λ x. AllByRecursion (R x) (y ∷ ys)) (λ x. AllByRecursion (R x) ys) (λ x k. k.1) xs h),
)

pub pairs_each : {X Y : Type 0} (R : X → X → Y → Type 0) (xs : List X) (ys : List Y) → Pairs (λ x z. AllByRecursion (R x z) ys) xs → AllByRecursion (λ y. Pairs (λ x z. R x z y) xs) ys
pairs_each R [] ys h = all_items (λ y. Unit {0}) (λ y. tt) ys
pairs_each R (x ∷ xs) ys h =
    all_two (λ y. AllByRecursion (λ z. R x z y) xs) (λ y. Pairs (λ x z. R x z y) xs) (λ y. Pairs (λ x z. R x z y) (x ∷ xs)) (λ y f g. (f, g)) ys
    (transposed (λ z y. R x z y) xs ys h.0) (pairs_each R xs ys h.1)

pub all_unmap : {X Y : Type 0} (P : Y → Type 0) (f : X → Y) (xs : List X) → AllByRecursion P (map f xs) → AllByRecursion (λ x. P (f x)) xs
all_unmap P f [] h = tt
all_unmap P f (x ∷ xs) h = (h.0, all_unmap P f xs h.1)

pub pairs_unmap : {X Y : Type 0} (R : Y → Y → Type 0) (f : X → Y) (xs : List X) → Pairs R (map f xs) → Pairs (λ x z. R (f x) (f z)) xs
pairs_unmap R f [] h = tt
pairs_unmap R f (x ∷ xs) h = (all_unmap (R (f x)) f xs h.0, pairs_unmap R f xs h.1)

-- ---- filters
module _ {X : Type 0} (p : X → Bool) where
  pub filter_none : (xs : List X) → AllByRecursion (λ x. p x ≡ false) xs → filter p xs ≡ []
  filter_none [] h = refl
  filter_none (x ∷ xs) h = rw (h.0) (filter_none xs h.1)

  -- a filter is the same without items that fail it
  pub filter_still : (q : X → Bool) (xs : List X) → AllByRecursion (λ x. q x ≡ true → p x ≡ false) xs → filter p (filter (λ x. not (q x)) xs) ≡ filter p xs
  filter_still q [] h = refl
  filter_still q (x ∷ xs) h = by (q x) h.0 (filter_still q xs h.1)
    where
      by : (b : Bool) → (b ≡ true → p x ≡ false) → filter p (filter (λ x. not (q x)) xs) ≡ filter p xs
          → filter p (cond (not b) (x ∷ filter (λ x. not (q x)) xs) (filter (λ x. not (q x)) xs)) ≡ filter p (x ∷ xs)
      by true k rest = rest ∙ sym (ap (λ b. cond b (x ∷ filter p xs) (filter p xs)) (k refl))
      by false k rest = ap (λ l. cond (p x) (x ∷ l) l) rest

  -- and where each item gives as much as it is
  pub filter_each : (f : X → List X) (xs : List X) → AllByRecursion (λ x. filter p (f x) ≡ filter p (x ∷ [])) xs → filter p (flat_map f xs) ≡ filter p xs
  filter_each f [] h = refl
  filter_each f (x ∷ xs) h = filter-append p (f x) (flat_map f xs) ∙ ap₂ (λ k l. k ++ l) h.0 (filter_each f xs h.1) ∙ sym (filter-append p (x ∷ []) xs)

-- ---- tests that some item passes
pub any-flat_map : {X Y : Type 0} (p : Y → Bool) (f : X → List Y) (xs : List X) → list_any p (flat_map f xs) ≡ list_any (λ x. list_any p (f x)) xs
any-flat_map p f [] = refl
any-flat_map p f (x ∷ xs) = list_any-append p (f x) (flat_map f xs) ∙ ap (λ b. list_any p (f x) || b) (any-flat_map p f xs)

pub any_alike : {X : Type 0} (f g : X → Bool) (xs : List X) → AllByRecursion (λ x. f x ≡ g x) xs → list_any f xs ≡ list_any g xs
any_alike f g [] h = refl
any_alike f g (x ∷ xs) h = ap₂ (λ b c. b || c) h.0 (any_alike f g xs h.1)

pub any_none : {X : Type 0} (f : X → Bool) (xs : List X) → AllByRecursion (λ x. f x ≡ false) xs → list_any f xs ≡ false
any_none f [] h = refl
any_none f (x ∷ xs) h = rw (h.0) (any_none f xs h.1)

or_twice : (a b : Bool) → (a || b) ≡ (a || (a || b))
or_twice true b = refl
or_twice false b = refl

or_swap : (a b c : Bool) → (a || (b || c)) ≡ (b || (a || c))
or_swap true true c = refl
or_swap true false c = refl
or_swap false b c = refl

module _ {K : Type 0} {R : K → K → Ordering} (exact : IsAntisymmetric R) (f : K → Bool) where
  any_put : (x : K) (ys : List K) → list_any f (put R x ys) ≡ (f x || list_any f ys)
  any_put x [] = refl
  any_put x (y ∷ ys) =
      elim (R x y) as (λ r. R x y ≡ r → list_any f (cond (is_lt r) (x ∷ y ∷ ys) (cond (is_eq r) (y ∷ ys) (y ∷ put R x ys))) ≡ (f x || list_any f (y ∷ ys))) [
        | Less ↦ λ _. refl
        | Equal ↦ λ e. or_twice (f y) (list_any f ys) ∙ ap (λ z. f z || list_any f (y ∷ ys)) (sym (exact x y e))
        | Greater ↦ λ _. ap (λ b. f y || b) (any_put x ys) ∙ or_swap (f y) (f x) (list_any f ys)
      ] refl

  -- an item of a set passes just where an item of the list does
  pub any_set : (xs : List K) → list_any f (ascending_of R xs) ≡ list_any f xs
  any_set [] = refl
  any_set (x ∷ xs) = any_put x (ascending_of R xs) ∙ ap (λ b. f x || b) (any_set xs)

-- no two items of an ascending list tie
pub distinct_from_strict : {K : Type 0} {R : K → K → Ordering} → IsTotalOrder R → (xs : List K) → IsStrictlySortedBy R xs → are_distinct R xs ≡ true
unfolding IsStrictlySortedBy
distinct_from_strict o [] s = refl
distinct_from_strict o (x ∷ xs) s = rw (has-below o x xs s.0) (distinct_from_strict o xs s.1)

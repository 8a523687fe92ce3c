-- What is chosen from an ascending list ascends, and all that ascends and is in the list is chosen.
use Rattle.std.proofs.Common.{◌≡◌, ℕ, zero, suc, Bool, true, false, ◌&&◌, ◌||◌, List, [], ◌∷◌, ◌++◌, length, refl, sym, ap, ◌∙◌}
use Rattle.std.specs.Prelude.{map}
use Rattle.std.specs.declared.cmp.Ordering.{Ordering}
use Rattle.std.specs.declared.cmp.Ordering.TheVariants.{Less, Equal, Greater}
use Rattle.std.specs.Cmp.{IsTotalOrder, Equal-is, alike_right}
use Rattle.std.specs.Cmp.Lexicographic.{slice_cmp}
use Rattle.std.specs.List.{AllByRecursion, list_all}
use Rattle.std.specs.List.Sorted.{IsStrictlySortedBy}
use Rattle.std.specs.Ordering.{eq_by_cmp, is_eq, ordering_reverse, ordering_then}
use Rattle.std.proofs.lemmas.Bool.{false≢true}
use Rattle.std.proofs.lemmas.List.Folds.{list_any-append}
use Rattle.ma_cells.specs.Ascending.{are_ascending, has}
use Rattle.ma_cells.specs.Faces.{choices}
use Rattle.ma_cells.proofs.Ascents.{all_below, ascending_from_strict, strict_from_ascending}

pub all-append : {X : Type 0} (P : X → Type 0) (xs ys : List X) → AllByRecursion P xs → AllByRecursion P ys → AllByRecursion P (xs ++ ys)
all-append P [] ys s t = t
all-append P (x ∷ xs) ys s t = (s.0, all-append P xs ys s.1 t)

all-with_head : {K : Type 0} (P : K → Type 0) (x : K) (yss : List (List K)) → P x → AllByRecursion (AllByRecursion P) yss → AllByRecursion (AllByRecursion P) (map (λ ys. x ∷ ys) yss)
all-with_head P x [] e h = tt
all-with_head P x (ys ∷ yss) e h = ((e, h.0), all-with_head P x yss e h.1)

-- what holds of each item holds of each that is chosen
pub all-choices : {K : Type 0} (P : K → Type 0) (n : ℕ) (xs : List K) → AllByRecursion P xs → AllByRecursion (AllByRecursion P) (choices n xs)
all-choices P zero xs h = (tt, tt)
all-choices P (suc n) [] h = tt
all-choices P (suc n) (x ∷ xs) h =
    all-append (AllByRecursion P) (map (λ ys. x ∷ ys) (choices n xs)) (choices (suc n) xs) (all-with_head P x (choices n xs) h.0 (all-choices P n xs h.1)) (all-choices P (suc n) xs h.1)

module _ {K : Type 0} {R : K → K → Ordering} (o : IsTotalOrder R) where
  strict-with_head : (x : K) (yss : List (List K)) → AllByRecursion (AllByRecursion (λ y. R x y ≡ Less)) yss → AllByRecursion (IsStrictlySortedBy R) yss
      → AllByRecursion (IsStrictlySortedBy R) (map (λ ys. x ∷ ys) yss)
  unfolding IsStrictlySortedBy
  strict-with_head x [] below s = tt
  strict-with_head x (ys ∷ yss) below s = ((below.0, s.0), strict-with_head x yss below.1 s.1)

  strict-choices : (n : ℕ) (xs : List K) → IsStrictlySortedBy R xs → AllByRecursion (IsStrictlySortedBy R) (choices n xs)
  unfolding IsStrictlySortedBy
  strict-choices zero xs s = (tt, tt)
  strict-choices (suc n) [] s = tt
  strict-choices (suc n) (x ∷ xs) s =
      all-append (IsStrictlySortedBy R) (map (λ ys. x ∷ ys) (choices n xs)) (choices (suc n) xs)
      (strict-with_head x (choices n xs) (all-choices (λ y. R x y ≡ Less) n xs s.0) (strict-choices n xs s.1)) (strict-choices (suc n) xs s.1)

  ascend : (yss : List (List K)) → AllByRecursion (IsStrictlySortedBy R) yss → list_all (are_ascending R) yss ≡ true
  ascend [] h = refl
  ascend (ys ∷ yss) h = rw (ascending_from_strict o ys h.0) (ascend yss h.1)

  pub choices-ascend : (n : ℕ) (xs : List K) → are_ascending R xs ≡ true → list_all (are_ascending R) (choices n xs) ≡ true
  choices-ascend n xs rises = ascend (choices n xs) (strict-choices n xs (strict_from_ascending o xs rises))

  heads-tie : (y x : K) (ys : List K) (zss : List (List K)) → has (slice_cmp R) (y ∷ ys) (map (λ zs. x ∷ zs) zss) ≡ (is_eq (R y x) && has (slice_cmp R) ys zss)
  heads-tie y x ys [] = elim (R y x) as (λ r. false ≡ (is_eq r && false)) [ Less ↦ refl | Equal ↦ refl | Greater ↦ refl ]
  heads-tie y x ys (zs ∷ zss) =
      ap (λ b. is_eq (ordering_then (R y x) (slice_cmp R ys zs)) || b) (heads-tie y x ys zss)
      ∙ elim (R y x) as (λ r. (is_eq (ordering_then r (slice_cmp R ys zs)) || (is_eq r && has (slice_cmp R) ys zss)) ≡ (is_eq r && (is_eq (slice_cmp R ys zs) || has (slice_cmp R) ys zss))) [
        | Less ↦ refl
        | Equal ↦ refl
        | Greater ↦ refl
      ]

  -- what is above x isn't x
  apart-above : (x : K) (xs zs : List K) → AllByRecursion (λ z. R x z ≡ Less) zs → list_all (λ z. has R z (x ∷ xs)) zs ≡ list_all (λ z. has R z xs) zs
  apart-above x xs [] h = refl
  apart-above x xs (z ∷ zs) h =
      let above : R z x ≡ Greater = o.antisymm z x ∙ ap ordering_reverse h.0 in
      ap (λ r. (is_eq r || has R z xs) && list_all (λ w. has R w (x ∷ xs)) zs) above ∙ ap (λ b. has R z xs && b) (apart-above x xs zs h.1)

  all_tied : (x y : K) (zs : List K) → R y x ≡ Equal → AllByRecursion (λ z. R y z ≡ Less) zs → AllByRecursion (λ z. R x z ≡ Less) zs
  all_tied x y [] e h = tt
  all_tied x y (z ∷ zs) e h = (sym (o.congr y x z e) ∙ h.0, all_tied x y zs e h.1)

  -- what is below all items is below each of them
  below-has : (x y : K) (xs : List K) → AllByRecursion (λ z. R x z ≡ Less) xs → has R y xs ≡ true → R x y ≡ Less
  below-has x y [] h there = absurd (false≢true there)
  below-has x y (z ∷ zs) h there =
      elim (R y z) as (λ r. R y z ≡ r → (is_eq r || has R y zs) ≡ true → R x y ≡ Less) [
        | Less ↦ λ _ k. below-has x y zs h.1 k
        | Equal ↦ λ e _. alike_right o y z x e ∙ h.0
        | Greater ↦ λ _ k. below-has x y zs h.1 k
      ] refl there

  one_way : (e h a b : Bool) → (e ≡ true → b ≡ a) → (h ≡ true → b ≡ a) → ((e && a) || (h && a)) ≡ ((e || h) && b)
  one_way true true true b f g = sym (f refl)
  one_way true true false b f g = sym (f refl)
  one_way true false true b f g = sym (f refl)
  one_way true false false b f g = sym (f refl)
  one_way false true a b f g = sym (g refl)
  one_way false false a b f g = refl

  -- ascending items are a choice from an ascending list just where each is in it
  pub has-choices : (ys xs : List K) → IsStrictlySortedBy R ys → IsStrictlySortedBy R xs
      → has (slice_cmp R) ys (choices (length ys) xs) ≡ list_all (λ y. has R y xs) ys
  unfolding IsStrictlySortedBy
  has-choices [] xs s t = refl
  has-choices (y ∷ ys) [] s t = refl
  has-choices (y ∷ ys) (x ∷ xs) s t =
      list_any-append (eq_by_cmp (slice_cmp R) (y ∷ ys)) (map (λ zs. x ∷ zs) (choices (length ys) xs)) (choices (suc (length ys)) xs)
      ∙ ap (λ b. b || has (slice_cmp R) (y ∷ ys) (choices (suc (length ys)) xs)) (heads-tie y x ys (choices (length ys) xs))
      ∙ ap (λ b. (is_eq (R y x) && has (slice_cmp R) ys (choices (length ys) xs)) || b) (has-choices (y ∷ ys) xs s t.1)
      ∙ ap (λ b. (is_eq (R y x) && b) || (has R y xs && list_all (λ z. has R z xs) ys)) (has-choices ys xs s.1 t.1)
      ∙ one_way (is_eq (R y x)) (has R y xs) (list_all (λ z. has R z xs) ys) (list_all (λ z. has R z (x ∷ xs)) ys)
      (λ e. apart-above x xs ys (all_tied x y ys ((Equal-is (R y x)).0 e) s.0))
      (λ h. apart-above x xs ys (all_below o x y ys (below-has x y xs t.0 h) s.0))

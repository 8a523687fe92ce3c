-- What holds of all items of a list, as a test and item by item.
use Rattle.std.proofs.Common.{◌≡◌, Bool, true, false, ◌||◌, List, [], ◌∷◌, filter, refl, ap}
use Rattle.std.specs.Prelude.{map, cond, IfSome, Option, Some, None}
use Rattle.std.specs.List.{AllByRecursion, cons_option, filter_map, flat_map, list_all, list_any}
use Rattle.std.specs.List.Sorted.{IsPermutation}
use Rattle.std.proofs.lemmas.Bool.{and_parts, or_right}
use Rattle.std.proofs.lemmas.List.Elements.{All-from_recursion, recursion_from_All}
use Rattle.std.proofs.lemmas.List.Sorted.{All-permutation}
use Rattle.ma_cells.proofs.Choices.{all-append}

module _ {X : Type 0} (test : X → Bool) where
  pub all_pass : (xs : List X) → list_all test xs ≡ true → AllByRecursion (λ x. test x ≡ true) xs
  all_pass [] h = tt
  all_pass (x ∷ xs) h =
      let both = and_parts (test x) (list_all test xs) h in
      (both.0, all_pass xs both.1)

  pub test_all : (xs : List X) → AllByRecursion (λ x. test x ≡ true) xs → list_all test xs ≡ true
  test_all [] h = refl
  test_all (x ∷ xs) h = rw (h.0) (test_all xs h.1)

module _ {X : Type 0} (P Q : X → Type 0) (weaker : (x : X) → P x → Q x) where
  pub all_weaker : (xs : List X) → AllByRecursion P xs → AllByRecursion Q xs
  all_weaker [] h = tt
  all_weaker (x ∷ xs) h = (weaker x h.0, all_weaker xs h.1)

pub all-filter : {X : Type 0} (P : X → Type 0) (test : X → Bool) (xs : List X) → AllByRecursion P xs → AllByRecursion P (filter test xs)
all-filter P test [] h = tt
all-filter P test (x ∷ xs) h =
    elim (test x) as (λ b. AllByRecursion P (cond b (x ∷ filter test xs) (filter test xs))) [
      | true ↦ (h.0, all-filter P test xs h.1)
      | false ↦ all-filter P test xs h.1
    ]

-- where Q holds of what each item gives, it holds of all that they give
module _ {X Y : Type 0} (P : X → Type 0) (Q : Y → Type 0) where
  pub all-map : (f : X → Y) → ((x : X) → P x → Q (f x)) → (xs : List X) → AllByRecursion P xs → AllByRecursion Q (map f xs)
  all-map f each [] h = tt
  all-map f each (x ∷ xs) h = (each x h.0, all-map f each xs h.1)

  pub all-flat_map : (f : X → List Y) → ((x : X) → P x → AllByRecursion Q (f x)) → (xs : List X) → AllByRecursion P xs → AllByRecursion Q (flat_map f xs)
  all-flat_map f each [] h = tt
  all-flat_map f each (x ∷ xs) h = all-append Q (f x) (flat_map f xs) (each x h.0) (all-flat_map f each xs h.1)

pub all-filter_map : {X Y : Type 0} (P : X → Type 0) (Q : Y → Type 0) (h : X → Option Y) → ((x : X) → P x → IfSome (h x) Q) → (xs : List X) → AllByRecursion P xs → AllByRecursion Q (filter_map h xs)
all-filter_map P Q h gives [] all = tt
all-filter_map P Q h gives (x ∷ xs) all =
    let rest = all-filter_map P Q h gives xs all.1 in
    elim (h x) as (λ o. IfSome o Q → AllByRecursion Q (cons_option o (filter_map h xs))) [ None ↦ λ _. rest | Some y ↦ λ holds. (holds, rest) ] (gives x all.0)

pub all_anyway : {X : Type 0} (xs : List X) → AllByRecursion (λ (x : X). Unit {0}) xs
all_anyway [] = tt
all_anyway (x ∷ xs) = (tt, all_anyway xs)

pub all-permutation : {X : Type 0} (P : X → Type 0) (xs ys : List X) → IsPermutation xs ys → AllByRecursion P xs → AllByRecursion P ys
all-permutation P xs ys moved h = recursion_from_All P ys (All-permutation P xs ys moved (All-from_recursion P xs h))

-- ---- what some item of a list passes
pub any-weaker : {X : Type 0} (f g : X → Bool) → ((x : X) → f x ≡ true → g x ≡ true) → (xs : List X) → list_any f xs ≡ true → list_any g xs ≡ true
any-weaker f g weaker [] h = h
any-weaker f g weaker (x ∷ xs) h =
    elim (f x) as (λ b. f x ≡ b → (b || list_any f xs) ≡ true → (g x || list_any g xs) ≡ true) [
      | true ↦ λ e _. ap (λ b. b || list_any g xs) (weaker x e)
      | false ↦ λ _ k. or_right (g x) (list_any g xs) (any-weaker f g weaker xs k)
    ] refl h

pub any-map : {X Y : Type 0} (f : Y → Bool) (h : X → Y) (xs : List X) → list_any f (map h xs) ≡ list_any (λ x. f (h x)) xs
any-map f h [] = refl
any-map f h (x ∷ xs) = ap (λ b. f (h x) || b) (any-map f h xs)

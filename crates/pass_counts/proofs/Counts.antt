-- How long lists and sets are, and items of lists that are made of others.
use Rattle.std.proofs.Common.{◌≡◌, ◌≤◌, ◌+◌, ◌*◌, Bool, true, false, cond, ◌||◌, List, [], ◌∷◌, ◌++◌, filter, length, length-append, refl, sym, subst, ◌∙◌, arith}
use Rattle.std.specs.declared.cmp.Ordering.{Ordering}
use Rattle.std.specs.Cmp.{IsTotalOrder}
use Rattle.std.specs.FinMap.{IsAntisymmetric}
use Rattle.std.specs.List.{AllByRecursion, flat_map}
use Rattle.std.specs.Ordering.{eq_by_cmp}
use Rattle.std.proofs.lemmas.Bool.{false≢true, or_left, or_right}
use Rattle.std.proofs.lemmas.List.Folds.{list_any-append}
use Rattle.ma_cells.specs.Ascending.{ascending_of, has}
use Rattle.ma_cells.proofs.Ascents.{has-head, has-ascending_of, is-ascending_of, length-ascending_of, sorted-ascending_of}
use Rattle.ma_cells.proofs.Choices.{all-append}
use Rattle.ma_cells.proofs.Members.{all-at}
use Rattle.ma_cells.proofs.Passing.{all_weaker}
use Rattle.cavity_swap.proofs.Growing.{longer}

absorbed : (s t : Bool) → (s ≡ true → t ≡ true) → (s || t) ≡ t
absorbed true t h = sym (h refl)
absorbed false t h = refl

module _ {K : Type 0} {R : K → K → Ordering} (o : IsTotalOrder R) (exact : IsAntisymmetric R) where
  -- a set whose items are all in a list is no longer than the list
  pub set_within : (xs ys : List K) → AllByRecursion (λ x. has R x ys ≡ true) xs → length (ascending_of R xs) ≤ length ys
  set_within xs ys all =
      let same : ascending_of R (xs ++ ys) ≡ ascending_of R ys =
      is-ascending_of o exact (ascending_of R (xs ++ ys)) ys (sorted-ascending_of o (xs ++ ys))
      (λ q. has-ascending_of o q (xs ++ ys) ∙ list_any-append (eq_by_cmp R q) xs ys ∙ absorbed (has R q xs) (has R q ys) (λ e. all-at exact (λ x. has R x ys ≡ true) q xs all e)) in
      let more : length (ascending_of R xs) ≤ length (ascending_of R ys) = subst (λ l. length (ascending_of R xs) ≤ length l) same (longer o exact xs ys) in
      let whole = (length-ascending_of o ys).0 in
      omega (arith, more, whole)

-- what holds of each member holds of all items
pub all_given : {K : Type 0} {R : K → K → Ordering} → IsTotalOrder R → (P : K → Type 0) (xs : List K) → ((q : K) → has R q xs ≡ true → P q) → AllByRecursion P xs
all_given o P [] h = tt
all_given {R = R} o P (x ∷ xs) h = (h x (has-head o x xs), all_given o P xs (λ q there. h q (or_right (eq_by_cmp R q x) (has R q xs) there)))

-- what each item gives is among what another rule gives, so all together is
module _ {X Y : Type 0} (R : Y → Y → Ordering) (f g : X → List Y) where
  abbrev pub GivesWithin : X → Type 0
  GivesWithin x = AllByRecursion (λ y. has R y (g x) ≡ true) (f x)

  pub all_within : (xs : List X) → AllByRecursion GivesWithin xs → AllByRecursion (λ y. has R y (flat_map g xs) ≡ true) (flat_map f xs)
  all_within [] h = tt
  all_within (x ∷ xs) h =
      all-append (λ y. has R y (g x ++ flat_map g xs) ≡ true) (f x) (flat_map f xs)
      (all_weaker (λ y. has R y (g x) ≡ true) (λ y. has R y (g x ++ flat_map g xs) ≡ true)
      (λ y e. list_any-append (eq_by_cmp R y) (g x) (flat_map g xs) ∙ or_left (has R y (g x)) (has R y (flat_map g xs)) e) (f x) h.0)
      (all_weaker (λ y. has R y (flat_map g xs) ≡ true) (λ y. has R y (g x ++ flat_map g xs) ≡ true)
      (λ y e. list_any-append (eq_by_cmp R y) (g x) (flat_map g xs) ∙ or_right (has R y (g x)) (has R y (flat_map g xs)) e) (flat_map f xs) (all_within xs h.1))

-- where each item gives at most four, all together give at most four times as many
pub few_given : {X Y : Type 0} (f : X → List Y) → ((x : X) → length (f x) ≤ 4) → (xs : List X) → length (flat_map f xs) ≤ 4 * length xs
few_given f few [] = omega arith
few_given f few (x ∷ xs) =
    let first = few x in
    let rest = few_given f few xs in
    let both = length-append (f x) (flat_map f xs) in
    omega (arith, first, rest, both)

-- two tests that no item passes both
pub filter_parts : {X : Type 0} (p q : X → Bool) (xs : List X) → AllByRecursion (λ x. p x ≡ true → q x ≡ false) xs → length (filter (λ x. p x || q x) xs) ≡ length (filter p xs) + length (filter q xs)
filter_parts p q [] h = omega arith
filter_parts p q (x ∷ xs) h = by (p x) (q x) h.0 (filter_parts p q xs h.1)
  where
    by : (s t : Bool) → (s ≡ true → t ≡ false) → length (filter (λ x. p x || q x) xs) ≡ length (filter p xs) + length (filter q xs)
        → length (cond (s || t) (x ∷ filter (λ x. p x || q x) xs) (filter (λ x. p x || q x) xs)) ≡ length (cond s (x ∷ filter p xs) (filter p xs)) + length (cond t (x ∷ filter q xs) (filter q xs))
    by true true k e = absurd (false≢true (sym (k refl)))
    by true false k e = omega (arith, e)
    by false true k e = omega (arith, e)
    by false false k e = e

-- what holds of what a filter leaves holds of each item that passes
pub from_filter : {X : Type 0} (P : X → Type 0) (p : X → Bool) (xs : List X) → AllByRecursion P (filter p xs) → AllByRecursion (λ x. p x ≡ true → P x) xs
from_filter P p [] h = tt
from_filter P p (x ∷ xs) h = by (p x) refl (from_filter P p xs) h
  where
    by : (s : Bool) → p x ≡ s → (AllByRecursion P (filter p xs) → AllByRecursion (λ x. p x ≡ true → P x) xs) → AllByRecursion P (cond s (x ∷ filter p xs) (filter p xs)) → (p x ≡ true → P x) × AllByRecursion (λ x. p x ≡ true → P x) xs
    by true e rest k = ((λ _. k.0), rest k.1)
    by false e rest k = ((λ c. absurd (false≢true (sym e ∙ c))), rest k)

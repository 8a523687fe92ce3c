-- What holds of all items of a list holds of each member, and the other way round. An item is a member if it ties with one.
use Rattle.std.proofs.Common.{◌≡◌, Bool, true, false, cond, ◌&&◌, ◌||◌, List, [], ◌∷◌, filter, refl, sym, ap, subst, ◌∙◌}
use Rattle.std.specs.declared.cmp.Ordering.{Ordering}
use Rattle.std.specs.Cmp.{IsTotalOrder, Equal-is}
use Rattle.std.specs.FinMap.{IsAntisymmetric}
use Rattle.std.specs.List.{AllByRecursion, list_all, list_any}
use Rattle.std.specs.Ordering.{eq_by_cmp}
use Rattle.std.proofs.lemmas.Bool.{false≢true, or_right}
use Rattle.ma_cells.specs.Ascending.{has}
use Rattle.ma_cells.proofs.Ascents.{has-head}
use Rattle.ma_cells.proofs.Passing.{all_pass}

module _ {K : Type 0} {R : K → K → Ordering} (exact : IsAntisymmetric R) where
  -- what ties is one
  pub tied_is : (q x : K) → eq_by_cmp R q x ≡ true → q ≡ x
  tied_is q x tied = exact q x ((Equal-is (R q x)).0 tied)

  -- what holds of all items holds of a member
  pub all-at : (P : K → Type 0) (q : K) (xs : List K) → AllByRecursion P xs → has R q xs ≡ true → P q
  all-at P q [] all there = absurd (false≢true there)
  all-at P q (x ∷ xs) all there =
      elim (eq_by_cmp R q x) as (λ b. eq_by_cmp R q x ≡ b → (b || has R q xs) ≡ true → P q) [
        | true ↦ λ tied _. subst P (sym (tied_is q x tied)) all.0
        | false ↦ λ _ later. all-at P q xs all.1 later
      ] refl there

  pub at_member : (f : K → Bool) (q : K) (xs : List K) → list_all f xs ≡ true → has R q xs ≡ true → f q ≡ true
  at_member f q xs all there = all-at (λ x. f x ≡ true) q xs (all_pass f xs all) there

  -- a test that a member passes is passed
  pub any-at : (f : K → Bool) (q : K) (xs : List K) → has R q xs ≡ true → f q ≡ true → list_any f xs ≡ true
  any-at f q [] there passed = absurd (false≢true there)
  any-at f q (x ∷ xs) there passed =
      elim (eq_by_cmp R q x) as (λ b. eq_by_cmp R q x ≡ b → (b || has R q xs) ≡ true → list_any f (x ∷ xs) ≡ true) [
        | true ↦ λ tied _. rw (subst (λ y. f y ≡ true) (tied_is q x tied) passed) refl
        | false ↦ λ _ later. or_right (f x) (list_any f xs) (any-at f q xs later passed)
      ] refl there

  -- the members of what a filter leaves
  pub has-filter : (f : K → Bool) (q : K) (xs : List K) → has R q (filter f xs) ≡ (has R q xs && f q)
  has-filter f q [] = refl
  has-filter f q (x ∷ xs) =
      elim (f x) as (λ b. f x ≡ b → has R q (cond b (x ∷ filter f xs) (filter f xs)) ≡ ((eq_by_cmp R q x || has R q xs) && f q)) [
        | true ↦ λ e. kept (eq_by_cmp R q x) (has R q xs) (f q) (λ tied. ap f (tied_is q x tied) ∙ e) (has-filter f q xs)
        | false ↦ λ e. gone (eq_by_cmp R q x) (has R q xs) (f q) (λ tied. ap f (tied_is q x tied) ∙ e) (has-filter f q xs)
      ] refl
    where
      kept : (t h g : Bool) {r : Bool} → (t ≡ true → g ≡ true) → r ≡ (h && g) → (t || r) ≡ ((t || h) && g)
      kept true h g w e = sym (w refl)
      kept false h g w e = e

      gone : (t h g : Bool) {r : Bool} → (t ≡ true → g ≡ false) → r ≡ (h && g) → r ≡ ((t || h) && g)
      gone true true g w e = e
      gone true false g w e = e ∙ sym (w refl)
      gone false h g w e = e

module _ {K : Type 0} {R : K → K → Ordering} (o : IsTotalOrder R) where
  -- what each member passes, all items pass
  pub all_members : (f : K → Bool) (xs : List K) → ((q : K) → has R q xs ≡ true → f q ≡ true) → list_all f xs ≡ true
  all_members f [] h = refl
  all_members f (x ∷ xs) h = rw (h x (has-head o x xs)) (all_members f xs (λ q there. h q (or_right (eq_by_cmp R q x) (has R q xs) there)))

  -- two tests that agree on each member agree on the list
  pub all_alike : (f g : K → Bool) (xs : List K) → ((q : K) → has R q xs ≡ true → f q ≡ g q) → list_all f xs ≡ list_all g xs
  all_alike f g [] h = refl
  all_alike f g (x ∷ xs) h = rw (h x (has-head o x xs)) (ap (λ b. g x && b) (all_alike f g xs (λ q there. h q (or_right (eq_by_cmp R q x) (has R q xs) there))))

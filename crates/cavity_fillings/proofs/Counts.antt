-- Items of lists that are counted, and items that two parts of a list have.
use Rattle.std.proofs.Common.{◌≡◌, ℕ, ◌+◌, ◌≤◌, Bool, true, false, cond, not, ◌||◌, List, [], ◌∷◌, ◌++◌, filter, refl, sym, ap, subst, ◌∙◌, arith}
use Rattle.std.specs.declared.cmp.Ordering.{Ordering}
use Rattle.std.specs.FinMap.{IsAntisymmetric}
use Rattle.std.specs.List.{AllByRecursion, count_by, list_any}
use Rattle.std.specs.Ordering.{eq_by_cmp}
use Rattle.std.proofs.lemmas.Bool.{and_parts, false≢true, or_right}
use Rattle.std.proofs.lemmas.List.Folds.{list_any-append}
use Rattle.ma_cells.specs.Ascending.{are_distinct, has}
use Rattle.ma_cells.proofs.Members.{tied_is}
use Rattle.mesh_laws.proofs.Lists.{count-cons}

-- ---- counts
module _ {X : Type 0} (f : X → Bool) where
  -- what is counted is there
  pub counted_any : (xs : List X) → 1 ≤ count_by f xs → list_any f xs ≡ true
  counted_any [] h = absurd (omega (arith, h))
  counted_any (x ∷ xs) h = by (f x) (count_by f xs) (count_by f (x ∷ xs)) (count-cons f x xs) h (counted_any xs)
    where
      by : (b : Bool) (n whole : ℕ) → whole ≡ cond b 1 0 + n → 1 ≤ whole → (1 ≤ n → list_any f xs ≡ true) → (b || list_any f xs) ≡ true
      by true n whole e h more = refl
      by false n whole e h more = more (omega arith)

  -- and what passes is counted
  pub any_counted : (xs : List X) → list_any f xs ≡ true → 1 ≤ count_by f xs
  any_counted [] h = absurd (false≢true h)
  any_counted (x ∷ xs) h = by (f x) (count_by f xs) (count_by f (x ∷ xs)) (count-cons f x xs) h (any_counted xs)
    where
      by : (b : Bool) (n whole : ℕ) → whole ≡ cond b 1 0 + n → (b || list_any f xs) ≡ true → (list_any f xs ≡ true → 1 ≤ n) → 1 ≤ whole
      by true n whole e h more = omega arith
      by false n whole e h more = let less = more h in omega arith

  -- where none is counted of what a test drops, what passes has passed the test
  pub none_dropped : (p : X → Bool) (xs : List X) → count_by f (filter (λ x. not (p x)) xs) ≡ 0 → AllByRecursion (λ x. f x ≡ true → p x ≡ true) xs
  none_dropped p [] h = tt
  none_dropped p (x ∷ xs) h = by (p x) (f x) (count-cons f x (filter (λ x. not (p x)) xs)) h (none_dropped p xs)
    where
      by : (b c : Bool) → count_by f (x ∷ filter (λ x. not (p x)) xs) ≡ cond c 1 0 + count_by f (filter (λ x. not (p x)) xs)
          → count_by f (cond (not b) (x ∷ filter (λ x. not (p x)) xs) (filter (λ x. not (p x)) xs)) ≡ 0
          → (count_by f (filter (λ x. not (p x)) xs) ≡ 0 → AllByRecursion (λ x. f x ≡ true → p x ≡ true) xs) → (c ≡ true → b ≡ true) × AllByRecursion (λ x. f x ≡ true → p x ≡ true) xs
      by true c e h more = ((λ _. refl), more h)
      by false true e h more = absurd (omega arith)
      by false false e h more = ((λ k. absurd (false≢true k)), more (omega arith))

-- ---- distinct items
-- an item of distinct ones is not in both parts of them
pub not_in_both : {K : Type 0} {R : K → K → Ordering} → IsAntisymmetric R → (q : K) (xs ys : List K) → are_distinct R (xs ++ ys) ≡ true → has R q xs ≡ true → has R q ys ≡ true → ⊥
not_in_both exact q [] ys distinct first second = false≢true first
not_in_both {K} {R} exact q (x ∷ xs) ys distinct first second =
    let parts = and_parts (not (has R x (xs ++ ys))) (are_distinct R (xs ++ ys)) distinct in
    elim (eq_by_cmp R q x) as (λ b. eq_by_cmp R q x ≡ b → (b || has R q xs) ≡ true → ⊥) [
      | true ↦ λ e _.
          let there : has R x (xs ++ ys) ≡ true = list_any-append (eq_by_cmp R x) xs ys ∙ or_right (has R x xs) (has R x ys) (subst (λ z. has R z ys ≡ true) (tied_is exact q x e) second) in
          false≢true (sym (ap not there) ∙ parts.0)
      | false ↦ λ _ later. not_in_both exact q xs ys parts.1 later second
    ] refl first

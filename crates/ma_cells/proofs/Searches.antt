-- What a binary search says of an ascending list.
use Rattle.std.proofs.Common.{◌≡◌, ℕ, zero, suc, ◌+◌, ◌<◌, true, false, ◌||◌, List, [], ◌∷◌, length, get_or, refl, sym, ap, ◌∙◌, arith, ⊎_elim}
use Rattle.std.specs.Prelude.{Result, Ok, Err, is_ok}
use Rattle.std.specs.Cmp.{IsTotalOrder, tied_back}
use Rattle.std.specs.List.Sorted.{IsBinarySearchResult, IsSearchInRange, IsSorted, IsStrictlySortedBy}
use Rattle.std.specs.Ordering.{eq_by_cmp, is_eq, is_lt, ordering_reverse}
use Rattle.std.specs.declared.cmp.Ordering.{Ordering}
use Rattle.std.specs.declared.cmp.Ordering.TheVariants.{Equal}
use Rattle.std.proofs.lemmas.Bool.{cases_lt}
use Rattle.std.proofs.lemmas.List.Sorted.{searchable_from_sorted}
use Rattle.std.proofs.lemmas.Map.Keys.{Less-from_sorted}
use Rattle.ma_cells.specs.Ascending.{has}

module _ {K : Type 0} {R : K → K → Ordering} (o : IsTotalOrder R) where
  any_at : (x : K) (xs : List K) (i : ℕ) → i < length xs → ((d : K) → R (get_or xs i d) x ≡ Equal) → has R x xs ≡ true
  any_at x [] i h e = absurd (omega arith)
  any_at x (y ∷ ys) zero h e = ap (λ r. is_eq r || has R x ys) (tied_back o y x (e y))
  any_at x (y ∷ ys) (suc i) h e = rw (any_at x ys i (omega arith) e) (elim (eq_by_cmp R x y) as (λ b. (b || true) ≡ true) [ true ↦ refl | false ↦ refl ])

  none_at : (x : K) (xs : List K) → ((k : ℕ) (d : K) → k < length xs → eq_by_cmp R x (get_or xs k d) ≡ false) → has R x xs ≡ false
  none_at x [] h = refl
  none_at x (y ∷ ys) h = rw (h zero y (omega arith)) (none_at x ys (λ k d w. h (suc k) d (omega arith)))

  rises : (xs : List K) → IsStrictlySortedBy R xs → IsSorted R xs
  rises xs s k d low high =
      let less = Less-from_sorted R xs k (k + 1) d s (omega arith) high in
      ap is_lt (o.antisymm (get_or xs (k + 1) d) (get_or xs k d) ∙ ap ordering_reverse less)

  -- It succeeds just where an item ties.
  pub searched_is : (x : K) (xs : List K) (r : Result ℕ ℕ) → IsStrictlySortedBy R xs → IsSearchInRange r (length xs) → IsBinarySearchResult (λ y. R y x) xs r → is_ok r ≡ has R x xs
  searched_is x xs (Ok i) s within found = sym (any_at x xs i within found)
  searched_is x xs (Err i) s within found =
      let parts = found (searchable_from_sorted o (λ y. y) xs x (rises xs s)) in
      sym (none_at x xs (λ k d w. ⊎_elim
      (λ before. ap is_eq (o.antisymm x (get_or xs k d) ∙ ap ordering_reverse (parts.0 k d (omega arith) before)))
      (λ behind. ap is_eq (o.antisymm x (get_or xs k d) ∙ ap ordering_reverse (parts.1 k d behind w)))
      (cases_lt k i)))

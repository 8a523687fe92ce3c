-- A set that grows by one item after the other.
use Rattle.std.proofs.Common.{◌≡◌, ℕ, zero, suc, ◌+◌, ◌<◌, ◌≤◌, true, false, cond, ◌||◌, List, [], ◌∷◌, ◌++◌, length, take, drop, get_or, refl, sym, ap, subst, ◌∙◌, arith}
use Rattle.std.specs.Prelude.{Ok, Err}
use Rattle.std.specs.Cmp.{IsTotalOrder}
use Rattle.std.specs.FinMap.{IsAntisymmetric}
use Rattle.std.specs.List.Sorted.{IsBinarySearchResult, IsSorted, IsStrictlySortedBy}
use Rattle.std.specs.Ordering.{is_eq, is_lt, ordering_reverse}
use Rattle.std.specs.declared.cmp.Ordering.{Ordering}
use Rattle.std.specs.declared.cmp.Ordering.TheVariants.{Less, Equal, Greater}
use Rattle.std.proofs.lemmas.Bool.{false≢true}
use Rattle.std.proofs.lemmas.List.{take-append-drop, take_more}
use Rattle.std.proofs.lemmas.List.Sorted.{IsPermutation-append_comm, searchable_from_sorted}
use Rattle.ma_cells.specs.Ascending.{ascending_of, has, put}
use Rattle.std.proofs.lemmas.Map.Keys.{Less-from_sorted}
use Rattle.ma_cells.proofs.Ascents.{all_below, ascending_of-IsPermutation, has-below}
use Rattle.ma_cells.proofs.Searches.{searched_is}

module _ {K : Type 0} {R : K → K → Ordering} (o : IsTotalOrder R) where
  -- an item that is there already
  pub put_there : (x : K) (ys : List K) → IsStrictlySortedBy R ys → has R x ys ≡ true → put R x ys ≡ ys
  unfolding IsStrictlySortedBy
  put_there x [] s h = absurd (false≢true h)
  put_there x (y ∷ ys) s h =
      elim (R x y) as (λ r. R x y ≡ r → (is_eq r || has R x ys) ≡ true → cond (is_lt r) (x ∷ y ∷ ys) (cond (is_eq r) (y ∷ ys) (y ∷ put R x ys)) ≡ y ∷ ys) [
        | Less ↦ λ e k. absurd (false≢true (sym (has-below o x ys (all_below o x y ys e s.0)) ∙ k))
        | Equal ↦ λ e k. refl
        | Greater ↦ λ e k. ap (λ l. y ∷ l) (put_there x ys s.1 k)
      ] refl h

  -- one between those below it and those above
  pub put_at : (x : K) (ys : List K) (i : ℕ) → i ≤ length ys → ((k : ℕ) (d : K) → k < i → R (get_or ys k d) x ≡ Less) → ((k : ℕ) (d : K) → i ≤ k → k < length ys → R (get_or ys k d) x ≡ Greater)
      → put R x ys ≡ take i ys ++ x ∷ drop i ys
  put_at x [] zero h below above = refl
  put_at x [] (suc i) h below above = absurd (omega (arith, h))
  put_at x (y ∷ ys) zero h below above = let less : R x y ≡ Less = o.antisymm x y ∙ ap ordering_reverse (above zero y (omega arith) (omega arith)) in rw (less) refl
  put_at x (y ∷ ys) (suc i) h below above =
      let greater : R x y ≡ Greater = o.antisymm x y ∙ ap ordering_reverse (below zero y (omega arith)) in
      rw (greater) (ap (λ l. y ∷ l) (put_at x ys i (omega (arith, h)) (λ k d less. below (suc k) d (omega (arith, less))) (λ k d low high. above (suc k) d (omega (arith, low)) (omega (arith, high)))))

  rises : (ys : List K) → IsStrictlySortedBy R ys → IsSorted R ys
  rises ys s k d low high =
      let less = Less-from_sorted R ys k (k + 1) d s (omega arith) high in
      ap is_lt (o.antisymm (get_or ys (k + 1) d) (get_or ys k d) ∙ ap ordering_reverse less)

  -- by what a binary search says
  pub put_found : (x : K) (ys : List K) (i : ℕ) → IsStrictlySortedBy R ys → i < length ys → IsBinarySearchResult (λ y. R y x) ys (Ok i) → put R x ys ≡ ys
  put_found x ys i s within found = put_there x ys s (sym (searched_is o x ys (Ok i) s within found))

  pub put_missed : (x : K) (ys : List K) (i : ℕ) → IsStrictlySortedBy R ys → i ≤ length ys → IsBinarySearchResult (λ y. R y x) ys (Err i) → put R x ys ≡ take i ys ++ x ∷ drop i ys
  put_missed x ys i s within missed =
      let parts = missed (searchable_from_sorted o (λ y. y) ys x (rises ys s)) in
      put_at x ys i within (λ k d before. parts.0 k d (omega arith) before) (λ k d behind high. parts.1 k d behind high)

  length_more : (x : K) (ys : List K) (i : ℕ) → length (take i ys ++ x ∷ drop i ys) ≡ suc (length ys)
  length_more x [] zero = refl
  length_more x [] (suc i) = refl
  length_more x (y ∷ ys) zero = refl
  length_more x (y ∷ ys) (suc i) = ap suc (length_more x ys i)

  pub longer_missed : (x : K) (ys : List K) (i : ℕ) → IsStrictlySortedBy R ys → i ≤ length ys → IsBinarySearchResult (λ y. R y x) ys (Err i) → length (put R x ys) ≡ suc (length ys)
  longer_missed x ys i s within missed = ap length (put_missed x ys i s within missed) ∙ length_more x ys i

  module _ (exact : IsAntisymmetric R) where
    -- the order in which they come changes nothing
    pub one_more : (xs : List K) (x : K) → ascending_of R (xs ++ x ∷ []) ≡ put R x (ascending_of R xs)
    one_more xs x = ascending_of-IsPermutation o exact (xs ++ x ∷ []) (x ∷ xs) (IsPermutation-append_comm xs (x ∷ []))

    longer_put : (x : K) (ys : List K) → length ys ≤ length (put R x ys)
    longer_put x [] = omega arith
    longer_put x (y ∷ ys) =
        elim (is_lt (R x y)) as (λ b. length (y ∷ ys) ≤ length (cond b (x ∷ y ∷ ys) (cond (is_eq (R x y)) (y ∷ ys) (y ∷ put R x ys)))) [
          | true ↦ omega arith
          | false ↦ elim (is_eq (R x y)) as (λ b. length (y ∷ ys) ≤ length (cond b (y ∷ ys) (y ∷ put R x ys))) [
            | true ↦ omega arith
            | false ↦ let rest = longer_put x ys in omega (arith, rest)
          ]
        ]

    longer_before : (ys xs : List K) → length (ascending_of R xs) ≤ length (ascending_of R (ys ++ xs))
    longer_before [] xs = omega arith
    longer_before (y ∷ ys) xs = let rest = longer_before ys xs in let last = longer_put y (ascending_of R (ys ++ xs)) in omega (arith, rest, last)

    pub longer : (xs ys : List K) → length (ascending_of R xs) ≤ length (ascending_of R (xs ++ ys))
    longer xs ys = subst (λ l. length (ascending_of R xs) ≤ length l) (ascending_of-IsPermutation o exact (ys ++ xs) (xs ++ ys) (IsPermutation-append_comm ys xs)) (longer_before ys xs)

    -- the next item of a list, where the set has those before
    pub next_in : (star : List K) (i : ℕ) (x : K) (ys : List K) → i < length star → x ≡ get_or star i x → ys ≡ ascending_of R (take i star) → ascending_of R (take (i + 1) star) ≡ put R x ys
    next_in star i x ys within is so_far =
        ap (ascending_of R) (take_more star i x within ∙ ap (λ y. take i star ++ y ∷ []) (sym is)) ∙ one_more (take i star) x ∙ ap (put R x) (sym so_far)

    pub too_long : (star : List K) (i n : ℕ) (x : K) (ys : List K) → i < length star → x ≡ get_or star i x → ys ≡ ascending_of R (take i star) → n < length (put R x ys) → n < length (ascending_of R star)
    too_long star i n x ys within is so_far more =
        let grown : length (ascending_of R (take (i + 1) star)) ≡ length (put R x ys) = ap length (next_in star i x ys within is so_far) in
        let whole : length (ascending_of R (take (i + 1) star)) ≤ length (ascending_of R star)
        = subst (λ l. length (ascending_of R (take (i + 1) star)) ≤ length (ascending_of R l)) (take-append-drop (i + 1) star) (longer (take (i + 1) star) (drop (i + 1) star)) in
        omega (arith, grown, whole, more)

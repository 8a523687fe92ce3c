-- A point lies on a cell just where it lies on a half of it, or on one of its pieces.
use Rattle.std.proofs.Common.{◌≡◌, ◌≢◌, inl, inr, ⊎_elim, ℕ, zero, suc, ◌<◌, Bool, true, false, cond, List, [], ◌∷◌, length, refl, sym, ap, subst, ◌∙◌, arith}
use Rattle.std.specs.Prelude.{◌↔◌, map}
use Rattle.std.specs.List.{AllByRecursion, swap}
use Rattle.std.specs.List.Sorted.{IsPermutation}
use Rattle.std.specs.Ordering.{eq_by_cmp}
use Rattle.std.proofs.lemmas.Bool.{eq-eqb, or_parts}
use Rattle.std.proofs.lemmas.List.Sorted.{IsPermutation-keeps, IsPermutation-map, IsPermutation-swap, IsPermutation-sym, IsPermutation-trans, length_permutation}
use Rattle.ma_geom.specs.Coordinates.{Coordinates, place_cmp}
use Rattle.ma_geom.specs.Rational.{IsMiddle, Rational}
use Rattle.ma_geom.proofs.Identities.{IsMiddle-exchange}
use Rattle.ma_geom.proofs.PlaceOrder.{place_cmp_total}
use Rattle.ma_cells.specs.Ascending.{are_distinct, ascending_of, has}
use Rattle.ma_cells.specs.Bisection.{bisect, replaced}
use Rattle.ma_cells.specs.Faces.{holds_all}
use Rattle.ma_cells.proofs.Ascents.{length-ascending_of}
use Rattle.ma_cells.proofs.Bisections.{holds_all-turned}
use Rattle.ma_cells.proofs.Corners.{sorted_corners}
use Rattle.ma_cells.proofs.Permutations.{alone, ascending_of-permutes, ends_first, tied}
use Rattle.ma_cover.specs.Classification.{AnyByRecursion, IsOnCell}
use Rattle.ma_cover.proofs.Anys.{any_beside, any_one, then_either}
use Rattle.ma_cover.proofs.Halves.{on_exchanged, on_turned}
use Rattle.split_templates.specs.Pieces.{bisected_along}
use Rattle.split_templates.proofs.Keeping.{IsInherited}
use Rattle.refinement.proofs.Bisecting.{kind_along, so_along}
use Rattle.refinement.proofs.Rising.{Rises}
use Rattle.refine_marks.proofs.Parted.{on_ends_turned, on_half, on_segment_turned, on_whole}

abbrev same : Coordinates → Coordinates → Bool
same = eq_by_cmp place_cmp

-- ---- corners in another order
module _ (p : Rational) where
  on_swapped : (l : List Coordinates) (i j : ℕ) → i < length l → j < length l → IsOnCell p l → IsOnCell p (swap l i j)
  on_swapped [] i j _ _ h = absurd h
  on_swapped (a ∷ []) zero zero _ _ h = h
  on_swapped (a ∷ []) zero (suc j) _ below h = absurd (omega arith)
  on_swapped (a ∷ []) (suc i) j below _ h = absurd (omega arith)
  on_swapped (a ∷ b ∷ []) zero zero _ _ h = h
  on_swapped (a ∷ b ∷ []) zero (suc zero) _ _ h = on_segment_turned p a b h
  on_swapped (a ∷ b ∷ []) zero (suc (suc j)) _ below h = absurd (omega arith)
  on_swapped (a ∷ b ∷ []) (suc zero) zero _ _ h = on_segment_turned p a b h
  on_swapped (a ∷ b ∷ []) (suc zero) (suc zero) _ _ h = h
  on_swapped (a ∷ b ∷ []) (suc zero) (suc (suc j)) _ below h = absurd (omega arith)
  on_swapped (a ∷ b ∷ []) (suc (suc i)) j below _ h = absurd (omega arith)
  on_swapped (a ∷ b ∷ c ∷ []) zero zero _ _ h = h
  on_swapped (a ∷ b ∷ c ∷ []) zero (suc zero) _ _ h = on_exchanged b a c p h
  on_swapped (a ∷ b ∷ c ∷ []) zero (suc (suc zero)) _ _ h = on_exchanged c b a p (on_turned b c a p (on_exchanged b a c p h))
  on_swapped (a ∷ b ∷ c ∷ []) zero (suc (suc (suc j))) _ below h = absurd (omega arith)
  on_swapped (a ∷ b ∷ c ∷ []) (suc zero) zero _ _ h = on_exchanged b a c p h
  on_swapped (a ∷ b ∷ c ∷ []) (suc zero) (suc zero) _ _ h = h
  on_swapped (a ∷ b ∷ c ∷ []) (suc zero) (suc (suc zero)) _ _ h = on_turned a c b p h
  on_swapped (a ∷ b ∷ c ∷ []) (suc zero) (suc (suc (suc j))) _ below h = absurd (omega arith)
  on_swapped (a ∷ b ∷ c ∷ []) (suc (suc zero)) zero _ _ h = on_exchanged c b a p (on_turned b c a p (on_exchanged b a c p h))
  on_swapped (a ∷ b ∷ c ∷ []) (suc (suc zero)) (suc zero) _ _ h = on_turned a c b p h
  on_swapped (a ∷ b ∷ c ∷ []) (suc (suc zero)) (suc (suc zero)) _ _ h = h
  on_swapped (a ∷ b ∷ c ∷ []) (suc (suc zero)) (suc (suc (suc j))) _ below h = absurd (omega arith)
  on_swapped (a ∷ b ∷ c ∷ []) (suc (suc (suc i))) j below _ h = absurd (omega arith)
  on_swapped (a ∷ b ∷ c ∷ d ∷ l) i j _ _ h = absurd h

  on_reordered : (xs ys : List Coordinates) → IsPermutation xs ys → IsOnCell p xs → IsOnCell p ys
  on_reordered xs ys moved h = IsPermutation-keeps xs (IsOnCell p) h on_swapped ys moved

-- as many in the set as in the list, where all differ
distinct_by_count : (xs : List Coordinates) → length (ascending_of place_cmp xs) ≡ length xs → are_distinct place_cmp xs ≡ true
distinct_by_count xs e = sym (length-ascending_of place_cmp_total xs).1 ∙ eq-eqb (length (ascending_of place_cmp xs)) (length xs) e

-- ---- cells of a kind
module _ (S : List Coordinates → Type 0) (size : ℕ) (inherited : IsInherited S size) where
  pub halves_of_kind : (m a b : Coordinates) → IsMiddle m a b → a ≢ b → (s : List Coordinates) → S s → AllByRecursion S (bisect a b m s)
  halves_of_kind m a b middle differ s is =
      elim (holds_all s (a ∷ b ∷ [])) as (λ t. holds_all s (a ∷ b ∷ []) ≡ t → AllByRecursion S (cond t (replaced a m s ∷ replaced b m s ∷ []) (s ∷ []))) [
        | true ↦ λ there. (
          inherited.half a b m s is there middle differ,
          (inherited.half b a m s is (holds_all-turned s b a ∙ there) (IsMiddle-exchange m a b middle) (λ e. differ (sym e)), tt),
        )
        | false ↦ λ _. (is, tt)
      ] refl

  pub pieces_of_kind : (edges : List (List Coordinates)) → AllByRecursion Rises edges → (cells : List (List Coordinates)) → AllByRecursion S cells → AllByRecursion S (bisected_along edges cells)
  pieces_of_kind = kind_along S halves_of_kind

  -- the half with m in the place of a, where a and b are listed first
  half_is : (m a b : Coordinates) (s rest : List Coordinates) → S s → IsPermutation s (a ∷ b ∷ rest) → S (replaced a m s) → IsPermutation (m ∷ b ∷ rest) (replaced a m s)
  half_is m a b s rest is moved half =
      let changed = λ (q : Coordinates). cond (same a q) m q in
      let distinct : are_distinct place_cmp (a ∷ b ∷ rest) ≡ true =
      distinct_by_count (a ∷ b ∷ rest) (ap length (sym (sorted_corners s (a ∷ b ∷ rest) moved)) ∙ by_count s is ∙ sym (length_permutation s (a ∷ b ∷ rest) moved)) in
      let gone : map changed (a ∷ b ∷ rest) ≡ m ∷ b ∷ rest = rw (tied a) (ap (λ l. m ∷ l) (unchanged m a (b ∷ rest) (alone (has place_cmp a (b ∷ rest)) (are_distinct place_cmp (b ∷ rest)) distinct).0)) in
      let order : IsPermutation (map changed s) (m ∷ b ∷ rest) = subst (IsPermutation (map changed s)) gone (IsPermutation-map changed s (a ∷ b ∷ rest) moved) in
      let set : ascending_of place_cmp (m ∷ b ∷ rest) ≡ replaced a m s = sym (sorted_corners (map changed s) (m ∷ b ∷ rest) order) in
      subst (IsPermutation (m ∷ b ∷ rest)) set (ascending_of-permutes (m ∷ b ∷ rest) (distinct_by_count (m ∷ b ∷ rest)
      (ap length set ∙ inherited.count (replaced a m s) half ∙ sym (inherited.count s is) ∙ sym (length_permutation s (a ∷ b ∷ rest) moved))))
    where
      by_count : (s : List Coordinates) → S s → length (ascending_of place_cmp s) ≡ length s
      by_count s is = length_permutation s (ascending_of place_cmp s) (ascending_of-permutes s (inherited.distinct s is))

      unchanged : (m a : Coordinates) (places : List Coordinates) → has place_cmp a places ≡ false → map (λ q. cond (same a q) m q) places ≡ places
      unchanged m a [] none = refl
      unchanged m a (q ∷ places) none =
          let parts = or_parts (same a q) (has place_cmp a places) none in
          rw (parts.0) (ap (λ rest. q ∷ rest) (unchanged m a places parts.1))

  module _ (p : Rational) where
    abbrev pub OnAlike : List (List Coordinates) → List (List Coordinates) → Type 0
    OnAlike xs ys = AnyByRecursion (IsOnCell p) xs ↔ AnyByRecursion (IsOnCell p) ys

    halved_on : (m a b : Coordinates) → IsMiddle m a b → a ≢ b → (s : List Coordinates) → S s → OnAlike (s ∷ []) (bisect a b m s)
    halved_on m a b middle differ s is =
        elim (holds_all s (a ∷ b ∷ [])) as (λ t. holds_all s (a ∷ b ∷ []) ≡ t → OnAlike (s ∷ []) (cond t (replaced a m s ∷ replaced b m s ∷ []) (s ∷ []))) [
          | true ↦ λ there.
              let found = ends_first a b s differ there in
              let turned = IsMiddle-exchange m a b middle in
              let at_b = half_is m a b s found.0 is found.1 (inherited.half a b m s is there middle differ) in
              let at_a = half_is m b a s found.0 is (exchanged s found.0 found.1) (inherited.half b a m s is (holds_all-turned s b a ∙ there) turned (λ e. differ (sym e))) in
              let whole = λ (on : IsOnCell p (a ∷ b ∷ found.0)). on_reordered p (a ∷ b ∷ found.0) s (IsPermutation-sym s (a ∷ b ∷ found.0) found.1) on in (
                (λ h. ⊎_elim (λ k. inl (on_reordered p (m ∷ b ∷ found.0) (replaced a m s) at_b k)) (λ k. inr (inl (on_reordered p (m ∷ a ∷ found.0) (replaced b m s) at_a k)))
                    (on_half p m a b found.0 middle (on_reordered p s (a ∷ b ∷ found.0) found.1 ((any_one (IsOnCell p) s).1 h)))),
                (λ h. inl (⊎_elim
                    (λ k. whole (on_whole p m a b found.0 middle (on_reordered p (replaced a m s) (m ∷ b ∷ found.0) (IsPermutation-sym (m ∷ b ∷ found.0) (replaced a m s) at_b) k)))
                    (λ k. whole (on_ends_turned p b a found.0
                    (on_whole p m b a found.0 turned (on_reordered p (replaced b m s) (m ∷ a ∷ found.0) (IsPermutation-sym (m ∷ a ∷ found.0) (replaced b m s) at_a) ((any_one (IsOnCell p) (replaced b m s)).1 k))))) h)),
              )
          | false ↦ λ _. ((λ h. h), (λ h. h))
        ] refl
      where
        exchanged : (s rest : List Coordinates) → IsPermutation s (a ∷ b ∷ rest) → IsPermutation s (b ∷ a ∷ rest)
        exchanged s rest moved = IsPermutation-trans s (a ∷ b ∷ rest) (b ∷ a ∷ rest) moved (IsPermutation-swap (a ∷ b ∷ rest) (b ∷ a ∷ rest) 0 1 (omega arith) (omega arith) refl)

    pub pieces_on : (edges : List (List Coordinates)) → AllByRecursion Rises edges → (cells : List (List Coordinates)) → AllByRecursion S cells → OnAlike cells (bisected_along edges cells)
    pieces_on =
        so_along S halves_of_kind OnAlike ((λ h. h), (λ h. h)) (λ c is. ((λ h. h), (λ h. h))) (any_beside (IsOnCell p)) (λ xs ys zs first second. then_either first second) halved_on

-- Cells of which a vertex a is moved to v: points stay on them, if they stay on the cells that have a.
use Rattle.std.proofs.Common.{◌≡◌, ◌⊎◌, inl, inr, ⊎_elim, ℕ, Bool, true, false, cond, not, ◌&&◌, ◌||◌, eqb, List, [], ◌∷◌, length, refl, sym, ap, ap₂, subst, ◌∙◌, eq-eqb}
use Rattle.std.specs.Prelude.{◌↔◌}
use Rattle.std.specs.List.{flat_map}
use Rattle.std.specs.List.Sorted.{IsPermutation}
use Rattle.std.specs.Ordering.{eq_by_cmp}
use Rattle.std.proofs.lemmas.Bool.{false≢true}
use Rattle.std.proofs.lemmas.List.Sorted.{IsPermutation-map, IsPermutation-sym, IsPermutation-trans, length_permutation}
use Rattle.ma_geom.specs.Coordinates.{Coordinates, place_cmp}
use Rattle.ma_geom.specs.Rational.{Rational}
use Rattle.ma_geom.proofs.PlaceOrder.{place_cmp_total}
use Rattle.ma_cells.specs.Ascending.{are_ascending, are_distinct, ascending_of, has}
use Rattle.ma_cells.proofs.Ascents.{length-ascending_of}
use Rattle.ma_cells.proofs.Corners.{ascending_is, sorted_corners}
use Rattle.ma_cells.proofs.Permutations.{apart, ascending_of-permutes, has-permutation, same, tied}
use Rattle.ma_cover.specs.Classification.{AnyByRecursion, IsOnCell}
use Rattle.ma_cover.proofs.Anys.{any-flat_map, any_alike, any_one, then_either}
use Rattle.cavity_collapse.specs.Collapsing.{moved_corners}
use Rattle.moved_cells.specs.Cells.{AreCells, moved_cell, moved_cells}
use Rattle.plane_laws.proofs.Items.{any_or}
use Rattle.moved_cells.proofs.Orders.{on_reordered}

abbrev eq : Coordinates → Coordinates → Bool
eq = eq_by_cmp place_cmp

turned : {A B : Type 0} → (A ↔ B) → (B ↔ A)
turned h = (h.1, h.0)

pub eq_turned : (p q : Coordinates) → eq p q ≡ eq q p
eq_turned p q = by (eq p q) refl
  where
    by : (b : Bool) → eq p q ≡ b → eq p q ≡ eq q p
    by true e = ap (λ t. eq t q) (same p q e) ∙ ap (λ t. eq q t) (sym (same p q e))
    by false e = e ∙ sym (apart q p (λ f. false≢true (sym e ∙ subst (λ t. eq t q ≡ true) f (tied q))))

pub or_parts : (s t : Bool) → (s || t) ≡ false → (s ≡ false) × (t ≡ false)
or_parts true t h = absurd (false≢true (sym h))
or_parts false t h = (refl, h)

pub not_and : (s t : Bool) → (not s && t) ≡ true → (s ≡ false) × (t ≡ true)
not_and true t h = absurd (false≢true h)
not_and false t h = (refl, h)

-- ---- lists without repeats
pub ascending-distinct : (s : List Coordinates) → are_ascending place_cmp s ≡ true → are_distinct place_cmp s ≡ true
ascending-distinct s rises =
    sym (length-ascending_of place_cmp_total s).1 ∙ ap (λ t. eqb (length t) (length s)) (ascending_is s rises) ∙ eq-eqb (length s) (length s) refl

pub distinct-permutation : (s t : List Coordinates) → IsPermutation s t → are_distinct place_cmp s ≡ are_distinct place_cmp t
distinct-permutation s t order =
    sym (length-ascending_of place_cmp_total s).1 ∙ ap₂ eqb (ap length (sorted_corners s t order)) (sym (length_permutation s t order)) ∙ (length-ascending_of place_cmp_total t).1

module _ (a v : Coordinates) where
  moved_away : (s : List Coordinates) → has place_cmp a s ≡ false → moved_corners a v s ≡ s
  moved_away [] h = refl
  moved_away (x ∷ s) h =
      let parts = or_parts (eq a x) (has place_cmp a s) h in
      ap₂ (λ b t. cond b v x ∷ t) (eq_turned x a ∙ parts.0) (moved_away s parts.1)

  -- a cell without a stays
  pub moved_cell_away : (s : List Coordinates) → are_ascending place_cmp s ≡ true → has place_cmp a s ≡ false → moved_cell a v s ≡ s ∷ []
  moved_cell_away s rises away = rw (moved_away s away, ascending-distinct s rises, ascending_is s rises) refl

  -- ---- a cell with a and others
  module _ (s others : List Coordinates) (rises : are_ascending place_cmp s ≡ true) (order : IsPermutation (a ∷ others) s) where
    parts : (has place_cmp a others ≡ false) × (are_distinct place_cmp others ≡ true)
    parts = not_and (has place_cmp a others) (are_distinct place_cmp others) (distinct-permutation (a ∷ others) s order ∙ ascending-distinct s rises)

    with_v : IsPermutation (v ∷ others) (moved_corners a v s)
    with_v = subst (λ t. IsPermutation t (moved_corners a v s)) (ap₂ (λ b t. cond b v a ∷ t) (tied a) (moved_away others parts.0)) (IsPermutation-map (λ p. cond (eq p a) v p) (a ∷ others) s order)

    distinct_with_v : are_distinct place_cmp (moved_corners a v s) ≡ not (has place_cmp v others)
    distinct_with_v = sym (distinct-permutation (v ∷ others) (moved_corners a v s) with_v) ∙ ap (λ b. not (has place_cmp v others) && b) parts.1 ∙ last (not (has place_cmp v others))
      where
        last : (b : Bool) → (b && true) ≡ b
        last true = refl
        last false = refl

    pub on_collapsed : (p : Rational) → AnyByRecursion (IsOnCell p) (moved_cell a v s) ↔ ((has place_cmp v others ≡ false) × IsOnCell p (v ∷ others))
    on_collapsed p = by (has place_cmp v others) refl
      where
        to_sorted : has place_cmp v others ≡ false → IsPermutation (v ∷ others) (ascending_of place_cmp (moved_corners a v s))
        to_sorted e = IsPermutation-trans (v ∷ others) (moved_corners a v s) (ascending_of place_cmp (moved_corners a v s)) with_v (ascending_of-permutes (moved_corners a v s) (distinct_with_v ∙ ap not e))

        by : (b : Bool) → has place_cmp v others ≡ b → AnyByRecursion (IsOnCell p) (cond (are_distinct place_cmp (moved_corners a v s)) (ascending_of place_cmp (moved_corners a v s) ∷ []) []) ↔ ((has place_cmp v others ≡ false) × IsOnCell p (v ∷ others))
        by true e =
            subst (λ d. AnyByRecursion (IsOnCell p) (cond d (ascending_of place_cmp (moved_corners a v s) ∷ []) []) ↔ ((has place_cmp v others ≡ false) × IsOnCell p (v ∷ others))) (sym (distinct_with_v ∙ ap not e))
            ((λ h. absurd h), (λ h. absurd (false≢true (sym h.0 ∙ e))))
        by false e =
            subst (λ d. AnyByRecursion (IsOnCell p) (cond d (ascending_of place_cmp (moved_corners a v s) ∷ []) []) ↔ ((has place_cmp v others ≡ false) × IsOnCell p (v ∷ others))) (sym (distinct_with_v ∙ ap not e)) (
              (λ h. (e, on_reordered p (ascending_of place_cmp (moved_corners a v s)) (v ∷ others) (IsPermutation-sym (v ∷ others) (ascending_of place_cmp (moved_corners a v s)) (to_sorted e)) ((any_one (IsOnCell p) (ascending_of place_cmp (moved_corners a v s))).1 h))),
              (λ h. inl (on_reordered p (v ∷ others) (ascending_of place_cmp (moved_corners a v s)) (to_sorted e) h.1)),
            )

  -- ---- cells whose corners besides a are listed by `parts`
  module _ {R : Type 0} (others : R → List Coordinates) (parts : List Coordinates → List R) where
    -- that a cell without a has no part, and one with a has one
    pub data HasPart (s : List Coordinates) : Type 0 where
      away : has place_cmp a s ≡ false → parts s ≡ [] → HasPart s
      at : (r : R) → parts s ≡ r ∷ [] → IsPermutation (a ∷ others r) s → HasPart s

    abbrev IsAway : Rational → List Coordinates → Type 0
    IsAway p s = (has place_cmp a s ≡ false) × IsOnCell p s

    abbrev IsKept : Rational → R → Type 0
    IsKept p r = (has place_cmp v (others r) ≡ false) × IsOnCell p (v ∷ others r)

    abbrev pub IsOnParts : Rational → List R → Type 0
    IsOnParts p rs = AnyByRecursion (λ r. IsOnCell p (a ∷ others r)) rs

    abbrev pub IsOnKept : Rational → List R → Type 0
    IsOnKept p rs = AnyByRecursion (IsKept p) rs

    has_first : (s rest : List Coordinates) → IsPermutation (a ∷ rest) s → has place_cmp a s ≡ true
    has_first s rest order = sym (has-permutation a (a ∷ rest) s order) ∙ ap (λ b. b || has place_cmp a rest) (tied a)

    before : (p : Rational) (s : List Coordinates) → HasPart s → IsOnCell p s ↔ (IsAway p s ⊎ IsOnParts p (parts s))
    before p s (away e none) = ((λ h. inl (e, h)), (λ h. ⊎_elim (λ k. k.1) (λ k. absurd (subst (IsOnParts p) none k)) h))
    before p s (at r is order) = (
      (λ h. inr (subst (IsOnParts p) (sym is) (inl (on_reordered p s (a ∷ others r) (IsPermutation-sym (a ∷ others r) s order) h)))),
      (λ h. ⊎_elim (λ k. absurd (false≢true (sym k.0 ∙ has_first s (others r) order)))
          (λ k. on_reordered p (a ∷ others r) s order ((any_one (λ r. IsOnCell p (a ∷ others r)) r).1 (subst (IsOnParts p) is k))) h),
    )

    after : (p : Rational) (s : List Coordinates) → are_ascending place_cmp s ≡ true → HasPart s → AnyByRecursion (IsOnCell p) (moved_cell a v s) ↔ (IsAway p s ⊎ IsOnKept p (parts s))
    after p s rises (away e none) =
        let stays = moved_cell_away s rises e in (
          (λ h. inl (e, (any_one (IsOnCell p) s).1 (subst (AnyByRecursion (IsOnCell p)) stays h))),
          (λ h. ⊎_elim (λ k. subst (AnyByRecursion (IsOnCell p)) (sym stays) (inl k.1)) (λ k. absurd (subst (IsOnKept p) none k)) h),
        )
    after p s rises (at r is order) =
        let on = on_collapsed s (others r) rises order p in (
          (λ h. inr (subst (IsOnKept p) (sym is) (inl (on.0 h)))),
          (λ h. ⊎_elim (λ k. absurd (false≢true (sym k.0 ∙ has_first s (others r) order))) (λ k. on.1 ((any_one (IsKept p) r).1 (subst (IsOnKept p) is k))) h),
        )

    abbrev IsCell : ℕ → List Coordinates → Type 0
    IsCell n s = (length s ≡ n) × (are_ascending place_cmp s ≡ true)

    pub keeps_points : (n : ℕ) → ((s : List Coordinates) → length s ≡ n → HasPart s) → (cells : List (List Coordinates)) → AreCells n cells → (p : Rational)
        → (IsOnParts p (flat_map parts cells) ↔ IsOnKept p (flat_map parts cells)) → AnyByRecursion (IsOnCell p) cells ↔ AnyByRecursion (IsOnCell p) (moved_cells a v cells)
    keeps_points n part cells are p alike =
        let first = then_either (any_alike (IsCell n) (IsOnCell p) (λ s. IsAway p s ⊎ IsOnParts p (parts s)) (λ s is. before p s (part s is.0)) cells are) (any_or (IsAway p) (λ s. IsOnParts p (parts s)) cells) in
        let second = then_either (any-flat_map (IsOnCell p) (moved_cell a v) cells)
        (then_either (any_alike (IsCell n) (λ s. AnyByRecursion (IsOnCell p) (moved_cell a v s)) (λ s. IsAway p s ⊎ IsOnKept p (parts s)) (λ s is. after p s is.1 (part s is.0)) cells are) (any_or (IsAway p) (λ s. IsOnKept p (parts s)) cells)) in
        let links = then_either (turned (any-flat_map (λ r. IsOnCell p (a ∷ others r)) parts cells)) (then_either alike (any-flat_map (IsKept p) parts cells)) in
        then_either first (then_either ((λ h. ⊎_elim inl (λ k. inr (links.0 k)) h), (λ h. ⊎_elim inl (λ k. inr (links.1 k)) h)) (turned second))

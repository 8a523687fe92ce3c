-- Cells whose halves are of their kind: their edges are fresh, so that the pieces have as many corners, and are few. Segments are such cells.
use Rattle.std.proofs.Common.{◌≡◌, ◌≢◌, ℕ, suc, ◌≤◌, Bool, true, false, ◌||◌, List, [], ◌∷◌, length, refl, sym, ap, ◌∙◌, arith}
use Rattle.std.specs.Prelude.{map}
use Rattle.std.specs.List.{AllByRecursion}
use Rattle.std.specs.Ordering.{eq_by_cmp}
use Rattle.std.proofs.lemmas.Bool.{false≢true}
use Rattle.std.proofs.lemmas.List.Sorted.{length_permutation}
use Rattle.ma_geom.specs.Coordinates.{Coordinates, place_cmp}
use Rattle.ma_geom.specs.Rational.{IsMiddle}
use Rattle.ma_geom.proofs.PlaceOrder.{place_cmp_total}
use Rattle.ma_cells.specs.Ascending.{are_ascending, are_distinct, ascending_of, has}
use Rattle.ma_cells.specs.Faces.{choices, edges_of, holds_all}
use Rattle.ma_cells.proofs.Ascents.{has-head}
use Rattle.ma_cells.proofs.Bisections.{length-replaced, replaced-ascends}
use Rattle.ma_cells.proofs.Choices.{all-append}
use Rattle.ma_cells.proofs.Cornered.{distinct-ascending}
use Rattle.ma_cells.proofs.Permutations.{alone, apart, both, ends_first, has-permutation}
use Rattle.ma_cells.proofs.Pieces.{no_ends}
use Rattle.split_templates.specs.Edges.{chosen, edge_cmp}
use Rattle.split_templates.specs.steps.Kept.{keeps_corners}
use Rattle.split_templates.specs.Pieces.{bisected_along}
use Rattle.split_templates.proofs.Counting.{IsFresh, count-length, count_pieces, doubled}
use Rattle.split_templates.proofs.Keeping.{IsInherited, inherited_by_all, inherited_kept}
use Rattle.split_templates.proofs.Sets.{all-chosen}
use Rattle.ma_cells.proofs.SetItems.{all-ascending_of}

-- ---- the edges of different corners
later_there : (p q : Coordinates) (ps : List Coordinates) → has place_cmp p ps ≡ true → has place_cmp p (q ∷ ps) ≡ true
later_there p q ps h = rw h (last (eq_by_cmp place_cmp p q))
  where
    last : (t : Bool) → (t || true) ≡ true
    last true = refl
    last false = refl

pub both_later : (a b q : Coordinates) (ps : List Coordinates) → holds_all ps (a ∷ b ∷ []) ≡ true → holds_all (q ∷ ps) (a ∷ b ∷ []) ≡ true
both_later a b q ps h =
    let there = both (has place_cmp a ps) (has place_cmp b ps) h in
    rw (later_there a q ps there.0, later_there b q ps there.1) refl

edges_from : (P : List Coordinates → Type 0) (x : Coordinates) (ys : List Coordinates) → ((y : Coordinates) → has place_cmp y ys ≡ true → P (x ∷ y ∷ []))
    → AllByRecursion P (map (λ rest. x ∷ rest) (choices 1 ys))
edges_from P x [] h = tt
edges_from P x (y ∷ ys) h = (h y (has-head place_cmp_total y ys), edges_from P x ys (λ z t. h z (later_there z y ys t)))

-- the ends of each edge are two corners
all-edges : (P : List Coordinates → Type 0) (corners : List Coordinates) → are_distinct place_cmp corners ≡ true
    → ((a b : Coordinates) → a ≢ b → holds_all corners (a ∷ b ∷ []) ≡ true → P (a ∷ b ∷ [])) → AllByRecursion P (edges_of corners)
all-edges P [] distinct h = tt
all-edges P (x ∷ xs) distinct h =
    let parts = alone (has place_cmp x xs) (are_distinct place_cmp xs) distinct in
    all-append P (map (λ rest. x ∷ rest) (choices 1 xs)) (choices 2 xs)
    (edges_from P x xs (λ y t. h x y (λ e. false≢true (sym parts.0 ∙ ap (λ z. has place_cmp z xs) e ∙ t)) (rw (has-head place_cmp_total x xs, later_there y x xs t) refl)))
    (all-edges P xs parts.1 (λ a b differ t. h a b differ (both_later a b x xs t)))

-- ---- the marked edges of a cell, in order
abbrev pub in_turn : ℕ → List Coordinates → List (List Coordinates)
in_turn mask corners = ascending_of edge_cmp (chosen mask (edges_of corners))

module _ (S : List Coordinates → Type 0) (n : ℕ) (inherited : IsInherited S (suc n)) (mask : ℕ) (own : List Coordinates) (h : S own) where
  fresh_edges : AllByRecursion (IsFresh own) (edges_of own)
  fresh_edges = all-edges (IsFresh own) own (inherited.distinct own h) (λ a b differ there. record {
    a = a;
    b = b;
    is = refl;
    differ = differ;
    there = there;
    new = λ m middle. inherited.new a b m own h there middle differ;
  })

  fresh_in_turn : AllByRecursion (IsFresh own) (in_turn mask own)
  fresh_in_turn = all-ascending_of edge_cmp (IsFresh own) (chosen mask (edges_of own)) (all-chosen (IsFresh own) mask (edges_of own) fresh_edges)

  pub all_kept : keeps_corners (in_turn mask own) own ≡ true
  all_kept = inherited_kept S (suc n) inherited own (in_turn mask own) fresh_in_turn own h

  pub all_of_kind : AllByRecursion S (bisected_along (in_turn mask own) (own ∷ []))
  all_of_kind = inherited_by_all S (suc n) inherited own (in_turn mask own) fresh_in_turn own h

  pub all_counted : length (bisected_along (in_turn mask own) (own ∷ [])) ≤ doubled n
  all_counted =
      let most = count-length (λ p. has place_cmp p own) own in
      let size = inherited.count own h in
      count_pieces own (in_turn mask own) fresh_in_turn n own (omega arith)

-- ---- segments
abbrev pub IsSegment : List Coordinates → Type 0
IsSegment s = (are_ascending place_cmp s ≡ true) × (length s ≡ 2)

no_middle : (a b m : Coordinates) (s : List Coordinates) → IsSegment s → holds_all s (a ∷ b ∷ []) ≡ true → IsMiddle m a b → a ≢ b → has place_cmp m s ≡ false
no_middle a b m s h there middle differ =
    let found = ends_first a b s differ there in
    let ends = no_ends m a b middle differ in
    has-permutation m s (a ∷ b ∷ found.0) found.1
    ∙ rw (apart m a ends.0, apart m b ends.1) (no_more m found.0 (omega (arith, h.1, length_permutation s (a ∷ b ∷ found.0) found.1)))
  where
    no_more : (m : Coordinates) (rest : List Coordinates) → length rest ≡ 0 → has place_cmp m rest ≡ false
    no_more m [] e = refl
    no_more m (p ∷ rest) e = absurd (omega arith)

pub segments : IsInherited IsSegment 2
segments = record {
  count = λ s h. h.1;
  distinct = λ s h. distinct-ascending s h.0;
  new = no_middle;
  half = λ a b m s h there middle differ. (replaced-ascends a m s, length-replaced a m s h.0 (no_middle a b m s h there middle differ) ∙ h.1);
}

pub segment_kept : (mask : ℕ) (s : List Coordinates) → IsSegment s → keeps_corners (in_turn mask s) s ≡ true
segment_kept mask s h = all_kept IsSegment 1 segments mask s h

pub segment_count : (mask : ℕ) (s : List Coordinates) → IsSegment s → length (bisected_along (in_turn mask s) (s ∷ [])) ≤ 2
segment_count mask s h = all_counted IsSegment 1 segments mask s h

-- the one edge of a segment
pub edges_of_segment : (s : List Coordinates) → length s ≡ 2 → s ∷ [] ≡ edges_of s
edges_of_segment [] n = absurd (omega arith)
edges_of_segment (p ∷ []) n = absurd (omega arith)
edges_of_segment (p ∷ q ∷ []) n = refl
edges_of_segment (p ∷ q ∷ r ∷ s) n = absurd (omega arith)

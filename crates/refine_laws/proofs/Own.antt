-- A cell of a tetrahedron that is bisected at the tetrahedron's long edges is bisected at its own.
use Rattle.std.proofs.Common.{◌≡◌, ◌≢◌, ℕ, zero, suc, Bool, true, false, cond, ◌&&◌, ◌||◌, List, [], ◌∷◌, ◌++◌, length, filter, Option, Some, None, refl, sym, ap, ap₂, subst, ◌∙◌, arith}
use Rattle.std.specs.Prelude.{map, not, ℤ, neg_ℤ}
use Rattle.std.specs.declared.cmp.Ordering.{Ordering}
use Rattle.std.specs.Cmp.{IsTotalOrder, both_ways, int_cmp_total, tied_itself}
use Rattle.std.specs.Cmp.Lexicographic.{slice_cmp, lists_total}
use Rattle.std.specs.FinMap.{IsAntisymmetric, slice_cmp-IsAntisymmetric}
use Rattle.std.specs.List.{AllByRecursion, flat_map}
use Rattle.std.specs.Ordering.{eq_by_cmp, int_cmp, is_eq, ordering_then}
use Rattle.std.proofs.lemmas.Bool.{and_from, and_parts, false≢true}
use Rattle.std.proofs.lemmas.Cmp.{on_total, then_total}
use Rattle.std.proofs.lemmas.Int.{ints}
use Rattle.std.proofs.lemmas.List.Kept.{IsStrictlySortedBy-filter}
use Rattle.ma_geom.specs.Coordinates.{Coordinates, place_cmp}
use Rattle.ma_geom.specs.Midpoints.{midpoint}
use Rattle.ma_geom.proofs.PlaceOrder.{both_tie, place_cmp-IsAntisymmetric, place_cmp_total}
use Rattle.ma_cells.specs.Ascending.{are_ascending, has}
use Rattle.ma_cells.specs.Bisection.{bisect, replaced}
use Rattle.ma_cells.specs.Faces.{choices, edges_of, holds_all}
use Rattle.ma_cells.specs.Tetrahedron.{are_corners, is_flat}
use Rattle.ma_cells.proofs.Ascents.{has-ascending_of, is-ascending_of, sorted-ascending_of, strict_from_ascending}
use Rattle.ma_cells.proofs.Bisections.{has-replaced}
use Rattle.ma_cells.proofs.Choices.{all-append, choices-ascend, has-choices}
use Rattle.ma_cells.proofs.Corners.{corners_rise, corners_span}
use Rattle.ma_cells.proofs.Members.{all-at, has-filter, tied_is}
use Rattle.ma_cells.proofs.Passing.{all-filter, all-map, all_pass}
use Rattle.ma_cells.proofs.Permutations.{same as same_place, tied}
use Rattle.ma_cells.proofs.Pieces.{middle_is_new}
use Rattle.ma_cells.proofs.SetItems.{all-ascending_of}
use Rattle.size_marks.specs.Field.{Field}
use Rattle.split_templates.specs.Edges.{edge_cmp, edge_len2, is_long_edge}
use Rattle.split_templates.specs.Pieces.{bisected_along, halves_at}
use Rattle.split_templates.proofs.Middles.{midpoint-IsMiddle}
use Rattle.refinement.specs.Refinement.{long_edges}
use Rattle.refinement.proofs.Bisecting.{bisect-without, bisected, ends_differ, own_edges}
use Rattle.refine_marks.proofs.CellsKept.{all_both}
use Rattle.refine_laws.proofs.HalvedFaces.{IsWithin, within_choices}

abbrev eq : Coordinates → Coordinates → Bool
eq = eq_by_cmp place_cmp

-- ---- the order of edges
turned : (a b : ℤ) → int_cmp (neg_ℤ a) (neg_ℤ b) ≡ int_cmp b a
turned a b = grind (arith, ints)

edge_cmp_total : IsTotalOrder edge_cmp
edge_cmp_total =
    subst (λ R. IsTotalOrder R) (λ i e f. ordering_then (turned (edge_len2 e) (edge_len2 f) i) (slice_cmp place_cmp e f))
    (then_total (on_total (λ (e : List Coordinates). neg_ℤ (edge_len2 e)) int_cmp_total) (lists_total place_cmp_total))

edge_cmp-IsAntisymmetric : IsAntisymmetric edge_cmp
edge_cmp-IsAntisymmetric e f tie = slice_cmp-IsAntisymmetric place_cmp-IsAntisymmetric e f (both_tie (int_cmp (edge_len2 f) (edge_len2 e)) _ tie).1

-- ---- members
-- two orders in which only equal items tie
has-either : {K : Type 0} {R S : K → K → Ordering} → IsTotalOrder R → IsTotalOrder S → IsAntisymmetric R → IsAntisymmetric S → (q : K) (xs : List K) → has R q xs ≡ has S q xs
has-either r s exact_r exact_s q [] = refl
has-either {K} {R} {S} r s exact_r exact_s q (x ∷ xs) =
    ap₂ (λ a b. a || b) (both_ways (eq_by_cmp R q x) (eq_by_cmp S q x)
    (λ t. subst (λ y. eq_by_cmp S q y ≡ true) (tied_is exact_r q x t) (ap is_eq (tied_itself s q)))
    (λ t. subst (λ y. eq_by_cmp R q y ≡ true) (tied_is exact_s q x t) (ap is_eq (tied_itself r q))))
    (has-either r s exact_r exact_s q xs)

-- ---- edges
length_choices : (n : ℕ) (xs : List Coordinates) → AllByRecursion (λ f. length f ≡ n) (choices n xs)
length_choices zero xs = (refl, tt)
length_choices (suc n) [] = tt
length_choices (suc n) (x ∷ xs) =
    all-append (λ f. length f ≡ suc n) (map (λ f. x ∷ f) (choices n xs)) (choices (suc n) xs)
    (all-map (λ f. length f ≡ n) (λ f. length f ≡ suc n) (λ f. x ∷ f) (λ f e. ap suc e) (choices n xs) (length_choices n xs)) (length_choices (suc n) xs)

-- that these are two ends in ascending order, both of them corners
abbrev IsEdge : List Coordinates → List Coordinates → Type 0
IsEdge corners e = (are_ascending place_cmp e ≡ true) × ((length e ≡ 2) × IsWithin corners e)

edges_are : (corners : List Coordinates) → are_ascending place_cmp corners ≡ true → AllByRecursion (IsEdge corners) (edges_of corners)
edges_are corners up =
    all_both (λ e. are_ascending place_cmp e ≡ true) (λ e. (length e ≡ 2) × IsWithin corners e) (edges_of corners)
    (all_pass (are_ascending place_cmp) (edges_of corners) (choices-ascend place_cmp_total 2 corners up))
    (all_both (λ e. length e ≡ 2) (IsWithin corners) (edges_of corners) (length_choices 2 corners) (within_choices 2 corners))

-- ascending ends are an edge of ascending corners just where both are corners
edge_holds : (corners e : List Coordinates) → are_ascending place_cmp corners ≡ true → are_ascending place_cmp e ≡ true → length e ≡ 2 → has edge_cmp e (edges_of corners) ≡ holds_all corners e
edge_holds corners e up rises two =
    has-either edge_cmp_total (lists_total place_cmp_total) edge_cmp-IsAntisymmetric (slice_cmp-IsAntisymmetric place_cmp-IsAntisymmetric) e (edges_of corners)
    ∙ ap (λ n. has (slice_cmp place_cmp) e (choices n corners)) (sym two)
    ∙ has-choices place_cmp_total e corners (strict_from_ascending place_cmp_total e rises) (strict_from_ascending place_cmp_total corners up)

within_holds : (corners cell e : List Coordinates) → IsWithin corners cell → holds_all cell e ≡ true → holds_all corners e ≡ true
within_holds corners cell [] within h = refl
within_holds corners cell (q ∷ e) within h =
    let parts = and_parts (has place_cmp q cell) (holds_all cell e) h in
    and_from (has place_cmp q corners) (holds_all corners e) (within q parts.0) (within_holds corners cell e within parts.1)

module _ (field : Field) (corners cell : List Coordinates) (up : are_ascending place_cmp corners ≡ true) (cell_up : are_ascending place_cmp cell ≡ true) (within : IsWithin corners cell) where
  both_have : (q : List Coordinates) → (has edge_cmp q (edges_of corners) && holds_all cell q) ≡ has edge_cmp q (edges_of cell)
  both_have q =
      both_ways (has edge_cmp q (edges_of corners) && holds_all cell q) (has edge_cmp q (edges_of cell))
      (λ h.
      let parts = and_parts (has edge_cmp q (edges_of corners)) (holds_all cell q) h in
      let is = all-at edge_cmp-IsAntisymmetric (IsEdge corners) q (edges_of corners) (edges_are corners up) parts.0 in
      edge_holds cell q cell_up is.0 is.1.0 ∙ parts.1)
      (λ h.
      let is = all-at edge_cmp-IsAntisymmetric (IsEdge cell) q (edges_of cell) (edges_are cell cell_up) h in
      let held = sym (edge_holds cell q cell_up is.0 is.1.0) ∙ h in
      and_from (has edge_cmp q (edges_of corners)) (holds_all cell q) (edge_holds corners q up is.0 is.1.0 ∙ within_holds corners cell q within held) held)

  -- the tetrahedron's edges that are the cell's, in their order
  edges_are_own : filter (holds_all cell) (own_edges field corners) ≡ own_edges field cell
  edges_are_own =
      is-ascending_of edge_cmp_total edge_cmp-IsAntisymmetric (filter (holds_all cell) (own_edges field corners)) (long_edges field cell)
      (IsStrictlySortedBy-filter edge_cmp (holds_all cell) (own_edges field corners) (sorted-ascending_of edge_cmp_total (long_edges field corners)))
      (λ q.
      has-filter edge_cmp-IsAntisymmetric (holds_all cell) q (own_edges field corners)
      ∙ ap (λ b. b && holds_all cell q) (has-ascending_of edge_cmp_total q (long_edges field corners) ∙ has-filter edge_cmp-IsAntisymmetric (is_long_edge field) q (edges_of corners))
      ∙ exchanged (has edge_cmp q (edges_of corners)) (is_long_edge field q) (holds_all cell q)
      ∙ ap (λ b. b && is_long_edge field q) (both_have q)
      ∙ sym (has-filter edge_cmp-IsAntisymmetric (is_long_edge field) q (edges_of cell)))
    where
      exchanged : (s t u : Bool) → ((s && t) && u) ≡ ((s && u) && t)
      exchanged false t u = refl
      exchanged true true true = refl
      exchanged true true false = refl
      exchanged true false true = refl
      exchanged true false false = refl

-- ---- pieces of a cell of a tetrahedron
module _ (corners cell : List Coordinates) (not_flat : is_flat corners ≡ false) where
  -- that a corner of the tetrahedron that a piece has is one of the cell's
  abbrev HasOwn : List Coordinates → Type 0
  HasOwn piece = (q : Coordinates) → has place_cmp q piece ≡ true → has place_cmp q corners ≡ true → has place_cmp q cell ≡ true

  half_own : (a b m : Coordinates) (piece : List Coordinates) → has place_cmp m corners ≡ false → HasOwn piece → HasOwn (replaced a m piece)
  half_own a b m piece new own q there at =
      by (eq q m) refl (has place_cmp a piece) (has place_cmp q piece) refl (not (eq q a)) (sym (has-replaced q a m piece) ∙ there)
    where
      by : (s : Bool) → eq q m ≡ s → (t u : Bool) → has place_cmp q piece ≡ u → (v : Bool) → ((s && t) || (u && v)) ≡ true → has place_cmp q cell ≡ true
      by true e t u f v h = absurd (false≢true (sym new ∙ subst (λ r. has place_cmp r corners ≡ true) (same_place q m e) at))
      by false e t true f v h = own q f at
      by false e t false f v h = absurd (false≢true h)

  halves_own : (a b m : Coordinates) (piece : List Coordinates) → has place_cmp m corners ≡ false → HasOwn piece → AllByRecursion HasOwn (bisect a b m piece)
  halves_own a b m piece new own = elim (holds_all piece (a ∷ b ∷ [])) as (λ t. AllByRecursion HasOwn (cond t (replaced a m piece ∷ replaced b m piece ∷ []) (piece ∷ []))) [
    | true ↦ (half_own a b m piece new own, (half_own b a m piece new own, tt))
    | false ↦ (own, tt)
  ]

  halves_at_own : (a b : Coordinates) → a ≢ b → holds_all corners (a ∷ b ∷ []) ≡ true → (o : Option Coordinates) → midpoint a b ≡ o → (pieces : List (List Coordinates)) → AllByRecursion HasOwn pieces
      → AllByRecursion HasOwn (flat_map (halves_at a b o) pieces)
  halves_at_own a b differ there o is [] own = tt
  halves_at_own a b differ there (Some m) is (s ∷ pieces) own =
      all-append HasOwn (bisect a b m s) (flat_map (bisect a b m) pieces) (halves_own a b m s (middle_is_new m a b corners (midpoint-IsMiddle a b m is) differ not_flat there) own.0) (halves_at_own a b differ there (Some m) is pieces own.1)
  halves_at_own a b differ there None is (s ∷ pieces) own = (own.0, halves_at_own a b differ there None is pieces own.1)

  -- an edge that the cell doesn't have is no edge of a piece
  stay : (a b : Coordinates) (o : Option Coordinates) → holds_all corners (a ∷ b ∷ []) ≡ true → holds_all cell (a ∷ b ∷ []) ≡ false → (pieces : List (List Coordinates)) → AllByRecursion HasOwn pieces
      → flat_map (halves_at a b o) pieces ≡ pieces
  stay a b o there none [] own = refl
  stay a b None there none (s ∷ pieces) own = ap (λ rest. s ∷ rest) (stay a b None there none pieces own.1)
  stay a b (Some m) there none (s ∷ pieces) own =
      ap (λ parts. parts ++ flat_map (bisect a b m) pieces) (bisect-without a b m s (no_edge (has place_cmp a s) (has place_cmp b s) refl refl))
      ∙ ap (λ rest. s ∷ rest) (stay a b (Some m) there none pieces own.1)
    where
      at : (has place_cmp a corners ≡ true) × (has place_cmp b corners ≡ true)
      at = let parts = and_parts (has place_cmp a corners) (has place_cmp b corners && true) there in (parts.0, (and_parts (has place_cmp b corners) true parts.1).0)

      no_edge : (s' t' : Bool) → has place_cmp a s ≡ s' → has place_cmp b s ≡ t' → (s' && (t' && true)) ≡ false
      no_edge true true e f = absurd (false≢true (sym none ∙ rw (own.0 a e at.0, own.0 b f at.1) refl))
      no_edge true false e f = refl
      no_edge false t' e f = refl

  own_only : (edges : List (List Coordinates)) → AllByRecursion (IsEdge corners) edges → (pieces : List (List Coordinates)) → AllByRecursion HasOwn pieces
      → bisected_along edges pieces ≡ bisected_along (filter (holds_all cell) edges) pieces
  own_only [] are pieces own = refl
  own_only ([] ∷ edges) are pieces own = absurd (omega (arith, are.0.1.0))
  own_only ((a ∷ []) ∷ edges) are pieces own = absurd (omega (arith, are.0.1.0))
  own_only ((a ∷ b ∷ c ∷ e) ∷ edges) are pieces own = absurd (omega (arith, are.0.1.0))
  own_only ((a ∷ b ∷ []) ∷ edges) are pieces own =
      let differ = ends_differ a b are.0.0 in
      elim (holds_all cell (a ∷ b ∷ [])) as (λ t. holds_all cell (a ∷ b ∷ []) ≡ t
      → bisected_along edges (flat_map (halves_at a b (midpoint a b)) pieces) ≡ bisected_along (cond t ((a ∷ b ∷ []) ∷ filter (holds_all cell) edges) (filter (holds_all cell) edges)) pieces) [
        | true ↦ λ _. own_only edges are.1 (flat_map (halves_at a b (midpoint a b)) pieces) (halves_at_own a b differ there (midpoint a b) refl pieces own)
        | false ↦ λ none. ap (bisected_along edges) (stay a b (midpoint a b) there none pieces own) ∙ own_only edges are.1 pieces own
      ] refl
    where
      there : holds_all corners (a ∷ b ∷ []) ≡ true
      there = within_holds corners (a ∷ b ∷ []) (a ∷ b ∷ []) are.0.1.1 (own_ends a b)
        where
          own_ends : (a b : Coordinates) → holds_all (a ∷ b ∷ []) (a ∷ b ∷ []) ≡ true
          own_ends a b = rw (tied a, tied b) (by (eq b a))
            where
              by : (t : Bool) → ((t || true) && true) ≡ true
              by true = refl
              by false = refl

-- a cell of a tetrahedron that is bisected at the tetrahedron's long edges
pub own_pieces : (field : Field) (corners cell : List Coordinates) → are_corners corners ≡ true → are_ascending place_cmp cell ≡ true → IsWithin corners cell
    → bisected_along (own_edges field corners) (cell ∷ []) ≡ bisected field cell
own_pieces field corners cell are cell_up within =
    own_only corners cell (corners_span corners are) (own_edges field corners)
    (all-ascending_of edge_cmp (IsEdge corners) (long_edges field corners) (all-filter (IsEdge corners) (is_long_edge field) (edges_of corners) (edges_are corners (corners_rise corners are))))
    (cell ∷ []) ((λ q there at. there), tt)
    ∙ ap (λ edges. bisected_along edges (cell ∷ [])) (edges_are_own field corners cell (corners_rise corners are) cell_up within)

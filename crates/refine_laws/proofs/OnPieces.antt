-- The pieces of a cell are cells of the pieces of a tetrahedron that has it.
use Rattle.std.proofs.Common.{◌≡◌, Bool, true, false, cond, ◌&&◌, ◌||◌, inl, inr, List, [], ◌∷◌, length, refl, sym, ap, subst, ◌∙◌}
use Rattle.std.specs.Prelude.{map, not}
use Rattle.std.specs.Cmp.Lexicographic.{slice_cmp}
use Rattle.std.specs.FinMap.{slice_cmp-IsAntisymmetric}
use Rattle.std.specs.List.{AllByRecursion, flat_map}
use Rattle.std.specs.Ordering.{eq_by_cmp}
use Rattle.std.proofs.lemmas.Bool.{and_from, and_parts, false≢true, or_right}
use Rattle.ma_geom.specs.Coordinates.{Coordinates, place_cmp}
use Rattle.ma_geom.proofs.PlaceOrder.{place_cmp-IsAntisymmetric, place_cmp_total}
use Rattle.ma_cells.specs.Ascending.{ascending_of, has}
use Rattle.ma_cells.specs.Bisection.{bisect, replaced}
use Rattle.ma_cells.specs.Cells.{is_cell, corners_of}
use Rattle.ma_cells.specs.Faces.{choices, faces_of, holds_all}
use Rattle.ma_cells.specs.Incidence.{is_on}
use Rattle.ma_cells.specs.Tetrahedron.{Tetrahedron, is_flat, tet_cmp}
use Rattle.ma_cells.specs.declared.cell.Cell.{Cell}
use Rattle.ma_cells.specs.declared.cell.Cell.TheVariants.{Point, Seg, Tri}
use Rattle.ma_cells.proofs.Ascents.{has-head, strict_from_ascending}
use Rattle.ma_cells.proofs.Bisections.{has-replaced}
use Rattle.ma_cells.proofs.CellOrders.{tet_cmp-IsAntisymmetric}
use Rattle.ma_cells.proofs.Choices.{has-choices}
use Rattle.ma_cells.proofs.Corners.{corners_rise, corners_span}
use Rattle.ma_cells.proofs.Passing.{all-flat_map, all-map, all_weaker}
use Rattle.ma_cells.proofs.Permutations.{same as same_place}
use Rattle.ma_cells.proofs.SetItems.{all-ascending_of}
use Rattle.ma_cover.specs.Classification.{AnyByRecursion}
use Rattle.ma_cover.proofs.Anys.{all_given, any-ascending_of, any-map, any_and_all, any_gives, any_pass, any_weaker, test_any}
use Rattle.mesh_laws.proofs.Listings.{exact}
use Rattle.ma_cells.proofs.Members.{all-at}
use Rattle.mesh_laws.proofs.MovedOff.{bent}
use Rattle.mesh_laws.proofs.Weights.{by_four, some_a, some_b, some_c}
use Rattle.size_marks.specs.Field.{Field}
use Rattle.split_templates.specs.Pieces.{bisected_along, halves, is_straight, pieces_of}
use Rattle.refinement.specs.Refinement.{long_edges, refined_cell, refined_tet}
use Rattle.refinement.proofs.Bisecting.{bisect-without, bisected, by_halves, own_edges, own_edges_rise}
use Rattle.refinement.proofs.Covered.{AreCorners, IsNotFlat, with_corners}
use Rattle.refinement.proofs.Rising.{Rises, its_corners_rise}
use Rattle.refine_marks.proofs.CellsKept.{its_count}
use Rattle.refine_laws.proofs.HalvedFaces.{IsWithin, lacks}
use Rattle.refine_laws.proofs.Own.{own_pieces}

abbrev eq : Coordinates → Coordinates → Bool
eq = eq_by_cmp place_cmp

-- ---- places within corners
holds_within : (corners places : List Coordinates) → holds_all corners places ≡ true → IsWithin corners places
holds_within corners [] h q there = absurd (false≢true there)
holds_within corners (p ∷ places) h q there =
    let parts = and_parts (has place_cmp p corners) (holds_all corners places) h in
    elim (eq q p) as (λ b. eq q p ≡ b → (b || has place_cmp q places) ≡ true → has place_cmp q corners ≡ true) [
      | true ↦ λ e _. subst (λ r. has place_cmp r corners ≡ true) (sym (same_place q p e)) parts.0
      | false ↦ λ _ k. holds_within corners places parts.1 q k
    ] refl there

within_holds_all : (corners places : List Coordinates) → IsWithin corners places → holds_all corners places ≡ true
within_holds_all corners [] within = refl
within_holds_all corners (p ∷ places) within =
    and_from (has place_cmp p corners) (holds_all corners places) (within p (has-head place_cmp_total p places))
    (within_holds_all corners places (λ q there. within q (or_right (eq q p) (has place_cmp q places) there)))

-- ---- halves
-- that one of these tetrahedra has all places of a cell
abbrev IsPiece : List (List Coordinates) → List Coordinates → Type 0
IsPiece tets s = AnyByRecursion (λ u. IsWithin u s) tets

or_true : (b : Bool) → (b || true) ≡ true
or_true true = refl
or_true false = refl

module _ (u s : List Coordinates) (within : IsWithin u s) where
  both_replaced : (a m : Coordinates) → IsWithin (replaced a m u) (replaced a m s)
  both_replaced a m q there =
      has-replaced q a m u ∙ by (eq q m) (has place_cmp a s) (has place_cmp q s) (not (eq q a)) (has place_cmp a u) (has place_cmp q u) (within a) (within q) (sym (has-replaced q a m s) ∙ there)
    where
      by : (e t v k t' v' : Bool) → (t ≡ true → t' ≡ true) → (v ≡ true → v' ≡ true) → ((e && t) || (v && k)) ≡ true → ((e && t') || (v' && k)) ≡ true
      by true true v k t' v' i j h = rw (i refl) refl
      by true false true k t' v' i j h = rw (j refl, h) (or_true t')
      by true false false k t' v' i j h = absurd (false≢true h)
      by false t true k t' v' i j h = rw (j refl) h
      by false t false k t' v' i j h = absurd (false≢true h)

  still_within : (a m : Coordinates) → has place_cmp a s ≡ false → IsWithin (replaced a m u) s
  still_within a m gone q there = has-replaced q a m u ∙ by (eq q m && has place_cmp a u) (has place_cmp q u) (eq q a) refl (within q there)
    where
      by : (b c e : Bool) → eq q a ≡ e → c ≡ true → (b || (c && not e)) ≡ true
      by b c true e h = absurd (false≢true (sym gone ∙ subst (λ r. has place_cmp r s ≡ true) (same_place q a e) there))
      by b c false e h = rw h (or_true b)

  half_pieces : (m a b : Coordinates) → AllByRecursion (IsPiece (bisect a b m u)) (bisect a b m s)
  half_pieces m a b =
      elim (holds_all u (a ∷ b ∷ [])) as (λ t. holds_all u (a ∷ b ∷ []) ≡ t → AllByRecursion (IsPiece (cond t (replaced a m u ∷ replaced b m u ∷ []) (u ∷ []))) (bisect a b m s)) [
        | true ↦ λ _. elim (holds_all s (a ∷ b ∷ [])) as (λ t. holds_all s (a ∷ b ∷ []) ≡ t → AllByRecursion (IsPiece (replaced a m u ∷ replaced b m u ∷ [])) (cond t (replaced a m s ∷ replaced b m s ∷ []) (s ∷ []))) [
          | true ↦ λ _. (inl (both_replaced a m), (inr (inl (both_replaced b m)), tt))
          | false ↦ λ none. (without (has place_cmp a s) (has place_cmp b s) refl refl none, tt)
        ] refl
        | false ↦ λ none. subst (AllByRecursion (IsPiece (u ∷ []))) (sym (bisect-without a b m s (lacks a b s u within none))) (inl within, tt)
      ] refl
    where
      without : (t v : Bool) → has place_cmp a s ≡ t → has place_cmp b s ≡ v → (t && (v && true)) ≡ false → IsPiece (replaced a m u ∷ replaced b m u ∷ []) s
      without true true e f h = absurd (false≢true (sym h))
      without true false e f h = inr (inl (still_within b m f))
      without false v e f h = inl (still_within a m e)

-- ---- pieces
along_pieces : (edges : List (List Coordinates)) → AllByRecursion Rises edges → (tets cells : List (List Coordinates)) → AllByRecursion (IsPiece tets) cells → AllByRecursion (IsPiece (bisected_along edges tets)) (bisected_along edges cells)
along_pieces [] rise tets cells on = on
along_pieces (edge ∷ edges) rise tets cells on =
    along_pieces edges rise.1 (flat_map (halves edge) tets) (flat_map (halves edge) cells)
    (all-flat_map (IsPiece tets) (IsPiece (flat_map (halves edge) tets)) (halves edge) (λ s h. all_given (λ u. IsWithin u s) (λ r u. IsWithin u r) (halves edge) (halves edge s) (λ u within.
    by_halves (λ parts. AllByRecursion (IsPiece (parts u)) (parts s)) (inl within, tt) (λ m a b _ _. half_pieces u s within m a b) edge rise.0) tets h) cells on)

module _ (field : Field) where
  on_pieces : (corners cell : List Coordinates) → AreCorners corners → IsWithin corners cell → Rises cell → AllByRecursion (IsPiece (bisected field corners)) (bisected field cell)
  on_pieces corners cell are within up =
      subst (AllByRecursion (IsPiece (bisected field corners))) (own_pieces field corners cell are up within)
      (along_pieces (own_edges field corners) (own_edges_rise field corners (corners_rise corners are)) (corners ∷ []) (cell ∷ []) (inl within, tt))

-- ---- the corners of a face aren't on one line
pub faces_bent : (corners : List Coordinates) → is_flat corners ≡ false → AllByRecursion (λ f. is_straight f ≡ false) (faces_of corners)
faces_bent = by_four (λ corners. AllByRecursion (λ f. is_straight f ≡ false) (faces_of corners)) (λ a b c d spans.
    (bent a b c d spans, (bent a b d c (some_c a b c d spans), (bent a c d b (some_b a b c d spans), (bent b c d a (some_a a b c d spans), tt)))))

corners_bent : (corners face : List Coordinates) → AreCorners corners → IsWithin corners face → Rises face → length face ≡ 3 → is_straight face ≡ false
corners_bent corners face are within up three =
    all-at exact (λ f. is_straight f ≡ false) face (faces_of corners) (faces_bent corners (corners_span corners are))
    (ap (λ n. has (slice_cmp place_cmp) face (choices n corners)) (sym three)
    ∙ has-choices place_cmp_total face corners (strict_from_ascending place_cmp_total face up) (strict_from_ascending place_cmp_total corners (corners_rise corners are))
    ∙ within_holds_all corners face within)

-- ---- a cell of a mesh
module _ (field : Field) (tets : List Tetrahedron) (are : AllByRecursion IsNotFlat tets) where
  -- that one of these tetrahedra of a mesh has all places of a cell
  abbrev IsPieceOf : List Tetrahedron → List Coordinates → Type 0
  IsPieceOf ts s = AnyByRecursion (λ (tet : Tetrahedron). IsWithin tet.corners s) ts

  abbrev new : List Tetrahedron
  new = ascending_of tet_cmp (flat_map (refined_tet field) tets)

  of_tet : (tet : Tetrahedron) (s : List Coordinates) → IsPiece (bisected field tet.corners) s → IsPieceOf (refined_tet field tet) s
  of_tet tet s h =
      (any-map (λ (t : Tetrahedron). IsWithin t.corners s) (with_corners tet) (pieces_of (long_edges field tet.corners) tet.corners)).1
      ((any-ascending_of (slice_cmp-IsAntisymmetric place_cmp-IsAntisymmetric) (λ u. IsWithin u s) (bisected field tet.corners)).1 h)

  pieces_within : (cell : List Coordinates) → Rises cell → IsPieceOf tets cell → AllByRecursion (IsPieceOf new) (bisected field cell)
  pieces_within cell up there =
      all_weaker (IsPieceOf (flat_map (refined_tet field) tets)) (IsPieceOf new) (λ s h. (any-ascending_of tet_cmp-IsAntisymmetric (λ (t : Tetrahedron). IsWithin t.corners s) (flat_map (refined_tet field) tets)).1 h) (bisected field cell)
      (all_given (λ tet. IsNotFlat tet × IsWithin tet.corners cell) (λ s tet. IsWithin tet.corners s) (refined_tet field) (bisected field cell)
      (λ tet h. all_weaker (IsPiece (bisected field tet.corners)) (IsPieceOf (refined_tet field tet)) (of_tet tet) (bisected field cell) (on_pieces field tet.corners cell h.0 h.1 up)) tets
      (any_and_all IsNotFlat (λ tet. IsWithin tet.corners cell) tets are there))

  pieces_are_within : (cell : List Coordinates) → Rises cell → IsPieceOf tets cell → AllByRecursion (IsPieceOf new) (pieces_of (long_edges field cell) cell)
  pieces_are_within cell up there = all-ascending_of (slice_cmp place_cmp) (IsPieceOf new) (bisected field cell) (pieces_within cell up there)

  from_test : (cell : Cell) → is_on tets cell ≡ true → IsPieceOf tets (corners_of cell)
  from_test cell on =
      any_weaker (λ tet. holds_all tet.corners (corners_of cell) ≡ true) (λ tet. IsWithin tet.corners (corners_of cell)) (λ tet. holds_within tet.corners (corners_of cell)) tets
      (any_pass (λ tet. holds_all tet.corners (corners_of cell)) tets on)

  to_test : (cell : Cell) → IsPieceOf new (corners_of cell) → is_on new cell ≡ true
  to_test cell there =
      test_any (λ tet. holds_all tet.corners (corners_of cell)) new
      (any_weaker (λ tet. IsWithin tet.corners (corners_of cell)) (λ tet. holds_all tet.corners (corners_of cell) ≡ true) (λ tet. within_holds_all tet.corners (corners_of cell)) new there)

  pub cell_pieces_on : (cell : Cell) → is_cell cell ≡ true → is_on tets cell ≡ true → AllByRecursion (λ piece. is_on new piece ≡ true) (refined_cell field cell)
  cell_pieces_on (Point p) is on = (to_test (Point p) (pieces_within (p ∷ []) refl (from_test (Point p) on)).0, tt)
  cell_pieces_on (Seg s) is on =
      all-map (IsPieceOf new) (λ piece. is_on new piece ≡ true) Seg (λ r. to_test (Seg r)) (pieces_of (long_edges field s) s) (pieces_are_within s (its_corners_rise 2 s is) (from_test (Seg s) on))
  cell_pieces_on (Tri t) is on =
      let up = its_corners_rise 3 t is in
      let there = from_test (Tri t) on in
      let bent = any_gives (λ tet. IsNotFlat tet × IsWithin tet.corners t) (λ tet h. corners_bent tet.corners t h.0 h.1 up (its_count 3 t is)) tets (any_and_all IsNotFlat (λ tet. IsWithin tet.corners t) tets are there) in
      subst (λ b. AllByRecursion (λ piece. is_on new piece ≡ true) (cond b (Tri t ∷ []) (map Tri (pieces_of (long_edges field t) t)))) (sym bent)
      (all-map (IsPieceOf new) (λ piece. is_on new piece ≡ true) Tri (λ r. to_test (Tri r)) (pieces_of (long_edges field t) t) (pieces_are_within t up there))

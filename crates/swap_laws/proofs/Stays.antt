-- Marked cells of a cavity are cells of what fills it.
use Rattle.std.proofs.Common.{◌≡◌, ◌≢◌, ℕ, zero, suc, ◌+◌, ◌≤◌, ◌==◌, Bool, true, false, not, cond, ◌&&◌, ◌||◌, List, [], ◌∷◌, filter, length, refl, sym, ap, ap₂, subst, ◌∙◌, arith}
use Rattle.std.specs.Cmp.Lexicographic.{slice_cmp}
use Rattle.std.specs.List.{AllByRecursion, AllPairs, count_by, list_all, list_any}
use Rattle.std.specs.Ordering.{eq_by_cmp}
use Rattle.std.proofs.lemmas.Bool.{and_parts, eqb-true, false≢true, false_from_ne_true, or_right}
use Rattle.std.proofs.lemmas.List.Kept.{AllPairs-filter}
use Rattle.std.proofs.lemmas.List.Sums.{length-filter}
use Rattle.ma_geom.specs.Coordinates.{Coordinates, place_cmp}
use Rattle.ma_geom.specs.Lines.{is_flat}
use Rattle.ma_geom.proofs.PlaceOrder.{place_cmp-IsAntisymmetric, place_cmp_total}
use Rattle.ma_cells.specs.Ascending.{are_ascending, has}
use Rattle.ma_cells.specs.Cells.{CellMark, corners_of, is_cell}
use Rattle.ma_cells.specs.Faces.{choices, faces_of, holds_all}
use Rattle.ma_cells.specs.Incidence.{is_marked, is_on}
use Rattle.ma_cells.specs.Meshes.{corner_sets}
use Rattle.ma_cells.specs.Stars.{besides, marks_at}
use Rattle.ma_cells.specs.Tetrahedron.{Tetrahedron, are_corners, are_tetrahedra}
use Rattle.ma_cells.specs.declared.cell.Cell.{Cell}
use Rattle.ma_cells.specs.declared.cell.Cell.TheVariants.{Point, Seg, Tri}
use Rattle.ma_cells.proofs.Ascents.{strict_from_ascending}
use Rattle.ma_cells.proofs.Choices.{has-choices}
use Rattle.ma_cells.proofs.Corners.{corners_rise, corners_span}
use Rattle.ma_cells.proofs.Members.{at_member, has-filter}
use Rattle.ma_cells.proofs.Passing.{all-filter, all_pass, all_weaker, test_all}
use Rattle.ma_cells.proofs.Permutations.{same as same_place, tied}
use Rattle.ma_cover.specs.Sound.{LieOnBothSides}
use Rattle.mesh_laws.specs.Parity.{is_odd}
use Rattle.mesh_laws.proofs.BothSides.{BothSides, IsFaceOf, Pairs, is_face, pairs_from}
use Rattle.mesh_laws.proofs.Listings.{exact, same, same_is, same_itself}
use Rattle.mesh_laws.proofs.Lists.{all_two, count-cons}
use Rattle.mesh_laws.proofs.MovedOff.{corners_of as corners_of_tet}
use Rattle.mesh_laws.proofs.Oddly.{odd_is, odd_some}
use Rattle.mesh_laws.proofs.Sounds.{tetrahedra_not_flat}
use Rattle.cavity_laws.specs.Balance.{had_by as had_of_sets}
use Rattle.cavity_laws.specs.Cavity.{cones}
use Rattle.cavity_laws.specs.Filled.{AreReordered}
use Rattle.cavity_laws.specs.Swap.{IsSwappable, is_between}
use Rattle.cavity_laws.proofs.Balance.{faces_are_balanced}
use Rattle.cavity_laws.proofs.Swaps.{swap_keeps_parity}
use Rattle.cavity_swap.specs.Judging.{is_bare}
use Rattle.cavity_swap.specs.Swapping.{had_by}
use Rattle.collapse_laws.proofs.Cover.{has_face, odd_listed}
use Rattle.collapse_laws.proofs.Filling.{count-map, face_corner, filter_passes}
use Rattle.collapse_laws.proofs.OnCells.{any_gives, counted, no_two, opposite_is_face}
use Rattle.swap_laws.proofs.Counted.{holders_are, set_sides, set_solid}

-- one of the places that isn't there
missing : (corners at : List Coordinates) → holds_all corners at ≡ false → (a : Coordinates) × (has place_cmp a at ≡ true) × (has place_cmp a corners ≡ false)
missing corners [] h = absurd (false≢true (sym h))
missing corners (q ∷ at) h =
    elim (has place_cmp q corners) as (λ b. has place_cmp q corners ≡ b → (b && holds_all corners at) ≡ false → (a : Coordinates) × (has place_cmp a (q ∷ at) ≡ true) × (has place_cmp a corners ≡ false)) [
      | true ↦ λ _ k. let m = missing corners at k in (m.0, or_right (eq_by_cmp place_cmp m.0 q) (has place_cmp m.0 at) m.1, m.2)
      | false ↦ λ e _. (q, ap (λ b. b || has place_cmp q at) (tied q), e)
    ] refl h

-- a place among others that a cell's corners are
within : (corners places : List Coordinates) → holds_all corners places ≡ true → (p : Coordinates) → has place_cmp p places ≡ true → has place_cmp p corners ≡ true
within corners places h p there = at_member place_cmp-IsAntisymmetric (λ q. has place_cmp q corners) p places h there

-- places that are all among some, and of which each of these is among others, are all among the others
through : (face corners places : List Coordinates) → ((p : Coordinates) → has place_cmp p face ≡ true → has place_cmp p corners ≡ true) → holds_all face places ≡ true → holds_all corners places ≡ true
through face corners places more h = test_all (λ p. has place_cmp p corners) places (all_weaker (λ p. has place_cmp p face ≡ true) (λ p. has place_cmp p corners ≡ true) more places (all_pass (λ p. has place_cmp p face) places h))

-- places without a among some are among those besides a
rest_holds : (a : Coordinates) (corners places : List Coordinates) → has place_cmp a places ≡ false → holds_all corners places ≡ true → holds_all (besides (a ∷ []) corners) places ≡ true
rest_holds a corners [] gone h = refl
rest_holds a corners (q ∷ places) gone h =
    let parts = and_parts (has place_cmp q corners) (holds_all corners places) h in
    let off = apart_from (eq_by_cmp place_cmp a q) refl gone in
    ap₂ (λ s t. s && t) (has-filter place_cmp-IsAntisymmetric (λ p. not (has place_cmp p (a ∷ []))) q corners ∙ ap₂ (λ s t. s && not (t || false)) parts.0 off.0) (rest_holds a corners places off.1 parts.1)
  where
    apart_from : (b : Bool) → eq_by_cmp place_cmp a q ≡ b → (b || has place_cmp a places) ≡ false → (eq_by_cmp place_cmp q a ≡ false) × (has place_cmp a places ≡ false)
    apart_from true e h = absurd (false≢true (sym h))
    apart_from false e h = (false_from_ne_true (eq_by_cmp place_cmp q a) (λ f. false≢true (sym e ∙ subst (λ r. eq_by_cmp place_cmp a r ≡ true) (sym (same_place q a f)) (tied a))), h)

-- ascending places are as few as those that they are among
short : (p q : Coordinates) (rest at : List Coordinates) → at ≡ p ∷ q ∷ rest → are_ascending place_cmp at ≡ true → (x y : Coordinates) → are_ascending place_cmp (x ∷ y ∷ []) ≡ true → holds_all (x ∷ y ∷ []) at ≡ true → at ≡ x ∷ y ∷ []
short p q [] at e rises x y up h = by at e (has-choices place_cmp_total at (x ∷ y ∷ []) (strict_from_ascending place_cmp_total at rises) (strict_from_ascending place_cmp_total (x ∷ y ∷ []) up) ∙ h)
  where
    one : (b : Bool) → (b || false) ≡ true → b ≡ true
    one true k = refl
    one false k = absurd (false≢true k)

    by : (l : List Coordinates) → l ≡ p ∷ q ∷ [] → has (slice_cmp place_cmp) l (choices (length l) (x ∷ y ∷ [])) ≡ true → l ≡ x ∷ y ∷ []
    by l f k = same_is l (x ∷ y ∷ []) (one (same l (x ∷ y ∷ [])) (subst (λ n. has (slice_cmp place_cmp) l (choices n (x ∷ y ∷ [])) ≡ true) (ap (λ m. length m) f) k))
short p q (r ∷ rest) at e rises x y up h =
    absurd (false≢true (subst (λ n. has (slice_cmp place_cmp) at (choices n (x ∷ y ∷ [])) ≡ true) (ap (λ m. length m) e)
    (has-choices place_cmp_total at (x ∷ y ∷ []) (strict_from_ascending place_cmp_total at rises) (strict_from_ascending place_cmp_total (x ∷ y ∷ []) up) ∙ h)))

none_alone : (p q : Coordinates) (rest at : List Coordinates) → at ≡ p ∷ q ∷ rest → are_ascending place_cmp at ≡ true → (x : Coordinates) → holds_all (x ∷ []) at ≡ true → ⊥
none_alone p q rest at e rises x h =
    false≢true (subst (λ n. has (slice_cmp place_cmp) at (choices n (x ∷ [])) ≡ true) (ap (λ m. length m) e)
    (has-choices place_cmp_total at (x ∷ []) (strict_from_ascending place_cmp_total at rises) (strict_from_ascending place_cmp_total (x ∷ []) refl) ∙ h))

module _ (at : List Coordinates) (v : Coordinates) (star filled : List Tetrahedron) (proper : are_tetrahedra star ≡ true) (sides : AllPairs (λ s t. LieOnBothSides s.corners t.corners) star)
    (around : AllByRecursion (λ (tet : Tetrahedron). holds_all tet.corners at ≡ true) star) (made : AllByRecursion (λ (tet : Tetrahedron). are_corners tet.corners ≡ true) filled)
    (swappable : IsSwappable v (corner_sets star)) (reordered : AreReordered (cones v (is_between (corner_sets star)) (corner_sets star)) (corner_sets filled)) where
  abbrev all_proper : AllByRecursion (λ (tet : Tetrahedron). are_corners tet.corners ≡ true) star
  all_proper = all_pass (λ (tet : Tetrahedron). are_corners tet.corners) star proper

  -- a cell on a face that isn't between two is on what fills the cavity
  on_outer : (face places : List Coordinates) → count_by (has_face face) star ≢ 0 → is_between (corner_sets star) face ≡ false → holds_all face places ≡ true → list_any (λ tet. holds_all tet.corners places) filled ≡ true
  on_outer face places some outer held =
      let n = had_of_sets face (corner_sets star) in
      let same_count = count-map (λ corners. has (slice_cmp place_cmp) face (faces_of corners)) corners_of_tet star in
      let one = alone n (λ e. some (sym same_count ∙ e)) outer (faces_are_balanced (corner_sets star) (set_solid star proper) (set_sides star sides) face).0 in
      let odd = sym (odd_is (has_face face) star) ∙ ap is_odd (sym same_count ∙ one) in
      let after = odd_listed face filled made ∙ swap_keeps_parity v (corner_sets star) (corner_sets filled) swappable reordered face ∙ sym (odd_listed face star all_proper) ∙ odd in
      let found = odd_some (has_face face) (λ t. (are_corners t.corners ≡ true) × ((k : Tetrahedron → Bool) → k t ≡ true → count_by k filled ≢ 0)) filled (all_two _ _ _ (λ t a b. (a, b)) filled made (counted filled)) after in
      any_of (λ tet. holds_all tet.corners places) filled
      (found.2.1 (λ tet. holds_all tet.corners places) (through face found.0.corners places (λ p. face_corner p found.0.corners face (corners_span found.0.corners found.2.0) found.1) held))
    where
      alone : (n : ℕ) → n ≢ 0 → (n == 2) ≡ false → n ≤ 2 → n ≡ 1
      alone zero e f g = absurd (e refl)
      alone (suc zero) e f g = refl
      alone (suc (suc zero)) e f g = absurd (false≢true (sym f))
      alone (suc (suc (suc n))) e f g = absurd (omega (arith, g))

      none : (n m : ℕ) → m ≡ cond false 1 0 + n → n ≡ 0 → m ≡ 0
      none n m e f = omega arith

      any_of : (k : Tetrahedron → Bool) (ts : List Tetrahedron) → count_by k ts ≢ 0 → list_any k ts ≡ true
      any_of k [] h = absurd (h refl)
      any_of k (t ∷ ts) h =
          elim (k t) as (λ b. count_by k (t ∷ ts) ≡ cond b 1 0 + count_by k ts → (b || list_any k ts) ≡ true) [
            | true ↦ λ _. refl
            | false ↦ λ e. any_of k ts (λ z. h (none (count_by k ts) (count_by k (t ∷ ts)) e z))
          ] (count-cons k t ts)

  -- a face across from a corner that all tetrahedra have isn't between two
  across_is_outer : (p : Coordinates) (face : List Coordinates) → has place_cmp p at ≡ true → has place_cmp p face ≡ false → is_between (corner_sets star) face ≡ false
  across_is_outer p face there off =
      false_from_ne_true (is_between (corner_sets star) face) (λ e.
      not_all (filter (has_face face) star)
      (all_two _ _ _ (λ t a b. (is_face t.corners b.0 face a, b.1)) (filter (has_face face) star) (filter_passes (has_face face) star)
      (all-filter (λ t. (is_flat t.corners ≡ false) × (has place_cmp p t.corners ≡ true)) (has_face face) star
      (all_two _ _ _ (λ t a b. (a, within t.corners at b p there)) star (tetrahedra_not_flat star proper) around)))
      (pairs_from (BothSides corners_of_tet) (filter (has_face face) star) (AllPairs-filter (BothSides corners_of_tet) (has_face face) star sides))
      (length-filter (has_face face) star ∙ sym (count-map (λ corners. has (slice_cmp place_cmp) face (faces_of corners)) corners_of_tet star) ∙ eqb-true (had_of_sets face (corner_sets star)) 2 e))
    where
      not_all : (ts : List Tetrahedron) → AllByRecursion (λ t. IsFaceOf face t.corners × (has place_cmp p t.corners ≡ true)) ts → Pairs (BothSides corners_of_tet) ts → length ts ≢ 2
      not_all [] all pairs e = omega arith
      not_all (s ∷ []) all pairs e = omega arith
      not_all (s ∷ t ∷ []) all pairs e = no_two p face s.corners t.corners off pairs.0.0 all.0.0 all.1.0.0 all.0.1 all.1.0.1
      not_all (s ∷ t ∷ u ∷ ts) all pairs e = omega arith

  -- a mark on a face between two, or on the edge or the face that is taken away, would be found by the second test
  module _ (rises : are_ascending place_cmp at ≡ true) (long : 2 ≤ length at) (marks : List CellMark) (bare : is_bare marks at star ≡ true) where
    marked_stays : (cell : Cell) → is_marked marks (corners_of cell) ≡ true → is_cell cell ≡ true → holds_all (corners_of cell) at ≡ true → (tet : Tetrahedron) → are_corners tet.corners ≡ true → ((k : Tetrahedron → Bool) → k tet ≡ true → count_by k star ≢ 0)
        → list_all (λ face. not (had_by star face == 2 && is_marked marks face)) (faces_of tet.corners) ≡ true → holds_all tet.corners (corners_of cell) ≡ true → list_any (λ t. holds_all t.corners (corners_of cell)) filled ≡ true
    marked_stays (Point x) marked is all_at tet good one clear held = absurd (by at refl)
      where
        by : (l : List Coordinates) → at ≡ l → ⊥
        by [] e = let n = ap (λ m. length m) e in omega (arith, long, n)
        by (p ∷ []) e = let n = ap (λ m. length m) e in omega (arith, long, n)
        by (p ∷ q ∷ rest) e = none_alone p q rest at e rises x all_at
    marked_stays (Seg s) marked is all_at tet good one clear held = absurd (of s (eqb-true (length s) 2 (and_parts (length s == 2) _ is).0) (and_parts (length s == 2) _ is).1 all_at marked)
      where
        by : (x y : Coordinates) → are_ascending place_cmp (x ∷ y ∷ []) ≡ true → holds_all (x ∷ y ∷ []) at ≡ true → (l : List Coordinates) → at ≡ l → at ≡ x ∷ y ∷ []
        by x y up h [] e = let n = ap (λ m. length m) e in absurd (omega (arith, long, n))
        by x y up h (p ∷ []) e = let n = ap (λ m. length m) e in absurd (omega (arith, long, n))
        by x y up h (p ∷ q ∷ rest) e = short p q rest at e rises x y up h

        clash : (b : Bool) → not b ≡ true → b ≡ true → ⊥
        clash true h k = false≢true h
        clash false h k = false≢true k

        of : (s : List Coordinates) → length s ≡ 2 → are_ascending place_cmp s ≡ true → holds_all s at ≡ true → is_marked marks s ≡ true → ⊥
        of (x ∷ y ∷ []) two up h m = clash (is_marked marks at) (and_parts (not (is_marked marks at)) _ bare).0 (subst (λ l. is_marked marks l ≡ true) (sym (by x y up h at refl)) m)
        of [] two up h m = omega (arith, two)
        of (x ∷ []) two up h m = omega (arith, two)
        of (x ∷ y ∷ z ∷ l) two up h m = omega (arith, two)
    marked_stays (Tri t) marked is all_at tet good one clear held =
        let three = eqb-true (length t) 3 (and_parts (length t == 3) _ is).0 in
        let up = (and_parts (length t == 3) _ is).1 in
        let there = subst (λ n. has (slice_cmp place_cmp) t (choices n tet.corners) ≡ true) three
        (has-choices place_cmp_total t tet.corners (strict_from_ascending place_cmp_total t up) (strict_from_ascending place_cmp_total tet.corners (corners_rise tet.corners good)) ∙ held) in
        on_outer t t (one (has_face t) there)
        (sym (ap (λ n. n == 2) (holders_are star proper t up three)) ∙ neither (had_by star t == 2) (is_marked marks t) (at_member exact (λ face. not (had_by star face == 2 && is_marked marks face)) t (faces_of tet.corners) clear there) marked)
        (holds_itself t t (λ p h. h))
      where
        neither : (b m : Bool) → not (b && m) ≡ true → m ≡ true → b ≡ false
        neither true true h k = absurd (false≢true h)
        neither true false h k = absurd (false≢true k)
        neither false m h k = refl

        holds_itself : (places corners : List Coordinates) → ((p : Coordinates) → has place_cmp p places ≡ true → has place_cmp p corners ≡ true) → holds_all corners places ≡ true
        holds_itself [] corners h = refl
        holds_itself (p ∷ places) corners h =
            ap₂ (λ s t. s && t) (h p (ap (λ b. b || has place_cmp p places) (tied p))) (holds_itself places corners (λ q e. h q (or_right (eq_by_cmp place_cmp q p) (has place_cmp q places) e)))

    -- a cell of a tetrahedron, marked if it has all the places
    stays : (cell : Cell) → (holds_all (corners_of cell) at ≡ true → is_marked marks (corners_of cell) ≡ true) → is_cell cell ≡ true → is_on star cell ≡ true → is_on filled cell ≡ true
    stays cell marked is on =
        any_gives (λ tet. holds_all tet.corners (corners_of cell)) (is_on filled cell ≡ true) star
        (all_two Good Clear (λ tet. holds_all tet.corners (corners_of cell) ≡ true → is_on filled cell ≡ true) (λ tet a b held. by (holds_all (corners_of cell) at) refl tet a.0 a.1 b.0 b.1 held) star
        (all_two (λ (tet : Tetrahedron). are_corners tet.corners ≡ true) (λ tet. (k : Tetrahedron → Bool) → k tet ≡ true → count_by k star ≢ 0) Good (λ tet a b. (a, b)) star all_proper (counted star))
        (all_two (λ (tet : Tetrahedron). holds_all tet.corners at ≡ true) (λ tet. is_clear tet.corners ≡ true) Clear (λ tet a b. (a, b)) star around (all_pass (λ (tet : Tetrahedron). is_clear tet.corners) star (and_parts (not (is_marked marks at)) _ bare).1))) on
      where
        is_clear : List Coordinates → Bool
        is_clear corners = list_all (λ face. not (had_by star face == 2 && is_marked marks face)) (faces_of corners)

        Good : Tetrahedron → Type 0
        Good tet = (are_corners tet.corners ≡ true) × ((k : Tetrahedron → Bool) → k tet ≡ true → count_by k star ≢ 0)

        Clear : Tetrahedron → Type 0
        Clear tet = (holds_all tet.corners at ≡ true) × (is_clear tet.corners ≡ true)

        never : (b : Bool) → (b && false) ≡ false
        never true = refl
        never false = refl

        by : (b : Bool) → holds_all (corners_of cell) at ≡ b → (tet : Tetrahedron) → are_corners tet.corners ≡ true → ((k : Tetrahedron → Bool) → k tet ≡ true → count_by k star ≢ 0) → holds_all tet.corners at ≡ true
            → list_all (λ face. not (had_by star face == 2 && is_marked marks face)) (faces_of tet.corners) ≡ true → holds_all tet.corners (corners_of cell) ≡ true → is_on filled cell ≡ true
        by true e tet good one has_at clear held = marked_stays cell (marked e) is e tet good one clear held
        by false e tet good one has_at clear held =
            let m = missing (corners_of cell) at e in
            let face = besides (m.0 ∷ []) tet.corners in
            on_outer face (corners_of cell) (one (has_face face) (opposite_is_face m.0 tet.corners (corners_span tet.corners good) (within tet.corners at has_at m.0 m.1)))
            (across_is_outer m.0 face m.1 (has-filter place_cmp-IsAntisymmetric (λ p. not (has place_cmp p (m.0 ∷ []))) m.0 tet.corners ∙ ap (λ b. has place_cmp m.0 tet.corners && not (b || false)) (tied m.0) ∙ never (has place_cmp m.0 tet.corners)))
            (rest_holds m.0 tet.corners (corners_of cell) m.2 held)

-- a mark is among those at all places that its cell has
marked_here : (at : List Coordinates) (ms : List CellMark) → AllByRecursion (λ m. holds_all (corners_of m.cell) at ≡ true → is_marked (marks_at at ms) (corners_of m.cell) ≡ true) ms
marked_here at [] = tt
marked_here at (m ∷ ms) = (
  (λ h. subst (λ b. is_marked (cond b (m ∷ marks_at at ms) (marks_at at ms)) (corners_of m.cell) ≡ true) (sym h) (ap (λ b. b || is_marked (marks_at at ms) (corners_of m.cell)) (same_itself (corners_of m.cell)))),
  all_weaker (λ n. holds_all (corners_of n.cell) at ≡ true → is_marked (marks_at at ms) (corners_of n.cell) ≡ true) (λ n. holds_all (corners_of n.cell) at ≡ true → is_marked (marks_at at (m ∷ ms)) (corners_of n.cell) ≡ true)
      (λ n k h. more (holds_all (corners_of m.cell) at) (corners_of n.cell) (k h)) ms (marked_here at ms),
)
  where
    more : (b : Bool) (places : List Coordinates) → is_marked (marks_at at ms) places ≡ true → is_marked (cond b (m ∷ marks_at at ms) (marks_at at ms)) places ≡ true
    more true places h = or_right (eq_by_cmp (slice_cmp place_cmp) (corners_of m.cell) places) _ h
    more false places h = h

pub all_stay : (at : List Coordinates) (v : Coordinates) (star filled : List Tetrahedron) → are_tetrahedra star ≡ true → AllPairs (λ s t. LieOnBothSides s.corners t.corners) star
    → AllByRecursion (λ (tet : Tetrahedron). holds_all tet.corners at ≡ true) star → AllByRecursion (λ (tet : Tetrahedron). are_corners tet.corners ≡ true) filled
    → IsSwappable v (corner_sets star) → AreReordered (cones v (is_between (corner_sets star)) (corner_sets star)) (corner_sets filled)
    → are_ascending place_cmp at ≡ true → 2 ≤ length at → (marks : List CellMark) → is_bare (marks_at at marks) at star ≡ true → list_all (λ mark. is_cell mark.cell) marks ≡ true
    → AllByRecursion (λ mark. is_on star mark.cell ≡ true → is_on filled mark.cell ≡ true) marks
all_stay at v star filled proper sides around made swappable reordered rises long marks bare cells =
    all_two _ _ _ (λ m here is. stays at v star filled proper sides around made swappable reordered rises long (marks_at at marks) bare m.cell here is) marks (marked_here at marks) (all_pass (λ (mark : CellMark). is_cell mark.cell) marks cells)

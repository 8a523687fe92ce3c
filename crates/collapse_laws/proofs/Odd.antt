-- The odd faces after a collapse are marked.
use Rattle.std.proofs.Common.{◌≡◌, ⊎_elim, Bool, true, false, cond, not, ◌&&◌, ◌||◌, List, [], ◌∷◌, length, refl, sym, ap, ap₂, subst, ◌∙◌, arith}
use Rattle.std.specs.Prelude.{ℤ, map}
use Rattle.std.specs.List.{AllByRecursion, flat_map}
use Rattle.std.specs.List.Sorted.{IsPermutation}
use Rattle.std.specs.Ordering.{eq_by_cmp}
use Rattle.std.proofs.lemmas.Bool.{and_parts, false_from_ne_true, false≢true, not-true, or_parts}
use Rattle.std.proofs.lemmas.List.Sorted.{IsPermutation-append_comm, IsPermutation-append_left, IsPermutation-refl, IsPermutation-trans}
use Rattle.ma_geom.specs.Coordinates.{Coordinates, place_cmp}
use Rattle.ma_geom.specs.Lines.{is_flat}
use Rattle.ma_geom.proofs.PlaceOrder.{place_cmp-IsAntisymmetric, place_cmp_total}
use Rattle.ma_cells.specs.Ascending.{are_ascending, are_distinct, ascending_of, has}
use Rattle.ma_cells.specs.Cells.{CellMark, is_cell}
use Rattle.ma_cells.specs.Faces.{faces_of, holds_all}
use Rattle.ma_cells.specs.Incidence.{is_marked}
use Rattle.ma_cells.specs.Meshes.{corner_sets}
use Rattle.ma_cells.specs.Stars.{besides, star_of}
use Rattle.ma_cells.specs.Tetrahedron.{Tetrahedron, are_corners}
use Rattle.ma_cells.proofs.Ascents.{ascending_from_strict, has-ascending_of, sorted-ascending_of}
use Rattle.ma_cells.proofs.Choices.{all-append}
use Rattle.ma_cells.proofs.Cornered.{distinct-ascending}
use Rattle.ma_cells.proofs.Corners.{corners_span}
use Rattle.ma_cells.proofs.Members.{has-filter}
use Rattle.ma_cells.proofs.Passing.{all-filter, all-flat_map, all-map, all_anyway, all_weaker}
use Rattle.ma_cells.proofs.Permutations.{alone, apart, ascending_of-permutes, same as same_place, tied}
use Rattle.ma_cover.specs.Sound.{IsConforming}
use Rattle.mesh_laws.specs.Points.{NoneIsFlat}
use Rattle.mesh_laws.specs.Sounds.{OddAreMarked}
use Rattle.mesh_laws.proofs.Listings.{same, same_is}
use Rattle.mesh_laws.proofs.Lists.{all_two}
use Rattle.mesh_laws.proofs.Oddly.{odd-none, odd_is, odd_of, odd_some}
use Rattle.mesh_laws.proofs.Sounds.{conforming_odd_are_marked}
use Rattle.mesh_laws.proofs.Weights.{by_four}
use Rattle.cavity_laws.specs.Cavity.{Facet, facets_of}
use Rattle.cavity_laws.proofs.Swaps.{not_flat_over}
use Rattle.cavity_collapse.specs.Collapsing.{is_same, moved_marks}
use Rattle.collapse_laws.proofs.Cover.{after, flat_one, has_face, here_facets, oddly_after, rest_of}
use Rattle.collapse_laws.proofs.Filling.{CanCollapse, IsAt, face_corner, fill, filter_passes, here, here_at, is_of, v_across}
use Rattle.collapse_laws.proofs.Marks.{moved_marked, to_v, unmoved}
use Rattle.collapse_laws.proofs.Stars.{IsCone, cones_are, opposite, split}

-- ---- three places
apart_three : (p q r : Coordinates) → are_ascending place_cmp (p ∷ q ∷ r ∷ []) ≡ true → (eq_by_cmp place_cmp p q ≡ false) × (eq_by_cmp place_cmp p r ≡ false) × (eq_by_cmp place_cmp q r ≡ false)
apart_three p q r rise =
    let first = alone (has place_cmp p (q ∷ r ∷ [])) (are_distinct place_cmp (q ∷ r ∷ [])) (distinct-ascending (p ∷ q ∷ r ∷ []) rise) in
    let second = alone (has place_cmp q (r ∷ [])) (are_distinct place_cmp (r ∷ [])) first.1 in
    let two = or_parts (eq_by_cmp place_cmp p q) (eq_by_cmp place_cmp p r || false) first.0 in
    (two.0, (or_parts (eq_by_cmp place_cmp p r) false two.1).0, (or_parts (eq_by_cmp place_cmp q r) false second.0).0)

three_distinct : (v p q : Coordinates) → eq_by_cmp place_cmp v p ≡ false → eq_by_cmp place_cmp v q ≡ false → eq_by_cmp place_cmp p q ≡ false → are_distinct place_cmp (v ∷ p ∷ q ∷ []) ≡ true
three_distinct v p q e f g = rw (e, f, g) refl

sorted_rise : (l : List Coordinates) → are_ascending place_cmp (ascending_of place_cmp l) ≡ true
sorted_rise l = ascending_from_strict place_cmp_total (ascending_of place_cmp l) (sorted-ascending_of place_cmp_total l)

none_of_three : (a p q r : Coordinates) → has place_cmp a (p ∷ q ∷ r ∷ []) ≡ false → (eq_by_cmp place_cmp a p ≡ false) × (eq_by_cmp place_cmp a q ≡ false) × (eq_by_cmp place_cmp a r ≡ false)
none_of_three a p q r none =
    let first = or_parts (eq_by_cmp place_cmp a p) (has place_cmp a (q ∷ r ∷ [])) none in
    let second = or_parts (eq_by_cmp place_cmp a q) (has place_cmp a (r ∷ [])) first.1 in
    (first.0, second.0, (or_parts (eq_by_cmp place_cmp a r) false second.1).0)

-- the third of three tests passes where one does and neither other
third_passes : (s t u : Bool) → (s || (t || (u || false))) ≡ true → s ≡ false → t ≡ false → u ≡ true
third_passes true t u h e f = absurd (false≢true (sym e))
third_passes false true u h e f = absurd (false≢true (sym f))
third_passes false false true h e f = refl
third_passes false false false h e f = absurd (false≢true h)

second_passes : (s t u : Bool) → (s || (t || (u || false))) ≡ true → s ≡ false → u ≡ false → t ≡ true
second_passes true t u h e f = absurd (false≢true (sym e))
second_passes false true u h e f = refl
second_passes false false true h e f = absurd (false≢true (sym f))
second_passes false false false h e f = absurd (false≢true h)

first_passes : (s t u : Bool) → (s || (t || (u || false))) ≡ true → t ≡ false → u ≡ false → s ≡ true
first_passes true t u h e f = refl
first_passes false true u h e f = absurd (false≢true (sym e))
first_passes false false true h e f = absurd (false≢true (sym f))
first_passes false false false h e f = absurd (false≢true h)

module _ (a v : Coordinates) (marks : List CellMark) (cells : AllByRecursion (λ m. is_cell m.cell ≡ true) marks) where
  -- that v and two others are marked if a is none of them
  abbrev IsMarkedOff : List Coordinates → Type 0
  IsMarkedOff c = has place_cmp a c ≡ false → is_marked (moved_marks a v marks) (ascending_of place_cmp c) ≡ true

  other : (p : Coordinates) → eq_by_cmp place_cmp a p ≡ false → to_v a v p ≡ p
  other p e = by (is_same p a) (λ f. false≢true (sym e ∙ subst (λ q. eq_by_cmp place_cmp a q ≡ true) (sym (same_place p a f)) (tied a)))
    where
      by : (b : Bool) → (b ≡ true → ⊥) → cond b v p ≡ p
      by true h = absurd (h refl)
      by false h = refl

  itself : (p : Coordinates) → eq_by_cmp place_cmp a p ≡ true → to_v a v p ≡ v
  itself p e = ap (λ b. cond b v p) (subst (λ q. is_same p q ≡ true) (sym (same_place a p e)) (tied p))

  -- a marked face at a goes to one with v
  faces_go : (p q r : Coordinates) → has place_cmp a (p ∷ q ∷ r ∷ []) ≡ true → has place_cmp v (p ∷ q ∷ r ∷ []) ≡ false → is_marked marks (p ∷ q ∷ r ∷ []) ≡ true
      → AllByRecursion IsMarkedOff (faces_of (v ∷ p ∷ q ∷ r ∷ []))
  faces_go p q r at_a off marked =
      let vs = none_of_three v p q r off in (
        λ none.
            let n = none_of_three a v p q none in
            let moved = itself r (third_passes (eq_by_cmp place_cmp a p) (eq_by_cmp place_cmp a q) (eq_by_cmp place_cmp a r) at_a n.1 n.2) in
            goes (v ∷ p ∷ q ∷ []) (p ∷ q ∷ v ∷ []) (list_is (other p n.1) (other q n.2) moved) (IsPermutation-append_comm (p ∷ q ∷ []) (v ∷ []))
            (λ rise. three_distinct v p q vs.0 vs.1 (apart_three p q r rise).0),
        (
          λ none.
              let n = none_of_three a v p r none in
              let moved = itself q (second_passes (eq_by_cmp place_cmp a p) (eq_by_cmp place_cmp a q) (eq_by_cmp place_cmp a r) at_a n.1 n.2) in
              goes (v ∷ p ∷ r ∷ []) (p ∷ v ∷ r ∷ []) (list_is (other p n.1) moved (other r n.2)) (IsPermutation-append_left (r ∷ []) (p ∷ v ∷ []) (v ∷ p ∷ []) (IsPermutation-append_comm (p ∷ []) (v ∷ [])))
              (λ rise. three_distinct v p r vs.0 vs.2 (apart_three p q r rise).1),
          (
            λ none.
                let n = none_of_three a v q r none in
                let moved = itself p (first_passes (eq_by_cmp place_cmp a p) (eq_by_cmp place_cmp a q) (eq_by_cmp place_cmp a r) at_a n.1 n.2) in
                goes (v ∷ q ∷ r ∷ []) (v ∷ q ∷ r ∷ []) (list_is moved (other q n.1) (other r n.2)) (IsPermutation-refl (v ∷ q ∷ r ∷ []))
                (λ rise. three_distinct v q r vs.1 vs.2 (apart_three p q r rise).2),
            ((λ none. absurd (false≢true (sym none ∙ at_a))), tt),
          ),
        ),
      )
    where
      list_is : {x y z : Coordinates} → to_v a v p ≡ x → to_v a v q ≡ y → to_v a v r ≡ z → map (to_v a v) (p ∷ q ∷ r ∷ []) ≡ x ∷ y ∷ z ∷ []
      list_is e f g = rw (e, f, g) refl

      goes : (c l : List Coordinates) → map (to_v a v) (p ∷ q ∷ r ∷ []) ≡ l → IsPermutation l c → (are_ascending place_cmp (p ∷ q ∷ r ∷ []) ≡ true → are_distinct place_cmp c ≡ true)
          → is_marked (moved_marks a v marks) (ascending_of place_cmp c) ≡ true
      goes c l is order distinct =
          moved_marked a v marks (p ∷ q ∷ r ∷ []) (ascending_of place_cmp c) cells marked
          (λ rise. (subst (λ k. IsPermutation k (ascending_of place_cmp c)) (sym is) (IsPermutation-trans l c (ascending_of place_cmp c) order (ascending_of-permutes c (distinct rise))), sorted_rise c))

module _ (a v : Coordinates) (tets : List Tetrahedron) (marks : List CellMark) (solid : NoneIsFlat tets) (conforming : IsConforming tets marks) (can : CanCollapse a v tets marks)
    (proper : AllByRecursion (λ tet. are_corners tet.corners ≡ true) tets) (cells : AllByRecursion (λ m. is_cell m.cell ≡ true) marks) where
  -- ---- no tetrahedron has a afterwards
  without_a : AllByRecursion (λ tet. (has place_cmp a tet.corners ≡ false) × (is_flat tet.corners ≡ false)) (after a v tets)
  without_a =
      all-append (λ tet. (has place_cmp a tet.corners ≡ false) × (is_flat tet.corners ≡ false)) (rest_of a tets) (flat_map (fill a v) (star_of (a ∷ []) tets))
      (all_two (λ tet. not (holds_all tet.corners (a ∷ [])) ≡ true) (λ tet. is_flat tet.corners ≡ false) (λ tet. (has place_cmp a tet.corners ≡ false) × (is_flat tet.corners ≡ false))
      (λ tet e s. (gone (has place_cmp a tet.corners) e, s)) (rest_of a tets) (filter_passes (λ tet. not (holds_all tet.corners (a ∷ []))) tets)
      (all-filter (λ tet. is_flat tet.corners ≡ false) (λ tet. not (holds_all tet.corners (a ∷ []))) tets solid))
      (all-flat_map (λ _. Unit {0}) (λ tet. (has place_cmp a tet.corners ≡ false) × (is_flat tet.corners ≡ false)) (fill a v)
      (λ tet _. all_weaker (IsCone v tet.phys tet.elem (besides (a ∷ []) tet.corners)) (λ u. (has place_cmp a u.corners ≡ false) × (is_flat u.corners ≡ false))
      (λ u is. (ap (λ t. has place_cmp a t.corners) is.is ∙ has-ascending_of place_cmp_total a (v ∷ besides (a ∷ []) tet.corners) ∙ ap₂ (λ s t. s || t) (apart a v can.differ) (left_out tet.corners), corners_span u.corners is.proper))
      (fill a v tet) (cones_are v tet.phys tet.elem (besides (a ∷ []) tet.corners))) (star_of (a ∷ []) tets) (all_anyway (star_of (a ∷ []) tets)))
    where
      gone : (b : Bool) → not (b && true) ≡ true → b ≡ false
      gone true e = absurd (false≢true e)
      gone false e = refl

      left_out : (corners : List Coordinates) → has place_cmp a (besides (a ∷ []) corners) ≡ false
      left_out corners = has-filter place_cmp-IsAntisymmetric (λ p. not (has place_cmp p (a ∷ []))) a corners ∙ ap (λ b. has place_cmp a corners && not (b || false)) (tied a) ∙ never (has place_cmp a corners)
        where
          never : (b : Bool) → (b && false) ≡ false
          never true = refl
          never false = refl

  pub after_solid : NoneIsFlat (after a v tets)
  after_solid = all_weaker (λ tet. (has place_cmp a tet.corners ≡ false) × (is_flat tet.corners ≡ false)) (λ tet. is_flat tet.corners ≡ false) (λ tet h. h.1) (after a v tets) without_a

  module _ (phys elem : ℤ) (face : List Coordinates) where
    abbrev k : Tetrahedron → Bool
    k tet = is_of phys elem tet && has_face face tet

    -- none has a face with a
    none_with_a : has place_cmp a face ≡ true → odd_of k (after a v tets) ≡ false
    none_with_a held =
        odd-none k (after a v tets) (all_weaker (λ tet. (has place_cmp a tet.corners ≡ false) × (is_flat tet.corners ≡ false)) (λ tet. k tet ≡ false)
        (λ tet h. false_from_ne_true (k tet) (λ e. false≢true (sym h.0 ∙ face_corner a tet.corners face h.1 (and_parts (is_of phys elem tet) (has_face face tet) e).1 held))) (after a v tets) without_a)

    -- the face of a flat cone
    abbrev IsMarkedIfFlat : Facet → Type 0
    IsMarkedIfFlat x = flat_one a v tets marks solid conforming can proper phys elem face x ≡ true → has place_cmp a face ≡ false → is_marked (moved_marks a v marks) face ≡ true

    of_facet : (tet : Tetrahedron) → IsAt a v tets marks solid conforming can tet → AllByRecursion IsMarkedIfFlat (facets_of tet.corners)
    of_facet tet at =
        all_two (λ x. has place_cmp a x.face ≡ false → x ≡ opposite a tet.corners) (λ x. length x.face ≡ 3) IsMarkedIfFlat
        (λ x is three h none.
        let parts = and_parts (not (has place_cmp a x.face && not (is_marked marks x.face)) && (not (has place_cmp v x.face) && is_flat (v ∷ x.face))) _ h in
        let tests = and_parts (not (has place_cmp a x.face && not (is_marked marks x.face))) (not (has place_cmp v x.face) && is_flat (v ∷ x.face)) parts.0 in
        let two = and_parts (not (has place_cmp v x.face)) (is_flat (v ∷ x.face)) tests.1 in
        by x (has place_cmp a x.face) refl is three (not-true (has place_cmp v x.face) two.0) two.1 (is_marked marks x.face) refl tests.0 parts.1 none)
        (facets_of tet.corners) (split a tet.corners at.proper at.corner).each (by_four (λ c. AllByRecursion (λ x. length x.face ≡ 3) (facets_of c)) (λ w x y z _. (refl, (refl, (refl, (refl, tt))))) tet.corners at.proper)
      where
        of_three : (f : List Coordinates) → length f ≡ 3 → has place_cmp a f ≡ true → has place_cmp v f ≡ false → is_marked marks f ≡ true
            → odd_of (λ c. same face (ascending_of place_cmp c)) (faces_of (v ∷ f)) ≡ true → has place_cmp a face ≡ false → is_marked (moved_marks a v marks) face ≡ true
        of_three (p ∷ q ∷ r ∷ []) three at_a off marked odd none =
            let c = odd_some (λ c. same face (ascending_of place_cmp c)) (IsMarkedOff a v marks cells) (faces_of (v ∷ p ∷ q ∷ r ∷ [])) (faces_go a v marks cells p q r at_a off marked) odd in
            let is = same_is face (ascending_of place_cmp c.0) c.1 in
            subst (λ f. is_marked (moved_marks a v marks) f ≡ true) (sym is) (c.2 (sym (has-ascending_of place_cmp_total a c.0) ∙ subst (λ f. has place_cmp a f ≡ false) is none))
        of_three [] three at_a off marked odd none = absurd (omega (arith, three))
        of_three (p ∷ []) three at_a off marked odd none = absurd (omega (arith, three))
        of_three (p ∷ q ∷ []) three at_a off marked odd none = absurd (omega (arith, three))
        of_three (p ∷ q ∷ r ∷ s ∷ l) three at_a off marked odd none = absurd (omega (arith, three))

        across : has place_cmp v (besides (a ∷ []) tet.corners) ≡ false → is_flat (v ∷ besides (a ∷ []) tet.corners) ≡ true → ⊥
        across off flat =
            let away = false_from_ne_true (has place_cmp v tet.corners) (λ e. false≢true (sym off ∙ v_across a v tets marks solid conforming can tet.corners e)) in
            false≢true (sym (not_flat_over v (besides (a ∷ []) tet.corners) a (at.seen away)) ∙ flat)

        by : (x : Facet) (s : Bool) → has place_cmp a x.face ≡ s → (has place_cmp a x.face ≡ false → x ≡ opposite a tet.corners) → length x.face ≡ 3 → has place_cmp v x.face ≡ false → is_flat (v ∷ x.face) ≡ true
            → (m : Bool) → is_marked marks x.face ≡ m → not (has place_cmp a x.face && not (is_marked marks x.face)) ≡ true
            → odd_of (λ c. same face (ascending_of place_cmp c)) (faces_of (v ∷ x.face)) ≡ true → has place_cmp a face ≡ false → is_marked (moved_marks a v marks) face ≡ true
        by x false e is three off flat m f g odd none =
            absurd (across (subst (λ y. has place_cmp v y.face ≡ false) (is e) off) (subst (λ y. is_flat (v ∷ y.face) ≡ true) (is e) flat))
        by x true e is three off flat true f g odd none = of_three x.face three e off f odd none
        by x true e is three off flat false f g odd none = absurd (false≢true (sym (ap₂ (λ s m. not (s && not m)) e f) ∙ g))

    facets_marked : AllByRecursion IsMarkedIfFlat (here_facets a v tets marks solid conforming can proper phys elem face)
    facets_marked =
        all-flat_map (λ corners. AllByRecursion IsMarkedIfFlat (facets_of corners)) IsMarkedIfFlat facets_of (λ corners h. h) (corner_sets (here a v tets marks solid conforming can phys elem))
        (all-map (IsAt a v tets marks solid conforming can) (λ corners. AllByRecursion IsMarkedIfFlat (facets_of corners)) (λ tet. tet.corners) of_facet
        (here a v tets marks solid conforming can phys elem) (here_at a v tets marks solid conforming can phys elem))

  pub odd_are_marked : OddAreMarked (after a v tets) (moved_marks a v marks)
  odd_are_marked phys elem face odd =
      let k : Tetrahedron → Bool = λ tet. is_of phys elem tet && has_face face tet in
      let h : odd_of k (after a v tets) ≡ true = sym (odd_is k (after a v tets)) ∙ odd in
      let none = false_from_ne_true (has place_cmp a face) (λ e. false≢true (sym (none_with_a phys elem face e) ∙ h)) in
      ⊎_elim (λ was.
      moved_marked a v marks face face cells (conforming_odd_are_marked tets marks conforming phys elem face (odd_is k tets ∙ was))
      (λ rise. (subst (λ l. IsPermutation l face) (sym (unmoved a v face none)) (IsPermutation-refl face), rise)))
      (λ flat.
      let one = odd_some (flat_one a v tets marks solid conforming can proper phys elem face) (IsMarkedIfFlat phys elem face) (here_facets a v tets marks solid conforming can proper phys elem face) (facets_marked phys elem face) flat in
      one.2 one.1 none)
      (oddly_after a v tets marks solid conforming can proper phys elem face h)

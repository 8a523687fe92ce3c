-- A mesh whose star of a vertex is filled covers the same, and its odd faces are told.
use Rattle.std.proofs.Common.{◌≡◌, ◌⊎◌, inl, inr, ℕ, ◌+◌, Bool, true, false, cond, not, ◌&&◌, ◌||◌, List, [], ◌∷◌, ◌++◌, filter, refl, sym, ap, ap₂, subst, ◌∙◌, arith}
use Rattle.std.specs.Prelude.{ℤ}
use Rattle.std.specs.Cmp.Lexicographic.{slice_cmp}
use Rattle.std.specs.List.{AllByRecursion, count_by, flat_map}
use Rattle.std.proofs.lemmas.Bool.{false≢true}
use Rattle.std.proofs.lemmas.List.Filters.{sum_by-filter_both}
use Rattle.std.proofs.lemmas.List.Sums.{sum_by-append}
use Rattle.ma_geom.specs.Coordinates.{Coordinates, place_cmp}
use Rattle.ma_geom.specs.Lines.{is_flat}
use Rattle.ma_cells.specs.Ascending.{are_ascending, ascending_of, has}
use Rattle.ma_cells.specs.Cells.{CellMark}
use Rattle.ma_cells.specs.Faces.{faces_of, holds_all}
use Rattle.ma_cells.specs.Meshes.{corner_sets}
use Rattle.ma_cells.specs.Stars.{besides, star_of}
use Rattle.ma_cells.specs.Tetrahedron.{Tetrahedron, are_corners}
use Rattle.ma_cells.proofs.Corners.{corners_rise, corners_span}
use Rattle.ma_cells.proofs.Passing.{all-filter, all-flat_map, all-map, all_anyway, all_weaker}
use Rattle.ma_cover.specs.Inside.{is_inside}
use Rattle.ma_cover.specs.OnFaces.{IsOffFacesOf}
use Rattle.ma_cover.specs.Sound.{IsConforming}
use Rattle.mesh_laws.specs.Covers.{CoverTheSame}
use Rattle.mesh_laws.specs.Parity.{is_odd, listings}
use Rattle.mesh_laws.specs.Points.{NoneIsFlat}
use Rattle.mesh_laws.proofs.Listings.{faces_distinct, same, times_distinct}
use Rattle.mesh_laws.proofs.Lists.{all_items, all_split}
use Rattle.mesh_laws.proofs.Oddly.{odd-append, odd-each, odd-flat_map, odd-parts, odd_is, odd_of, xor, xor_regroup}
use Rattle.cavity_laws.specs.Cavity.{Facet, cone_of, cones, facets_of}
use Rattle.cavity_laws.specs.Parity.{any_cone_of, sorted_faces}
use Rattle.cavity_laws.proofs.Cavities.{cones_solid, filling_keeps_cover}
use Rattle.cavity_laws.proofs.Parity.{ascending_faces, cavity_keeps_parity, odd-map, reordered_same_oddly, sorted_listings}
use Rattle.cavity_laws.proofs.Swaps.{flat_over}
use Rattle.collapse_laws.proofs.Filling.{CanCollapse, cones_reordered, count-filter, count-map, fill, fills_of, here, here_at, here_balanced, here_is_cavity, here_solid, inner, is_of}
use Rattle.collapse_laws.proofs.Stars.{IsCone, cones_are}

odd-filter : {X : Type 0} (p f : X → Bool) (xs : List X) → odd_of f (filter p xs) ≡ odd_of (λ x. p x && f x) xs
odd-filter p f [] = refl
odd-filter p f (x ∷ xs) =
    elim (p x) as (λ b. odd_of f (cond b (x ∷ filter p xs) (filter p xs)) ≡ xor (b && f x) (odd_of (λ x. p x && f x) xs)) [
      | true ↦ ap (xor (f x)) (odd-filter p f xs)
      | false ↦ odd-filter p f xs
    ]

odd-xor : {X : Type 0} (f g : X → Bool) (xs : List X) → odd_of (λ x. xor (f x) (g x)) xs ≡ xor (odd_of f xs) (odd_of g xs)
odd-xor f g [] = refl
odd-xor f g (x ∷ xs) = ap (xor (xor (f x) (g x))) (odd-xor f g xs) ∙ xor_regroup (f x) (g x) (odd_of f xs) (odd_of g xs)

-- whether a tetrahedron has a face
abbrev pub has_face : List Coordinates → Tetrahedron → Bool
has_face face tet = has (slice_cmp place_cmp) face (faces_of tet.corners)

-- an odd number of proper tetrahedra have a face just if it is listed so often
pub odd_listed : (face : List Coordinates) (ts : List Tetrahedron) → AllByRecursion (λ tet. are_corners tet.corners ≡ true) ts
    → odd_of (has_face face) ts ≡ is_odd (listings face (sorted_faces (corner_sets ts)))
odd_listed face ts proper = sym (
    ap (λ l. is_odd (listings face l)) (ascending_faces (corner_sets ts) (all-map (λ tet. are_corners tet.corners ≡ true) (λ c. are_ascending place_cmp c ≡ true) (λ (tet : Tetrahedron). tet.corners) (λ tet h. corners_rise tet.corners h) ts proper))
    ∙ odd_is (same face) (flat_map faces_of (corner_sets ts))
    ∙ odd-flat_map (same face) faces_of (corner_sets ts)
    ∙ odd-map (λ c. odd_of (same face) (faces_of c)) (λ (tet : Tetrahedron). tet.corners) ts
    ∙ odd-each (λ tet. odd_of (same face) (faces_of tet.corners)) (has_face face) ts
    (all_weaker (λ tet. are_corners tet.corners ≡ true) (λ tet. odd_of (same face) (faces_of tet.corners) ≡ has_face face tet)
    (λ tet h. sym (odd_is (same face) (faces_of tet.corners)) ∙ ap is_odd (times_distinct face (faces_of tet.corners) (faces_distinct tet.corners (corners_span tet.corners h))) ∙ one (has_face face tet)) ts proper))
  where
    one : (b : Bool) → is_odd (cond b 1 0) ≡ b
    one true = refl
    one false = refl

-- what fills is made of proper tetrahedra
pub fills_are : (a v : Coordinates) (ts : List Tetrahedron) → AllByRecursion (λ tet. are_corners tet.corners ≡ true) (flat_map (fill a v) ts)
fills_are a v ts =
    all-flat_map (λ _. Unit {0}) (λ tet. are_corners tet.corners ≡ true) (fill a v)
    (λ tet _. all_weaker (IsCone v tet.phys tet.elem (besides (a ∷ []) tet.corners)) (λ u. are_corners u.corners ≡ true) (λ u is. is.proper) (fill a v tet) (cones_are v tet.phys tet.elem (besides (a ∷ []) tet.corners))) ts (all_anyway ts)

-- the tetrahedra that stay
abbrev pub rest_of : Coordinates → List Tetrahedron → List Tetrahedron
rest_of a tets = filter (λ tet. not (holds_all tet.corners (a ∷ []))) tets

-- and those after the collapse, as they come
abbrev pub after : (a v : Coordinates) → List Tetrahedron → List Tetrahedron
after a v tets = rest_of a tets ++ flat_map (fill a v) (star_of (a ∷ []) tets)

module _ (a v : Coordinates) (tets : List Tetrahedron) (marks : List CellMark) (solid : NoneIsFlat tets) (conforming : IsConforming tets marks) (can : CanCollapse a v tets marks) where
  abbrev star : List Tetrahedron
  star = star_of (a ∷ []) tets

  -- ---- the cover
  pub after_covers_the_same : CoverTheSame tets (after a v tets)
  after_covers_the_same phys elem p off off_after =
      let mine = here a v tets marks solid conforming can phys elem in
      let inside : Tetrahedron → Bool = λ tet. is_inside p tet.corners in
      let k : Tetrahedron → Bool = λ tet. is_of phys elem tet && inside tet in
      let filled = sym (count-filter (is_of phys elem) inside (flat_map (fill a v) star)) ∙ ap (count_by inside) (fills_of phys elem a v star) ∙ sym (count-map (is_inside p) (λ (tet : Tetrahedron). tet.corners) (flat_map (fill a v) mine)) in
      let was = count-map (is_inside p) (λ (tet : Tetrahedron). tet.corners) mine ∙ count-filter (is_of phys elem) inside star in
      let Off : Tetrahedron → Type 0 = λ tet. IsOffFacesOf p tet.corners in
      let off_mine = all-map Off (IsOffFacesOf p) (λ tet. tet.corners) (λ tet h. h) mine (all-filter Off (is_of phys elem) star (all-filter Off (λ tet. holds_all tet.corners (a ∷ [])) tets off)) in
      let off_fills = all-filter Off (is_of phys elem) (flat_map (fill a v) star) (all_split Off (rest_of a tets) (flat_map (fill a v) star) off_after).1 in
      let off_filling = all-map Off (IsOffFacesOf p) (λ tet. tet.corners) (λ tet h. h) (flat_map (fill a v) mine) (subst (AllByRecursion Off) (fills_of phys elem a v star) off_fills) in
      let law = filling_keeps_cover p v (inner a v tets marks solid conforming can) (corner_sets mine) (corner_sets (flat_map (fill a v) mine))
      (here_is_cavity a v tets marks solid conforming can phys elem) (cones_reordered a v tets marks solid conforming can mine (here_at a v tets marks solid conforming can phys elem)) off_mine off_filling in
      by (count_by k (after a v tets)) (count_by k (rest_of a tets)) (count_by k (flat_map (fill a v) star)) (count_by k star) (count_by k tets)
      (sum_by-append (λ tet. cond (k tet) 1 0) (rest_of a tets) (flat_map (fill a v) star)) (filled ∙ law ∙ was)
      (sum_by-filter_both (λ tet. holds_all tet.corners (a ∷ [])) (λ tet. not (holds_all tet.corners (a ∷ []))) (λ tet. refl {a = not (holds_all tet.corners (a ∷ []))}) (λ tet. cond (k tet) 1 0) tets)
    where
      by : (s r l t n : ℕ) → s ≡ r + l → l ≡ t → t + r ≡ n → s ≡ n
      by s r l t n e f g = omega arith

  -- ---- faces
  module _ (proper : AllByRecursion (λ tet. are_corners tet.corners ≡ true) tets) (phys elem : ℤ) (face : List Coordinates) where
    abbrev mine : List Tetrahedron
    mine = here a v tets marks solid conforming can phys elem

    abbrev is_inner : List Coordinates → Bool
    is_inner = inner a v tets marks solid conforming can

    -- whether an odd number of the faces of a tetrahedron are the face
    abbrev oddly : List Coordinates → Bool
    oddly corners = odd_of (λ c. same face (ascending_of place_cmp c)) (faces_of corners)

    -- whether the cone over a facet is flat, and has the face
    abbrev pub flat_one : Facet → Bool
    flat_one x = (not (is_inner x.face) && (not (has place_cmp v x.face) && is_flat (v ∷ x.face))) && oddly (v ∷ x.face)

    one_facet : (x : Facet) → odd_of oddly (cone_of v is_inner x) ≡ xor (odd_of oddly (any_cone_of v is_inner x)) (flat_one x)
    one_facet x = by (is_inner x.face) (has place_cmp v x.face) (is_flat (v ∷ x.face)) (flat_over v x.face)
      where
        twice : (b : Bool) → false ≡ xor (xor b false) b
        twice true = refl
        twice false = refl

        none : (b : Bool) → xor b false ≡ xor (xor b false) false
        none true = refl
        none false = refl

        by : (i h f : Bool) → (h ≡ true → f ≡ true)
            → odd_of oddly (cond (i || f) [] ((v ∷ x.face) ∷ [])) ≡ xor (odd_of oddly (cond (i || h) [] ((v ∷ x.face) ∷ []))) ((not i && (not h && f)) && oddly (v ∷ x.face))
        by true h f flat = refl
        by false true true flat = refl
        by false true false flat = absurd (false≢true (flat refl))
        by false false true flat = twice (oddly (v ∷ x.face))
        by false false false flat = none (oddly (v ∷ x.face))

    -- how the cones do
    of_cones : (f : Facet → List (List Coordinates)) (facets : List Facet) → is_odd (listings face (sorted_faces (flat_map f facets))) ≡ odd_of (λ x. odd_of oddly (f x)) facets
    of_cones f facets = sorted_listings face (flat_map f facets) ∙ odd-flat_map (λ c. same face (ascending_of place_cmp c)) faces_of (flat_map f facets) ∙ odd-flat_map oddly f facets

    abbrev pub here_facets : List Facet
    here_facets = flat_map facets_of (corner_sets mine)

    filled_oddly : odd_of (λ tet. is_of phys elem tet && has_face face tet) (flat_map (fill a v) star)
        ≡ xor (odd_of (λ tet. is_of phys elem tet && has_face face tet) star) (odd_of flat_one here_facets)
    filled_oddly =
        let cs = corner_sets mine in
        let at = here_at a v tets marks solid conforming can phys elem in
        sym (odd-filter (is_of phys elem) (has_face face) (flat_map (fill a v) star)) ∙ ap (odd_of (has_face face)) (fills_of phys elem a v star)
        ∙ odd_listed face (flat_map (fill a v) mine) (fills_are a v mine)
        ∙ reordered_same_oddly (cones v is_inner cs) (corner_sets (flat_map (fill a v) mine)) (cones_reordered a v tets marks solid conforming can mine at) (cones_solid v is_inner here_facets) face
        ∙ of_cones (cone_of v is_inner) here_facets
        ∙ odd-each (λ x. odd_of oddly (cone_of v is_inner x)) (λ x. xor (odd_of oddly (any_cone_of v is_inner x)) (flat_one x)) here_facets (all_items _ one_facet here_facets)
        ∙ odd-xor (λ x. odd_of oddly (any_cone_of v is_inner x)) flat_one here_facets
        ∙ ap (λ b. xor b (odd_of flat_one here_facets))
        (sym (of_cones (any_cone_of v is_inner) here_facets)
        ∙ cavity_keeps_parity v is_inner cs (here_solid a v tets marks solid conforming can phys elem) (here_balanced a v tets marks solid conforming can phys elem) face
        ∙ sym (odd_listed face mine (all-filter Proper (is_of phys elem) star (all-filter Proper (λ tet. holds_all tet.corners (a ∷ [])) tets proper))) ∙ odd-filter (is_of phys elem) (has_face face) star)
      where
        Proper : Tetrahedron → Type 0
        Proper tet = are_corners tet.corners ≡ true

    -- a face that an odd number have after it, an odd number had, or an odd number of flat cones have
    pub oddly_after : odd_of (λ tet. is_of phys elem tet && has_face face tet) (after a v tets) ≡ true
        → (odd_of (λ tet. is_of phys elem tet && has_face face tet) tets ≡ true) ⊎ (odd_of flat_one here_facets ≡ true)
    oddly_after h =
        let k : Tetrahedron → Bool = λ tet. is_of phys elem tet && has_face face tet in
        let at : Tetrahedron → Bool = λ tet. holds_all tet.corners (a ∷ []) in
        by (odd_of k (rest_of a tets)) (odd_of k star) (odd_of flat_one here_facets)
        (sym (odd-append k (rest_of a tets) (flat_map (fill a v) star) ∙ ap (xor (odd_of k (rest_of a tets))) filled_oddly) ∙ h)
        (odd-parts at k tets ∙ ap₂ xor (sym (odd-filter at k tets)) (sym (odd-filter (λ tet. not (at tet)) k tets)))
      where
        by : (r s m : Bool) {n : Bool} → xor r (xor s m) ≡ true → n ≡ xor s r → (n ≡ true) ⊎ (m ≡ true)
        by r s true h e = inr refl
        by true true false h e = absurd (false≢true h)
        by true false false h e = inl e
        by false true false h e = inl e
        by false false false h e = absurd (false≢true h)

-- The apex sees the outer faces of a cavity, by the third test.
use Rattle.std.proofs.Common.{◌≡◌, ◌≢◌, ℕ, zero, suc, Bool, true, false, not, cond, ◌&&◌, ◌||◌, ◌==◌, List, [], ◌∷◌, filter, refl, sym, ap, ap₂, subst, ◌∙◌, arith}
use Rattle.std.specs.Prelude.{ℤ, pos, negsuc, int_lt}
use Rattle.std.specs.List.{AllByRecursion, flat_map, list_all}
use Rattle.std.specs.Ordering.{eq_by_cmp}
use Rattle.std.proofs.lemmas.Bool.{and_from, false≢true, or_right}
use Rattle.std.proofs.lemmas.Int.{ints}
use Rattle.ma_geom.specs.Coordinates.{Coordinates, place_cmp}
use Rattle.ma_geom.specs.Lines.{is_flat}
use Rattle.ma_geom.specs.Signs.{same_sign, side_of, sign_of}
use Rattle.ma_geom.specs.Volume.{vol6}
use Rattle.ma_geom.proofs.Identities.{flat_exchange_ab, flat_exchange_bc, flat_exchange_cd}
use Rattle.ma_geom.proofs.PlaceOrder.{place_cmp-IsAntisymmetric}
use Rattle.ma_cells.specs.Ascending.{has}
use Rattle.ma_cells.specs.Faces.{faces_of}
use Rattle.ma_cells.specs.Meshes.{corner_sets}
use Rattle.ma_cells.specs.Stars.{besides}
use Rattle.ma_cells.specs.Tetrahedron.{Tetrahedron, are_tetrahedra}
use Rattle.ma_cells.proofs.Choices.{all-append}
use Rattle.ma_cells.proofs.Members.{at_member, has-filter}
use Rattle.ma_cells.proofs.Passing.{all_pass, all_weaker}
use Rattle.ma_cells.proofs.Permutations.{alone, apart, tied}
use Rattle.ma_cells.proofs.Pieces.{distinct_corners}
use Rattle.ma_cover.specs.Inside.{are_alike}
use Rattle.mesh_laws.proofs.Weights.{by_four}
use Rattle.mesh_laws.proofs.Sounds.{tetrahedra_not_flat}
use Rattle.cavity_laws.specs.Cavity.{AreOnOneSide, Facet, facets_of}
use Rattle.cavity_laws.specs.Swap.{is_between}
use Rattle.cavity_swap.specs.Judging.{outer_faces_are_seen}
use Rattle.cavity_swap.specs.Swapping.{had_by, outer_faces}
use Rattle.swap_laws.proofs.Filled.{IsCounted}

pos_up : (m : ℕ) → int_lt (pos 0) (pos (suc m)) ≡ true
pos_up m = grind (arith, ints)

-- places with one sign, of which one isn't in the plane, are on one side
alike : (s t : ℤ) → t ≢ pos 0 → same_sign (sign_of s) (sign_of t) ≡ true → are_alike t s ≡ true
alike (pos zero) (pos zero) h e = absurd (h refl)
alike (pos zero) (pos (suc n)) h e = absurd (false≢true e)
alike (pos zero) (negsuc n) h e = absurd (false≢true e)
alike (pos (suc m)) (pos zero) h e = absurd (h refl)
alike (pos (suc m)) (pos (suc n)) h e = ap₂ (λ a b. (a && b) || (int_lt (pos (suc n)) (pos 0) && int_lt (pos (suc m)) (pos 0))) (pos_up n) (pos_up m)
alike (pos (suc m)) (negsuc n) h e = absurd (false≢true e)
alike (negsuc m) (pos zero) h e = absurd (h refl)
alike (negsuc m) (pos (suc n)) h e = absurd (false≢true e)
alike (negsuc m) (negsuc n) h e = refl

-- that the corner across from a face isn't on it, and that what is on its side is strictly so
record IsFacet (corners : List Coordinates) (x : Facet) : Type 0 where
  corner : has place_cmp x.across corners ≡ true
  off : has place_cmp x.across x.face ≡ false
  sides : (v : Coordinates) → same_sign (side_of x.face v) (side_of x.face x.across) ≡ true → AreOnOneSide x.face x.across v

away : (a b : Coordinates) → eq_by_cmp place_cmp a b ≡ false → eq_by_cmp place_cmp b a ≡ false
away a b h = apart b a (λ e. false≢true (sym h ∙ subst (λ x. eq_by_cmp place_cmp a x ≡ true) (sym e) (tied a)))

four_facets : (a b c d : Coordinates) → vol6 a b c d ≢ pos 0 → AllByRecursion (IsFacet (a ∷ b ∷ c ∷ d ∷ [])) (facets_of (a ∷ b ∷ c ∷ d ∷ []))
four_facets a b c d h =
    let first = alone (has place_cmp a (b ∷ c ∷ d ∷ [])) _ (distinct_corners a b c d h) in
    let next = alone (has place_cmp b (c ∷ d ∷ [])) _ first.1 in
    let last = alone (has place_cmp c (d ∷ [])) _ next.1 in
    let ab = none3 _ _ _ first.0 in
    let bc = none2 _ _ next.0 in
    let cd = none1 _ last.0 in (
      record { corner = at_d; off = rw (away a d ab.2, away b d bc.1, away c d cd) refl; sides = λ v e. alike _ _ h e },
      (
        record { corner = at_c; off = rw (away a c ab.1, away b c bc.0, cd) refl; sides = λ v e. alike _ _ (λ z. h (flat_exchange_cd a b d c z)) e },
        (
          record { corner = at_b; off = rw (away a b ab.0, bc.0, bc.1) refl; sides = λ v e. alike _ _ (λ z. h (flat_exchange_bc a c b d (flat_exchange_cd a c d b z))) e },
          (record { corner = at_a; off = first.0; sides = λ v e. alike _ _ (λ z. h (flat_exchange_ab b a c d (flat_exchange_bc b c a d (flat_exchange_cd b c d a z)))) e }, tt),
        ),
      ),
    )
  where
    none1 : (s : Bool) → (s || false) ≡ false → s ≡ false
    none1 true h = absurd (false≢true (sym h))
    none1 false h = refl

    none2 : (s t : Bool) → (s || (t || false)) ≡ false → (s ≡ false) × (t ≡ false)
    none2 true t h = absurd (false≢true (sym h))
    none2 false t h = (refl, none1 t h)

    none3 : (s t u : Bool) → (s || (t || (u || false))) ≡ false → (s ≡ false) × (t ≡ false) × (u ≡ false)
    none3 true t u h = absurd (false≢true (sym h))
    none3 false t u h = let r = none2 t u h in (refl, r.0, r.1)

    at_a : has place_cmp a (a ∷ b ∷ c ∷ d ∷ []) ≡ true
    at_a = rw (tied a) refl

    at_b : has place_cmp b (a ∷ b ∷ c ∷ d ∷ []) ≡ true
    at_b = or_right (eq_by_cmp place_cmp b a) _ (rw (tied b) refl)

    at_c : has place_cmp c (a ∷ b ∷ c ∷ d ∷ []) ≡ true
    at_c = or_right (eq_by_cmp place_cmp c a) _ (or_right (eq_by_cmp place_cmp c b) _ (rw (tied c) refl))

    at_d : has place_cmp d (a ∷ b ∷ c ∷ d ∷ []) ≡ true
    at_d = or_right (eq_by_cmp place_cmp d a) _ (or_right (eq_by_cmp place_cmp d b) _ (or_right (eq_by_cmp place_cmp d c) _ (rw (tied d) refl)))

are_facets : (corners : List Coordinates) → is_flat corners ≡ false → AllByRecursion (IsFacet corners) (facets_of corners)
are_facets = by_four (λ corners. AllByRecursion (IsFacet corners) (facets_of corners)) four_facets

-- what all corners besides some pass, a corner passes that isn't one of these
besides_passes : (test : Coordinates → Bool) (places corners : List Coordinates) (d : Coordinates) → list_all test (besides places corners) ≡ true → has place_cmp d corners ≡ true → has place_cmp d places ≡ false → test d ≡ true
besides_passes test places corners d h there off =
    at_member place_cmp-IsAntisymmetric test d (besides places corners) h
    (has-filter place_cmp-IsAntisymmetric (λ p. not (has place_cmp p places)) d corners ∙ and_from (has place_cmp d corners) (not (has place_cmp d places)) there (ap not off))

both_hold : {X : Type 0} (P Q : X → Type 0) (xs : List X) → AllByRecursion P xs → AllByRecursion Q xs → AllByRecursion (λ x. P x × Q x) xs
both_hold P Q [] h k = tt
both_hold P Q (x ∷ xs) h k = ((h.0, k.0), both_hold P Q xs h.1 k.1)

from_filter : {X : Type 0} (P : X → Type 0) (p : X → Bool) (xs : List X) → AllByRecursion P (filter p xs) → AllByRecursion (λ x. p x ≡ true → P x) xs
from_filter P p [] h = tt
from_filter P p (x ∷ xs) h =
    elim (p x) as (λ b. p x ≡ b → AllByRecursion P (cond b (x ∷ filter p xs) (filter p xs)) → AllByRecursion (λ y. p y ≡ true → P y) (x ∷ xs)) [
      | true ↦ λ e k. ((λ _. k.0), from_filter P p xs k.1)
      | false ↦ λ e k. ((λ f. absurd (false≢true (sym e ∙ f))), from_filter P p xs k)
    ] refl h

-- what holds of the faces of a tetrahedron holds of its facets' faces
on_facets : (P : List Coordinates → Type 0) (corners : List Coordinates) → is_flat corners ≡ false → AllByRecursion P (faces_of corners) → AllByRecursion (λ x. P x.face) (facets_of corners)
on_facets P = by_four (λ corners. AllByRecursion P (faces_of corners) → AllByRecursion (λ x. P x.face) (facets_of corners)) (λ a b c d _ h. (h.0, (h.1.0, (h.1.1.0, (h.1.1.1.0, tt)))))

module _ (star : List Tetrahedron) (v : Coordinates) where
  abbrev IsSeen : Facet → Type 0
  IsSeen x = (had_by star x.face == 1) ≡ true → has place_cmp v x.face ≡ false → AreOnOneSide x.face x.across v

  abbrev sees : List Coordinates → List Coordinates → Bool
  sees corners face = has place_cmp v face || list_all (λ d. same_sign (side_of face v) (side_of face d)) (besides face corners)

  abbrev OuterSees : List Coordinates → List Coordinates → Type 0
  OuterSees corners f = (had_by star f == 1) ≡ true → sees corners f ≡ true

  second : (a b : Bool) → a ≡ false → (a || b) ≡ true → b ≡ true
  second true b e h = absurd (false≢true (sym e))
  second false b e h = h

  seen_here : (corners : List Coordinates) → is_flat corners ≡ false → list_all (sees corners) (filter (λ f. had_by star f == 1) (faces_of corners)) ≡ true → AllByRecursion IsSeen (facets_of corners)
  seen_here corners solid h =
      all_weaker (λ x. IsFacet corners x × OuterSees corners x.face) IsSeen
      (λ x both outer off. both.0.sides v (besides_passes (λ d. same_sign (side_of x.face v) (side_of x.face d)) x.face corners x.across (second _ _ off (both.1 outer)) both.0.corner both.0.off))
      (facets_of corners)
      (both_hold (IsFacet corners) (λ x. OuterSees corners x.face) (facets_of corners) (are_facets corners solid)
      (on_facets (OuterSees corners) corners solid
      (from_filter (λ f. sees corners f ≡ true) (λ f. had_by star f == 1) (faces_of corners) (all_pass (sees corners) (filter (λ f. had_by star f == 1) (faces_of corners)) h))))

  seen_by : (tets : List Tetrahedron) → AllByRecursion (λ tet. is_flat tet.corners ≡ false) tets → AllByRecursion (λ tet. list_all (sees tet.corners) (outer_faces star tet) ≡ true) tets → AllByRecursion IsSeen (flat_map facets_of (corner_sets tets))
  seen_by [] solid h = tt
  seen_by (tet ∷ tets) solid h = all-append IsSeen (facets_of tet.corners) (flat_map facets_of (corner_sets tets)) (seen_here tet.corners solid.0 h.0) (seen_by tets solid.1 h.1)

  pub all_seen : are_tetrahedra star ≡ true → AllByRecursion (IsCounted star) (flat_map facets_of (corner_sets star)) → outer_faces_are_seen star v ≡ true
      → AllByRecursion (λ x. is_between (corner_sets star) x.face ≡ false → has place_cmp v x.face ≡ false → AreOnOneSide x.face x.across v) (flat_map facets_of (corner_sets star))
  all_seen proper counted h =
      all_weaker (λ x. IsCounted star x × IsSeen x) (λ x. is_between (corner_sets star) x.face ≡ false → has place_cmp v x.face ≡ false → AreOnOneSide x.face x.across v)
      (λ x both outer. both.1 (both.0.outer ∙ ap not outer))
      (flat_map facets_of (corner_sets star))
      (both_hold (IsCounted star) IsSeen (flat_map facets_of (corner_sets star)) counted
      (seen_by star (tetrahedra_not_flat star proper) (all_pass (λ (tet : Tetrahedron). list_all (sees tet.corners) (outer_faces star tet)) star h)))

-- How many of a cavity have a face.
use Rattle.std.proofs.Common.{◌≡◌, ◌≢◌, ℕ, ◌+◌, ◌≤◌, ◌==◌, Bool, true, false, not, cond, ◌||◌, List, [], ◌∷◌, length, refl, sym, ap, ◌∙◌, arith}
use Rattle.std.specs.Cmp.Lexicographic.{slice_cmp}
use Rattle.std.specs.List.{AllByRecursion, AllPairs, flat_map}
use Rattle.std.proofs.lemmas.Bool.{or_right, false≢true}
use Rattle.std.proofs.lemmas.Bool.Decides.{nat_tests}
use Rattle.std.specs.Prelude.{pos}
use Rattle.ma_geom.specs.Volume.{vol6}
use Rattle.ma_geom.specs.Coordinates.{Coordinates, place_cmp}
use Rattle.ma_geom.proofs.PlaceOrder.{place_cmp_total}
use Rattle.ma_cells.specs.Ascending.{are_ascending, has}
use Rattle.ma_cells.specs.Faces.{faces_of, holds_all}
use Rattle.ma_cells.specs.Meshes.{corner_sets}
use Rattle.ma_cells.specs.Tetrahedron.{Tetrahedron, are_corners, are_tetrahedra}
use Rattle.ma_cells.proofs.Ascents.{strict_from_ascending}
use Rattle.ma_cells.proofs.Choices.{all-append, choices-ascend, has-choices}
use Rattle.ma_cells.proofs.Corners.{corners_rise, corners_span}
use Rattle.ma_cells.proofs.Passing.{all-map, all_pass, all_weaker}
use Rattle.ma_geom.specs.Lines.{is_flat}
use Rattle.mesh_laws.proofs.Listings.{same, same_itself}
use Rattle.mesh_laws.proofs.Lists.{count-alike, count-cons}
use Rattle.mesh_laws.proofs.Weights.{by_four}
use Rattle.cavity_laws.specs.Balance.{had_by as had_of_sets}
use Rattle.cavity_laws.specs.Cavity.{Facet, facets_of}
use Rattle.cavity_swap.specs.Swapping.{had_by}
use Rattle.ma_cover.specs.Sound.{LieOnBothSides}
use Rattle.mesh_laws.proofs.BothSides.{BothSides, Pairs, pairs_from, pairs_to}
use Rattle.mesh_laws.proofs.MovedOff.{corners_of}
use Rattle.mesh_laws.proofs.Sounds.{tetrahedra_not_flat}
use Rattle.cavity_laws.proofs.Balance.{faces_are_balanced}
use Rattle.swap_laws.proofs.Filled.{IsCounted}
use Rattle.collapse_laws.proofs.Filling.{count-map}

-- that a facet is a face of corners, with its own in ascending order
record IsFace (corners : List Coordinates) (x : Facet) : Type 0 where
  there : has (slice_cmp place_cmp) x.face (faces_of corners) ≡ true
  rises : are_ascending place_cmp x.face ≡ true
  three : length x.face ≡ 3

facets_are_faces : (corners : List Coordinates) → are_ascending place_cmp corners ≡ true → is_flat corners ≡ false → AllByRecursion (IsFace corners) (facets_of corners)
facets_are_faces corners up solid = by_four (λ c. are_ascending place_cmp c ≡ true → AllByRecursion (IsFace c) (facets_of c)) four corners solid up
  where
    four : (a b c d : Coordinates) → vol6 a b c d ≢ pos 0 → are_ascending place_cmp (a ∷ b ∷ c ∷ d ∷ []) ≡ true → AllByRecursion (IsFace (a ∷ b ∷ c ∷ d ∷ [])) (facets_of (a ∷ b ∷ c ∷ d ∷ []))
    four a b c d _ up =
        let rise = all_pass (are_ascending place_cmp) (faces_of (a ∷ b ∷ c ∷ d ∷ [])) (choices-ascend place_cmp_total 3 (a ∷ b ∷ c ∷ d ∷ []) up) in
        let first = a ∷ b ∷ c ∷ [] in
        let second = a ∷ b ∷ d ∷ [] in
        let third = a ∷ c ∷ d ∷ [] in
        let fourth = b ∷ c ∷ d ∷ [] in (
          record { there = it first (second ∷ third ∷ fourth ∷ []); rises = rise.0; three = refl },
          (
            record { there = or_right (same second first) _ (it second (third ∷ fourth ∷ [])); rises = rise.1.0; three = refl },
            (
              record { there = or_right (same third first) _ (or_right (same third second) _ (it third (fourth ∷ []))); rises = rise.1.1.0; three = refl },
              (record { there = or_right (same fourth first) _ (or_right (same fourth second) _ (or_right (same fourth third) _ (it fourth []))); rises = rise.1.1.1.0; three = refl }, tt),
            ),
          ),
        )
      where
        it : (f : List Coordinates) (fs : List (List Coordinates)) → has (slice_cmp place_cmp) f (f ∷ fs) ≡ true
        it f fs = ap (λ b. b || has (slice_cmp place_cmp) f fs) (same_itself f)

-- as many hold its corners as have it
pub holders_are : (all : List Tetrahedron) → are_tetrahedra all ≡ true → (face : List Coordinates) → are_ascending place_cmp face ≡ true → length face ≡ 3 → had_by all face ≡ had_of_sets face (corner_sets all)
holders_are all proper (x ∷ y ∷ z ∷ []) up e =
    let face : List Coordinates = x ∷ y ∷ z ∷ [] in
    count-alike (λ (tet : Tetrahedron). holds_all tet.corners face) (λ tet. has (slice_cmp place_cmp) face (faces_of tet.corners)) all
    (all_weaker (λ (tet : Tetrahedron). are_corners tet.corners ≡ true) (λ tet. holds_all tet.corners face ≡ has (slice_cmp place_cmp) face (faces_of tet.corners))
    (λ tet h. sym (has-choices place_cmp_total face tet.corners (strict_from_ascending place_cmp_total face up) (strict_from_ascending place_cmp_total tet.corners (corners_rise tet.corners h)))) all
    (all_pass (λ (tet : Tetrahedron). are_corners tet.corners) all proper))
    ∙ sym (count-map (λ corners. has (slice_cmp place_cmp) face (faces_of corners)) (λ (tet : Tetrahedron). tet.corners) all)
holders_are all proper [] up e = absurd (omega (arith, e))
holders_are all proper (a ∷ []) up e = absurd (omega (arith, e))
holders_are all proper (a ∷ b ∷ []) up e = absurd (omega (arith, e))
holders_are all proper (a ∷ b ∷ c ∷ d ∷ l) up e = absurd (omega (arith, e))

one_or_two : (m n : ℕ) → m ≡ n → 1 ≤ n → n ≤ 2 → (m == 1) ≡ not (n == 2)
one_or_two m n e f g = grind (arith, nat_tests)

-- that a facet of a cavity is a face that one or two of it have, with its corners in ascending order
record IsHeld (all : List Tetrahedron) (x : Facet) : Type 0 where
  held : 1 ≤ had_of_sets x.face (corner_sets all)
  rises : are_ascending place_cmp x.face ≡ true
  three : length x.face ≡ 3

all_held : (all : List Tetrahedron) → AllByRecursion (λ tet. are_corners tet.corners ≡ true) all → AllByRecursion (IsHeld all) (flat_map facets_of (corner_sets all))
all_held [] proper = tt
all_held (t ∷ ts) proper =
    all-append (IsHeld (t ∷ ts)) (facets_of t.corners) (flat_map facets_of (corner_sets ts))
    (all_weaker (IsFace t.corners) (IsHeld (t ∷ ts)) (λ x f. record { held = one _ _ _ f.there (had_cons x.face); rises = f.rises; three = f.three }) (facets_of t.corners) (facets_are_faces t.corners (corners_rise t.corners proper.0) (corners_span t.corners proper.0)))
    (all_weaker (IsHeld ts) (IsHeld (t ∷ ts)) (λ x f. record { held = more (has (slice_cmp place_cmp) x.face (faces_of t.corners)) _ _ f.held (had_cons x.face); rises = f.rises; three = f.three }) (flat_map facets_of (corner_sets ts)) (all_held ts proper.1))
  where
    had_cons : (face : List Coordinates) → had_of_sets face (corner_sets (t ∷ ts)) ≡ cond (has (slice_cmp place_cmp) face (faces_of t.corners)) 1 0 + had_of_sets face (corner_sets ts)
    had_cons face = count-cons (λ corners. has (slice_cmp place_cmp) face (faces_of corners)) t.corners (corner_sets ts)

    one : (b : Bool) (n m : ℕ) → b ≡ true → m ≡ cond b 1 0 + n → 1 ≤ m
    one true n m e f = omega arith
    one false n m e f = absurd (false≢true e)

    more : (b : Bool) (n m : ℕ) → 1 ≤ n → m ≡ cond b 1 0 + n → 1 ≤ m
    more true n m e f = omega arith
    more false n m e f = omega arith

pairs_map : (tets : List Tetrahedron) → Pairs (BothSides corners_of) tets → Pairs LieOnBothSides (corner_sets tets)
pairs_map [] h = tt
pairs_map (tet ∷ tets) h = (all-map (BothSides corners_of tet) (LieOnBothSides tet.corners) corners_of (λ t k. k) tets h.0, pairs_map tets h.1)

pub set_sides : (tets : List Tetrahedron) → AllPairs (λ s t. LieOnBothSides s.corners t.corners) tets → AllPairs LieOnBothSides (corner_sets tets)
set_sides tets sides = pairs_to LieOnBothSides (corner_sets tets) (pairs_map tets (pairs_from (BothSides corners_of) tets sides))

pub set_solid : (tets : List Tetrahedron) → are_tetrahedra tets ≡ true → AllByRecursion (λ corners. is_flat corners ≡ false) (corner_sets tets)
set_solid tets proper = all-map (λ (tet : Tetrahedron). is_flat tet.corners ≡ false) (λ corners. is_flat corners ≡ false) corners_of (λ t k. k) tets (tetrahedra_not_flat tets proper)

-- a face of a cavity is had by one or by two of it
pub star_counted : (star : List Tetrahedron) → are_tetrahedra star ≡ true → AllPairs (λ s t. LieOnBothSides s.corners t.corners) star → AllByRecursion (IsCounted star) (flat_map facets_of (corner_sets star))
star_counted star proper sides =
    all_weaker (IsHeld star) (IsCounted star)
    (λ x h. record { outer = one_or_two _ _ (holders_are star proper x.face h.rises h.three) h.held (faces_are_balanced (corner_sets star) (set_solid star proper) (set_sides star sides) x.face).0; three = h.three })
    (flat_map facets_of (corner_sets star)) (all_held star (all_pass (λ (tet : Tetrahedron). are_corners tet.corners) star proper))

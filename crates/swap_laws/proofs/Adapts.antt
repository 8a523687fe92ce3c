-- A legal swap keeps all.
use Rattle.std.proofs.Common.{◌≡◌, ℕ, ◌≤◌, true, false, not, List, [], ◌∷◌, ◌++◌, filter, length, refl, sym, ap, subst, ◌∙◌}
use Rattle.std.specs.Prelude.{ℤ, pos}
use Rattle.std.specs.List.{AllByRecursion, AllPairs, flat_map}
use Rattle.std.specs.List.Sorted.{IsPermutation}
use Rattle.std.specs.declared.cmp.Ordering.{Ordering}
use Rattle.std.proofs.lemmas.List.Sorted.{IsPermutation-append_comm, IsPermutation-filter_both, IsPermutation-sym, IsPermutation-trans, list_any-IsPermutation, sum_by-IsPermutation}
use Rattle.std.proofs.lemmas.List.Kept.{AllPairs-filter}
use Rattle.ma_geom.specs.Coordinates.{Coordinates, place_cmp}
use Rattle.ma_geom.specs.Lines.{is_flat}
use Rattle.ma_cells.specs.Ascending.{are_ascending, are_distinct, ascending_of, has}
use Rattle.ma_cells.specs.Cells.{CellMark, corners_of}
use Rattle.ma_cells.specs.Faces.{holds_all}
use Rattle.ma_cells.specs.Incidence.{is_on}
use Rattle.ma_cells.specs.Meshes.{corner_sets}
use Rattle.ma_cells.specs.Stars.{cone, marks_at, star_of}
use Rattle.ma_cells.specs.Tetrahedron.{Tetrahedron, are_corners, are_tetrahedra, tet_cmp}
use Rattle.ma_cells.specs.declared.batch.Batch.{Batch}
use Rattle.ma_cells.proofs.CellOrders.{tet_cmp_total}
use Rattle.ma_cells.proofs.Choices.{all-append}
use Rattle.ma_cells.proofs.Passing.{all-filter, all-flat_map, all-permutation, all_anyway, all_pass, all_weaker, test_all}
use Rattle.ma_cells.proofs.Permutations.{alone, distinct-permutes, listed_once-distinct}
use Rattle.ma_cells.proofs.SetItems.{all-ascending_of}
use Rattle.ma_cover.specs.OnFaces.{IsOffFacesOf}
use Rattle.ma_cover.specs.Sound.{IsSound, LieOnBothSides}
use Rattle.ma_cover.proofs.SoundOrder.{sound_in_any_order}
use Rattle.mesh_laws.specs.Adapted.{IsAdapted, IsSoundMesh}
use Rattle.mesh_laws.specs.Covers.{CoverTheSame}
use Rattle.mesh_laws.specs.Parity.{is_odd}
use Rattle.mesh_laws.proofs.Listings.{holders_are_listings}
use Rattle.mesh_laws.proofs.Sounds.{conforming_is_listed_once, tetrahedra_not_flat}
use Rattle.cavity_laws.specs.Filled.{AreReordered}
use Rattle.cavity_laws.specs.Cavity.{cones}
use Rattle.cavity_laws.specs.Replaced.{AreOfRegion, CanReplace}
use Rattle.cavity_laws.specs.Swap.{IsSwappable, is_between}
use Rattle.cavity_laws.proofs.Replaced.{replaced_stays_sound, swap_can_replace}
use Rattle.cavity_rank.specs.declared.verdict.Verdict.TheVariants.{Legal}
use Rattle.cavity_swap.specs.Judging.{has_one_region, judged_swap, is_bare, outer_faces_are_seen, swap_tests}
use Rattle.cavity_swap.specs.Swapping.{outer_faces, swapped}
use Rattle.collapse_laws.proofs.Stars.{IsCone, cones_are}
use Rattle.swap_laws.specs.Swaps.{LegalSwapAdapts}
use Rattle.swap_laws.proofs.Counted.{set_sides, set_solid, star_counted}
use Rattle.collapse_laws.proofs.Filling.{filter_passes}
use Rattle.swap_laws.proofs.Seen.{all_seen}
use Rattle.swap_laws.proofs.Stays.{all_stay}
use Rattle.swap_laws.proofs.Cells.{all_true, one_region}
use Rattle.swap_laws.proofs.Filled.{cones_reordered}

-- what fills a cavity, as a list
abbrev filling : Coordinates → (phys elem : ℤ) → List Tetrahedron → List Tetrahedron
filling v phys elem star = flat_map (λ tet. flat_map (cone v phys elem) (outer_faces star tet)) star

distinct_end : {K : Type 0} (R : K → K → Ordering) (xs ys : List K) → are_distinct R (xs ++ ys) ≡ true → are_distinct R ys ≡ true
distinct_end R [] ys h = h
distinct_end R (x ∷ xs) ys h = distinct_end R xs ys (alone (has R x (xs ++ ys)) (are_distinct R (xs ++ ys)) h).1

-- of what fills it each is a tetrahedron of the region
fills_are : (v : Coordinates) (phys elem : ℤ) (star : List Tetrahedron)
    → AllByRecursion (λ tet. (are_corners tet.corners ≡ true) × ((tet.phys ≡ phys) × (tet.elem ≡ elem))) (filling v phys elem star)
fills_are v phys elem star =
    all-flat_map (λ (tet : Tetrahedron). Unit {0}) Is (λ tet. flat_map (cone v phys elem) (outer_faces star tet))
    (λ tet _. all-flat_map (λ (face : List Coordinates). Unit {0}) Is (cone v phys elem) (λ face _. all_weaker (IsCone v phys elem face) Is (λ t is. (is.proper, (ap (λ (u : Tetrahedron). u.phys) is.is, ap (λ (u : Tetrahedron). u.elem) is.is))) (cone v phys elem face) (cones_are v phys elem face))
    (outer_faces star tet) (all_anyway (outer_faces star tet))) star (all_anyway star)
  where
    Is : Tetrahedron → Type 0
    Is tet = (are_corners tet.corners ≡ true) × ((tet.phys ≡ phys) × (tet.elem ≡ elem))

-- what can stand in the place of a cavity can do so as a set, if no tetrahedron of it is listed twice
as_set : (cavity filled : List Tetrahedron) (marks : List CellMark) → are_distinct tet_cmp filled ≡ true → CanReplace cavity filled marks → CanReplace cavity (ascending_of tet_cmp filled) marks
as_set cavity filled marks distinct can =
    let set = ascending_of tet_cmp filled in
    let order = distinct-permutes tet_cmp_total filled distinct in
    let solid = all-ascending_of tet_cmp (λ tet. is_flat tet.corners ≡ false) filled can.solid in
    let back = IsPermutation-sym filled set order in record {
      solid = solid;
      cover = λ phys elem p off off_set. sum_by-IsPermutation _ filled set order ∙ can.cover phys elem p off (all-permutation (λ tet. IsOffFacesOf p tet.corners) set filled back off_set);
      faces = λ phys elem face.
          ap is_odd (sym (holders_are_listings set solid phys elem face) ∙ sum_by-IsPermutation _ filled set order ∙ holders_are_listings filled can.solid phys elem face)
          ∙ can.faces phys elem face;
      cells = all_weaker (λ mark. is_on cavity mark.cell ≡ true → is_on filled mark.cell ≡ true) (λ mark. is_on cavity mark.cell ≡ true → is_on set mark.cell ≡ true)
          (λ mark more on. list_any-IsPermutation (λ tet. holds_all tet.corners (corners_of mark.cell)) set filled back ∙ more on) marks can.cells;
    }

module _ (mesh : Batch) (at : List Coordinates) (sound : IsSoundMesh mesh) where
  abbrev star : List Tetrahedron
  star = star_of at mesh.tets

  abbrev rest : List Tetrahedron
  rest = filter (λ tet. not (holds_all tet.corners at)) mesh.tets

  in_parts : IsPermutation mesh.tets (rest ++ star)
  in_parts =
      IsPermutation-trans mesh.tets (star ++ rest) (rest ++ star)
      (IsPermutation-filter_both (λ (tet : Tetrahedron). holds_all tet.corners at) (λ tet. not (holds_all tet.corners at)) (λ _. refl) mesh.tets) (IsPermutation-append_comm star rest)

  kept : (filled : List Tetrahedron) → CanReplace star filled mesh.marks → IsSound (rest ++ filled) mesh.marks × CoverTheSame (rest ++ star) (rest ++ filled)
  kept filled can =
      replaced_stays_sound star filled rest mesh.marks (sound_in_any_order mesh.tets (rest ++ star) mesh.marks in_parts sound.sound)
      (all-permutation (λ tet. is_flat tet.corners ≡ false) mesh.tets (rest ++ star) in_parts (tetrahedra_not_flat mesh.tets sound.tetrahedra)) can

  now_tetrahedra : (filled : List Tetrahedron) → are_tetrahedra filled ≡ true → are_tetrahedra (rest ++ filled) ≡ true
  now_tetrahedra filled proper =
      test_all (λ (tet : Tetrahedron). are_corners tet.corners) (rest ++ filled)
      (all-append (λ tet. are_corners tet.corners ≡ true) rest filled
      (all-filter (λ tet. are_corners tet.corners ≡ true) (λ tet. not (holds_all tet.corners at)) mesh.tets (all_pass (λ (tet : Tetrahedron). are_corners tet.corners) mesh.tets sound.tetrahedra))
      (all_pass (λ (tet : Tetrahedron). are_corners tet.corners) filled proper))

  -- no tetrahedron of what fills the cavity is listed twice, since the mesh then is sound
  filled_distinct : (filled : List Tetrahedron) → CanReplace star filled mesh.marks → are_tetrahedra filled ≡ true → are_distinct tet_cmp filled ≡ true
  filled_distinct filled can proper =
      distinct_end tet_cmp rest filled
      (listed_once-distinct (rest ++ filled) (conforming_is_listed_once (rest ++ filled) mesh.marks (kept filled can).0.conforming (tetrahedra_not_flat (rest ++ filled) (now_tetrahedra filled proper))))

  adapted : (filled : List Tetrahedron) → CanReplace star filled mesh.marks → are_tetrahedra filled ≡ true → IsAdapted mesh (record { tets = rest ++ filled; marks = mesh.marks })
  adapted filled can proper =
      let done = kept filled can in record {
        sound = record { tetrahedra = now_tetrahedra filled proper; cells = sound.cells; sound = done.0 };
        cover = λ phys elem p off off_now. done.1 phys elem p (all-permutation (λ tet. IsOffFacesOf p tet.corners) mesh.tets (rest ++ star) in_parts off) off_now ∙ sum_by-IsPermutation _ mesh.tets (rest ++ star) in_parts;
        classification = λ d phys elem p _. ((λ h. h), (λ h. h));
      }

-- the third test says that the apex sees the outer faces
star_swappable : (star : List Tetrahedron) (v : Coordinates) → are_tetrahedra star ≡ true → AllPairs (λ s t. LieOnBothSides s.corners t.corners) star → outer_faces_are_seen star v ≡ true → IsSwappable v (corner_sets star)
star_swappable star v proper sides seen = record { solid = set_solid star proper; sides = set_sides star sides; seen = all_seen star v proper (star_counted star proper sides) seen }

-- marked cells stay: by the second test each lies on an outer face, and that an odd number of the filling have
cells_stay : (mesh : Batch) (at : List Coordinates) (v : Coordinates) (phys elem : ℤ) → IsSoundMesh mesh → are_ascending place_cmp at ≡ true → 2 ≤ length at
    → is_bare (marks_at at mesh.marks) at (star_of at mesh.tets) ≡ true → IsSwappable v (corner_sets (star_of at mesh.tets))
    → AreReordered (cones v (is_between (corner_sets (star_of at mesh.tets))) (corner_sets (star_of at mesh.tets))) (corner_sets (filling v phys elem (star_of at mesh.tets)))
    → AllByRecursion (λ mark. is_on (star_of at mesh.tets) mark.cell ≡ true → is_on (filling v phys elem (star_of at mesh.tets)) mark.cell ≡ true) mesh.marks
cells_stay mesh at v phys elem sound rises long bare swappable reordered =
    let star = star_of at mesh.tets in
    let all_proper = all_pass (λ (tet : Tetrahedron). are_corners tet.corners) mesh.tets sound.tetrahedra in
    let made = all_weaker (λ (tet : Tetrahedron). (are_corners tet.corners ≡ true) × ((tet.phys ≡ phys) × (tet.elem ≡ elem))) (λ tet. are_corners tet.corners ≡ true) (λ tet h. h.0) (filling v phys elem star) (fills_are v phys elem star) in
    all_stay at v star (filling v phys elem star) (test_all (λ (tet : Tetrahedron). are_corners tet.corners) star (all-filter (λ tet. are_corners tet.corners ≡ true) (λ tet. holds_all tet.corners at) mesh.tets all_proper))
    (AllPairs-filter (λ (s t : Tetrahedron). LieOnBothSides s.corners t.corners) (λ tet. holds_all tet.corners at) mesh.tets sound.sound.conforming.sides)
    (filter_passes (λ (tet : Tetrahedron). holds_all tet.corners at) mesh.tets) made swappable reordered rises long mesh.marks bare sound.cells

-- that tetrahedra can stand in the place of those at these corners
abbrev CanStand : Batch → List Coordinates → List Tetrahedron → Type 0
CanStand mesh at filled = CanReplace (star_of at mesh.tets) filled mesh.marks × (are_tetrahedra filled ≡ true)

-- what a legal swap leaves can stand in the place of what it takes
pub legal_swap_can_replace : (mesh : Batch) (at : List Coordinates) (v : Coordinates) (worst : ℕ) → IsSoundMesh mesh → are_ascending place_cmp at ≡ true → 2 ≤ length at
    → judged_swap (star_of at mesh.tets) (marks_at at mesh.marks) at v ≡ Legal worst
    → CanReplace (star_of at mesh.tets) (swapped v (star_of at mesh.tets)) mesh.marks × (are_tetrahedra (swapped v (star_of at mesh.tets)) ≡ true)
legal_swap_can_replace mesh at v worst sound rises long legal = by (star_of at mesh.tets) refl
  where
    proper : are_tetrahedra (star_of at mesh.tets) ≡ true
    proper =
        test_all (λ (tet : Tetrahedron). are_corners tet.corners) (star_of at mesh.tets)
        (all-filter (λ tet. are_corners tet.corners ≡ true) (λ tet. holds_all tet.corners at) mesh.tets (all_pass (λ (tet : Tetrahedron). are_corners tet.corners) mesh.tets sound.tetrahedra))

    sides : AllPairs (λ s t. LieOnBothSides s.corners t.corners) (star_of at mesh.tets)
    sides = AllPairs-filter (λ (s t : Tetrahedron). LieOnBothSides s.corners t.corners) (λ tet. holds_all tet.corners at) mesh.tets sound.sound.conforming.sides

    in_region : (phys elem : ℤ) → AreOfRegion phys elem (star_of at mesh.tets) → CanStand mesh at (ascending_of tet_cmp (filling v phys elem (star_of at mesh.tets)))
    in_region phys elem region =
        let star = star_of at mesh.tets in
        let filled = filling v phys elem star in
        let tests = all_true 1 _ worst (swap_tests star (marks_at at mesh.marks) at v) legal in
        let fills = fills_are v phys elem star in
        let fill_proper = all_weaker (λ (tet : Tetrahedron). (are_corners tet.corners ≡ true) × ((tet.phys ≡ phys) × (tet.elem ≡ elem))) (λ tet. are_corners tet.corners ≡ true) (λ tet h. h.0) filled fills in
        let swappable = star_swappable star v proper sides tests.1.1.0 in
        let reordered = cones_reordered v phys elem star star (tetrahedra_not_flat star proper) (star_counted star proper sides) in
        let are = test_all (λ (tet : Tetrahedron). are_corners tet.corners) filled fill_proper in
        let can = swap_can_replace v phys elem star filled mesh.marks region (all_weaker (λ (tet : Tetrahedron). (are_corners tet.corners ≡ true) × ((tet.phys ≡ phys) × (tet.elem ≡ elem))) (λ tet. (tet.phys ≡ phys) × (tet.elem ≡ elem)) (λ tet h. h.1) filled fills)
        proper are swappable reordered (cells_stay mesh at v phys elem sound rises long tests.1.0 swappable reordered) in (
          as_set star filled mesh.marks (filled_distinct mesh at sound filled can are) can,
          test_all (λ (tet : Tetrahedron). are_corners tet.corners) (ascending_of tet_cmp filled) (all-ascending_of tet_cmp (λ tet. are_corners tet.corners ≡ true) filled fill_proper),
        )

    one : has_one_region (star_of at mesh.tets) ≡ true
    one = (all_true 1 _ worst (swap_tests (star_of at mesh.tets) (marks_at at mesh.marks) at v) legal).0

    by : (star : List Tetrahedron) → star_of at mesh.tets ≡ star → CanStand mesh at (swapped v (star_of at mesh.tets))
    by [] e = subst (λ s. CanStand mesh at (swapped v s)) (sym e)
        (subst (λ s. CanStand mesh at (ascending_of tet_cmp (filling v (pos 0) (pos 0) s))) e (in_region (pos 0) (pos 0) (subst (AreOfRegion (pos 0) (pos 0)) (sym e) tt)))
    by (first ∷ others) e = subst (λ s. CanStand mesh at (swapped v s)) (sym e)
        (subst (λ s. CanStand mesh at (ascending_of tet_cmp (filling v first.phys first.elem s))) e
        (in_region first.phys first.elem (subst (AreOfRegion first.phys first.elem) (sym e) (one_region first others (subst (λ s. has_one_region s ≡ true) e one)))))

pub legal_swap_adapts : LegalSwapAdapts
legal_swap_adapts mesh at v worst sound rises long legal =
    let can = legal_swap_can_replace mesh at v worst sound rises long legal in
    adapted mesh at sound (swapped v (star_of at mesh.tets)) can.0 can.1

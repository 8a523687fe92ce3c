-- A part of a sound mesh can be replaced, as by a swap.
use Rattle.std.proofs.Common.{◌≡◌, ℕ, ◌+◌, Bool, true, false, cond, ◌&&◌, ◌||◌, List, [], ◌∷◌, ◌++◌, refl, sym, ap, ap₂, ◌∙◌}
use Rattle.std.specs.Prelude.{ℤ}
use Rattle.std.specs.Cmp.Lexicographic.{slice_cmp}
use Rattle.std.specs.List.{AllByRecursion, count_by, flat_map}
use Rattle.std.specs.Ordering.{int_eq}
use Rattle.std.proofs.lemmas.List.Folds.{list_any-append}
use Rattle.std.proofs.lemmas.List.Sums.{sum_by-append}
use Rattle.ma_geom.specs.Coordinates.{Coordinates, place_cmp}
use Rattle.ma_geom.specs.Lines.{is_flat}
use Rattle.ma_geom.specs.Rational.{Rational}
use Rattle.ma_cells.specs.Ascending.{are_ascending, has}
use Rattle.ma_cells.specs.Cells.{corners_of}
use Rattle.ma_cells.specs.declared.cell.Cell.{Cell}
use Rattle.ma_cells.specs.Faces.{faces_of, holds_all}
use Rattle.ma_cells.specs.Incidence.{is_on}
use Rattle.ma_cells.specs.Meshes.{corner_sets}
use Rattle.ma_cells.specs.Tetrahedron.{Tetrahedron, are_corners, are_tetrahedra}
use Rattle.ma_cells.proofs.Choices.{all-append}
use Rattle.ma_cells.proofs.Corners.{corners_rise}
use Rattle.ma_cells.proofs.Passing.{all-map, all_pass, test_all}
use Rattle.ma_cover.specs.Inside.{is_inside}
use Rattle.ma_cover.specs.OnFaces.{IsOffFacesOf}
use Rattle.ma_cover.specs.Sound.{holders}
use Rattle.mesh_laws.specs.Covers.{CoverTheSame}
use Rattle.mesh_laws.specs.Parity.{AreSameOddly, is_odd, listings, region_faces}
use Rattle.mesh_laws.proofs.Listings.{holders_are_listings}
use Rattle.mesh_laws.proofs.Lists.{all_split, all_two, count-cons}
use Rattle.mesh_laws.proofs.Oddly.{odd-+, xor}
use Rattle.mesh_laws.proofs.Sounds.{conforming_odd_are_marked, same_cover_stays_sound, tetrahedra_not_flat}
use Rattle.cavity_laws.specs.Parity.{sorted_faces}
use Rattle.cavity_laws.specs.Replaced.{AreOfRegion, ReplacedStaysSound, SwapCanReplace}
use Rattle.cavity_laws.proofs.Parity.{ascending_faces}
use Rattle.cavity_laws.proofs.Swaps.{swap_keeps_cover, swap_keeps_parity}

-- ---- any part
pub replaced_stays_sound : ReplacedStaysSound
replaced_stays_sound cavity filling rest marks sound solid can =
    let parts = all_split (λ tet. is_flat tet.corners ≡ false) rest cavity solid in
    let new = all-append (λ tet. is_flat tet.corners ≡ false) rest filling parts.0 can.solid in (
      same_cover_stays_sound (rest ++ cavity) (rest ++ filling) marks marks sound solid new same
          (λ phys elem face odd. conforming_odd_are_marked (rest ++ cavity) marks sound.conforming phys elem face (sym (oddly phys elem face parts.1) ∙ odd))
          (test_all (λ mark. is_on (rest ++ filling) mark.cell) marks
          (all_two (λ mark. is_on cavity mark.cell ≡ true → is_on filling mark.cell ≡ true) (λ mark. is_on (rest ++ cavity) mark.cell ≡ true) (λ mark. is_on (rest ++ filling) mark.cell ≡ true)
          (λ mark. still mark.cell) marks can.cells (all_pass (λ mark. is_on (rest ++ cavity) mark.cell) marks sound.conforming.on_cells))),
      same,
    )
  where
    both : (test : Tetrahedron → Bool) (others : List Tetrahedron) → count_by test (rest ++ others) ≡ count_by test rest + count_by test others
    both test others = sum_by-append (λ tet. cond (test tet) 1 0) rest others

    same : CoverTheSame (rest ++ cavity) (rest ++ filling)
    same phys elem p off off_new =
        let test : Tetrahedron → Bool = λ tet. (int_eq tet.phys phys && int_eq tet.elem elem) && is_inside p tet.corners in
        both test filling
        ∙ ap (λ (n : ℕ). count_by test rest + n)
        (can.cover phys elem p (all_split (λ tet. IsOffFacesOf p tet.corners) rest cavity off).1 (all_split (λ tet. IsOffFacesOf p tet.corners) rest filling off_new).1)
        ∙ sym (both test cavity)

    oddly : (phys elem : ℤ) (face : List Coordinates) → AllByRecursion (λ tet. is_flat tet.corners ≡ false) cavity
        → is_odd (holders phys elem face (rest ++ filling)) ≡ is_odd (holders phys elem face (rest ++ cavity))
    oddly phys elem face solid_cavity =
        let test : Tetrahedron → Bool = λ tet. (int_eq tet.phys phys && int_eq tet.elem elem) && has (slice_cmp place_cmp) face (faces_of tet.corners) in
        let alike = ap is_odd (holders_are_listings filling can.solid phys elem face) ∙ can.faces phys elem face ∙ sym (ap is_odd (holders_are_listings cavity solid_cavity phys elem face)) in
        ap is_odd (both test filling) ∙ odd-+ (count_by test rest) (count_by test filling) ∙ ap (xor (is_odd (count_by test rest))) alike
        ∙ sym (odd-+ (count_by test rest) (count_by test cavity)) ∙ sym (ap is_odd (both test cavity))

    still : (cell : Cell) → (is_on cavity cell ≡ true → is_on filling cell ≡ true) → is_on (rest ++ cavity) cell ≡ true → is_on (rest ++ filling) cell ≡ true
    still cell more on = list_any-append (test cell) rest filling ∙ by (is_on rest cell) (sym (list_any-append (test cell) rest cavity) ∙ on)
      where
        test : Cell → Tetrahedron → Bool
        test cell tet = holds_all tet.corners (corners_of cell)

        by : (b : Bool) → (b || is_on cavity cell) ≡ true → (b || is_on filling cell) ≡ true
        by true h = refl
        by false h = more h

-- ---- a swap
module _ (phys elem : ℤ) where
  -- whether the region is another
  abbrev is_it : (u w : ℤ) → Bool
  is_it u w = int_eq phys u && int_eq elem w

  region_count : (u w : ℤ) (test : List Coordinates → Bool) (tets : List Tetrahedron) → AreOfRegion phys elem tets
      → count_by (λ tet. (int_eq tet.phys u && int_eq tet.elem w) && test tet.corners) tets ≡ cond (is_it u w) (count_by test (corner_sets tets)) 0
  region_count u w test [] h = none (is_it u w)
    where
      none : (b : Bool) → ◌≡◌ {A = ℕ} 0 (cond b 0 0)
      none true = refl
      none false = refl
  region_count u w test (tet ∷ tets) h =
      count-cons (λ tet. (int_eq tet.phys u && int_eq tet.elem w) && test tet.corners) tet tets
      ∙ ap₂ (λ (b : Bool) (n : ℕ). cond (b && test tet.corners) 1 0 + n) (ap₂ (λ s t. int_eq s u && int_eq t w) h.0.0 h.0.1) (region_count u w test tets h.1)
      ∙ by (is_it u w) (count-cons test tet.corners (corner_sets tets))
    where
      by : (b : Bool) {n : ℕ} → n ≡ cond (test tet.corners) 1 0 + count_by test (corner_sets tets) → cond (b && test tet.corners) 1 0 + cond b (count_by test (corner_sets tets)) 0 ≡ cond b n 0
      by true e = sym e
      by false e = refl

  faces_of_region : (u w : ℤ) (tets : List Tetrahedron) → AreOfRegion phys elem tets → region_faces u w tets ≡ cond (is_it u w) (flat_map faces_of (corner_sets tets)) []
  faces_of_region u w [] h = none (is_it u w)
    where
      none : (b : Bool) → ◌≡◌ {A = List (List Coordinates)} [] (cond b [] [])
      none true = refl
      none false = refl
  faces_of_region u w (tet ∷ tets) h =
      ap₂ (λ (b : Bool) l. cond b (faces_of tet.corners) [] ++ l) (ap₂ (λ s t. int_eq s u && int_eq t w) h.0.0 h.0.1) (faces_of_region u w tets h.1) ∙ by (is_it u w)
    where
      by : (b : Bool) → cond b (faces_of tet.corners) [] ++ cond b (flat_map faces_of (corner_sets tets)) [] ≡ cond b (flat_map faces_of (corner_sets (tet ∷ tets))) []
      by true = refl
      by false = refl

  -- the faces of tetrahedra in ascending order
  sorted : (u w : ℤ) (tets : List Tetrahedron) → AreOfRegion phys elem tets → are_tetrahedra tets ≡ true → region_faces u w tets ≡ cond (is_it u w) (sorted_faces (corner_sets tets)) []
  sorted u w tets h proper =
      faces_of_region u w tets h
      ∙ ap (λ l. cond (is_it u w) l []) (sym (ascending_faces (corner_sets tets)
      (all-map (λ tet. are_corners tet.corners ≡ true) (λ c. are_ascending place_cmp c ≡ true) (λ (tet : Tetrahedron). tet.corners) (λ tet k. corners_rise tet.corners k) tets (all_pass (λ tet. are_corners tet.corners) tets proper))))

pub swap_can_replace : SwapCanReplace
swap_can_replace v phys elem cavity filling marks of_cavity of_filling proper proper_filling swappable fills cells = record {
  solid = tetrahedra_not_flat filling proper_filling;
  cover = λ u w p off off_filling.
      region_count phys elem u w (is_inside p) filling of_filling
      ∙ ap (λ (n : ℕ). cond (is_it phys elem u w) n 0) (swap_keeps_cover p v (corner_sets cavity) (corner_sets filling) swappable fills (of_corners p cavity off) (of_corners p filling off_filling))
      ∙ sym (region_count phys elem u w (is_inside p) cavity of_cavity);
  faces = λ u w face.
      ap (λ l. is_odd (listings face l)) (sorted phys elem u w filling of_filling proper_filling)
      ∙ by (is_it phys elem u w) face
      ∙ sym (ap (λ l. is_odd (listings face l)) (sorted phys elem u w cavity of_cavity proper));
  cells = cells;
}
  where
    of_corners : (p : Rational) (tets : List Tetrahedron) → AllByRecursion (λ tet. IsOffFacesOf p tet.corners) tets → AllByRecursion (IsOffFacesOf p) (corner_sets tets)
    of_corners p = all-map (λ tet. IsOffFacesOf p tet.corners) (IsOffFacesOf p) (λ tet. tet.corners) (λ tet h. h)

    by : (b : Bool) → AreSameOddly (cond b (sorted_faces (corner_sets filling)) []) (cond b (sorted_faces (corner_sets cavity)) [])
    by true = swap_keeps_parity v (corner_sets cavity) (corner_sets filling) swappable fills
    by false = λ face. refl

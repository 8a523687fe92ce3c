-- What is put has a spelling.
use Rattle.std.proofs.Common.{◌≡◌, ℕ, ◌-◌, ◌<◌, ◌≤◌, ◌^◌, Bool, true, not, leb, ltb, eqb, ◌&&◌, length, List, None, Result, Ok, Err, refl, ap₂, subst, ◌∙◌, arith, w32, of_z, to_z}
use Rattle.std.specs.Prelude.{ℤ, OnOk}
use Rattle.std.specs.List.{list_all}
use Rattle.std.specs.List.Sorted.{IsStrictlySortedBy}
use Rattle.std.specs.Ordering.{nat_cmp}
use Rattle.std.proofs.lemmas.Bool.{and_from, and_parts, eq-eqb, le-leb, leb-true, lt-ltb}
use Rattle.ma_geom.specs.Coordinates.{Coordinates, place_cmp}
use Rattle.ma_cells.specs.Ascending.{are_ascending}
use Rattle.ma_cells.specs.Tetrahedron.{Tetrahedron, are_corners, is_flat}
use lib.Signed.{mag}
use Rattle.std.proofs.lemmas.Cmp.{nat_cmp_total}
use Rattle.std.proofs.lemmas.Int.{to_z-of_z}
use Rattle.ma_cells.proofs.Corners.{corners_span}
use Rattle.ma_cells.proofs.Pieces.{four_corners}
use Rattle.cavity_rank.specs.Operations.{is_spot}
use Rattle.letters.specs.Entries.{corner_count, tet}
use Rattle.letters.specs.Fields.{between, part_before, place, place_before, signed}
use Rattle.letters.specs.Grammar.{Grammar, are_behind, counted, number, tested, ◌then◌}
use Rattle.letters.specs.Sharing.{are_sharers}
use Rattle.letters.proofs.Orders.{behind_is, from_sorted}

-- what holds anyway holds after Ok
pub on_ok : {T E P : Type 0} (r : Result T E) → P → OnOk r P
on_ok (Ok x) p = p
on_ok (Err e) p = tt

-- places that ascend and fit are entries that fit
pub places_fit : (places : List Coordinates) → are_ascending place_cmp places ≡ true → list_all place.fits places ≡ true → (are_behind place_before None places && list_all place.fits places) ≡ true
places_fit places rises fit = and_from (are_behind place_before None places) (list_all place.fits places) (behind_is place_cmp places ∙ rises) fit

pub tet_fits : (t : Tetrahedron) → are_corners t.corners ≡ true → list_all place.fits t.corners ≡ true → (signed then signed).fits (t.phys, t.elem) ≡ true → tet.fits t ≡ true
tet_fits t corners fit region =
    let parts = and_parts (are_ascending place_cmp t.corners) (not (is_flat t.corners)) corners in
    and_from ((eqb (length t.corners) 4 && (are_behind place_before None t.corners && list_all place.fits t.corners)) && (signed then signed).fits (t.phys, t.elem)) (not (is_flat t.corners))
    (and_from (eqb (length t.corners) 4 && (are_behind place_before None t.corners && list_all place.fits t.corners)) ((signed then signed).fits (t.phys, t.elem))
    (and_from (eqb (length t.corners) 4) (are_behind place_before None t.corners && list_all place.fits t.corners) (eq-eqb (length t.corners) 4 (four_corners t.corners (corners_span t.corners corners))) (places_fit t.corners parts.0 fit)) region)
    parts.1

-- a number that is handed on by its bits
pub handed_on : (x z : ℤ) → mag x < 2 ^ 31 → x ≡ z → to_z w32 (of_z w32 x) ≡ z
handed_on x z small e = to_z-of_z w32 x (record { sfits = small }) ∙ e

pub tag_fits : (a b phys elem : ℤ) → a ≡ phys → b ≡ elem → (signed then signed).fits (a, b) ≡ true → (signed then signed).fits (phys, elem) ≡ true
tag_fits a b phys elem e f h = subst (λ (p : ℤ × ℤ). (signed then signed).fits p ≡ true) (ap₂ (λ (x y : ℤ). (x, y)) e f) h

between_fits : (low high n : ℕ) → high ≤ 255 → leb low n ≡ true → leb n high ≡ true → (between low high).fits n ≡ true
between_fits low high n small least most =
    and_from (ltb n 256) (leb low n && leb n high) (lt-ltb n 256 (omega (arith, leb-true n high most))) (and_from (leb low n) (leb n high) least most)

counted_fits : {X : Type 0} (count : Grammar ℕ) (before : X → X → Bool) (g : Grammar X) (xs : List X) → count.fits (length xs) ≡ true → are_behind before None xs ≡ true → list_all g.fits xs ≡ true
    → (counted count before g).fits xs ≡ true
counted_fits count before g xs few behind fit =
    and_from (count.fits (length xs)) (eqb (length xs) (length xs) && (are_behind before None xs && list_all g.fits xs)) few
    (and_from (eqb (length xs) (length xs)) (are_behind before None xs && list_all g.fits xs) (eq-eqb (length xs) (length xs) refl) (and_from (are_behind before None xs) (list_all g.fits xs) behind fit))

pub spot_fits : (at : List Coordinates) → is_spot at ≡ true → list_all place.fits at ≡ true → (counted (between 1 3) place_before place).fits at ≡ true
spot_fits at spot fit =
    let a = and_parts (leb 1 (length at)) (leb (length at) 3 && are_ascending place_cmp at) spot in
    let b = and_parts (leb (length at) 3) (are_ascending place_cmp at) a.1 in
    counted_fits (between 1 3) place_before place at (between_fits 1 3 (length at) (omega arith) a.0 b.0) (behind_is place_cmp at ∙ b.1) fit

pub parts_fit : (parts : List ℕ) → are_sharers parts ≡ true → IsStrictlySortedBy nat_cmp parts → list_all (number 1).fits parts ≡ true → (counted (between 2 64) part_before (number 1)).fits parts ≡ true
parts_fit parts sharers rises fit =
    let a = and_parts (leb 2 (length parts)) (leb (length parts) 64) sharers in
    counted_fits (between 2 64) part_before (number 1) parts (between_fits 2 64 (length parts) (omega arith) a.0 a.1) (from_sorted nat_cmp_total parts rises) fit

pub corners_fit : (corners : List Coordinates) → 1 ≤ length corners → length corners ≤ 3 → are_ascending place_cmp corners ≡ true → list_all place.fits corners ≡ true
    → (counted corner_count place_before place).fits corners ≡ true
corners_fit corners least most rises fit = counted_fits corner_count place_before place corners few (behind_is place_cmp corners ∙ rises) fit
  where
    few : corner_count.fits (length corners) ≡ true
    few =
        and_from (leb 1 (length corners)) ((tested (λ d. ltb d 3) (number 1)).fits (length corners - 1)) (le-leb 1 (length corners) least)
        (and_from (ltb (length corners - 1) 256) (ltb (length corners - 1) 3) (lt-ltb (length corners - 1) 256 (omega arith)) (lt-ltb (length corners - 1) 3 (omega arith)))

-- Places in boxes around others.
use Rattle.std.proofs.Common.{◌≡◌, ◌≤◌, true, List, [], ◌∷◌, filter, refl, arith}
use Rattle.std.specs.Prelude.{ℤ, Bool, ◌&&◌, int_le, unsigned_abs}
use Rattle.std.specs.Int.{int_max, int_min}
use Rattle.std.specs.List.{list_all}
use Rattle.std.proofs.lemmas.Bool.{and_from, and_parts, false≢true}
use Rattle.std.proofs.lemmas.Int.{clamps, ints}
use mir.Syntax.{w32}
use mir.Val.{to_z, of_z}
use Rattle.ma_geom.specs.Coordinates.{Coordinates, limit, place_cmp}
use Rattle.ma_geom.proofs.PlaceOrder.{place_cmp-IsAntisymmetric}
use Rattle.ma_cells.specs.Ascending.{has}
use Rattle.ma_cells.specs.Cells.{CellMark, corners_of}
use Rattle.ma_cells.specs.Faces.{holds_all}
use Rattle.ma_cells.specs.Incidence.{is_on}
use Rattle.ma_cells.specs.Tetrahedron.{Tetrahedron}
use Rattle.ma_cells.specs.declared.cell.Cell.{Cell}
use Rattle.ma_cells.proofs.Members.{at_member}
use Rattle.ma_cells.proofs.Passing.{all_pass, all_weaker, test_all}
use Rattle.part_store.specs.Labelled.{marks_on}
use Rattle.part_store.specs.declared.bounds.Bounds.{Bounds}
use Rattle.part_store.specs.declared.bounds.Bounds.TheVariants.{Nothing, Between}
use Rattle.part_store.specs.steps.Boxes.{are_within, is_under, is_within, lower, upper, with_all, with_place, with_tets}
use Rattle.part_store.proofs.Members.{all-in, filter-filter, from-any}

-- ---- numbers as they are stored
pub near_min : (u v m : ℤ) → unsigned_abs u ≤ limit → unsigned_abs v ≤ limit → m ≡ int_min (to_z w32 (of_z w32 u)) (to_z w32 (of_z w32 v)) → unsigned_abs (to_z w32 (of_z w32 m)) ≤ limit
near_min u v m hu hv is = omega (arith, ints, clamps)

pub near_max : (u v m : ℤ) → unsigned_abs u ≤ limit → unsigned_abs v ≤ limit → m ≡ int_max (to_z w32 (of_z w32 u)) (to_z w32 (of_z w32 v)) → unsigned_abs (to_z w32 (of_z w32 m)) ≤ limit
near_max u v m hu hv is = omega (arith, ints, clamps)

pub stored_min : (a b u v m : ℤ) → u ≡ a → v ≡ b → unsigned_abs u ≤ limit → unsigned_abs v ≤ limit → m ≡ int_min (to_z w32 (of_z w32 u)) (to_z w32 (of_z w32 v)) → to_z w32 (of_z w32 m) ≡ int_min a b
stored_min a b u v m ea eb hu hv is = omega (arith, ints, clamps)

pub stored_max : (a b u v m : ℤ) → u ≡ a → v ≡ b → unsigned_abs u ≤ limit → unsigned_abs v ≤ limit → m ≡ int_max (to_z w32 (of_z w32 u)) (to_z w32 (of_z w32 v)) → to_z w32 (of_z w32 m) ≡ int_max a b
stored_max a b u v m ea eb hu hv is = omega (arith, ints, clamps)

-- ---- what a box has when it grows
itself : (a : ℤ) → int_le a a ≡ true
itself a = grind (arith, ints)

min_left : (a b c : ℤ) → int_le a c ≡ true → int_le (int_min a b) c ≡ true
min_left a b c h = grind (arith, ints, clamps)

min_right : (a b : ℤ) → int_le (int_min a b) b ≡ true
min_right a b = grind (arith, ints, clamps)

max_left : (a b c : ℤ) → int_le c a ≡ true → int_le c (int_max a b) ≡ true
max_left a b c h = grind (arith, ints, clamps)

max_right : (a b : ℤ) → int_le b (int_max a b) ≡ true
max_right a b = grind (arith, ints, clamps)

three : (x y z : Bool) → x ≡ true → y ≡ true → z ≡ true → (x && (y && z)) ≡ true
three x y z hx hy hz = and_from x (y && z) hx (and_from y z hy hz)

under_itself : (p : Coordinates) → is_under p p ≡ true
under_itself p = three (int_le p.x p.x) (int_le p.y p.y) (int_le p.z p.z) (itself p.x) (itself p.y) (itself p.z)

lower_kept : (p q r : Coordinates) → is_under p r ≡ true → is_under (lower p q) r ≡ true
lower_kept p q r h =
    let first = and_parts (int_le p.x r.x) (int_le p.y r.y && int_le p.z r.z) h in
    let second = and_parts (int_le p.y r.y) (int_le p.z r.z) first.1 in
    three (int_le (int_min p.x q.x) r.x) (int_le (int_min p.y q.y) r.y) (int_le (int_min p.z q.z) r.z) (min_left p.x q.x r.x first.0) (min_left p.y q.y r.y second.0) (min_left p.z q.z r.z second.1)

upper_kept : (p q r : Coordinates) → is_under r p ≡ true → is_under r (upper p q) ≡ true
upper_kept p q r h =
    let first = and_parts (int_le r.x p.x) (int_le r.y p.y && int_le r.z p.z) h in
    let second = and_parts (int_le r.y p.y) (int_le r.z p.z) first.1 in
    three (int_le r.x (int_max p.x q.x)) (int_le r.y (int_max p.y q.y)) (int_le r.z (int_max p.z q.z)) (max_left p.x q.x r.x first.0) (max_left p.y q.y r.y second.0) (max_left p.z q.z r.z second.1)

lower_new : (p q : Coordinates) → is_under (lower p q) q ≡ true
lower_new p q = three (int_le (int_min p.x q.x) q.x) (int_le (int_min p.y q.y) q.y) (int_le (int_min p.z q.z) q.z) (min_right p.x q.x) (min_right p.y q.y) (min_right p.z q.z)

upper_new : (p q : Coordinates) → is_under q (upper p q) ≡ true
upper_new p q = three (int_le q.x (int_max p.x q.x)) (int_le q.y (int_max p.y q.y)) (int_le q.z (int_max p.z q.z)) (max_right p.x q.x) (max_right p.y q.y) (max_right p.z q.z)

-- the new place is in
place_in : (bounds : Bounds) (place : Coordinates) → is_within (with_place bounds place) place ≡ true
place_in Nothing place = and_from (is_under place place) (is_under place place) (under_itself place) (under_itself place)
place_in (Between least most) place = and_from (is_under (lower least place) place) (is_under place (upper most place)) (lower_new least place) (upper_new most place)

-- and what was in stays
place_kept : (bounds : Bounds) (place q : Coordinates) → is_within bounds q ≡ true → is_within (with_place bounds place) q ≡ true
place_kept Nothing place q h = absurd (false≢true h)
place_kept (Between least most) place q h =
    let both = and_parts (is_under least q) (is_under q most) h in
    and_from (is_under (lower least place) q) (is_under q (upper most place)) (lower_kept least place q both.0) (upper_kept most place q both.1)

all_kept : (bounds : Bounds) (places : List Coordinates) (q : Coordinates) → is_within bounds q ≡ true → is_within (with_all bounds places) q ≡ true
all_kept bounds [] q h = h
all_kept bounds (place ∷ places) q h = all_kept (with_place bounds place) places q (place_kept bounds place q h)

pub all_in : (bounds : Bounds) (places : List Coordinates) → are_within (with_all bounds places) places ≡ true
all_in bounds [] = refl
all_in bounds (place ∷ places) =
    and_from (is_within (with_all (with_place bounds place) places) place) (are_within (with_all (with_place bounds place) places) places)
    (all_kept (with_place bounds place) places place (place_in bounds place)) (all_in (with_place bounds place) places)

tets_kept : (bounds : Bounds) (tets : List Tetrahedron) (q : Coordinates) → is_within bounds q ≡ true → is_within (with_tets bounds tets) q ≡ true
tets_kept bounds [] q h = h
tets_kept bounds (tet ∷ tets) q h = tets_kept (with_all bounds tet.corners) tets q (all_kept bounds tet.corners q h)

pub tets_in : (bounds : Bounds) (tets : List Tetrahedron) → list_all (λ tet. are_within (with_tets bounds tets) tet.corners) tets ≡ true
tets_in bounds [] = refl
tets_in bounds (tet ∷ tets) =
    let whole = with_tets (with_all bounds tet.corners) tets in
    and_from (are_within whole tet.corners) (list_all (λ t. are_within whole t.corners) tets)
    (test_all (is_within whole) tet.corners
    (all_weaker (λ q. is_within (with_all bounds tet.corners) q ≡ true) (λ q. is_within whole q ≡ true) (tets_kept (with_all bounds tet.corners) tets) tet.corners
    (all_pass (is_within (with_all bounds tet.corners)) tet.corners (all_in bounds tet.corners))))
    (tets_in (with_all bounds tet.corners) tets)

-- ---- cells
-- a cell of one of the tetrahedra has its corners in a box that has theirs
cell_in : (bounds : Bounds) (tets : List Tetrahedron) (cell : Cell) → list_all (λ tet. are_within bounds tet.corners) tets ≡ true → is_on tets cell ≡ true → are_within bounds (corners_of cell) ≡ true
cell_in bounds tets cell around on =
    let r = from-any (λ tet. holds_all tet.corners (corners_of cell)) tets on in
    let here : are_within bounds r.0.corners ≡ true
    = all-in (λ tet. are_within bounds tet.corners ≡ true) tets r.0 (all_pass (λ tet. are_within bounds tet.corners) tets around) r.1 in
    test_all (is_within bounds) (corners_of cell)
    (all_weaker (λ q. has place_cmp q r.0.corners ≡ true) (λ q. is_within bounds q ≡ true) (λ q there. at_member place_cmp-IsAntisymmetric (is_within bounds) q r.0.corners here there) (corners_of cell)
    (all_pass (λ q. has place_cmp q r.0.corners) (corners_of cell) r.2))

-- so marks with a corner outside are on no cell of them
pub far_on_none : (bounds : Bounds) (tets : List Tetrahedron) (marks : List CellMark) → list_all (λ tet. are_within bounds tet.corners) tets ≡ true
    → marks_on tets (filter (λ mark. are_within bounds (corners_of mark.cell)) marks) ≡ marks_on tets marks
far_on_none bounds tets marks around =
    filter-filter (λ mark. are_within bounds (corners_of mark.cell)) (λ mark. is_on tets mark.cell) marks (λ mark _ on. cell_in bounds tets mark.cell around on)

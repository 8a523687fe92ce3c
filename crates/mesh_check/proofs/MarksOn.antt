-- Each mark of an accepted mesh is on a cell of a tetrahedron.
use Rattle.std.proofs.Common.{◌≡◌, ℕ, Bool, true, false, cond, ◌||◌, List, [], ◌∷◌, ◌++◌, Option, Some, None, option_map, refl, sym, ap, subst}
use Rattle.std.specs.Prelude.{ℤ, pos, map, IfSome}
use Rattle.std.specs.Cmp.{IsTotalOrder, tied_itself}
use Rattle.std.specs.List.{AllByRecursion, filter_map, flat_map, list_all, list_any}
use Rattle.std.specs.Option.{option_and_then}
use Rattle.std.specs.Ordering.{eq_by_cmp, is_eq}
use Rattle.std.specs.declared.cmp.Ordering.{Ordering}
use Rattle.std.proofs.lemmas.Bool.{or_right}
use Rattle.std.proofs.lemmas.List.Concat.{flat_map-cons}
use Rattle.ma_geom.specs.Coordinates.{Coordinates, place_cmp}
use Rattle.ma_geom.proofs.PlaceOrder.{place_cmp_total}
use Rattle.ma_cells.specs.Ascending.{ascending_of, has}
use Rattle.ma_cells.specs.Cells.{CellMark, cell_of, mark_cmp, mark_on}
use Rattle.ma_cells.specs.Faces.{faces_of, holds_all}
use Rattle.ma_cells.specs.Tetrahedron.{Tetrahedron}
use Rattle.ma_cells.specs.declared.cell.Cell.{Cell}
use Rattle.ma_cells.proofs.Choices.{all-append, all-choices}
use Rattle.msh_read.specs.declared.raw.RawMark.{RawMark}
use Rattle.msh_read.specs.Raw.{Raw}
use Rattle.mesh_check.specs.steps.FoundMarks.{found_marks, kept_mark, shifted_mark}
use Rattle.mesh_check.specs.Lone.{lone}
use Rattle.ma_cells.specs.Incidence.{is_on}
use Rattle.mesh_check.specs.Marks.{outer_marks, side_cmp, sides_of}
use Rattle.mesh_check.proofs.InRange.{cell_of-corners}
use Rattle.ma_cells.proofs.SetItems.{all-ascending_of}
use Rattle.ma_cells.proofs.Passing.{all-filter_map, all_pass, test_all, all_weaker, all-filter, all_anyway, any-weaker}

has_each : {K : Type 0} {R : K → K → Ordering} → IsTotalOrder R → (xs : List K) → AllByRecursion (λ x. has R x xs ≡ true) xs
has_each o [] = tt
has_each {R = R} o (x ∷ xs) =
    (ap (λ r. is_eq r || has R x xs) (tied_itself o x), all_weaker (λ y. has R y xs ≡ true) (λ y. has R y (x ∷ xs) ≡ true) (λ y later. or_right (eq_by_cmp R y x) (has R y xs) later) xs (has_each o xs))

-- ---- cells of tetrahedra
abbrev On : List Tetrahedron → CellMark → Type 0
On tets mark = is_on tets mark.cell ≡ true

abbrev SideOn : List Tetrahedron → List Coordinates × (ℤ × ℤ) → Type 0
SideOn tets s = list_any (λ tet. holds_all tet.corners s.0) tets ≡ true

-- a mark of the file that is kept
kept_on : (test : Cell → Bool) (found : Option CellMark) → IfSome (option_and_then (λ moved. cond (test moved.cell) (Some moved) None) found) (λ mark. test mark.cell ≡ true)
kept_on test None = tt
kept_on test (Some mark) = elim (test mark.cell) as (λ b. test mark.cell ≡ b → IfSome (cond b (Some mark) None) (λ m. test m.cell ≡ true)) [ true ↦ λ e. e | false ↦ λ _. tt ] refl

with_region : (corners : List Coordinates) (region : ℤ × ℤ) (faces : List (List Coordinates)) → AllByRecursion (AllByRecursion (λ p. has place_cmp p corners ≡ true)) faces
    → AllByRecursion (λ (s : List Coordinates × (ℤ × ℤ)). holds_all corners s.0 ≡ true) (map (λ face. (face, region)) faces)
with_region corners region [] h = tt
with_region corners region (face ∷ faces) h = (test_all (λ p. has place_cmp p corners) face h.0, with_region corners region faces h.1)

-- the faces of tetrahedra
sides_on : (tets : List Tetrahedron) → AllByRecursion (SideOn tets) (flat_map sides_of tets)
sides_on [] = tt
sides_on (t ∷ ts) =
    let own = with_region t.corners (t.phys, t.elem) (faces_of t.corners) (all-choices (λ p. has place_cmp p t.corners ≡ true) 3 t.corners (has_each place_cmp_total t.corners)) in
    subst (AllByRecursion (SideOn (t ∷ ts))) (sym (flat_map-cons sides_of t ts)) (all-append (SideOn (t ∷ ts)) (sides_of t) (flat_map sides_of ts)
    (all_weaker (λ s. holds_all t.corners s.0 ≡ true) (SideOn (t ∷ ts)) (λ s e. ap (λ b. b || list_any (λ tet. holds_all tet.corners s.0) ts) e) (sides_of t) own)
    (all_weaker (SideOn ts) (SideOn (t ∷ ts)) (λ s later. or_right (holds_all t.corners s.0) (list_any (λ tet. holds_all tet.corners s.0) ts) later) (flat_map sides_of ts) (sides_on ts)))

held_set : (corners places : List Coordinates) → holds_all corners places ≡ true → holds_all corners (ascending_of place_cmp places) ≡ true
held_set corners places held =
    let test : Coordinates → Bool = λ p. has place_cmp p corners in
    test_all test (ascending_of place_cmp places) (all-ascending_of place_cmp (λ p. test p ≡ true) places (all_pass test places held))

-- the mark on a face
outer_on : (tets : List Tetrahedron) (s : List Coordinates × (ℤ × ℤ)) → SideOn tets s → IfSome (mark_on s.0 (pos 0) (pos 0)) (On tets)
outer_on tets s on =
    elim (cell_of s.0) as (λ found. cell_of s.0 ≡ found → IfSome (option_map (λ cell. record { cell = cell; phys = pos 0; elem = pos 0 }) found) (On tets)) [
      | None ↦ λ _. tt
      | Some cell ↦ λ is.
          subst (λ places. list_any (λ tet. holds_all tet.corners places) tets ≡ true) (sym (cell_of-corners s.0 cell is))
          (any-weaker (λ tet. holds_all tet.corners s.0) (λ tet. holds_all tet.corners (ascending_of place_cmp s.0)) (λ tet held. held_set tet.corners s.0 held) tets on)
    ] refl

pub marks_on_cells : (raw : Raw) (shift : ℕ) (tets : List Tetrahedron) → list_all (λ mark. is_on tets mark.cell) (found_marks raw shift tets) ≡ true
marks_on_cells raw shift tets =
    let kept : List CellMark = filter_map (kept_mark (is_on tets) raw.nodes shift) raw.marks in
    let kept_all = all-filter_map (λ (m : RawMark). Unit {0}) (On tets) (kept_mark (is_on tets) raw.nodes shift) (λ m _. kept_on (is_on tets) (shifted_mark raw.nodes shift m)) raw.marks (all_anyway raw.marks) in
    let sides = all-filter (SideOn tets) _ (flat_map sides_of tets) (sides_on tets) in
    let outer_all = all-filter_map (SideOn tets) (On tets) (λ side. mark_on side.0 (pos 0) (pos 0)) (outer_on tets) (lone side_cmp (flat_map sides_of tets)) sides in
    test_all (λ mark. is_on tets mark.cell) (found_marks raw shift tets) (all-ascending_of mark_cmp (On tets) (kept ++ outer_marks tets) (all-append (On tets) kept (outer_marks tets) kept_all outer_all))

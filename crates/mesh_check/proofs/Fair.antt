-- What holds of a mesh that is accepted.
use Rattle.std.proofs.Common.{◌≡◌, ℕ, Bool, true, false, ◌&&◌, ◌||◌, List, [], ◌∷◌, Option, Some, None, refl, subst, ◌∙◌, inl, inr}
use Rattle.std.specs.Prelude.{Result, Ok, Err}
use Rattle.std.specs.Cmp.Lexicographic.{slice_cmp}
use Rattle.std.specs.List.{list_all}
use Rattle.std.proofs.lemmas.Bool.{and_parts, false≢true, or_cases}
use Rattle.ma_geom.specs.Coordinates.{Coordinates, place_cmp}
use Rattle.ma_geom.proofs.PlaceOrder.{place_cmp-IsAntisymmetric}
use Rattle.ma_cells.specs.Ascending.{has}
use Rattle.ma_cells.specs.Cells.{CellMark, corners_of}
use Rattle.ma_cells.specs.Faces.{holds_all}
use Rattle.ma_cells.specs.Incidence.{is_on}
use Rattle.ma_cells.specs.Meshes.{MarkedMesh, are_listed_once, corner_sets}
use Rattle.ma_cells.specs.Tetrahedron.{Tetrahedron, are_corners, are_tetrahedra}
use Rattle.ma_cells.specs.declared.cell.Cell.{Cell}
use Rattle.ma_cells.proofs.Members.{at_member}
use Rattle.msh_read.specs.Raw.{Raw}
use Rattle.msh_read.specs.Trying.{◌>>=◌, ◌>>◌, each}
use Rattle.overlap_check.specs.Overlap.{first_overlap_of}
use Rattle.mesh_check.specs.Accepted.{accepted_of, apart, no_pair}
use Rattle.mesh_check.specs.Laws.{AcceptedIsFair, IsFair}
use Rattle.mesh_check.specs.Pairs.{first_pair, numbered_from}
use Rattle.mesh_check.specs.declared.fault.MeshFault.TheVariants.{Repeated}
use Rattle.mesh_check.specs.steps.FoundMarks.{found_loose, found_marks, found_of}
use Rattle.mesh_check.specs.steps.Tetrahedra.{counted, distinct_tets, found_tets, numbered_tet, placed}
use Rattle.mesh_check.proofs.Apart.{none_overlaps}
use Rattle.mesh_check.proofs.Bridge.{found-accepted}
use Rattle.mesh_check.proofs.CellsOfMarks.{marks_are_cells}
use Rattle.mesh_check.proofs.MarksOn.{marks_on_cells}
use Rattle.mesh_check.proofs.Numbered.{distinct-no_pair, each-pass, numbered_tet-corners, then_ok}
use Rattle.mesh_check.proofs.Sound.{mesh_is_accepted, mesh_is_sound}

-- ---- steps that were passed
ok_is : {A E : Type 0} {x y : A} → ◌≡◌ {A = Result A E} (Ok x) (Ok y) → x ≡ y
ok_is e = cc

first_passed : {A E : Type 0} (test : Result (Unit {0}) E) (x : Result A E) (y : A) → (test >> x) ≡ Ok y → test ≡ Ok tt
first_passed (Ok t) x y e = refl
first_passed (Err fault) x y e = absurd cc

passed : {B E : Type 0} (first : Result (Unit {0}) E) (next : Result B E) (y : B) → (first >> next) ≡ Ok y → next ≡ Ok y
passed (Ok x) next y e = e
passed (Err fault) next y e = absurd cc

-- ---- tetrahedra
abbrev AreFine : List Tetrahedron → Type 0
AreFine tets = (are_tetrahedra tets ≡ true) × (are_listed_once tets ≡ true)

none_repeated : (pair : Option (ℕ × ℕ)) → no_pair Repeated pair ≡ Ok tt → pair ≡ None
none_repeated None e = refl
none_repeated (Some pair) e = absurd cc

distinct_are_fine : (raw : Raw) (shift : ℕ) (tets : List Tetrahedron) → distinct_tets raw shift ≡ Ok tets → AreFine tets
unfolding distinct_tets
distinct_are_fine raw shift tets e =
    let twice : List Tetrahedron → Option (ℕ × ℕ) = λ ts. first_pair (slice_cmp place_cmp) (numbered_from 1 (corner_sets ts)) in
    let read = then_ok (each (numbered_tet raw.nodes shift) (numbered_from 1 raw.tets)) (λ ts. no_pair Repeated (twice ts) >> Ok ts) tets e in
    let once = none_repeated (twice read.0) (first_passed (no_pair Repeated (twice read.0)) (Ok read.0) tets read.2) in
    subst AreFine (ok_is (passed (no_pair Repeated (twice read.0)) (Ok read.0) tets read.2)) (
      each-pass (λ tet. are_corners tet.corners) (numbered_tet raw.nodes shift) (numbered_tet-corners raw.nodes shift) (numbered_from 1 raw.tets) read.0 read.1,
      distinct-no_pair (slice_cmp place_cmp) 1 (corner_sets read.0) once,
    )

found_are_fine : (raw : Raw) (shift : ℕ) (tets : List Tetrahedron) → found_tets raw shift ≡ Ok tets → AreFine tets
unfolding found_tets
found_are_fine raw shift tets e =
    distinct_are_fine raw shift tets (passed (placed raw shift) (distinct_tets raw shift) tets (passed (counted raw.tets) (placed raw shift >> distinct_tets raw shift) tets e))

-- ---- marks on cells of tetrahedra
module _ (test : Coordinates → Bool) where
  held : (corners places : List Coordinates) → holds_all corners places ≡ true → list_all test corners ≡ true → list_all test places ≡ true
  held corners [] there all = refl
  held corners (p ∷ places) there all =
      let both = and_parts (has place_cmp p corners) (holds_all corners places) there in
      rw (at_member place_cmp-IsAntisymmetric test p corners all both.0) (held corners places both.1 all)

  of_cell : (tets : List Tetrahedron) (cell : Cell) → is_on tets cell ≡ true → list_all (λ (tet : Tetrahedron). list_all test tet.corners) tets ≡ true → list_all test (corners_of cell) ≡ true
  of_cell [] cell on all = absurd (false≢true on)
  of_cell (tet ∷ tets) cell on all =
      let both = and_parts (list_all test tet.corners) (list_all (λ (t : Tetrahedron). list_all test t.corners) tets) all in
      elim (or_cases (holds_all tet.corners (corners_of cell)) (is_on tets cell) on) [
        | inl here ↦ held tet.corners (corners_of cell) here both.0
        | inr later ↦ of_cell tets cell later both.1
      ]

  of_marks : (tets : List Tetrahedron) (marks : List CellMark) → list_all (λ mark. is_on tets mark.cell) marks ≡ true → list_all (λ (tet : Tetrahedron). list_all test tet.corners) tets ≡ true
      → list_all (λ mark. list_all test (corners_of mark.cell)) marks ≡ true
  of_marks tets [] on all = refl
  of_marks tets (mark ∷ marks) on all =
      let both = and_parts (is_on tets mark.cell) (list_all (λ m. is_on tets m.cell) marks) on in
      rw (of_cell tets mark.cell both.0 all) (of_marks tets marks both.1 all)

-- ---- the mesh
found_is_fair : (raw : Raw) (shift : ℕ) (mesh : MarkedMesh) → found_of raw shift ≡ Ok mesh → IsFair mesh
unfolding found_of
found_is_fair raw shift mesh e =
    let marked : List Tetrahedron → MarkedMesh = λ tets. record { tets = tets; marks = found_marks raw shift tets; loose = found_loose raw shift tets } in
    let read = then_ok (found_tets raw shift) (λ tets. apart tets >> Ok (marked tets)) mesh e in
    let fine = found_are_fine raw shift read.0 read.1 in
    let none = none_overlaps (first_overlap_of read.0) (first_passed (apart read.0) (Ok (marked read.0)) mesh read.2) in
    subst IsFair (ok_is (passed (apart read.0) (Ok (marked read.0)) mesh read.2)) (record {
      not_flat = fine.0;
      listed = fine.1;
      cells = marks_are_cells raw shift read.0;
      sound = mesh_is_sound raw shift read.0 fine.0 none;
      accepted = mesh_is_accepted raw shift read.0 fine.0 none;
      marks = λ test all. of_marks test read.0 (found_marks raw shift read.0) (marks_on_cells raw shift read.0) all;
    })

pub accepted_is_fair : AcceptedIsFair
accepted_is_fair raw shift mesh e = found_is_fair raw shift mesh (found-accepted raw shift ∙ e)

-- What round 0 of the parts of a mesh comes to, where it is handed out by labels.
use Rattle.std.proofs.Common.{◌≡◌, ◌<◌, ◌≤◌, ℕ, true, List, [], ◌∷◌, length, refl, sym, ap, subst, arith}
use Rattle.std.specs.Prelude.{map}
use Rattle.std.specs.List.{All, AllByRecursion}
use Rattle.std.specs.List.Sorted.{IsStrictlySortedBy}
use Rattle.ma_cells.specs.Cells.{CellMark, is_cell, mark_cmp}
use Rattle.ma_cells.specs.Grid.{are_on_grid, marks_are_on_grid}
use Rattle.ma_cells.specs.Meshes.{MarkedMesh}
use Rattle.ma_cells.specs.Tetrahedron.{are_corners}
use Rattle.ma_cells.proofs.Passing.{test_all}
use Rattle.letters.specs.declared.letter.Body.{Body}
use Rattle.directory.specs.Posting.{most_told}
use Rattle.part_core.specs.Parts.{first_part}
use Rattle.part_phases.specs.Inboxes.{below}
use Rattle.part_phases.specs.Standings.{Standing}
use Rattle.round_rules.specs.Rounds.{rules}
use Rattle.part_rules.specs.declared.course.Course.{Course}
use Rattle.part_store.specs.Labelled.{LabelledMesh, own_of}
use Rattle.part_store.specs.Stores.{StoreState}
use Rattle.phase_laws.specs.Drawing.{BeginSo}
use Rattle.round_laws.specs.Truths.{round_truth}
use Rattle.staged_meshes.specs.Laws.{plan_of}
use Rattle.staged_meshes.specs.Staged.{passed_times}
use Rattle.view_laws.specs.Views.{first_standing}
use Rattle.view_laws.proofs.FirstRound.{begin_so, carried, is_shared}
use Rattle.world_run.specs.Meshes.{labelled_mesh}
use Rattle.world_run.specs.Replay.{first_parts}
use Rattle.world_run.specs.Rounds.{IsWhole}
use Rattle.world_run.proofs.Closing.{BeginOn}
use Rattle.world_run.proofs.DoneRounds.{all-done, done-first, of-course}
use Rattle.world_run.proofs.Labelling.{labelled_is_whole, no_more}

-- what is given of a mesh that is handed out by labels. These are its marks
pub record MayStart (course : Course) (mesh : MarkedMesh) (labels : List ℕ) : Type 0 where
  pub some : 1 ≤ course.parts
  pub each : length labels ≡ length mesh.tets
  pub tets : are_on_grid course.grid mesh.tets ≡ true
  pub marks : marks_are_on_grid course.grid mesh.marks ≡ true
  pub below : All (λ label. label < course.parts) labels
  pub listed : List CellMark
  pub are : listed ≡ mesh.marks
  pub rise : IsStrictlySortedBy mark_cmp listed
  pub cells : AllByRecursion (λ mark. is_cell mark.cell ≡ true) listed
  pub solid : AllByRecursion (λ tet. are_corners tet.corners ≡ true) mesh.tets

module _ (course : Course) (mesh : MarkedMesh) (labels : List ℕ) (may : MayStart course mesh labels) where
  abbrev whole : LabelledMesh
  whole = labelled_mesh mesh labels

  pub is_whole : IsWhole course whole
  is_whole =
      labelled_is_whole mesh labels course may.some may.each may.below (subst (IsStrictlySortedBy mark_cmp) may.are may.rise) (subst (AllByRecursion (λ mark. is_cell mark.cell ≡ true)) may.are may.cells)
      (test_all (λ tet. are_corners tet.corners) mesh.tets may.solid) may.tets may.marks

  standings_are : (ns : List ℕ) → map (λ part. part.standing) (map (λ p. first_part p course (own_of whole p) whole.marks) ns) ≡ map (first_standing whole) ns
  standings_are [] = refl
  standings_are (n ∷ ns) = ap (λ l. first_standing whole n ∷ l) (standings_are ns)

  abbrev pub first : Standing StoreState Body
  first = first_standing whole 0

  abbrev pub marks_first : ℕ → List CellMark
  marks_first = carried course whole may.some is_whole.labelled

  pub begin_on : length mesh.tets ≤ most_told → BeginOn course whole marks_first 0 first (first_parts course whole)
  begin_on told =
      let old = begin_so course whole may.some is_whole.labelled first in
      record {
        shared = is_shared course whole may.some is_whole.labelled is_whole.tets is_whole.marks;
        stay = λ before below. absurd (omega arith);
        told = λ stage upto earlier.
            let none : stage ≡ 0 = omega (arith, upto) in
            let less = no_more mesh labels in
            subst (λ z. length (passed_times (plan_of course) whole z).tets ≤ most_told) (sym none) (omega (arith, told, less));
        of_course = of-course course 0 (first_parts course whole) (done-first course whole);
        courses = all-done course 0 (first_parts course whole) (done-first course whole) _ (λ q part within has. has.course_is);
        rounds = all-done course 0 (first_parts course whole) (done-first course whole) _ (λ q part within has. has.begun);
        begin = subst (BeginSo (rules course) (round_truth course whole marks_first 0) first) (sym (standings_are (below course.parts))) (record { all = old.all; numbers = old.numbers; holds = old.holds; kept = old.kept });
      }

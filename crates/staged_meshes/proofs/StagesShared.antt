-- Parts share each stage of a labelled mesh.
use Rattle.std.proofs.Common.{◌≡◌, ℕ, zero, suc, ◌-◌, true, List, sym, subst, arith}
use Rattle.std.specs.Prelude.{map}
use Rattle.std.specs.List.{list_all}
use Rattle.std.proofs.lemmas.Bool.{and_from, and_parts}
use Rattle.ma_cells.specs.Cells.{CellMark}
use Rattle.ma_cells.specs.Grid.{are_on_grid, is_on_grid, marks_are_on_grid, mesh_is_on_grid}
use Rattle.ma_cells.specs.Tetrahedron.{Tetrahedron, are_corners, are_tetrahedra}
use Rattle.mesh_laws.specs.Adapted.{IsSoundMesh}
use Rattle.size_marks.specs.Field.{Field}
use Rattle.cavity_rank.specs.declared.verdict.Kind.{Kind}
use Rattle.cavity_marks.proofs.Stays.{marks_stay_on_cells}
use Rattle.one_mesh.specs.Adaptation.{Plan, kind_of_pass, last_stage}
use Rattle.part_rules.specs.declared.course.Course.{Course}
use Rattle.part_store.specs.Labelled.{LabelledMesh, tet_of}
use Rattle.pass_rules.proofs.Kept.{passes_are_not_flat, passes_stay_on_the_grid}
use Rattle.part_gather.specs.OwedGathering.{MarksStay, carried_after, mesh_after}
use Rattle.view_laws.specs.Truths.{IsShared}
use Rattle.view_laws.proofs.FirstRound.{is_shared}
use Rattle.gather_laws.proofs.After.{unlabelled}
use Rattle.gather_laws.proofs.Next.{carried_right, labelled_after}
use Rattle.refined_views.specs.Refined.{without_labels}
use Rattle.refined_views.proofs.NextMesh.{refined_is_shared}
use Rattle.staged_meshes.specs.Laws.{OpenedIsShared, OpenedMarksStay, PassedIsNotFlat, PassedIsShared, SoundMarksStay, plan_of}
use Rattle.staged_meshes.specs.Staged.{adapted_times, carried_at, carried_behind, opened, passed_times}
use Rattle.staged_meshes.proofs.OneStage.{rounds_are_adapted, stages_are_adapted}
use Rattle.staged_meshes.proofs.Sets.{as_list, as_set}

-- ---- one pass
module _ (kind : Kind) (field : Field) (mesh : LabelledMesh) where
  abbrev after : LabelledMesh
  after = mesh_after kind field mesh

  not_flat_after : are_tetrahedra (map tet_of mesh.tets) ≡ true → are_tetrahedra (map tet_of after.tets) ≡ true
  not_flat_after solid =
      let is_solid = λ (tet : Tetrahedron). are_corners tet.corners in
      as_list is_solid (map tet_of after.tets)
      (subst (λ m. are_tetrahedra m.tets ≡ true) (sym (unlabelled kind field mesh)) (passes_are_not_flat kind field (without_labels mesh) (as_set is_solid (map tet_of mesh.tets) solid)))

  -- no pass makes a new place
  grid_after : (k : ℕ) → are_on_grid k (map tet_of mesh.tets) ≡ true → marks_are_on_grid k mesh.marks ≡ true → (are_on_grid k (map tet_of after.tets) ≡ true) × (marks_are_on_grid k after.marks ≡ true)
  grid_after k tets marks =
      let on_grid = λ (tet : Tetrahedron). list_all (is_on_grid k) tet.corners in
      let before = without_labels mesh in
      let whole = passes_stay_on_the_grid k kind field before (and_from (are_on_grid k before.tets) (marks_are_on_grid k before.marks) (as_set on_grid (map tet_of mesh.tets) tets) marks) in
      let now = without_labels after in
      let both = and_parts (are_on_grid k now.tets) (marks_are_on_grid k now.marks) (subst (λ m. mesh_is_on_grid k m ≡ true) (sym (unlabelled kind field mesh)) whole) in
      (as_list on_grid (map tet_of after.tets) both.0, both.1)

  shared_after : (course : Course) (carried : ℕ → List CellMark) (round : ℕ) → IsShared course mesh carried round → MarksStay kind field mesh → IsShared course after (carried_after kind field mesh) round
  shared_after course carried round shared stay =
      let grid = grid_after (course.grid - round) shared.tets shared.marks in
      record {
        parts = shared.parts;
        labelled = labelled_after kind field mesh course.parts shared.labelled stay;
        known = carried_right kind field mesh course.parts shared.labelled stay;
        tets = grid.0;
        marks = grid.1;
      }

-- ---- passes
pub sound_marks_stay : SoundMarksStay
sound_marks_stay plan before mesh sound = marks_stay_on_cells (kind_of_pass plan before) plan.field (without_labels mesh) sound

pub passed_is_not_flat : PassedIsNotFlat
passed_is_not_flat plan mesh zero solid = solid
passed_is_not_flat plan mesh (suc before) solid = not_flat_after (kind_of_pass plan before) plan.field (passed_times plan mesh before) (passed_is_not_flat plan mesh before solid)

pub passed_is_shared : PassedIsShared
passed_is_shared course mesh carried round zero shared stay = shared
passed_is_shared course mesh carried round (suc before) shared stay =
    let plan = plan_of course in
    shared_after (kind_of_pass plan before) plan.field (passed_times plan mesh before) course (carried_behind plan mesh carried before) round
    (passed_is_shared course mesh carried round before shared (λ earlier within. stay earlier (omega (arith, within)))) (stay before (omega arith))

-- ---- rounds
pub opened_marks_stay : OpenedMarksStay
opened_marks_stay plan mesh round passes sound before within =
    sound_marks_stay plan before (passed_times plan (opened plan mesh (suc round)) before) (stages_are_adapted plan mesh round before sound).sound

module _ (course : Course) (mesh : LabelledMesh) (sound : IsSoundMesh (without_labels mesh)) where
  abbrev plan : Plan
  plan = plan_of course

  -- parts that share what a round begins with share what it leaves
  left_shared : (round : ℕ) → IsShared course (opened plan mesh round) (carried_at plan mesh round) round → (carried : ℕ → List CellMark) × IsShared course (adapted_times plan mesh round) carried round
  left_shared zero shared = (carried_at plan mesh zero, shared)
  left_shared (suc round) shared = (
    carried_behind plan (opened plan mesh (suc round)) (carried_at plan mesh (suc round)) (last_stage plan),
    passed_is_shared course (opened plan mesh (suc round)) (carried_at plan mesh (suc round)) (suc round) (last_stage plan) shared (opened_marks_stay plan mesh round (last_stage plan) sound),
  )

pub opened_is_shared : OpenedIsShared
opened_is_shared course mesh zero finer some right sound tets marks = is_shared course mesh some right tets marks
opened_is_shared course mesh (suc round) finer some right sound tets marks =
    let last = adapted_times (plan_of course) mesh round in
    let before = left_shared course mesh sound round (opened_is_shared course mesh round (omega arith) some right sound tets marks) in
    refined_is_shared course.field course last before.0 round (omega arith) before.1 (as_list (λ tet. are_corners tet.corners) (map tet_of last.tets) (rounds_are_adapted (plan_of course) mesh round sound).sound.tetrahedra)

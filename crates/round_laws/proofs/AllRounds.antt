-- Rounds with passes end with the parts' views, whatever is drawn.
use Rattle.std.proofs.Common.{◌≡◌, ℕ, zero, suc, ◌+◌, ◌-◌, ◌<◌, ◌≤◌, true, List, length, refl, ap, arith}
use Rattle.std.specs.Prelude.{map}
use Rattle.ma_cells.specs.Cells.{CellMark}
use Rattle.ma_cells.specs.Grid.{are_on_grid, marks_are_on_grid}
use Rattle.ma_cells.specs.Tetrahedron.{are_corners, are_tetrahedra}
use Rattle.mesh_laws.specs.Adapted.{IsSoundMesh}
use Rattle.letters.specs.declared.letter.Body.{Body}
use Rattle.directory.specs.Homes.{home_of}
use Rattle.one_mesh.specs.Adaptation.{last_stage}
use Rattle.part_phases.specs.Inboxes.{below}
use Rattle.part_phases.specs.Standings.{Standing}
use Rattle.part_rules.specs.Ends.{most_tets}
use Rattle.part_rules.specs.Owed.{IsLabelled}
use Rattle.part_rules.specs.declared.course.Course.{Course}
use Rattle.part_store.specs.Labelled.{LabelledMesh, tet_of}
use Rattle.part_store.specs.Stores.{StoreState, view_in}
use Rattle.phase_laws.specs.Drawing.{BeginSo, all_begun, part_at}
use Rattle.phase_laws.specs.Truth.{Follows, Truth}
use Rattle.phase_laws.proofs.Draws.{turns_stay_right}
use Rattle.phase_laws.proofs.Starts.{all_end_whatever_is_drawn, start_is_right}
use Rattle.view_laws.specs.Truths.{IsShared}
use Rattle.view_laws.proofs.FirstRound.{begin_so}
use Rattle.refined_views.specs.Refined.{carried_pieces, refined_labelled, without_labels}
use Rattle.refined_views.proofs.Beginnings.{store_is}
use Rattle.round_rules.specs.Rounds.{rules}
use Rattle.round_rules.specs.Stages.{passes_in}
use Rattle.staged_meshes.specs.Laws.{MarksStayUpTo, plan_of}
use Rattle.staged_meshes.specs.Staged.{adapted_times, carried_at, opened, passed_times}
use Rattle.staged_meshes.proofs.OneStage.{rounds_are_adapted}
use Rattle.staged_meshes.proofs.Sets.{as_list}
use Rattle.staged_meshes.proofs.StagesShared.{opened_is_shared, opened_marks_stay, passed_is_shared}
use Rattle.round_laws.specs.Ends.{EndsInViews, HaveViews, RoundsEndInViews, after_round, first_standing, letters_in, round_of}
use Rattle.round_laws.specs.Truths.{StaysWithinUpTo, round_truth}
use Rattle.round_laws.proofs.Following.{rules_follow}

-- what begins as a mesh says, which parts share, ends as this mesh says behind all passes of the round
module _ (course : Course) (mesh : LabelledMesh) (carried : ℕ → List CellMark) (round : ℕ) (shared : IsShared course mesh carried round)
    (stay : MarksStayUpTo (plan_of course) mesh (passes_in course round)) (few : StaysWithinUpTo course mesh (passes_in course round + 1)) where
  abbrev truth : Truth StoreState Body
  truth = round_truth course mesh carried round

  follows : Follows (rules course) truth
  follows = rules_follow course mesh carried round shared stay few

  ends_in_views : (default : Standing StoreState Body) (parts : List (Standing StoreState Body)) → BeginSo (rules course) truth default parts → (picks : List ℕ)
      → EndsInViews course round (passed_times (plan_of course) mesh (passes_in course round)) default (round_of course round picks parts)
  ends_in_views default parts begin picks =
      let n = letters_in course round in
      let ended = all_end_whatever_is_drawn (rules course) truth default parts follows begin n picks (omega arith) in
      let right = turns_stay_right (rules course) truth default follows n picks (all_begun (rules course) round parts) (start_is_right (rules course) truth default parts follows begin) in
      record {
        none_waits = ended.0;
        done = λ q within. (ended.1 q within).0;
        have_views = record {
          all = right.0;
          numbers = λ q within. ap (λ z. z.me) (right.1.stands q within).is;
          views = λ q within. ap view_in (ended.1 q within).1;
        };
      }

-- parts with their views begin a round past the first as the refined mesh says
begin_next : (course : Course) (mesh : LabelledMesh) (round : ℕ) → IsLabelled course.parts mesh → are_tetrahedra (map tet_of mesh.tets) ≡ true
    → (default : Standing StoreState Body) (parts : List (Standing StoreState Body)) → HaveViews course mesh default parts
    → BeginSo (rules course) (round_truth course (refined_labelled course.field mesh) (carried_pieces course.field mesh) (suc round)) default parts
begin_next course mesh round right solid default parts views = record {
  all = views.all;
  numbers = views.numbers;
  holds = λ q within. store_is course.field course.parts mesh right solid (home_of (course.grid - suc round) course.parts) q (part_at default parts q).holds (views.views q within);
  kept = λ q within. refl;
}

-- and in round 0 as their mesh says
begin_first : (course : Course) (mesh : LabelledMesh) → 1 ≤ course.parts → IsLabelled course.parts mesh → (default : Standing StoreState Body)
    → BeginSo (rules course) (round_truth course mesh (carried_at (plan_of course) mesh 0) 0) default (map (first_standing mesh) (below course.parts))
begin_first course mesh some right default =
    let begin = begin_so course mesh some right default in
    record { all = begin.all; numbers = begin.numbers; holds = begin.holds; kept = λ q within. refl }

-- what rounds leave is labelled
labelled_times : (course : Course) (mesh : LabelledMesh) (round : ℕ) → round ≤ course.grid → 1 ≤ course.parts → IsLabelled course.parts mesh → IsSoundMesh (without_labels mesh)
    → are_on_grid course.grid (map tet_of mesh.tets) ≡ true → marks_are_on_grid course.grid mesh.marks ≡ true → IsLabelled course.parts (adapted_times (plan_of course) mesh round)
labelled_times course mesh zero upto some right sound tets marks = right
labelled_times course mesh (suc round) upto some right sound tets marks =
    let plan = plan_of course in
    (passed_is_shared course (opened plan mesh (suc round)) (carried_at plan mesh (suc round)) (suc round) (last_stage plan) (opened_is_shared course mesh (suc round) upto some right sound tets marks)
    (opened_marks_stay plan mesh round (last_stage plan) sound)).labelled

-- round 0 has no passes
first_within : (course : Course) (mesh : LabelledMesh) (before : ℕ) → before < 1 → length mesh.tets ≤ most_tets → length (passed_times (plan_of course) mesh before).tets ≤ most_tets
first_within course mesh zero within few = few
first_within course mesh (suc before) within few = absurd (omega arith)

-- ---- all rounds
pub rounds_end_in_views : RoundsEndInViews
rounds_end_in_views course mesh zero upto some right sound tets marks few default picks =
    ends_in_views course mesh (carried_at (plan_of course) mesh 0) 0 (opened_is_shared course mesh 0 upto some right sound tets marks) (λ before within. absurd (omega (arith, within)))
    (λ before within. first_within course mesh before within few.0) default (map (first_standing mesh) (below course.parts)) (begin_first course mesh some right default) (picks 0)
rounds_end_in_views course mesh (suc n) upto some right sound tets marks few default picks =
    let plan = plan_of course in
    let last = adapted_times plan mesh n in
    let before = rounds_end_in_views course mesh n (omega arith) some right sound tets marks (few.0, λ round passes within. few.1 round passes (omega (arith, within))) default picks in
    let solid = as_list (λ tet. are_corners tet.corners) (map tet_of last.tets) (rounds_are_adapted plan mesh n sound).sound.tetrahedra in
    ends_in_views course (opened plan mesh (suc n)) (carried_at plan mesh (suc n)) (suc n) (opened_is_shared course mesh (suc n) upto some right sound tets marks)
    (opened_marks_stay plan mesh n (last_stage plan) sound) (λ passes within. few.1 n passes (omega arith) (omega (arith, within))) default (after_round course mesh picks n).parts
    (begin_next course last n (labelled_times course mesh n (omega arith) some right sound tets marks) solid default (after_round course mesh picks n).parts before.have_views) (picks (suc n))

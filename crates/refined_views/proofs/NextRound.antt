-- Rounds that each part begins by refining, whatever is drawn.
use Rattle.std.proofs.Common.{◌≡◌, ℕ, zero, suc, ◌-◌, ◌*◌, ◌≤◌, true, List, length, refl, ap, arith}
use Rattle.std.specs.Prelude.{map}
use Rattle.ma_cells.specs.Cells.{CellMark}
use Rattle.ma_cells.specs.Tetrahedron.{are_tetrahedra}
use Rattle.letters.specs.declared.letter.Body.{Body}
use Rattle.directory.specs.Homes.{home_of}
use Rattle.part_phases.specs.Inboxes.{below}
use Rattle.part_phases.specs.Standings.{Standing}
use Rattle.part_rules.specs.Ends.{most_tets}
use Rattle.part_rules.specs.Owed.{IsLabelled}
use Rattle.part_rules.specs.Rounds.{rules}
use Rattle.part_rules.specs.declared.course.Course.{Course}
use Rattle.part_store.specs.Labelled.{LabelledMesh, tet_of}
use Rattle.part_store.specs.Stores.{StoreState, view_in}
use Rattle.phase_laws.specs.Drawing.{BeginSo, all_begun, part_at}
use Rattle.phase_laws.specs.Truth.{Follows, Truth}
use Rattle.phase_laws.proofs.Draws.{turns_stay_right}
use Rattle.phase_laws.proofs.Starts.{all_end_whatever_is_drawn, start_is_right}
use Rattle.view_laws.specs.Truths.{IsShared, mesh_truth}
use Rattle.view_laws.specs.Views.{first_standing}
use Rattle.view_laws.proofs.FirstRound.{begin_so, carried, is_shared}
use Rattle.view_laws.proofs.Following.{follows_mesh}
use Rattle.refined_views.specs.LaterRounds.{EndsInViews, HaveViews, RefiningRoundEndsInViews, RoundsEndInViews, after_round, round_of}
use Rattle.refined_views.specs.Refined.{carried_pieces, refined_labelled}
use Rattle.refined_views.specs.Repeated.{refined_times}
use Rattle.refined_views.proofs.Beginnings.{store_is}
use Rattle.refined_views.proofs.NextMesh.{refined_times_is_shared, shared_next, times_not_flat}

module _ (course : Course) (mesh : LabelledMesh) (carried : ℕ → List CellMark) (round : ℕ) (shared : IsShared course mesh carried round) (few : length mesh.tets ≤ most_tets) where
  abbrev truth : Truth StoreState Body
  truth = mesh_truth course mesh carried round

  follows : Follows (rules course) truth
  follows = follows_mesh course mesh carried round shared few

  -- what begins as the mesh says ends so
  ends_in_views : (default : Standing StoreState Body) (parts : List (Standing StoreState Body)) → BeginSo (rules course) truth default parts → (picks : List ℕ)
      → EndsInViews course mesh default (round_of course round picks parts)
  ends_in_views default parts begin picks =
      let n = course.parts * (3 * (course.parts - 1)) in
      let ended = all_end_whatever_is_drawn (rules course) truth default parts follows begin n picks (omega arith) in
      let right = turns_stay_right (rules course) truth default follows n picks (all_begun (rules course) round parts) (start_is_right (rules course) truth default parts follows begin) in
      record {
        none_waits = ended.0;
        done = λ q within. (ended.1 q within).0;
        have_views = record {
          all = right.0;
          numbers = λ q within. ap (λ z. z.me) (right.1.stands q within).is;
          views = λ q within. ap view_in (ended.1 q within).1;
        };
      }

-- the parts begin a round past the first so
begin_next : (course : Course) (mesh : LabelledMesh) (round : ℕ) → IsLabelled course.parts mesh → are_tetrahedra (map tet_of mesh.tets) ≡ true
    → (default : Standing StoreState Body) (parts : List (Standing StoreState Body)) → HaveViews course mesh default parts
    → BeginSo (rules course) (mesh_truth course (refined_labelled course.field mesh) (carried_pieces course.field mesh) (suc round)) default parts
begin_next course mesh round right solid default parts views = record {
  all = views.all;
  numbers = views.numbers;
  holds = λ q within. store_is course.field course.parts mesh right solid (home_of (course.grid - suc round) course.parts) q (part_at default parts q).holds (views.views q within);
  kept = λ q within. refl;
}

pub refining_round_ends_in_views : RefiningRoundEndsInViews
refining_round_ends_in_views course mesh round finer some right solid tets marks few default parts views picks =
    ends_in_views course (refined_labelled course.field mesh) (carried_pieces course.field mesh) (suc round) (shared_next course.field course mesh right solid round finer some tets marks) few default parts
    (begin_next course mesh round right solid default parts views) picks

-- ---- all rounds
pub rounds_end_in_views : RoundsEndInViews
rounds_end_in_views course mesh zero upto some right solid tets marks few default picks =
    ends_in_views course mesh (carried course mesh some right) 0 (is_shared course mesh some right tets marks) (few 0 (omega arith)) default (map (first_standing mesh) (below course.parts))
    (begin_so course mesh some right default) (picks 0)
rounds_end_in_views course mesh (suc n) upto some right solid tets marks few default picks =
    let last = refined_times n course.field mesh in
    let before = rounds_end_in_views course mesh n (omega arith) some right solid tets marks (λ round within. few round (omega arith)) default picks in
    let shared = refined_times_is_shared course.field course mesh n (omega arith) some right solid tets marks in
    refining_round_ends_in_views course last n upto some shared.labelled (times_not_flat course.field mesh n solid) shared.tets shared.marks (few (suc n) (omega arith)) default
    (after_round course mesh picks n).parts before.have_views (picks (suc n))

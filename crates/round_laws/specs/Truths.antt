-- A round with passes of which the labelled mesh tells what each part holds and sends in each phase.
use Rattle.std.specs.Prelude.{◌≤◌, ◌<◌, ◌-◌, ◌+◌, ℕ, List, length, Ok, Err}
use Rattle.ma_cells.specs.Cells.{CellMark}
use Rattle.letters.specs.declared.letter.Body.{Body}
use Rattle.letters.specs.declared.letter.LetterKind.TheVariants as kinds
use Rattle.directory.specs.Homes.{home_of}
use Rattle.directory.specs.Posting.{most_told}
use Rattle.part_phases.specs.Inboxes.{Inbox}
use Rattle.part_rules.specs.Ends.{most_tets}
use Rattle.part_rules.specs.declared.course.Course.{Course}
use Rattle.part_store.specs.Labelled.{LabelledMesh}
use Rattle.part_store.specs.Stores.{StoreState}
use Rattle.phase_laws.specs.Truth.{Follows, Truth}
use Rattle.round_rules.specs.Owed.{holding, keeping, owed}
use Rattle.round_rules.specs.Rounds.{rules}
use Rattle.round_rules.specs.Stages.{first_phase, last_phase, passes_before, passes_in, phase_kind}
use Rattle.staged_meshes.specs.Laws.{MarksStayUpTo, plan_of}
use Rattle.staged_meshes.specs.Staged.{carried_behind, passed_times}
use Rattle.view_laws.specs.Truths.{IsShared}

-- that at none of the stages before so many passes there are too many tetrahedra
abbrev pub StaysWithinUpTo : Course → LabelledMesh → ℕ → Type 0
StaysWithinUpTo course mesh passes = (before : ℕ) → before < passes → length (passed_times (plan_of course) mesh before).tets ≤ most_tets

module _ (course : Course) (mesh : LabelledMesh) (carried : ℕ → List CellMark) (round : ℕ) where
  -- the mesh behind so many passes, and what parts carry of its marks
  abbrev pub mesh_behind : ℕ → LabelledMesh
  mesh_behind passes = passed_times (plan_of course) mesh passes

  abbrev pub marks_behind : ℕ → ℕ → List CellMark
  marks_behind passes = carried_behind (plan_of course) mesh carried passes

  -- what a part holds in a phase, what it keeps of earlier ones, and what a part sends to another in it
  abbrev pub holds_in : ℕ → ℕ → StoreState
  holds_in phase q = holding course (home_of (course.grid - round) course.parts) (mesh_behind (passes_before phase)) (marks_behind (passes_before phase)) (passes_before phase) (phase_kind phase) q

  abbrev pub keeps_in : ℕ → ℕ → List (Inbox Body)
  keeps_in phase q = keeping course (home_of (course.grid - round) course.parts) (mesh_behind (passes_before phase)) (marks_behind (passes_before phase)) (passes_before phase) (phase_kind phase) q

  abbrev pub letter_in : ℕ → ℕ → ℕ → Body
  letter_in phase p q = owed course (home_of (course.grid - round) course.parts) (mesh_behind (passes_before phase)) (marks_behind (passes_before phase)) (passes_before phase) (phase_kind phase) p q

  -- what a part sees behind so many passes
  abbrev pub sees_behind : ℕ → ℕ → StoreState
  sees_behind passes q = holding course (home_of (course.grid - round) course.parts) (mesh_behind passes) (marks_behind passes) passes kinds.Propose q

  -- to the end of the round, where at no stage there are too many tetrahedra
  abbrev pub round_truth : Truth StoreState Body
  round_truth = record {
    round = round;
    end = last_phase (passes_in course round);
    outcome = λ q. Ok (sees_behind (passes_in course round) q);
    holds = holds_in;
    kept = keeps_in;
    letter = letter_in;
  }

  -- to the posts behind so many passes, where there are too many
  abbrev pub over_truth : ℕ → Truth StoreState Body
  over_truth passes = record {
    round = round;
    end = first_phase passes;
    outcome = λ q. Err (length (mesh_behind passes).tets);
    holds = holds_in;
    kept = keeps_in;
    letter = letter_in;
  }

-- the rules of a part lead from what the mesh tells of a phase to what it tells of the next, through all passes of a round
abbrev pub RulesFollow : Type 0
RulesFollow = (course : Course) (mesh : LabelledMesh) (carried : ℕ → List CellMark) (round : ℕ) → IsShared course mesh carried round
    → MarksStayUpTo (plan_of course) mesh (passes_in course round) → StaysWithinUpTo course mesh (passes_in course round + 1)
    → Follows (rules course) (round_truth course mesh carried round)

-- and they stop at the posts behind the first passes that leave too many, unless these are more than a post tells
abbrev pub RulesStop : Type 0
RulesStop = (course : Course) (mesh : LabelledMesh) (carried : ℕ → List CellMark) (round passes : ℕ) → IsShared course mesh carried round
    → passes ≤ passes_in course round → MarksStayUpTo (plan_of course) mesh passes → StaysWithinUpTo course mesh passes
    → most_tets < length (passed_times (plan_of course) mesh passes).tets → length (passed_times (plan_of course) mesh passes).tets ≤ most_told
    → Follows (rules course) (over_truth course mesh carried round passes)

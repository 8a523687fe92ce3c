-- A part of a run, and what its calls answer and leave.
use Rattle.std.specs.Prelude.{◌≡◌, ◌≤◌, ◌<◌, ℕ, Bool, true, false, List, [], ◌++◌, map, Result, Ok, Err}
use Rattle.ma_geom.specs.Coordinates.{Coordinates}
use Rattle.ma_cells.specs.Cells.{CellMark}
use Rattle.ma_cells.specs.Tetrahedron.{Tetrahedron}
use Rattle.letters.specs.declared.letter.Body.{Body}
use Rattle.letters.specs.declared.letter.Letter.{Letter}
use Rattle.part_phases.specs.Standings as phases
use Rattle.part_rules.specs.declared.course.Course.{Course}
use Rattle.part_store.specs.Stores.{StoreState, started}
use Rattle.round_rules.specs.Rounds.{rules}
use Rattle.part_core.specs.declared.answers.Step.{Step}
use Rattle.part_core.specs.declared.answers.Step.TheVariants as steps
use Rattle.part_core.specs.declared.answers.PartFault.{PartFault}
use Rattle.part_core.specs.declared.answers.PartFault.TheVariants as faults

-- the course of the run, where the part stands, how many rounds it has begun, and whether it can go on no more
pub record PartState : Type 0 where
  pub course : Course
  pub standing : phases.Standing StoreState Body
  pub begun : ℕ
  pub spent : Bool

-- a part before its first round: it has these tetrahedra and marks, and stands past the last phase of a round without passes
abbrev pub first_part : ℕ → Course → List Tetrahedron → List CellMark → PartState
first_part me course own marks = record {
  course = course;
  standing = record { me = me; round = 0; phase = 3; holds = started me own marks; now = []; early = []; kept = [] };
  begun = 0;
  spent = false;
}

-- that a round is begun and not over
pub record IsRunning (part : PartState) : Type 0 where
  pub unspent : part.spent ≡ false
  pub within : part.standing.phase ≤ (rules part.course).last part.standing.round

-- that no round runs and this one is the next
pub record MayBegin (part : PartState) (round : ℕ) : Type 0 where
  pub unspent : part.spent ≡ false
  pub over : (rules part.course).last part.standing.round < part.standing.phase
  pub next : round ≡ part.begun
  pub on_grid : round ≤ part.course.grid

-- a letter as the phases of a round have it, and back
abbrev pub taken : Letter → phases.Letter Body
taken letter = record { round = letter.round; phase = letter.phase; sender = letter.sender; target = letter.target; body = letter.body }

abbrev pub sent : phases.Letter Body → Letter
sent letter = record { round = letter.round; phase = letter.phase; sender = letter.sender; target = letter.target; body = letter.body }

-- that an answer is the one that is due, unless memory ran out
abbrev pub Answers : Result Step PartFault → phases.Answer Coordinates → Type 0
Answers (Ok steps.Waiting) due = due ≡ phases.Stepped phases.Waiting
Answers (Ok (steps.Moved phase)) due = due ≡ phases.Stepped (phases.Moved phase)
Answers (Ok steps.RoundDone) due = due ≡ phases.Stepped phases.RoundDone
Answers (Ok (steps.Over phase total)) due = due ≡ phases.Stepped (phases.Over phase total)
Answers (Err (faults.NotExpected phase)) due = due ≡ phases.NotExpected phase
Answers (Err (faults.OffGrid place)) due = due ≡ phases.Wrong place
Answers (Err faults.Memory) due = Unit {0}

abbrev pub is_over : Step → Bool
is_over (steps.Over phase total) = true
is_over _ = false

-- the part that comes of a round that it has begun, or of a letter, by the step
abbrev pub stepped : PartState → ℕ → phases.Standing StoreState Body → Step → PartState
stepped part begun standing step = record { course = part.course; standing = standing; begun = begun; spent = is_over step }

-- what a call leaves of a part, and the letters that it appends, where so many rounds are then begun. A part that refuses a letter is as it was; one without memory is spent, and appends nothing
abbrev pub Leaves : Result Step PartFault → phases.Outcome StoreState Body Coordinates → ℕ → (old new : PartState) → (before after : List Letter) → Type 0
Leaves (Ok step) due begun old new before after = (new ≡ stepped old begun due.part step) × (after ≡ before ++ map sent due.letters)
Leaves (Err faults.Memory) due begun old new before after = (new.spent ≡ true) × (after ≡ before)
Leaves (Err _) due begun old new before after = (new ≡ old) × (after ≡ before)

-- that a call that only lacks memory answers so
abbrev pub IsMemory : Result Step PartFault → Type 0
IsMemory (Ok _) = Unit {0}
IsMemory (Err fault) = fault ≡ faults.Memory

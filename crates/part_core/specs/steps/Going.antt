-- The steps by which the code goes from phase to phase.
use Rattle.std.specs.Prelude.{◌≡◌, ◌+◌, ℕ, List, [], ◌∷◌, ◌++◌, map, Option, Some, None, Ok, Err}
use Rattle.ma_geom.specs.Coordinates.{Coordinates}
use Rattle.letters.specs.declared.letter.Body.{Body}
use Rattle.letters.specs.declared.letter.Letter.{Letter}
use Rattle.directory.specs.Posting.{posted_by}
use Rattle.part_phases.specs.Phases.{gone_on, moved, phases_left}
use Rattle.part_phases.specs.Standings as phases
use Rattle.part_rules.specs.Bodies.{posts_in}
use Rattle.part_rules.specs.Rounds.{latest}
use Rattle.part_rules.specs.declared.course.Course.{Course}
use Rattle.part_store.specs.Stores.{StoreState, view_in}
use Rattle.part_core.specs.Parts.{Answers, Leaves, PartState, sent}
use Rattle.part_core.specs.declared.answers.Step.{Step}
use Rattle.part_core.specs.declared.answers.Step.TheVariants as steps
use Rattle.part_core.specs.declared.part.sending.Prepared.{Prepared}
use Rattle.part_core.specs.declared.part.sending.Prepared.TheVariants as prepared
use Rattle.part_vote.specs.Voting.{proposed_to, voted_to}
use Rattle.pass_letters.specs.Sending.{addressed_to, votes_to}
use Rattle.round_rules.specs.Bodies.{orders_in, proposals_in}
use Rattle.round_rules.specs.Rounds.{ordered_of, rules}
use Rattle.round_rules.specs.Stages.{pass_kind, passes_before, phase_kind}
use Rattle.letters.specs.declared.letter.LetterKind.TheVariants as kinds

-- a part that stands so
abbrev pub standing_at : PartState → phases.Standing StoreState Body → PartState
standing_at part standing = record { course = part.course; standing = standing; begun = part.begun; spent = part.spent }

-- a standing one phase on, with nothing kept
abbrev pub turned : phases.Standing StoreState Body → phases.Standing StoreState Body
turned part = record part { phase = part.phase + 1; now = part.early; early = []; kept = [] }

-- a standing one phase on, with the letters of the phase that ends kept
abbrev pub advanced : phases.Standing StoreState Body → phases.Standing StoreState Body
advanced part = record part { phase = part.phase + 1; now = part.early; early = []; kept = part.now ∷ part.kept }

-- that this is what the letters of a phase are made from
abbrev pub IsPrepared : Prepared → Course → phases.Standing StoreState Body → Type 0
IsPrepared (prepared.Posts all) course part = (phase_kind part.phase ≡ kinds.Post) × (all ≡ posted_by part.holds)
IsPrepared (prepared.Replies posts) course part = (phase_kind part.phase ≡ kinds.Reply) × (posts ≡ posts_in (latest part.kept))
IsPrepared (prepared.Ghosts own) course part = (phase_kind part.phase ≡ kinds.Ghosts) × (own ≡ part.holds.own)
IsPrepared (prepared.Proposals letters) course part = (phase_kind part.phase ≡ kinds.Propose) × ((q : ℕ) → addressed_to letters q ≡ proposed_to (pass_kind course (passes_before part.phase)) course.field (view_in part.holds) q)
IsPrepared (prepared.Votes letters) course part = (phase_kind part.phase ≡ kinds.Vote) × ((q : ℕ) → votes_to letters q ≡ voted_to (view_in part.holds) (proposals_in (latest part.kept)) q)
IsPrepared (prepared.Orders letters) course part = (phase_kind part.phase ≡ kinds.Order) × ((q : ℕ) → addressed_to letters q ≡ ordered_of part q)
IsPrepared (prepared.Deliveries orders) course part = (phase_kind part.phase ≡ kinds.Deliver) × (orders.items ≡ orders_in (latest part.kept))

-- that the phase of a part has ended, or that the total is too much and the part is as it was
abbrev pub Ended : Option ℕ → PartState → PartState → Type 0
Ended None old new = ((rules old.course).ends old.standing ≡ Ok new.standing.holds) × (new ≡ standing_at old (moved (rules old.course) old.standing new.standing.holds))
Ended (Some total) old new = ((rules old.course).ends old.standing ≡ Err total) × (new ≡ old)

-- the answer of a part that entered a phase and then gave this one
abbrev pub step_after : ℕ → Step → Step
step_after phase steps.Waiting = steps.Moved phase
step_after phase (steps.Moved later) = steps.Moved later
step_after phase steps.RoundDone = steps.RoundDone
step_after phase (steps.Over later total) = steps.Over later total

-- that the step is what is due, and so are the part and the letters
abbrev pub Matches : Step → phases.Outcome StoreState Body Coordinates → PartState → PartState → List Letter → List Letter → Type 0
Matches step due old new before after = Answers (Ok step) due.answer × (new ≡ standing_at old due.part) × (after ≡ before ++ map sent due.letters)

-- that a part went on as far as its letters allow
abbrev pub Gone : Step → PartState → PartState → List Letter → List Letter → Type 0
Gone step old new before after = Matches step (gone_on (rules old.course) (phases_left (rules old.course) old.standing) old.standing) old new before after

-- that a call answers what is due, and leaves it
abbrev pub Came : Step → phases.Outcome StoreState Body Coordinates → ℕ → PartState → PartState → List Letter → List Letter → Type 0
Came step due begun old new before after = Answers (Ok step) due.answer × Leaves (Ok step) due begun old new before after

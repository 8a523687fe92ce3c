-- A run goes along with a drawing, letter by letter, and ends with it.
use Rattle.std.proofs.Common.{◌≡◌, ◌+◌, ℕ, List, ◌++◌, map, Some, None, Ok, Err, refl, sym, ap, subst, ◌∙◌}
use Rattle.std.specs.Prelude.{IfSome}
use Rattle.carrier.specs.Carried.{Carried, Letters}
use Rattle.carrier.specs.Schedule.{Picks, after_pick, next_of}
use Rattle.letters.specs.declared.letter.Body.{Body}
use Rattle.letters.specs.declared.letter.Letter.{Letter}
use Rattle.part_core.specs.Parts.{PartState}
use Rattle.part_phases.specs.Standings.{Standing}
use Rattle.round_rules.specs.Rounds.{rules}
use Rattle.part_rules.specs.declared.course.Course.{Course}
use Rattle.part_store.specs.Stores.{StoreState}
use Rattle.phase_laws.specs.Drawing.{Drawing, IsRight, turn, turns}
use Rattle.phase_laws.specs.Truth.{Follows, Truth}
use Rattle.world_run.specs.Drawn.{picks_left, spelled}
use Rattle.world_run.specs.Replay.{first_waiting}
use Rattle.world_run.specs.declared.fault.RunFault.{RunFault}
use Rattle.world_run.specs.steps.Beginning.{owed_all}
use Rattle.world_run.specs.steps.Drawing.{GoesAlong, RunDraws}
use Rattle.world_run.specs.steps.Handing.{TurnReads, TurnTells}
use Rattle.world_run.proofs.Tracking.{both_told, one_told, turns_more}
use Rattle.world_run.proofs.Turning.{run_ends, turn_draws, turn_ends}

module _ (course : Course) (truth : Truth StoreState Body) (default : Standing StoreState Body) where
  -- that the run has come to a drawing which is drawn to the same end as the first
  pub record IsAlong (base : Letters) (parts : List PartState) (sent' : List Letter) (now : Carried) (schedule : Picks) (end : Drawing StoreState Body) : Type 0 where
    pub drawing : Drawing StoreState Body
    pub along : GoesAlong course truth default base now parts sent' drawing
    pub end_is : turns (rules course) (owed_all parts) (picks_left schedule) drawing ≡ end

  -- that it has, where it went along with a drawing at first
  abbrev pub KeepsAlong : (old parts : List PartState) (first sent' : List Letter) (before now : Carried) (picks schedule : Picks) → Type 0
  KeepsAlong old parts first sent' before now picks schedule = (base : Letters) (drawing : Drawing StoreState Body) → Follows (rules course) truth → GoesAlong course truth default base before old first drawing
      → IsAlong base parts sent' now schedule (turns (rules course) (owed_all old) (picks_left picks) drawing)

  pub along_at_first : (old : List PartState) (first : List Letter) (before : Carried) (picks : Picks) → KeepsAlong old old first first before before picks picks
  along_at_first old first before picks base drawing follows along = record { drawing = drawing; along = along; end_is = refl }

  module _ (old parts new : List PartState) (first sent' after : List Letter) (before mid now : Carried) (picks schedule left : Picks) (so_far : KeepsAlong old parts first sent' before mid picks schedule) where
    pub along_further : {X : Type 0} (x : X) → IfSome mid.held (λ held. IfSome mid.given (λ given. TurnTells parts new sent' after held given (next_of schedule) now (Ok x)))
        → IfSome mid.given (λ given. TurnReads given now.given (Ok x)) → left ≡ after_pick schedule → owed_all new + 1 ≡ owed_all parts → KeepsAlong old new first after before now picks left
    along_further x told reads next lower base drawing follows along =
        let here = so_far base drawing follows along in
        let held = here.along.held in
        let given = here.along.given in
        let tells = both_told mid.held mid.given _ _ (λ h g. TurnTells parts new sent' after h g (next_of schedule) now (Ok x)) held given told in
        record {
          drawing = turn (rules course) (next_of schedule) here.drawing;
          along = turn_draws course truth default follows base mid now parts new sent' after here.drawing _ _ (next_of schedule) x here.along held given (one_told mid.given _ (λ g. TurnReads g now.given (Ok x)) given reads) tells;
          end_is = ap (λ s. turns (rules course) (owed_all new) (picks_left s) (turn (rules course) (next_of schedule) here.drawing)) next ∙ turns_more course (owed_all new) (owed_all parts) schedule here.drawing lower ∙ here.end_is;
        }

    pub along_failed : (X : Type 0) (first_open : ℕ × ℕ) (fault : RunFault) → IfSome mid.held (λ held. IfSome mid.given (λ given. TurnTells {X = X} parts new sent' after held given (next_of schedule) now (Err fault)))
        → IfSome mid.given (λ given. TurnReads {X = X} given now.given (Err fault)) → first_waiting parts ≡ Some first_open → RunDraws course truth default old new first before now picks (Err fault)
    along_failed X first_open fault told reads open_still base drawing follows along =
        let here = so_far base drawing follows along in
        let held = here.along.held in
        let given = here.along.given in
        turn_ends course truth default follows X ℕ base mid now parts new sent' after here.drawing _ _ (next_of schedule) first_open fault here.along held given
        (one_told mid.given _ (λ g. TurnReads {X = X} g now.given (Err fault)) given reads) open_still
        (both_told mid.held mid.given _ _ (λ h g. TurnTells {X = X} parts new sent' after h g (next_of schedule) now (Err fault)) held given told)

  pub along_to_end : (old parts : List PartState) (first sent' : List Letter) (before now : Carried) (picks schedule : Picks) (letters : ℕ) → KeepsAlong old parts first sent' before now picks schedule
      → first_waiting parts ≡ None → RunDraws course truth default old parts first before now picks (Ok letters)
  along_to_end old parts first sent' before now picks schedule letters so_far none base drawing follows along =
      let here = so_far base drawing follows along in
      let ends = run_ends course truth default follows base now parts sent' here.drawing here.along none in
      let end_is : here.drawing ≡ turns (rules course) (owed_all old) (picks_left picks) drawing = ap (λ n. turns (rules course) n (picks_left schedule) here.drawing) (sym ends.1) ∙ here.end_is in (
        here.along.given ∙ ap (λ w. Some (base ++ map spelled w.drawn)) end_is,
        ends.0,
        here.along.parts_are ∙ ap (λ w. w.parts) end_is,
        subst (IsRight (rules course) truth default) end_is here.along.right,
      )

-- Steps of the proof: no public contract names them, and nothing here is a promise. How a run over a carrier that tells which letters wait follows a drawing, whatever the parts hold.
--     unsent         how many letters of its round a part is still to send, and unsent_all how many all are
--     Tracks         that parts, the carrier, and letters that were sent and not yet posted, are those of a drawing, and that as many letters are owed as wait or are still to be sent
--     RunTracks      what a run comes to by its drawing
use Rattle.std.specs.Prelude.{◌≡◌, ◌+◌, ◌-◌, ◌*◌, ℕ, List, [], ◌∷◌, ◌++◌, length, map, Some, Result, Ok, Err}
use Rattle.std.specs.List.{AllByRecursion}
use Rattle.carrier.specs.Carried.{Carried, Letters}
use Rattle.carrier.specs.Schedule.{Picks}
use Rattle.letters.specs.Letters.{IsLetter, spelling}
use Rattle.letters.specs.declared.letter.Body.{Body}
use Rattle.letters.specs.declared.letter.Letter.{Letter}
use Rattle.part_core.specs.Parts.{PartState, sent, taken}
use Rattle.part_phases.specs.Inboxes.{others}
use Rattle.part_phases.specs.Standings as phases
use Rattle.round_rules.specs.Rounds.{rules}
use Rattle.part_rules.specs.declared.course.Course.{Course}
use Rattle.part_store.specs.Stores.{StoreState}
use Rattle.phase_laws.specs.Drawing.{Drawing, turns}
use Rattle.world_run.specs.Drawn.{picks_left, spelled}
use Rattle.world_run.specs.declared.fault.RunFault.{RunFault}
use Rattle.world_run.specs.steps.Beginning.{owed_all}

-- one for each other part in each phase that it has not entered
abbrev pub unsent : {S B W : Type 0} → phases.Rules S B W → phases.Standing S B → ℕ
unsent rules part = (rules.last part.round - part.phase) * length (others rules.parts part.me)

abbrev pub unsent_all : List PartState → ℕ
unsent_all [] = 0
unsent_all (part ∷ parts) = unsent (rules part.course) part.standing + unsent_all parts

module _ (course : Course) where
  pub record Tracks (base : Letters) (carried : Carried) (parts : List PartState) (sent : List Letter) (drawing : Drawing StoreState Body) : Type 0 where
    -- the letters that wait
    pub older : List Letter
    pub held : carried.held ≡ Some (map spelling older)
    pub letters : AllByRecursion IsLetter older
    pub given : carried.given ≡ Some (base ++ map spelled drawing.drawn)
    pub parts_are : map (λ part. part.standing) parts ≡ drawing.parts
    pub courses : AllByRecursion (λ part. part.course ≡ course) parts
    pub waiting : drawing.waiting ≡ map taken (older ++ sent)
    pub even : length (older ++ sent) + unsent_all parts ≡ owed_all parts

  -- where a run tracks a drawing at first, it ends with that drawing drawn to its end, no letter waits, and each that was taken was drawn
  abbrev pub RunTracks : (old new : List PartState) → List Letter → Carried → Carried → Picks → Result ℕ RunFault → Type 0
  RunTracks old new sent before now schedule (Ok letters) = (base : Letters) (drawing : Drawing StoreState Body) → Tracks base before old sent drawing
      → let end : Drawing StoreState Body = turns (rules course) (owed_all old) (picks_left schedule) drawing in
      (now.given ≡ Some (base ++ map spelled end.drawn)) × (now.held ≡ Some []) × (map (λ part. part.standing) new ≡ end.parts) × (length end.drawn ≡ length drawing.drawn + letters)
  RunTracks old new sent before now schedule (Err fault) = Unit {0}

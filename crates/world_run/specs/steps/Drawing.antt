-- Steps of the proof: no public contract names them, and nothing here is a promise. How a run over a carrier that tells which letters wait goes along with a drawing.
--     is_stuck       whether a part has all letters of its phase and is not done
--     GoesAlong      that parts, the carrier, and letters that were sent and not yet posted, are those of a drawing in which all stands right
--     ends_over      that a round ends with too many tetrahedra
--     RunDraws       what a run comes to by its drawing
--     BeginRight     that parts begin the next round with what they hold there by a truth
--     opening        the drawing with which they begin it
--     ComesTo        what the round then comes to by its drawing
--     RestsAlone     what the round of one part alone comes to
use Rattle.std.specs.Prelude.{◌≡◌, ◌<◌, ◌/◌, ℕ, Bool, not, ◌&&◌, true, false, List, [], ◌++◌, map, Some, Result, Ok, Err}
use Rattle.std.specs.List.{AllByRecursion}
use Rattle.carrier.specs.Carried.{Carried, Letters}
use Rattle.carrier.specs.Schedule.{Picks}
use Rattle.letters.specs.Letters.{IsLetter, spelling}
use Rattle.letters.specs.declared.letter.Body.{Body}
use Rattle.letters.specs.declared.letter.Letter.{Letter}
use Rattle.part_core.specs.Parts.{PartState, taken}
use Rattle.part_phases.specs.Phases.{is_complete}
use Rattle.part_phases.specs.Standings as phases
use Rattle.round_rules.specs.Rounds.{rules}
use Rattle.part_rules.specs.declared.course.Course.{Course}
use Rattle.part_store.specs.Stores.{StoreState}
use Rattle.phase_laws.specs.Drawing.{BeginSo, Drawing, IsRight, all_begun, turns}
use Rattle.phase_laws.specs.Truth.{Follows, Truth}
use Rattle.world_run.specs.Drawn.{picks_left, spelled}
use Rattle.world_run.specs.Replay.{all_done, all_next, is_done}
use Rattle.world_run.specs.declared.fault.RunFault.{RunFault}
use Rattle.world_run.specs.declared.fault.RunFault.TheVariants.{Link, BadLetter, Starved, Over, Memory}
use Rattle.world_run.specs.steps.Beginning.{owed_all}

abbrev pub is_stuck : PartState → Bool
is_stuck part = is_complete (rules part.course) part.standing && not (is_done part)

module _ (course : Course) (truth : Truth StoreState Body) (default : phases.Standing StoreState Body) where
  pub record GoesAlong (base : Letters) (carried : Carried) (parts : List PartState) (sent : List Letter) (drawing : Drawing StoreState Body) : Type 0 where
    -- the letters that wait
    pub older : List Letter
    pub held : carried.held ≡ Some (map spelling older)
    pub letters : AllByRecursion IsLetter older
    pub given : carried.given ≡ Some (base ++ map spelled drawing.drawn)
    pub parts_are : map (λ part. part.standing) parts ≡ drawing.parts
    pub courses : AllByRecursion (λ part. part.course ≡ course) parts
    pub waiting : drawing.waiting ≡ map taken (older ++ sent)
    pub right : IsRight (rules course) truth default drawing
    pub free : AllByRecursion (λ part. is_stuck part ≡ false) parts

  -- that the round ends with so many tetrahedra, for some part
  abbrev pub ends_over : ℕ → ℕ → ℕ → Type 0
  ends_over round stage count = (round ≡ truth.round) × (stage ≡ truth.end / 7) × ((q : ℕ) × (q < course.parts) × (truth.outcome q ≡ Err count))

  -- what a turn, or a run, makes of a drawing
  abbrev pub EndsSo : {X : Type 0} → Result X RunFault → Type 0
  EndsSo (Ok _) = Unit {0}
  EndsSo (Err Link) = Unit {0}
  EndsSo (Err (BadLetter bytes)) = ⊥
  EndsSo (Err (Starved part phase)) = ⊥
  EndsSo (Err (Over round stage count)) = ends_over round stage count
  EndsSo (Err Memory) = Unit {0}

  -- where a run goes along with a drawing at first, it ends with that drawing drawn to its end, and no letter waits
  abbrev pub RunDraws : (old new : List PartState) → List Letter → Carried → Carried → Picks → Result ℕ RunFault → Type 0
  RunDraws old new sent before now schedule (Ok letters) = (base : Letters) (drawing : Drawing StoreState Body) → Follows (rules course) truth → GoesAlong base before old sent drawing
      → let end : Drawing StoreState Body = turns (rules course) (owed_all old) (picks_left schedule) drawing in
      (now.given ≡ Some (base ++ map spelled end.drawn)) × (now.held ≡ Some []) × (map (λ part. part.standing) new ≡ end.parts) × IsRight (rules course) truth default end
  RunDraws old new sent before now schedule (Err fault) = (base : Letters) (drawing : Drawing StoreState Body) → Follows (rules course) truth → GoesAlong base before old sent drawing → EndsSo {X = ℕ} (Err fault)

  -- each of the parts of the course begins the round of a truth that its rules follow, and holds there what the truth says
  pub record BeginRight (parts : List PartState) : Type 0 where
    pub follows : Follows (rules course) truth
    pub courses : AllByRecursion (λ part. part.course ≡ course) parts
    pub rounds : AllByRecursion (λ part. part.begun ≡ truth.round) parts
    pub begin : BeginSo (rules course) truth default (map (λ part. part.standing) parts)

  abbrev pub opening : List PartState → Drawing StoreState Body
  opening parts = all_begun (rules course) truth.round (map (λ part. part.standing) parts)

  abbrev pub closing : List PartState → Picks → Drawing StoreState Body
  closing parts schedule = turns (rules course) (owed_all (all_next parts)) (picks_left schedule) (opening parts)

  -- where no letter waited at first, and these were handed out before
  abbrev pub ComesTo : (old new : List PartState) → Letters → Carried → Picks → Result ℕ RunFault → Type 0
  ComesTo old new base now schedule (Ok letters) =
      (now.given ≡ Some (base ++ map spelled (closing old schedule).drawn)) × (now.held ≡ Some []) × (map (λ part. part.standing) new ≡ (closing old schedule).parts)
      × IsRight (rules course) truth default (closing old schedule)
  ComesTo old new base now schedule (Err fault) = EndsSo {X = ℕ} (Err fault)

  -- the part is done once it has begun the round, or has found too many tetrahedra, and nothing happens with the carrier
  abbrev pub RestsAlone : (old new : List PartState) → (before now : Carried) → Result ℕ RunFault → Type 0
  RestsAlone old new before now (Ok letters) = (now ≡ before) × (new ≡ all_next old) × (all_done (all_next old) ≡ true)
  RestsAlone old new before now (Err Link) = ⊥
  RestsAlone old new before now (Err (BadLetter bytes)) = ⊥
  RestsAlone old new before now (Err (Starved part phase)) = ⊥
  RestsAlone old new before now (Err (Over round stage count)) = (now ≡ before) × ends_over round stage count
  RestsAlone old new before now (Err Memory) = Unit {0}

-- Steps of the code: no public contract names them, and nothing here is a promise. What a turn does with letters over a carrier that tells which wait.
--     GivesOut       what a part that is given a letter sends, or says of too many tetrahedra
--     HandsOut       the same of the part that bytes name
--     Posts          that letters wait behind those before
--     TakesFrom      what a take hands out, by a pick, or that none waits
--     TakesAt        that bytes were taken by a pick, of those that wait and those that were sent since
--     TurnTells      what a turn did
--     Reads          that bytes which spell a letter are read as this letter
--     TurnReads      that the bytes are so that a turn took
use Rattle.std.specs.Prelude.{◌≡◌, ◌/◌, ℕ, true, false, List, [], ◌∷◌, ◌++◌, map, slice_get, Option, Some, Result, Ok, Err, Vec}
use Rattle.std.specs.List.{AllByRecursion, remove}
use Rattle.ma_geom.specs.Coordinates.{Coordinates}
use Rattle.carrier.specs.Carried.{Carried, Letters}
use Rattle.carrier.specs.Take.{place_of}
use Rattle.letters.specs.Letters.{IsLetter, spelling}
use Rattle.letters.specs.declared.letter.Body.{Body}
use Rattle.letters.specs.declared.letter.Letter.{Letter}
use Rattle.part_core.specs.Parts.{PartState, sent}
use Rattle.part_phases.specs.Standings as phases
use Rattle.part_store.specs.Stores.{StoreState}
use Rattle.world_run.specs.Replay.{handed_bytes, is_bad, is_refusal, is_too_many, letter_in, outcome_of}
use Rattle.world_run.specs.declared.fault.RunFault.{RunFault}
use Rattle.world_run.specs.declared.fault.RunFault.TheVariants.{Link, BadLetter, Starved, Over, Memory}
use Rattle.world_run.specs.declared.handing.Handed.{Handed}
use Rattle.world_run.specs.declared.handing.Handed.TheVariants as ways

abbrev pub Due : Type 0
Due = phases.Outcome StoreState Body Coordinates

-- that what comes of a letter is too many tetrahedra, in a round and a stage
pub record SaysOver (due : Due) (round stage count : ℕ) : Type 0 where
  pub phase : ℕ
  pub answer : due.answer ≡ phases.Stepped (phases.Over phase count)
  pub round_is : round ≡ due.part.round
  pub stage_is : stage ≡ phase / 7

abbrev pub GivesOut : Handed → Due → (before after : List Letter) → Type 0
GivesOut ways.Refused due before after = Unit {0}
GivesOut ways.Taken due before after = (is_refusal due.answer ≡ false) × (is_too_many due.answer ≡ false) × (after ≡ before ++ map sent due.letters)
GivesOut (ways.TooMany excess) due before after = SaysOver due excess.round excess.stage excess.count
GivesOut ways.Memory due before after = Unit {0}

abbrev pub HandsOut : Handed → List PartState → List ℕ → (before after : List Letter) → Type 0
HandsOut ways.Refused old bytes before after = Unit {0}
HandsOut ways.Taken old bytes before after = (due : Due) × (outcome_of old (letter_in bytes) ≡ Some due) × GivesOut ways.Taken due before after
HandsOut (ways.TooMany excess) old bytes before after = (due : Due) × (outcome_of old (letter_in bytes) ≡ Some due) × GivesOut (ways.TooMany excess) due before after
HandsOut ways.Memory old bytes before after = Unit {0}

abbrev pub Posts : {X : Type 0} → Letters → List Letter → Option Letters → Result X RunFault → Type 0
Posts held sent now (Ok _) = (now ≡ Some (held ++ map spelling sent)) × AllByRecursion IsLetter sent
Posts held sent now (Err _) = Unit {0}

abbrev pub TakesFrom : {A : Type 0} → Letters → ℕ → Option Letters → Result (Vec ℕ A) RunFault → Type 0
TakesFrom held pick now (Ok bytes) = (slice_get held (place_of pick held) ≡ Some bytes.items) × (now ≡ Some (remove held (place_of pick held)))
TakesFrom held pick now (Err (Starved part phase)) = held ≡ []
TakesFrom held pick now (Err Link) = Unit {0}
TakesFrom held pick now (Err Memory) = Unit {0}
TakesFrom held pick now (Err _) = ⊥

-- the letters that wait once those that were sent are posted
abbrev pub waiting : Letters → List Letter → Letters
waiting held sent = held ++ map spelling sent

pub record TakesAt (held : Letters) (sent : List Letter) (pick : ℕ) (given : Letters) (now : Carried) (bytes : List ℕ) : Type 0 where
  pub letters : AllByRecursion IsLetter sent
  pub is : slice_get (waiting held sent) (place_of pick (waiting held sent)) ≡ Some bytes
  pub held_is : now.held ≡ Some (remove (waiting held sent) (place_of pick (waiting held sent)))
  pub given_is : now.given ≡ Some (given ++ bytes ∷ [])

abbrev pub TurnTells : {X : Type 0} → (old new : List PartState) → (sent after : List Letter) → (held given : Letters) → (pick : ℕ) → (now : Carried) → Result X RunFault → Type 0
TurnTells old new sent after held given pick now (Ok _) = (bytes : List ℕ) × TakesAt held sent pick given now bytes × HandsOut ways.Taken old bytes [] after × (new ≡ handed_bytes old bytes)
TurnTells old new sent after held given pick now (Err Link) = Unit {0}
TurnTells old new sent after held given pick now (Err (BadLetter bytes)) = TakesAt held sent pick given now bytes.items × (is_bad old bytes.items ≡ true)
TurnTells old new sent after held given pick now (Err (Starved part phase)) = AllByRecursion IsLetter sent × (waiting held sent ≡ [])
TurnTells old new sent after held given pick now (Err (Over round stage count)) = (bytes : List ℕ) × TakesAt held sent pick given now bytes × ((due : Due) × (outcome_of old (letter_in bytes) ≡ Some due) × SaysOver due round stage count)
TurnTells old new sent after held given pick now (Err Memory) = Unit {0}

abbrev pub Reads : List ℕ → Type 0
Reads bytes = (letter : Letter) → IsLetter letter → bytes ≡ spelling letter → letter_in bytes ≡ Some letter

-- the same where the letter is handed on
abbrev pub ReadsHanded : Handed → List ℕ → Type 0
ReadsHanded ways.Refused bytes = Reads bytes
ReadsHanded ways.Taken bytes = Reads bytes
ReadsHanded (ways.TooMany excess) bytes = Reads bytes
ReadsHanded ways.Memory bytes = Unit {0}

-- and of the bytes that a turn took
abbrev pub ReadsLast : Letters → Option Letters → Type 0
ReadsLast given now = (bytes : List ℕ) → now ≡ Some (given ++ bytes ∷ []) → Reads bytes

abbrev pub TurnReads : {X : Type 0} → (given : Letters) → (now : Option Letters) → Result X RunFault → Type 0
TurnReads given now (Ok _) = ReadsLast given now
TurnReads given now (Err Link) = Unit {0}
TurnReads given now (Err (BadLetter bytes)) = ReadsLast given now
TurnReads given now (Err (Starved part phase)) = Unit {0}
TurnReads given now (Err (Over round stage count)) = ReadsLast given now
TurnReads given now (Err Memory) = Unit {0}

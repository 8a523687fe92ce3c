-- Steps of the code: no public contract names them, and nothing here is a promise. How a run goes on by one letter.
--     Gives          what becomes of a part that is given a letter
--     Hands          what becomes of all parts
--     Takes          what a take hands out, or why it hands out nothing
--     EndsPosting    why letters aren't posted
--     Turns          what one letter makes of the parts
--     Ran            what the letters so far made of them
--     Runs           what all letters make of them
--     Rests          what comes of parts that are all done
use Rattle.std.specs.Prelude.{◌≡◌, ◌+◌, ℕ, true, false, List, [], ◌∷◌, ◌++◌, length, Option, Some, Result, Ok, Err, Vec}
use Rattle.ma_geom.specs.Coordinates.{Coordinates}
use Rattle.letters.specs.declared.letter.Body.{Body}
use Rattle.ma_io.specs.Count.{Rose}
use Rattle.carrier.specs.Carried.{Carried, Letters}
use Rattle.part_core.specs.Parts.{PartState}
use Rattle.part_phases.specs.Standings as phases
use Rattle.part_store.specs.Stores.{StoreState}
use Rattle.world_run.specs.Replay.{after_outcome, all_done, first_waiting, handed_all, handed_bytes, is_bad, is_refusal, is_too_many}
use Rattle.world_run.specs.Told.{IsOver, RunTells}
use Rattle.world_run.specs.declared.fault.RunFault.{RunFault}
use Rattle.world_run.specs.declared.fault.RunFault.TheVariants.{Link, BadLetter, Starved, Over, Memory}
use Rattle.world_run.specs.declared.handing.Handed.{Handed}
use Rattle.world_run.specs.declared.handing.Handed.TheVariants as ways
use Rattle.world_run.specs.steps.Beginning.{AreUnspent, Exceeds, owed_all}

abbrev pub Gives : Handed → PartState → PartState → phases.Outcome StoreState Body Coordinates → Type 0
Gives ways.Refused old new due = (is_refusal due.answer ≡ true) × (new ≡ old)
Gives ways.Taken old new due = (is_refusal due.answer ≡ false) × (is_too_many due.answer ≡ false) × (new ≡ after_outcome old old.begun due)
Gives (ways.TooMany excess) old new due = (new ≡ after_outcome old old.begun due) × Exceeds new excess
Gives ways.Memory old new due = Unit {0}

abbrev pub Hands : Handed → List PartState → List PartState → List ℕ → Type 0
Hands ways.Refused old new bytes = is_bad old bytes ≡ true
Hands ways.Taken old new bytes = (new ≡ handed_bytes old bytes) × AreUnspent new × (owed_all new + 1 ≡ owed_all old)
Hands (ways.TooMany excess) old new bytes = IsOver (handed_bytes old bytes) excess.round excess.stage excess.count
Hands ways.Memory old new bytes = Unit {0}

-- for the first part that isn't done, with its phase
abbrev pub Takes : {A : Type 0} → Letters → Option Letters → ℕ × ℕ → Result (Vec ℕ A) RunFault → Type 0
Takes given now waiting (Ok bytes) = now ≡ Some (given ++ bytes.items ∷ [])
Takes given now waiting (Err (Starved part phase)) = (now ≡ Some given) × (waiting ≡ (part, phase))
Takes given now waiting (Err Link) = Unit {0}
Takes given now waiting (Err Memory) = Unit {0}
Takes given now waiting (Err _) = ⊥

abbrev pub Turns : {X : Type 0} → (old new : List PartState) → (before : Letters) → (now : Option Letters) → Result X RunFault → Type 0
Turns old new before now (Ok _) = (bytes : List ℕ) × (now ≡ Some (before ++ bytes ∷ [])) × (new ≡ handed_bytes old bytes)
Turns old new before now (Err Link) = Unit {0}
Turns old new before now (Err (BadLetter bytes)) = (now ≡ Some (before ++ bytes.items ∷ [])) × (is_bad old bytes.items ≡ true)
Turns old new before now (Err (Starved part phase)) = (now ≡ Some before) × (first_waiting old ≡ Some (part, phase))
Turns old new before now (Err (Over round stage count)) = (bytes : List ℕ) × (now ≡ Some (before ++ bytes ∷ [])) × IsOver (handed_bytes old bytes) round stage count
Turns old new before now (Err Memory) = Unit {0}

-- why letters aren't posted: the carrier failed, or memory ran out
abbrev pub EndsPosting : {X : Type 0} → Carried → Carried → Result X RunFault → Type 0
EndsPosting old new (Ok _) = Unit {0}
EndsPosting old new (Err Link) = Rose old.faults new.faults
EndsPosting old new (Err Memory) = Unit {0}
EndsPosting old new (Err _) = ⊥

abbrev pub Ran : (old new : List PartState) → (before : Letters) → (now : Option Letters) → ℕ → Type 0
Ran old new before now letters = (grown : Letters) × (now ≡ Some (before ++ grown)) × (new ≡ handed_all old grown) × (letters ≡ length grown)

abbrev pub Runs : (old new : List PartState) → (before : Letters) → (now : Option Letters) → Result ℕ RunFault → Type 0
Runs old new before now (Ok letters) = (grown : Letters) × (now ≡ Some (before ++ grown)) × (new ≡ handed_all old grown) × (all_done new ≡ true) × (letters ≡ length grown)
Runs old new before now (Err fault) = RunTells old 0 before now (Err fault)

-- what comes of a run of parts that are all done
abbrev pub Rests : (old new : List PartState) → (before now : Carried) → Result ℕ RunFault → Type 0
Rests old new before now (Ok letters) = (new ≡ old) × (now ≡ before)
Rests old new before now (Err fault) = ⊥

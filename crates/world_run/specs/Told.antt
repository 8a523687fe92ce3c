-- What a run of parts tells over a carrier, by its answer.
use Rattle.std.specs.Prelude.{◌≡◌, ◌+◌, ◌<◌, ◌/◌, ℕ, Bool, true, List, [], ◌∷◌, ◌++◌, length, slice_get, Option, Some, Result, Ok, Err}
use Rattle.ma_io.specs.Count.{Rose}
use Rattle.carrier.specs.Carried.{Carried, Letters}
use Rattle.part_core.specs.Parts.{PartState}
use Rattle.part_rules.specs.Bodies.{posts_in}
use Rattle.part_rules.specs.Ends.{most_tets, total_by}
use Rattle.world_run.specs.Replay.{all_done, first_waiting, handed_all, is_bad}
use Rattle.world_run.specs.declared.fault.RunFault.{RunFault}
use Rattle.world_run.specs.declared.fault.RunFault.TheVariants.{Link, BadLetter, Starved, Over, Memory}

-- the parts of a run, in the order of their numbers, how many letters they have taken, and whether it can go on no more
pub record WorldState : Type 0 where
  pub parts : List PartState
  pub letters : ℕ
  pub spent : Bool

-- that one of the parts has found in a phase of a round that all together have too many tetrahedra
pub record IsOver (parts : List PartState) (round stage count : ℕ) : Type 0 where
  pub number : ℕ
  pub part : PartState
  pub there : slice_get parts number ≡ Some part
  pub spent : part.spent ≡ true
  pub round_is : round ≡ part.standing.round
  pub stage_is : stage ≡ part.standing.phase / 7
  pub count_is : count ≡ total_by part.standing.holds (posts_in part.standing.now)
  pub much : most_tets < count

-- the answer of a call that runs a round of a world, with what the world then is
abbrev pub came_to : {X : Type 0} → WorldState → Result X RunFault → Result WorldState RunFault
came_to world (Ok _) = Ok world
came_to world (Err fault) = Err fault

-- what these parts, which have begun a round and before it had taken so many letters, come to over a carrier that had handed out some letters before and has handed out these now:
-- they are what the letters by which it grew make of them. At `Ok` all are done. Of a bad letter it is told which, and it is the last that was handed out
abbrev pub RunTells : List PartState → (taken : ℕ) → (before : Letters) → (now : Option Letters) → Result WorldState RunFault → Type 0
RunTells parts taken before now (Ok world) = (grown : Letters) × (now ≡ Some (before ++ grown)) × (world.parts ≡ handed_all parts grown) × (all_done world.parts ≡ true) × (world.letters ≡ taken + length grown)
RunTells parts taken before now (Err Link) = Unit {0}
RunTells parts taken before now (Err (BadLetter bytes)) = (grown : Letters) × (now ≡ Some (before ++ (grown ++ bytes.items ∷ []))) × (is_bad (handed_all parts grown) bytes.items ≡ true)
RunTells parts taken before now (Err (Starved part phase)) = (grown : Letters) × (now ≡ Some (before ++ grown)) × (first_waiting (handed_all parts grown) ≡ Some (part, phase))
RunTells parts taken before now (Err (Over round stage count)) = (grown : Letters) × (now ≡ Some (before ++ grown)) × IsOver (handed_all parts grown) round stage count
RunTells parts taken before now (Err Memory) = Unit {0}

-- why a run ended early: the carrier failed, or it had no letter left
abbrev pub HasCause : {W : Type 0} → Carried → Carried → Result W RunFault → Type 0
HasCause old new (Err Link) = Rose old.faults new.faults
HasCause old new (Err (Starved part phase)) = Rose old.dry new.dry
HasCause old new _ = Unit {0}

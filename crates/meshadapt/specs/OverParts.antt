-- What the parts of a job come to over a carrier, round by round.
use Rattle.std.specs.Prelude.{◌≡◌, ◌+◌, ◌≤◌, ℕ, zero, suc, ◌⊎◌, List, [], length, Some, Result, Ok, IfSome}
use Rattle.carrier.specs.Carried.{Carried, Letters}
use Rattle.part_core.specs.Parts.{PartState}
use Rattle.part_rules.specs.declared.course.Course.{Course}
use Rattle.staged_meshes.specs.Staged.{opened}
use Rattle.world_run.specs.Drawn.{Draws, EndsAlone, IfAllIsTold, drawn, letters_upto, picks_left, used}
use Rattle.world_run.specs.Replay.{all_next, first_parts}
use Rattle.world_run.specs.Rounds.{HaveAdapted}
use Rattle.world_run.specs.Told.{RunTells, WorldState}
use Rattle.world_run.specs.declared.fault.RunFault.{RunFault}
use Rattle.meshadapt.specs.Acts.{course_of, whole}
use Rattle.meshadapt.specs.Verdict.{Handout, Inputs, plan_of}
use Rattle.meshadapt.specs.Words.{Job}

-- the parts of the mesh before their first round
abbrev pub parts_at_first : Job → Inputs → Handout → List PartState
parts_at_first job inputs handout = first_parts (course_of job inputs handout) (whole handout)

-- that all letters of so many parts arrive: one part sends none; else the carrier tells which it hands out and which wait, and none waited
abbrev pub AllArrive : ℕ → Carried → Type 0
AllArrive parts carried = (parts ≡ 1) ⊎ ((carried.held ≡ Some []) × ((before : Letters) × (carried.given ≡ Some before)))

-- that the parts have come to this in round 0 over the carrier: where it told what it handed out, by the letters that it handed out in the round. Where it told besides which letters wait, and none did,
-- these are the ones that the schedule draws, no letter was bad, and none was missing. One part comes to its end by itself
pub record StartComes (job : Job) (inputs : Inputs) (handout : Handout) (s t : Carried) (result : Result WorldState RunFault) : Type 0 where
  pub told : IfSome s.given (λ before. RunTells (all_next (parts_at_first job inputs handout)) 0 before t.given result)
  pub drawn : IfAllIsTold s (λ before. Draws (course_of job inputs handout) 0 (whole handout) (drawn (course_of job inputs handout) 0 (parts_at_first job inputs handout) (picks_left handout.schedule)) 0 before t result)
  pub alone : handout.parts ≡ 1 → EndsAlone (course_of job inputs handout) 0 (whole handout) (all_next (parts_at_first job inputs handout)) s t result

-- and likewise in the round behind this one, where the world was so after it. What is drawn is told of parts that have adapted the mesh together up to it, as they have where all their letters arrived; its letters begin with what refining leaves of that mesh
pub record RoundComes (job : Job) (inputs : Inputs) (handout : Handout) (round : ℕ) (world : WorldState) (s t : Carried) (result : Result WorldState RunFault) : Type 0 where
  pub told : IfSome s.given (λ before. RunTells (all_next world.parts) world.letters before t.given result)
  pub drawn : HaveAdapted (course_of job inputs handout) (whole handout) round world.parts → IfAllIsTold s (λ before. Draws (course_of job inputs handout) (round + 1) (opened (plan_of job inputs) (whole handout) (round + 1))
      (drawn (course_of job inputs handout) (round + 1) world.parts (picks_left (used handout.schedule world.letters))) world.letters before t result)
  pub alone : handout.parts ≡ 1 → HaveAdapted (course_of job inputs handout) (whole handout) round world.parts
      → EndsAlone (course_of job inputs handout) (round + 1) (opened (plan_of job inputs) (whole handout) (round + 1)) (all_next world.parts) s t result

-- that they have come to this in a round, where the worlds were these after the rounds before
abbrev pub ComesOf : Job → Inputs → Handout → (worlds : ℕ → WorldState) → (round : ℕ) → Carried → Carried → Result WorldState RunFault → Type 0
ComesOf job inputs handout worlds zero s t result = StartComes job inputs handout s t result
ComesOf job inputs handout worlds (suc round) s t result =
    (between : Carried) × ComesOf job inputs handout worlds round s between (Ok (worlds round)) × RoundComes job inputs handout round (worlds round) between t result

-- after each of so many rounds these are all parts of a course, and as many letters have come to them as the rounds up to it have
abbrev pub AreAll : Course → (rounds : ℕ) → (worlds : ℕ → WorldState) → Type 0
AreAll course rounds worlds = (round : ℕ) → round ≤ rounds → (length (worlds round).parts ≡ course.parts) × ((worlds round).letters ≡ letters_upto course round)

-- What the rounds of parts leave. No public contract names it, and it is no promise.
--     MayRun         that parts can run the rounds of a job
--     HaveCome       where parts stand after so many rounds
--     StartsParts    that they have come through round 0, or why not
--     GoesOn         and through another round
--     RunsParts      and through all rounds of the job, each with its line
use Rattle.std.specs.Prelude.{◌≡◌, ℕ, ◌+◌, ◌-◌, ◌<◌, ◌≤◌, ◌==◌, if◌then◌else◌, false, length, Result, Ok, Err}
use Rattle.carrier.specs.Carried.{Carried}
use Rattle.carrier.specs.Schedule.{Picks}
use Rattle.ma_io.specs.Received.{Received}
use Rattle.mesh_check.specs.Accepted.{most_accepted_tets}
use Rattle.mesh_laws.specs.Adapted.{IsSoundMesh}
use Rattle.msh_write.specs.Text.{nodes_of}
use Rattle.one_mesh.specs.Adaptation.{StaysWithin}
use Rattle.refined_views.specs.Refined.{without_labels}
use Rattle.world_run.specs.Drawn.{used}
use Rattle.world_run.specs.Rounds.{AreDone, HaveAdapted, IsWhole, SeeMesh}
use Rattle.world_run.specs.Told.{HasCause, WorldState}
use Rattle.world_run.specs.Union.{union_in}
use Rattle.world_run.specs.declared.fault.RunFault.{RunFault}
use Rattle.meshadapt.specs.declared.halt.Halt.{Halt}
use Rattle.meshadapt.specs.declared.halt.Halt.TheVariants as halt
use Rattle.meshadapt.specs.declared.part_rounds.Whole.{Whole}
use Rattle.meshadapt.specs.Acts.{IsMeant, adapted_by, bytes_of, course_of, ending_by, meshes_by, round_acts, whole, whole_after}
use Rattle.meshadapt.specs.Outcome.{MayFail, Puts, PutsFront}
use Rattle.meshadapt.specs.OverParts.{AllArrive, AreAll, ComesOf}
use Rattle.meshadapt.specs.Printed.{round_line}
use Rattle.meshadapt.specs.Verdict.{Handout, Inputs, plan_of}
use Rattle.meshadapt.specs.Words.{Job}

-- that parts can run the rounds of a job: these are no more than the grid can be halved, the mesh is sound, and what is handed out of it are its tetrahedra, each once
pub record MayRun (job : Job) (inputs : Inputs) (handout : Handout) : Type 0 where
  pub finer : job.rounds ≤ inputs.grid
  pub sound : IsSoundMesh inputs.mesh
  pub mesh_is : without_labels (whole handout) ≡ inputs.mesh
  pub as_many : length (whole handout).tets ≡ length inputs.mesh.tets
  pub few : length (whole handout).tets ≤ most_accepted_tets

-- a mesh with its nodes is that of the parts
pub record IsWholeMesh (made : Whole) (world : WorldState) : Type 0 where
  pub mesh : made.mesh ≡ union_in world.parts
  pub nodes : made.nodes ≡ nodes_of made.mesh.tets

-- ---- after so many rounds
-- that parts have come to this round over the carrier, where these are the picks that are left, and where they then stand
pub record HaveCome (job : Job) (inputs : Inputs) (handout : Handout) (worlds : ℕ → WorldState) (round : ℕ) (schedule : Picks) (s t : Carried) : Type 0 where
  pub comes : ComesOf job inputs handout worlds round s t (Ok (worlds round))
  pub all : AreAll (course_of job inputs handout) round worlds
  pub is_whole : IsWhole (course_of job inputs handout) (whole handout)
  pub done : AreDone (course_of job inputs handout) (round + 1) (worlds round).parts
  pub unspent : (worlds round).spent ≡ false
  pub picks : schedule ≡ used handout.schedule (worlds round).letters
  pub have_adapted : AllArrive handout.parts s → (before : ℕ) → before ≤ round → HaveAdapted (course_of job inputs handout) (whole handout) before (worlds before).parts
  pub within : AllArrive handout.parts s → StaysWithin (plan_of job inputs) round inputs.mesh
  pub arrive : AllArrive handout.parts s → AllArrive handout.parts t
  pub faults : s.faults ≤ t.faults
  pub dry : s.dry ≤ t.dry

-- these worlds, but for another one after this round
abbrev pub with_world : (worlds : ℕ → WorldState) → ℕ → WorldState → ℕ → WorldState
with_world worlds round world n = if n == round then world else worlds n

-- that parts have come to a fault in this round
pub record BreaksIn (job : Job) (inputs : Inputs) (handout : Handout) (worlds : ℕ → WorldState) (round : ℕ) (s t : Carried) (fault : RunFault) : Type 0 where
  pub comes : ComesOf job inputs handout worlds round s t (Err fault)
  pub cause : HasCause {W = WorldState} s t (Err fault)
  pub meant : AllArrive handout.parts s → MayFail job inputs fault × ((before : ℕ) → before < round → meshes_by worlds before ≡ adapted_by job inputs before)

-- in round 0
pub record BreaksFirst (job : Job) (inputs : Inputs) (handout : Handout) (s t : Carried) (fault : RunFault) : Type 0 where
  pub worlds : ℕ → WorldState
  pub breaks : BreaksIn job inputs handout worlds 0 s t fault

-- what the start of parts answers
abbrev pub StartsParts : Result WorldState Halt → Job → Inputs → Handout → (left : Picks) → Carried → Carried → Type 0
StartsParts (Ok world) job inputs handout left s t = HaveCome job inputs handout (λ _. world) 0 left s t
StartsParts (Err (halt.Unread file)) job inputs handout left s t = ⊥
StartsParts (Err (halt.Refused refusal)) job inputs handout left s t = ⊥
StartsParts (Err (halt.TooMany round stage count)) job inputs handout left s t = ⊥
StartsParts (Err (halt.Unstored name)) job inputs handout left s t = ⊥
StartsParts (Err halt.Unput) job inputs handout left s t = ⊥
StartsParts (Err (halt.Parts fault)) job inputs handout left s t = BreaksFirst job inputs handout s t fault
StartsParts (Err halt.Memory) job inputs handout left s t = Unit {0}

-- what another round of parts answers, where the world is then so
abbrev pub GoesOn : {X : Type 0} → Result X Halt → Job → Inputs → Handout → (worlds : ℕ → WorldState) → (round : ℕ) → WorldState → (left : Picks) → Carried → Carried → Type 0
GoesOn (Ok _) job inputs handout worlds round world left s t = HaveCome job inputs handout (with_world worlds (round + 1) world) (round + 1) left s t
GoesOn (Err (halt.Unread file)) job inputs handout worlds round world left s t = ⊥
GoesOn (Err (halt.Refused refusal)) job inputs handout worlds round world left s t = ⊥
GoesOn (Err (halt.TooMany r stage count)) job inputs handout worlds round world left s t = ⊥
GoesOn (Err (halt.Unstored name)) job inputs handout worlds round world left s t = ⊥
GoesOn (Err halt.Unput) job inputs handout worlds round world left s t = ⊥
GoesOn (Err (halt.Parts fault)) job inputs handout worlds round world left s t = BreaksIn job inputs handout worlds (round + 1) s t fault
GoesOn (Err halt.Memory) job inputs handout worlds round world left s t = Unit {0}

-- ---- with the lines of the rounds
-- so many rounds past the first were run, and their lines put
pub record RanParts (job : Job) (inputs : Inputs) (handout : Handout) (round : ℕ) (world : WorldState) (left : Picks) (s t : Carried) (before after : Received) : Type 0 where
  pub worlds : ℕ → WorldState
  pub last : worlds round ≡ world
  pub come : HaveCome job inputs handout worlds round left s t
  pub printed : Puts (bytes_of (round_acts (meshes_by worlds) round)) before after

-- that parts have come through so many rounds, and to what
pub record CameThrough (job : Job) (inputs : Inputs) (handout : Handout) (worlds : ℕ → WorldState) (round : ℕ) (s t : Carried) : Type 0 where
  pub comes : ComesOf job inputs handout worlds round s t (Ok (worlds round))
  pub all : AreAll (course_of job inputs handout) round worlds
  pub meant : AllArrive handout.parts s → IsMeant job inputs handout round (ending_by worlds round)
  pub within : AllArrive handout.parts s → StaysWithin (plan_of job inputs) round inputs.mesh
  pub see : AllArrive handout.parts s → (before : ℕ) → before ≤ round → SeeMesh (whole_after job inputs handout before) (worlds before).parts

-- the parts have come through all rounds
pub record EndsParts (job : Job) (inputs : Inputs) (handout : Handout) (s t : Carried) (world : WorldState) (before after : Received) : Type 0 where
  pub worlds : ℕ → WorldState
  pub last : worlds job.rounds ≡ world
  pub through : CameThrough job inputs handout worlds job.rounds s t
  pub printed : Puts (bytes_of (round_acts (meshes_by worlds) job.rounds)) before after

-- they came to a fault in this round
pub record BreaksParts (job : Job) (inputs : Inputs) (handout : Handout) (s t : Carried) (fault : RunFault) (before after : Received) : Type 0 where
  pub worlds : ℕ → WorldState
  pub round : ℕ
  pub upto : round ≤ job.rounds
  pub breaks : BreaksIn job inputs handout worlds round s t fault
  pub printed : Puts (bytes_of (round_acts (meshes_by worlds) (round - 1))) before after

-- the line of the round behind so many could not be put
pub record HaltsParted (job : Job) (inputs : Inputs) (handout : Handout) (s t : Carried) (before after : Received) : Type 0 where
  pub worlds : ℕ → WorldState
  pub done : ℕ
  pub more : done + 1 ≤ job.rounds
  pub through : CameThrough job inputs handout worlds (done + 1) s t
  pub front : PutsFront (bytes_of (round_acts (meshes_by worlds) done)) (round_line (done + 1) (meshes_by worlds (done + 1))) before after

-- what the run of all parts answers
abbrev pub RunsParts : {X : Type 0} → (X → WorldState) → Result X Halt → Job → Inputs → Handout → Carried → Carried → Received → Received → Type 0
RunsParts world (Ok ran) job inputs handout s t before after = EndsParts job inputs handout s t (world ran) before after
RunsParts world (Err (halt.Unread file)) job inputs handout s t before after = ⊥
RunsParts world (Err (halt.Refused refusal)) job inputs handout s t before after = ⊥
RunsParts world (Err (halt.TooMany round stage count)) job inputs handout s t before after = ⊥
RunsParts world (Err (halt.Unstored name)) job inputs handout s t before after = ⊥
RunsParts world (Err halt.Unput) job inputs handout s t before after = HaltsParted job inputs handout s t before after
RunsParts world (Err (halt.Parts fault)) job inputs handout s t before after = BreaksParts job inputs handout s t fault before after
RunsParts world (Err halt.Memory) job inputs handout s t before after = Unit {0}

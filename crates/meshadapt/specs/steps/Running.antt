-- What the steps of a run leave. No public contract names it, and it is no promise.
use Rattle.std.specs.Prelude.{◌≡◌, ℕ, ◌+◌, ◌-◌, ◌<◌, ◌≤◌, ◌⊎◌, true, false, List, [], ◌∷◌, ◌++◌, None, Some, Result, Ok, Err, IfSome, string_bytes}
use Rattle.std.specs.FinMap.{insert}
use Rattle.carrier.specs.Carried.{Carried}
use Rattle.ma_cells.specs.declared.batch.Batch.{Batch}
use Rattle.ma_io.specs.Count.{Rose}
use Rattle.ma_io.specs.Held.{Held}
use Rattle.ma_io.specs.Received.{Received}
use Rattle.ma_io.specs.Store.{HoldsFront}
use Rattle.one_mesh.specs.Adaptation.{IsFirstPast, IsFirstStagePast, Plan, RoundStaysWithin, StaysWithin, adapted, last_stage, staged}
use Rattle.one_mesh.specs.Holding.{Holding}
use Rattle.meshadapt.specs.declared.halt.Halt.{Halt}
use Rattle.meshadapt.specs.declared.halt.Halt.TheVariants as halt
use Rattle.meshadapt.specs.declared.status.Status.{Status}
use Rattle.meshadapt.specs.declared.status.Status.TheVariants.{ReadFault, WriteFault, Refused, TooMany, Memory, LinkFault, BadLetter, Starved}
use Rattle.world_run.specs.Told.{HasCause, WorldState}
use Rattle.world_run.specs.declared.fault.RunFault.{RunFault}
use Rattle.world_run.specs.declared.fault.RunFault.TheVariants as run
use Rattle.meshadapt.specs.Acts.{Act, PutLine, StoreFile, adapted_by, begun, bytes_of, meshes_by, outputs, round_acts, rounds_among}
use Rattle.meshadapt.specs.Outcome.{ComesTo, IsVerdict, LeavesDone, LeavesMemory, LeavesUnput, MayFail, Puts, PutsFront, PutsLast, RefusalCounted, Seen, StoresFront, seen}
use Rattle.meshadapt.specs.OverParts.{AllArrive, ComesOf}
use Rattle.meshadapt.specs.Printed.{bad_letter_line, file_name, is_of_job, link_fault_line, read_fault_line, refused_line, round_line, starved_line, too_many_line, write_fault_line}
use Rattle.meshadapt.specs.Verdict.{Handout, Inputs, plan_of, verdict}
use Rattle.meshadapt.specs.Words.{Job}

-- a line was put, or a front of it
abbrev pub PutsLine : {X : Type 0} → Result X Halt → List ℕ → Received → Received → Type 0
PutsLine (Ok _) line s t = Puts line s t
PutsLine (Err (halt.Unread file)) line s t = ⊥
PutsLine (Err (halt.Refused refusal)) line s t = ⊥
PutsLine (Err (halt.TooMany round stage count)) line s t = ⊥
PutsLine (Err (halt.Unstored name)) line s t = ⊥
PutsLine (Err halt.Unput) line s t = PutsFront [] line s t
PutsLine (Err (halt.Parts fault)) line s t = ⊥
PutsLine (Err halt.Memory) line s t = Unit {0}

-- the round of this number was run and its line put, or why not
abbrev pub RunsRound : {X : Type 0} → Result X Halt → ℕ → Plan → Batch → Holding → Received → Received → Type 0
RunsRound (Ok _) round plan mesh new s t =
    (new ≡ record { mesh = staged plan (last_stage plan) mesh; spent = false }) × RoundStaysWithin plan mesh × Puts (round_line round (staged plan (last_stage plan) mesh)) s t
RunsRound (Err (halt.Unread file)) round plan mesh new s t = ⊥
RunsRound (Err (halt.Refused refusal)) round plan mesh new s t = ⊥
RunsRound (Err (halt.TooMany r stage count)) round plan mesh new s t = (r ≡ round) × IsFirstStagePast plan mesh stage count × (t ≡ s)
RunsRound (Err (halt.Unstored name)) round plan mesh new s t = ⊥
RunsRound (Err halt.Unput) round plan mesh new s t = RoundStaysWithin plan mesh × PutsFront [] (round_line round (staged plan (last_stage plan) mesh)) s t
RunsRound (Err (halt.Parts fault)) round plan mesh new s t = ⊥
RunsRound (Err halt.Memory) round plan mesh new s t = Unit {0}

-- the mesh after each round by a plan
abbrev pub by_plan : Plan → Batch → ℕ → Batch
by_plan plan mesh round = adapted plan round mesh

-- so many rounds were run, all within the limit, and their lines put
abbrev pub RanRounds : Plan → ℕ → Batch → Holding → Received → Received → Type 0
RanRounds plan rounds mesh new s t =
    (new ≡ record { mesh = adapted plan rounds mesh; spent = false }) × StaysWithin plan rounds mesh × Puts (bytes_of (round_acts (by_plan plan mesh) rounds)) s t

-- the line of the round behind so many could not be put
pub record HaltsRounds (plan : Plan) (rounds : ℕ) (mesh : Batch) (s t : Received) : Type 0 where
  pub done : ℕ
  pub more : done + 1 ≤ rounds
  pub within : StaysWithin plan (done + 1) mesh
  pub front : PutsFront (bytes_of (round_acts (by_plan plan mesh) done)) (round_line (done + 1) (adapted plan (done + 1) mesh)) s t

-- likewise, or why not
abbrev pub RunsRounds : {X : Type 0} → Result X Halt → Plan → ℕ → Batch → Holding → Received → Received → Type 0
RunsRounds (Ok _) plan rounds mesh new s t = RanRounds plan rounds mesh new s t
RunsRounds (Err (halt.Unread file)) plan rounds mesh new s t = ⊥
RunsRounds (Err (halt.Refused refusal)) plan rounds mesh new s t = ⊥
RunsRounds (Err (halt.TooMany round stage count)) plan rounds mesh new s t = IsFirstPast plan rounds mesh round stage count × Puts (bytes_of (round_acts (by_plan plan mesh) (round - 1))) s t
RunsRounds (Err (halt.Unstored name)) plan rounds mesh new s t = ⊥
RunsRounds (Err halt.Unput) plan rounds mesh new s t = HaltsRounds plan rounds mesh s t
RunsRounds (Err (halt.Parts fault)) plan rounds mesh new s t = ⊥
RunsRounds (Err halt.Memory) plan rounds mesh new s t = Unit {0}

-- a line before the files could not be put
pub record HaltsBegun (job : Job) (inputs : Inputs) (s t : Received) : Type 0 where
  pub done : List Act
  pub line : List ℕ
  pub rest : List Act
  pub acts_are : begun job.rounds inputs (adapted_by job inputs) ≡ done ++ PutLine line ∷ rest
  pub within : StaysWithin (plan_of job inputs) (rounds_among job (done ++ PutLine line ∷ [])) inputs.mesh
  pub none_stored : outputs done ≡ []
  pub front : PutsFront (bytes_of done) line s t

-- the line of the mesh was put and all rounds were run, or why not
abbrev pub Begins : {X : Type 0} → Result X Halt → Job → Inputs → Holding → Received → Received → Type 0
Begins (Ok _) job inputs new s t =
    (new ≡ record { mesh = adapted (plan_of job inputs) job.rounds inputs.mesh; spent = false }) × StaysWithin (plan_of job inputs) job.rounds inputs.mesh × Puts (bytes_of (begun job.rounds inputs (adapted_by job inputs))) s t
Begins (Err (halt.Unread file)) job inputs new s t = ⊥
Begins (Err (halt.Refused refusal)) job inputs new s t = ⊥
Begins (Err (halt.TooMany round stage count)) job inputs new s t =
    IsFirstPast (plan_of job inputs) job.rounds inputs.mesh round stage count × Puts (bytes_of (begun (round - 1) inputs (adapted_by job inputs))) s t
Begins (Err (halt.Unstored name)) job inputs new s t = ⊥
Begins (Err halt.Unput) job inputs new s t = HaltsBegun job inputs s t
Begins (Err (halt.Parts fault)) job inputs new s t = ⊥
Begins (Err halt.Memory) job inputs new s t = Unit {0}

-- bytes were stored under a name, or why not
abbrev pub StoresOne : {X : Type 0} → Result X Halt → List ℕ → List ℕ → Held → Held → Type 0
StoresOne (Ok _) name bytes s t = IfSome s.files (λ files. t.files ≡ Some (insert files name bytes)) × (t.store_faults ≡ s.store_faults)
StoresOne (Err (halt.Unread file)) name bytes s t = ⊥
StoresOne (Err (halt.Refused refusal)) name bytes s t = ⊥
StoresOne (Err (halt.TooMany round stage count)) name bytes s t = ⊥
StoresOne (Err (halt.Unstored unstored)) name bytes s t =
    (string_bytes unstored ≡ name) × Rose s.store_faults t.store_faults × IfSome s.files (λ files. HoldsFront files t.files name bytes)
StoresOne (Err halt.Unput) name bytes s t = ⊥
StoresOne (Err (halt.Parts fault)) name bytes s t = ⊥
StoresOne (Err halt.Memory) name bytes s t = IfSome s.files (λ files. HoldsFront files t.files name bytes)

-- no file has changed, and nothing was posted, taken or put
abbrev pub IsUntouched : Seen → Seen → Type 0
IsUntouched s t = (t.depot.files ≡ s.depot.files) × (t.carrier ≡ s.carrier) × (t.sink ≡ s.sink)

pub record HaltsTooMany (round stage count : ℕ) (job : Job) (s t : Seen) : Type 0 where
  pub inputs : Inputs
  pub verdict : IsVerdict s job (Ok inputs)
  pub alone : inputs.handout ≡ None
  pub first : IsFirstPast (plan_of job inputs) job.rounds inputs.mesh round stage count
  pub files : t.depot.files ≡ s.depot.files
  pub printed : Puts (bytes_of (begun (round - 1) inputs (adapted_by job inputs))) s.sink t.sink

pub record HaltsUnstored (name : List ℕ) (job : Job) (s t : Seen) : Type 0 where
  pub inputs : Inputs
  pub done : List Act
  pub bytes : List ℕ
  pub comes : ComesTo (Some job) s t job inputs done (StoreFile name bytes)
  pub counted : Rose s.depot.store_faults t.depot.store_faults
  pub files : StoresFront (outputs done) name bytes s.depot.files t.depot.files
  pub printed : Puts (bytes_of done) s.sink t.sink

-- the parts came to a fault in this round
pub record HaltsParts (fault : RunFault) (job : Job) (s t : Seen) : Type 0 where
  pub inputs : Inputs
  pub handout : Handout
  pub verdict : IsVerdict s job (Ok inputs)
  pub handed : inputs.handout ≡ Some handout
  pub round : ℕ
  pub upto : round ≤ job.rounds
  pub worlds : ℕ → WorldState
  pub comes : ComesOf job inputs handout worlds round s.carrier t.carrier (Err fault)
  pub cause : HasCause {W = WorldState} s.carrier t.carrier (Err fault)
  pub meant : AllArrive handout.parts s.carrier → MayFail job inputs fault × ((before : ℕ) → before < round → meshes_by worlds before ≡ adapted_by job inputs before)
  pub files : t.depot.files ≡ s.depot.files
  pub printed : Puts (bytes_of (begun (round - 1) inputs (meshes_by worlds))) s.sink t.sink

-- a run of a job did all of its acts, or before its last line is put has come to this
abbrev pub Runs : {X : Type 0} → Result X Halt → Job → Seen → Seen → Type 0
Runs (Ok _) job s t = LeavesDone (Some job) s t
Runs (Err (halt.Unread file)) job s t = (is_of_job job file ≡ true) × Rose s.depot.fetch_faults t.depot.fetch_faults × IsUntouched s t
Runs (Err (halt.Refused refusal)) job s t = IsVerdict s job (Err refusal) × RefusalCounted refusal s.depot t.depot × IsUntouched s t
Runs (Err (halt.TooMany round stage count)) job s t = HaltsTooMany round stage count job s t
Runs (Err (halt.Unstored name)) job s t = HaltsUnstored (string_bytes name) job s t
Runs (Err halt.Unput) job s t = LeavesUnput (Some job) s t
Runs (Err (halt.Parts fault)) job s t = HaltsParts fault job s t
Runs (Err halt.Memory) job s t = LeavesMemory (Some job) s t

-- likewise of a run whose inputs were fetched, from a depot that held the same files before
abbrev pub RunsFrom : {X : Type 0} → Result X Halt → Job → Inputs → Carried → Carried → Held → Held → Received → Received → Type 0
RunsFrom result job inputs c k e f s t =
    (d : Held) → e.files ≡ d.files → e.store_faults ≡ d.store_faults → IfSome d.files (λ files. verdict files job ≡ Ok inputs) → Runs result job (seen d c s) (seen f k t)

-- the run ends so, and its last line was put, or a front of it, unless memory ran out
abbrev pub EndsAs : Status → Status → List ℕ → Received → Received → Type 0
EndsAs status wanted line s t = ((status ≡ wanted) × PutsLast [] line s t) ⊎ (status ≡ Memory)

-- the status of a run whose parts came to a fault, and its last line
abbrev pub PartsEnd : Status → RunFault → Received → Received → Type 0
PartsEnd status run.Link s t = EndsAs status LinkFault link_fault_line s t
PartsEnd status (run.BadLetter bytes) s t = EndsAs status (BadLetter bytes) (bad_letter_line bytes.items) s t
PartsEnd status (run.Starved part phase) s t = EndsAs status (Starved part phase) (starved_line part phase) s t
PartsEnd status (run.Over round stage count) s t = EndsAs status (TooMany round stage count) (too_many_line round stage count) s t
PartsEnd status run.Memory s t = status ≡ Memory

-- the status of a run that has halted, and its last line
abbrev pub Ends : Status → Halt → Job → Received → Received → Type 0
Ends status (halt.Unread file) job s t = EndsAs status ReadFault (read_fault_line (file_name job file)) s t
Ends status (halt.Refused refusal) job s t = EndsAs status (Refused refusal) (refused_line refusal) s t
Ends status (halt.TooMany round stage count) job s t = EndsAs status (TooMany round stage count) (too_many_line round stage count) s t
Ends status (halt.Unstored name) job s t = EndsAs status WriteFault (write_fault_line (string_bytes name)) s t
Ends status halt.Unput job s t = (status ≡ WriteFault) × (t ≡ s)
Ends status (halt.Parts fault) job s t = PartsEnd status fault s t
Ends status halt.Memory job s t = status ≡ Memory

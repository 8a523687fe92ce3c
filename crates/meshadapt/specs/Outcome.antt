-- What a run leaves, by the status that it ends with.
use Rattle.std.specs.Prelude.{◌≡◌, ℕ, ◌-◌, ◌<◌, ◌≤◌, ◌⊎◌, Bool, true, false, List, [], ◌∷◌, ◌++◌, length, take, Option, Some, None, Result, Ok, Err, IfSome, is_some}
use Rattle.ma_io.specs.Count.{Rose}
use Rattle.ma_io.specs.Files.{Files}
use Rattle.ma_io.specs.Held.{Held}
use Rattle.ma_io.specs.Received.{Received}
use Rattle.ma_io.specs.Store.{HoldsFront}
use Rattle.job_files.specs.declared.fault.JobFault.TheVariants as job_faults
use Rattle.mesh_check.specs.declared.fault.MeshFault.TheVariants as faults
use Rattle.carrier.specs.Carried.{Carried}
use Rattle.world_run.specs.Rounds.{SeeMesh}
use Rattle.world_run.specs.Told.{HasCause, WorldState}
use Rattle.world_run.specs.declared.fault.RunFault.{RunFault}
use Rattle.world_run.specs.declared.fault.RunFault.TheVariants as run
use Rattle.msh_read.specs.declared.fault.MshFault.TheVariants.{At, Memory as NoMemory}
use Rattle.one_mesh.specs.Adaptation.{IsFirstPast, StaysWithin}
use Rattle.meshadapt.specs.Acts.{Act, PutLine, StoreFile, Ending, IsMeant, Output, acts_to, adapted_by, begun, bytes_of, course_of, ending_by, files_with, meshes_by, outputs, plain_ending, rounds_among, whole_after}
use Rattle.meshadapt.specs.OverParts.{AllArrive, AreAll, ComesOf}
use Rattle.meshadapt.specs.declared.status.Refusal.{Refusal}
use Rattle.meshadapt.specs.declared.status.Refusal.TheVariants.{Missing, TooLong, Mesh, Accept, Partition, Size, Schedule, Rounds}
use Rattle.meshadapt.specs.declared.status.FileKind.{FileKind}
use Rattle.meshadapt.specs.declared.status.Status.{Status}
use Rattle.meshadapt.specs.declared.status.Status.TheVariants.{Done, Usage, ReadFault, WriteFault, Refused, TooMany, Memory, LinkFault, BadLetter, Starved}
use Rattle.meshadapt.specs.Printed.{bad_letter_line, file_name, is_of_job, link_fault_line, read_fault_line, refused_line, starved_line, too_many_line, usage_line, write_fault_line}
use Rattle.meshadapt.specs.Verdict.{Handout, Inputs, plan_of, verdict}
use Rattle.meshadapt.specs.Words.{Job}

-- what the depot, the carrier and the sink mean at one moment
pub record Seen : Type 0 where
  pub depot : Held
  pub carrier : Carried
  pub sink : Received

abbrev pub seen : Held → Carried → Received → Seen
seen depot carrier sink = record { depot = depot; carrier = carrier; sink = sink }

-- where the depot tells its files, this is the verdict on the job
abbrev pub IsVerdict : Seen → Job → Result Inputs Refusal → Type 0
IsVerdict s job v = IfSome s.depot.files (λ files. verdict files job ≡ v)

-- ---- files, before and after
-- where they were told, they are the old ones with these outputs put in. Where there is no output, no file has changed
abbrev pub Stores : List Output → Option Files → Option Files → Type 0
Stores [] before after = after ≡ before
Stores (output ∷ more) before after = IfSome before (λ files. after ≡ Some (files_with (output ∷ more) files))

-- likewise, and the file of this name holds besides a front of these bytes, or what it held
abbrev pub StoresFront : List Output → List ℕ → List ℕ → Option Files → Option Files → Type 0
StoresFront stored name bytes before after = IfSome before (λ files. HoldsFront (files_with stored files) after name bytes)

-- ---- what was put
-- no put failed, and where the sink told its bytes, these have come to them
abbrev pub Puts : List ℕ → Received → Received → Type 0
Puts bytes s t = (t.faults ≡ s.faults) × IfSome s.written (λ before. t.written ≡ Some (before ++ bytes))

-- these bytes have come to them, and of a line whose put failed a front
abbrev pub PutsFront : List ℕ → List ℕ → Received → Received → Type 0
PutsFront bytes line s t = Rose s.faults t.faults × IfSome s.written (λ before. (n : ℕ) × (t.written ≡ Some (before ++ (bytes ++ take n line))))

-- these bytes have come to them, and then the last line of the run, or a front of it if its put failed
abbrev pub PutsLast : List ℕ → List ℕ → Received → Received → Type 0
PutsLast bytes line s t = Puts (bytes ++ line) s t ⊎ PutsFront bytes line s t

-- ---- parts
-- that a run may have come through so many rounds, and ends so if it has no more: without parts by the mesh alone; over parts by what these have come to, which is what is meant where all letters arrive. After each round each part then sees its own of the mesh as it is to be
abbrev pub MayEnd : Job → Inputs → Option Handout → (rounds : ℕ) → Carried → Carried → Ending → Type 0
MayEnd job inputs None rounds s t ending = ending ≡ plain_ending job inputs
MayEnd job inputs (Some handout) rounds s t ending =
    (worlds : ℕ → WorldState) × ComesOf job inputs handout worlds rounds s t (Ok (worlds rounds)) × AreAll (course_of job inputs handout) rounds worlds × (ending ≡ ending_by worlds rounds)
    × (AllArrive handout.parts s → IsMeant job inputs handout rounds ending) × (AllArrive handout.parts s → (round : ℕ) → round ≤ rounds → SeeMesh (whole_after job inputs handout round) (worlds round).parts)

-- that a run which comes to its act behind so many others is at this round: at its line, or past all rounds
abbrev pub IsAt : Job → (before round : ℕ) → Type 0
IsAt job before round = ((before ≡ round) × (round ≤ job.rounds)) ⊎ (round ≡ job.rounds)

-- that all letters of a job arrive, if it has any
abbrev pub LettersArrive : Carried → Option Handout → Type 0
LettersArrive s None = Unit {0}
LettersArrive s (Some handout) = AllArrive handout.parts s

-- ---- by the status
-- that a run with this end came to an act after these: before the end, whatever it is
pub record IsOnTheWay (job : Job) (inputs : Inputs) (s t : Carried) (done : List Act) (act : Act) : Type 0 where
  pub ending : Ending
  pub rest : List Act
  pub acts_are : acts_to ending job inputs ≡ done ++ act ∷ rest
  -- the line of the mesh is the first of all
  pub ends : (done ≡ []) ⊎ ((round : ℕ) × IsAt job (length done) round × MayEnd job inputs inputs.handout round s t ending)

-- the job of the words was accepted, and its run came to this act after these. The rounds whose lines were put or due are within the limit, if all letters arrive
pub record ComesTo (words : Option Job) (s t : Seen) (job : Job) (inputs : Inputs) (done : List Act) (act : Act) : Type 0 where
  pub words_are : words ≡ Some job
  pub verdict : IsVerdict s job (Ok inputs)
  pub way : IsOnTheWay job inputs s.carrier t.carrier done act
  pub within : LettersArrive s.carrier inputs.handout → StaysWithin (plan_of job inputs) (rounds_among job (done ++ act ∷ [])) inputs.mesh

-- all acts were done
pub record LeavesDone (words : Option Job) (s t : Seen) : Type 0 where
  pub job : Job
  pub inputs : Inputs
  pub words_are : words ≡ Some job
  pub verdict : IsVerdict s job (Ok inputs)
  pub within : LettersArrive s.carrier inputs.handout → StaysWithin (plan_of job inputs) job.rounds inputs.mesh
  pub ending : Ending
  pub ends : MayEnd job inputs inputs.handout job.rounds s.carrier t.carrier ending
  pub files : Stores (outputs (acts_to ending job inputs)) s.depot.files t.depot.files
  pub printed : Puts (bytes_of (acts_to ending job inputs)) s.sink t.sink

pub record LeavesUsage (words : Option Job) (s t : Seen) : Type 0 where
  pub words_are : words ≡ None
  pub files : t.depot.files ≡ s.depot.files
  pub carrier : t.carrier ≡ s.carrier
  pub printed : PutsLast [] usage_line s.sink t.sink

-- the fetch of a file of the job failed
pub record LeavesReadFault (words : Option Job) (s t : Seen) : Type 0 where
  pub job : Job
  pub file : FileKind
  pub words_are : words ≡ Some job
  pub is_of_it : is_of_job job file ≡ true
  pub counted : Rose s.depot.fetch_faults t.depot.fetch_faults
  pub files : t.depot.files ≡ s.depot.files
  pub carrier : t.carrier ≡ s.carrier
  pub printed : PutsLast [] (read_fault_line (file_name job file)) s.sink t.sink

-- A file is missing or too long only where the depot counted that. No refusal is want of memory.
abbrev pub RefusalCounted : Refusal → Held → Held → Type 0
RefusalCounted (Missing file) s t = Rose s.denied t.denied
RefusalCounted (TooLong file) s t = Rose s.denied t.denied
RefusalCounted (Mesh (At line kind)) s t = Unit {0}
RefusalCounted (Mesh NoMemory) s t = ⊥
RefusalCounted (Accept faults.Memory) s t = ⊥
RefusalCounted (Accept fault) s t = Unit {0}
RefusalCounted (Partition job_faults.Memory) s t = ⊥
RefusalCounted (Partition fault) s t = Unit {0}
RefusalCounted (Size job_faults.Memory) s t = ⊥
RefusalCounted (Size fault) s t = Unit {0}
RefusalCounted (Schedule job_faults.Memory) s t = ⊥
RefusalCounted (Schedule fault) s t = Unit {0}
RefusalCounted (Rounds rounds grid) s t = Unit {0}

pub record LeavesRefused (refusal : Refusal) (words : Option Job) (s t : Seen) : Type 0 where
  pub job : Job
  pub words_are : words ≡ Some job
  pub verdict : IsVerdict s job (Err refusal)
  pub counted : RefusalCounted refusal s.depot t.depot
  pub files : t.depot.files ≡ s.depot.files
  pub carrier : t.carrier ≡ s.carrier
  pub printed : PutsLast [] (refused_line refusal) s.sink t.sink

-- the acts before the first round past the limit were done
pub record LeavesTooMany (round stage count : ℕ) (words : Option Job) (s t : Seen) : Type 0 where
  pub job : Job
  pub inputs : Inputs
  pub words_are : words ≡ Some job
  pub verdict : IsVerdict s job (Ok inputs)
  pub alone : inputs.handout ≡ None
  pub first : IsFirstPast (plan_of job inputs) job.rounds inputs.mesh round stage count
  pub files : t.depot.files ≡ s.depot.files
  pub printed : PutsLast (bytes_of (begun (round - 1) inputs (adapted_by job inputs))) (too_many_line round stage count) s.sink t.sink

-- how a run over parts may end early where all its letters arrive: too many tetrahedra are those of the one mesh, and no letter is bad or missing
abbrev pub MayFail : Job → Inputs → RunFault → Type 0
MayFail job inputs run.Link = Unit {0}
MayFail job inputs (run.BadLetter bytes) = ⊥
MayFail job inputs (run.Starved part phase) = ⊥
MayFail job inputs (run.Over round stage count) = IsFirstPast (plan_of job inputs) job.rounds inputs.mesh round stage count
MayFail job inputs run.Memory = Unit {0}

-- the parts of a mesh came to a fault in this round, by which the run ended with this line
pub record LeavesParts (fault : RunFault) (line : List ℕ) (words : Option Job) (s t : Seen) : Type 0 where
  pub job : Job
  pub inputs : Inputs
  pub handout : Handout
  pub words_are : words ≡ Some job
  pub verdict : IsVerdict s job (Ok inputs)
  pub handed : inputs.handout ≡ Some handout
  pub round : ℕ
  pub upto : round ≤ job.rounds
  pub worlds : ℕ → WorldState
  pub comes : ComesOf job inputs handout worlds round s.carrier t.carrier (Err fault)
  pub cause : HasCause {W = WorldState} s.carrier t.carrier (Err fault)
  pub meant : AllArrive handout.parts s.carrier → MayFail job inputs fault × ((before : ℕ) → before < round → meshes_by worlds before ≡ adapted_by job inputs before)
  pub files : t.depot.files ≡ s.depot.files
  pub printed : PutsLast (bytes_of (begun (round - 1) inputs (meshes_by worlds))) line s.sink t.sink

-- the store of a file failed
pub record LeavesUnstored (words : Option Job) (s t : Seen) : Type 0 where
  pub job : Job
  pub inputs : Inputs
  pub done : List Act
  pub name : List ℕ
  pub bytes : List ℕ
  pub comes : ComesTo words s t job inputs done (StoreFile name bytes)
  pub counted : Rose s.depot.store_faults t.depot.store_faults
  pub files : StoresFront (outputs done) name bytes s.depot.files t.depot.files
  pub printed : PutsLast (bytes_of done) (write_fault_line name) s.sink t.sink

-- the put of a line failed
pub record LeavesUnput (words : Option Job) (s t : Seen) : Type 0 where
  pub job : Job
  pub inputs : Inputs
  pub done : List Act
  pub line : List ℕ
  pub comes : ComesTo words s t job inputs done (PutLine line)
  pub files : Stores (outputs done) s.depot.files t.depot.files
  pub printed : PutsFront (bytes_of done) line s.sink t.sink

-- memory ran out at the store of a file, or after it
pub record LeavesStored (words : Option Job) (s t : Seen) : Type 0 where
  pub job : Job
  pub inputs : Inputs
  pub done : List Act
  pub name : List ℕ
  pub bytes : List ℕ
  pub comes : ComesTo words s t job inputs done (StoreFile name bytes)
  pub files : StoresFront (outputs done) name bytes s.depot.files t.depot.files

abbrev pub LeavesMemory : Option Job → Seen → Seen → Type 0
LeavesMemory words s t = (t.depot.files ≡ s.depot.files) ⊎ LeavesStored words s t

abbrev pub Leaves : Status → Option Job → Seen → Seen → Type 0
Leaves Done words s t = LeavesDone words s t
Leaves Usage words s t = LeavesUsage words s t
Leaves ReadFault words s t = LeavesReadFault words s t
Leaves WriteFault words s t = LeavesUnstored words s t ⊎ LeavesUnput words s t
Leaves (Refused refusal) words s t = LeavesRefused refusal words s t
Leaves (TooMany round stage count) words s t = LeavesTooMany round stage count words s t ⊎ LeavesParts (run.Over round stage count) (too_many_line round stage count) words s t
Leaves Memory words s t = LeavesMemory words s t
Leaves LinkFault words s t = LeavesParts run.Link link_fault_line words s t
Leaves (BadLetter bytes) words s t = LeavesParts (run.BadLetter bytes) (bad_letter_line bytes.items) words s t
Leaves (Starved part phase) words s t = LeavesParts (run.Starved part phase) (starved_line part phase) words s t

-- ---- the carrier
abbrev pub are_over_parts : Option Job → Bool
are_over_parts None = false
are_over_parts (Some job) = is_some job.division

-- words that are not of a run over parts leave it as it was
abbrev pub LeavesCarrier : Option Job → Seen → Seen → Type 0
LeavesCarrier words s t = are_over_parts words ≡ false → t.carrier ≡ s.carrier

-- ---- when each status comes
-- no fault was counted
abbrev pub IsQuiet : Seen → Seen → Type 0
IsQuiet s t = ¬ (Rose s.depot.fetch_faults t.depot.fetch_faults) × ¬ (Rose s.depot.store_faults t.depot.store_faults) × ¬ (Rose s.carrier.faults t.carrier.faults) × ¬ (Rose s.sink.faults t.sink.faults)

-- this status, unless memory ran out
abbrev pub EndsWith : Status → Status → Type 0
EndsWith status wanted = (status ≡ wanted) ⊎ (status ≡ Memory)

-- words of another form end with usage
abbrev pub UsageIsAnswered : Status → Option Job → Type 0
UsageIsAnswered status words = words ≡ None → EndsWith status Usage

-- where the depot tells its files and no fault is counted, a refusal that is due is answered
abbrev pub RefusalIsAnswered : Status → Option Job → Seen → Seen → Type 0
RefusalIsAnswered status words s t =
    (job : Job) (files : Files) (refusal : Refusal) → words ≡ Some job → s.depot.files ≡ Some files → verdict files job ≡ Err refusal → IsQuiet s t → EndsWith status (Refused refusal)

-- likewise, a job that is accepted is done, if its mesh stays within the limit and all its letters arrive
abbrev pub AcceptedIsDone : Status → Option Job → Seen → Seen → Type 0
AcceptedIsDone status words s t =
    (job : Job) (files : Files) (inputs : Inputs) → words ≡ Some job → s.depot.files ≡ Some files → verdict files job ≡ Ok inputs
    → StaysWithin (plan_of job inputs) job.rounds inputs.mesh → LettersArrive s.carrier inputs.handout → IsQuiet s t → EndsWith status Done

-- likewise, the first stage after which the mesh of such a job is past the limit is answered
abbrev pub TooManyIsAnswered : Status → Option Job → Seen → Seen → Type 0
TooManyIsAnswered status words s t =
    (job : Job) (files : Files) (inputs : Inputs) (round stage count : ℕ) → words ≡ Some job → s.depot.files ≡ Some files → verdict files job ≡ Ok inputs
    → LettersArrive s.carrier inputs.handout → IsFirstPast (plan_of job inputs) job.rounds inputs.mesh round stage count → IsQuiet s t → EndsWith status (TooMany round stage count)

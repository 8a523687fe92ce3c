-- What a job's files say: what its run starts from, or why the job is refused.
use Rattle.std.specs.Prelude.{ℕ, nat_le, if◌then◌else◌, List, [], length, Option, Some, None, Result, Ok, Err}
use Rattle.std.specs.FinMap.{get}
use Rattle.job_files.specs.declared.fault.JobFault.{JobFault}
use Rattle.job_files.specs.Partition.{labels_of}
use Rattle.job_files.specs.Schedule.{schedule_of}
use Rattle.job_files.specs.Sizes.{field_of}
use Rattle.carrier.specs.Schedule.{Picks}
use Rattle.ma_io.specs.Files.{Files}
use Rattle.ma_cells.specs.Grid.{grid_of}
use Rattle.ma_cells.specs.Meshes.{MarkedMesh}
use Rattle.ma_cells.specs.declared.batch.Batch.{Batch}
use Rattle.mesh_check.specs.Accepted.{accepted_of}
use Rattle.mesh_check.specs.declared.fault.MeshFault.{MeshFault}
use Rattle.msh_read.specs.GroupNames.{GroupName}
use Rattle.msh_read.specs.Raw.{Raw}
use Rattle.msh_read.specs.Reading.{read_of}
use Rattle.msh_read.specs.Trying.{◌>>=◌}
use Rattle.msh_read.specs.declared.fault.MshFault.{MshFault}
use Rattle.one_mesh.specs.Adaptation.{Plan}
use Rattle.one_mesh.specs.Holding.{set_of}
use Rattle.size_marks.specs.Field.{Field}
use Rattle.meshadapt.specs.declared.status.FileKind.{FileKind}
use Rattle.meshadapt.specs.declared.status.FileKind.TheVariants.{MeshFile, PartitionFile, SizeFile, ScheduleFile}
use Rattle.meshadapt.specs.declared.status.Refusal.{Refusal}
use Rattle.meshadapt.specs.declared.status.Refusal.TheVariants.{Missing, TooLong, Mesh, Accept, Partition, Size, Schedule, Rounds}
use Rattle.meshadapt.specs.Words.{Division, Job, Sizes, Uniform, InFile}

-- the mesh that is accepted, its grid exponent, and the names of its file
pub record AcceptedMesh : Type 0 where
  pub mesh : MarkedMesh
  pub grid : ℕ
  pub names : List GroupName

-- a mesh in the order of its file, the number of parts, the part of each tetrahedron, and the picks by which letters are taken
pub record Handout : Type 0 where
  pub mesh : MarkedMesh
  pub parts : ℕ
  pub labels : List ℕ
  pub schedule : Picks

-- what a run starts from: the mesh as sets, its grid exponent, how many of its file's marks were loose, the names of its file, the sizes of edges, and how the mesh is handed out, if it is
pub record Inputs : Type 0 where
  pub mesh : Batch
  pub grid : ℕ
  pub loose : ℕ
  pub names : List GroupName
  pub field : Field
  pub handout : Option Handout

-- what each of its rounds does
abbrev pub plan_of : Job → Inputs → Plan
plan_of job inputs = record { field = inputs.field; collapses = job.collapses; swaps = job.swaps }

-- how many bytes a file may have
abbrev pub longest : ℕ
longest = 67108864

-- the bytes of a file of a job, if it is there
abbrev pub bytes_in : FileKind → Option (List ℕ) → Result (List ℕ) Refusal
bytes_in file None = Err (Missing file)
bytes_in file (Some bytes) = if nat_le (length bytes) longest then Ok bytes else Err (TooLong file)

abbrev pub or_unread : Result Raw MshFault → Result Raw Refusal
or_unread (Ok raw) = Ok raw
or_unread (Err fault) = Err (Mesh fault)

-- the raw mesh that the bytes are
abbrev pub raw_in : List ℕ → Result Raw Refusal
raw_in bytes = or_unread (read_of bytes)

-- the raw mesh in a file, if it is there
abbrev pub raw_in_file : Option (List ℕ) → Result Raw Refusal
raw_in_file file = bytes_in MeshFile file >>= raw_in

-- a mesh with these names
abbrev pub accepted_with : List GroupName → MarkedMesh → AcceptedMesh
accepted_with names mesh = record { mesh = mesh; grid = grid_of mesh.tets; names = names }

abbrev pub or_unaccepted : List GroupName → Result MarkedMesh MeshFault → Result AcceptedMesh Refusal
or_unaccepted names (Ok mesh) = Ok (accepted_with names mesh)
or_unaccepted names (Err fault) = Err (Accept fault)

-- the mesh that a raw mesh is
abbrev pub accepted_in : Raw → Result AcceptedMesh Refusal
accepted_in raw = or_unaccepted raw.names (accepted_of raw 0)

-- the mesh in a file, if it is there
abbrev pub accepted_in_file : Option (List ℕ) → Result AcceptedMesh Refusal
accepted_in_file file = raw_in_file file >>= accepted_in

abbrev pub or_unsized : Result Field JobFault → Result Field Refusal
or_unsized (Ok field) = Ok field
or_unsized (Err fault) = Err (Size fault)

-- the sizes that the bytes of a size file tell
abbrev pub sizes_in : List ℕ → Result Field Refusal
sizes_in bytes = or_unsized (field_of bytes)

-- the sizes of a job, which may stand in a file
abbrev pub field_in : Sizes → Files → Result Field Refusal
field_in (Uniform size) files = Ok (record { default = size; boxes = [] })
field_in (InFile name) files = bytes_in SizeFile (get files name) >>= sizes_in

abbrev pub or_undivided : Result (List ℕ) JobFault → Result (List ℕ) Refusal
or_undivided (Ok labels) = Ok labels
or_undivided (Err fault) = Err (Partition fault)

-- the part of each of so many tetrahedra, as the bytes of a partition file tell it
abbrev pub labels_in : ℕ → ℕ → List ℕ → Result (List ℕ) Refusal
labels_in tets parts bytes = or_undivided (labels_of tets parts bytes)

abbrev pub or_unscheduled : Result Picks JobFault → Result Picks Refusal
or_unscheduled (Ok schedule) = Ok schedule
or_unscheduled (Err fault) = Err (Schedule fault)

-- the picks that the bytes of a schedule file tell
abbrev pub schedule_in : List ℕ → Result Picks Refusal
schedule_in bytes = or_unscheduled (schedule_of bytes)

-- the labels of a job's division, if there is one
abbrev pub labels_for : Option Division → ℕ → Files → Result (Option (List ℕ)) Refusal
labels_for None tets files = Ok None
labels_for (Some division) tets files = do
  bytes ← bytes_in PartitionFile (get files division.partition)
  labels ← labels_in tets division.parts bytes
  Ok (Some labels)

-- how the mesh is handed out, once the labels are known
abbrev pub handout_for : MarkedMesh → Option Division → Option (List ℕ) → Files → Result (Option Handout) Refusal
handout_for mesh (Some division) (Some labels) files = do
  bytes ← bytes_in ScheduleFile (get files division.schedule)
  schedule ← schedule_in bytes
  Ok (Some (record { mesh = mesh; parts = division.parts; labels = labels; schedule = schedule }))
handout_for mesh _ _ files = Ok None

abbrev pub inputs_with : AcceptedMesh → Field → Option Handout → Inputs
inputs_with accepted field handout =
    record { mesh = set_of accepted.mesh; grid = accepted.grid; loose = accepted.mesh.loose; names = accepted.names; field = field; handout = handout }

-- A round halves the grid, so that there are at most as many rounds as its exponent.
abbrev pub within_grid : ℕ → Inputs → Result Inputs Refusal
within_grid rounds inputs = if nat_le rounds inputs.grid then Ok inputs else Err (Rounds rounds inputs.grid)

-- the mesh's file is there, it can be read, the mesh is accepted; the partition file, if the words name one, is there and tells the part of each tetrahedron; so is the size file, if they name one, and
-- can be read; so is the schedule; and the grid is fine enough; or the first of these that fails
abbrev pub verdict : Files → Job → Result Inputs Refusal
verdict files job = do
  accepted ← accepted_in_file (get files job.mesh)
  labels ← labels_for job.division (length accepted.mesh.tets) files
  field ← field_in job.sizes files
  handout ← handout_for accepted.mesh job.division labels files
  within_grid job.rounds (inputs_with accepted field handout)

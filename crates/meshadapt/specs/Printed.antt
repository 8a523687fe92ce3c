-- The lines that a run prints.
use Rattle.std.specs.Prelude.{ℕ, Bool, true, false, List, [], ◌∷◌, ◌++◌, length, codes, Option, Some, None, is_some}
use Rattle.std.specs.Fmt.{decimal, signed_decimal}
use Rattle.std.specs.List.{count_by}
use Rattle.job_files.specs.declared.fault.JobFault.{JobFault}
use Rattle.job_files.specs.declared.fault.JobFault.TheVariants as job_faults
use Rattle.ma_cells.specs.Worst.{worst}
use Rattle.ma_cells.specs.declared.batch.Batch.{Batch}
use Rattle.mesh_check.specs.declared.fault.MeshFault.{MeshFault}
use Rattle.mesh_check.specs.declared.fault.MeshFault.TheVariants as faults
use Rattle.msh_read.specs.declared.fault.MshFault.{MshFault}
use Rattle.msh_read.specs.declared.fault.MshFault.TheVariants.{At, Memory}
use Rattle.msh_read.specs.declared.fault.MshKind.{MshKind}
use Rattle.msh_read.specs.declared.fault.MshKind.TheVariants.{NoFormat, OtherVersion, Binary, BadLine, BadCount, NotWhole, OutOfRange, NodeTwice, NoSuchNode, OtherKind, Truncated, NoNodes, NoElements}
use Rattle.msh_write.specs.Text.{is_tagged, nodes_of}
use Rattle.meshadapt.specs.declared.status.FileKind.{FileKind}
use Rattle.meshadapt.specs.declared.status.FileKind.TheVariants.{MeshFile, PartitionFile, SizeFile, ScheduleFile}
use Rattle.meshadapt.specs.declared.status.Refusal.{Refusal}
use Rattle.meshadapt.specs.declared.status.Refusal.TheVariants.{Missing, TooLong, Mesh, Accept, Partition, Size, Schedule, Rounds}
use Rattle.meshadapt.specs.Words.{Division, Job, Sizes, Uniform, InFile}

abbrev pub ended_line : List ℕ → List ℕ
ended_line line = line ++ 10 ∷ []

-- the mesh before its rounds: of its marks those that have another tag than 0 0, and how many were loose
unfoldable pub mesh_line : Batch → ℕ → List ℕ
mesh_line mesh loose =
    ended_line (codes "mesh: tets " ++ decimal (length mesh.tets) ++ codes " nodes " ++ decimal (length (nodes_of mesh.tets)) ++ codes " marks " ++ decimal (count_by is_tagged mesh.marks) ++ codes " loose " ++ decimal loose)

-- the mesh after a round
unfoldable pub round_line : ℕ → Batch → List ℕ
round_line round mesh =
    ended_line (codes "round " ++ decimal round ++ codes ": tets " ++ decimal (length mesh.tets) ++ codes " nodes " ++ decimal (length (nodes_of mesh.tets)) ++ codes " worst " ++ decimal (worst mesh.tets))

-- after this stage of this round there are too many tetrahedra
unfoldable pub too_many_line : ℕ → ℕ → ℕ → List ℕ
too_many_line round stage count =
    ended_line (codes "too many: round " ++ decimal round ++ codes " stage " ++ decimal stage ++ codes " tets " ++ decimal count)

-- all was done, without parts, or over so many by so many letters
abbrev pub done_line : List ℕ
done_line = ended_line (codes "done: plain")

unfoldable pub parts_done_line : ℕ → ℕ → List ℕ
parts_done_line parts letters = ended_line (codes "done: parts " ++ decimal parts ++ codes " letters " ++ decimal letters)

abbrev pub link_fault_line : List ℕ
link_fault_line = ended_line (codes "link fault")

-- a letter of so many bytes was refused
unfoldable pub bad_letter_line : List ℕ → List ℕ
bad_letter_line bytes = ended_line (codes "bad letter: " ++ decimal (length bytes) ++ codes " bytes")

-- this part waits in this phase, and no letter is left
unfoldable pub starved_line : ℕ → ℕ → List ℕ
starved_line part phase = ended_line (codes "starved: part " ++ decimal part ++ codes " phase " ++ decimal phase)

abbrev pub usage_line : List ℕ
usage_line = ended_line (codes "usage")

-- the names of what is stored: the mesh, and what a part sees of it
abbrev pub mesh_name : Job → List ℕ
mesh_name job = job.out ++ codes ".msh"

unfoldable pub part_name : Job → ℕ → List ℕ
part_name job part = job.out ++ codes ".p" ++ decimal part ++ codes ".msh"

abbrev pub size_file_name : Sizes → List ℕ
size_file_name (Uniform size) = []
size_file_name (InFile name) = name

abbrev pub are_in_file : Sizes → Bool
are_in_file (Uniform size) = false
are_in_file (InFile name) = true

abbrev pub partition_name : Option Division → List ℕ
partition_name None = []
partition_name (Some division) = division.partition

abbrev pub schedule_name : Option Division → List ℕ
schedule_name None = []
schedule_name (Some division) = division.schedule

-- the name of a file that is fetched for a job
abbrev pub file_name : Job → FileKind → List ℕ
file_name job MeshFile = job.mesh
file_name job PartitionFile = partition_name job.division
file_name job SizeFile = size_file_name job.sizes
file_name job ScheduleFile = schedule_name job.division

-- whether a file of this kind is fetched for a job
abbrev pub is_of_job : Job → FileKind → Bool
is_of_job job MeshFile = true
is_of_job job PartitionFile = is_some job.division
is_of_job job SizeFile = are_in_file job.sizes
is_of_job job ScheduleFile = is_some job.division

-- the name of the file that couldn't be fetched
unfoldable pub read_fault_line : List ℕ → List ℕ
read_fault_line name = ended_line (codes "read fault: " ++ name)

-- the name of the file that couldn't be stored
unfoldable pub write_fault_line : List ℕ → List ℕ
write_fault_line name = ended_line (codes "write fault: " ++ name)

abbrev pub kind_text : MshKind → List ℕ
kind_text NoFormat = codes "no format"
kind_text OtherVersion = codes "other version"
kind_text Binary = codes "binary"
kind_text BadLine = codes "bad line"
kind_text BadCount = codes "bad count"
kind_text NotWhole = codes "not whole"
kind_text OutOfRange = codes "out of range"
kind_text NodeTwice = codes "node twice"
kind_text NoSuchNode = codes "no such node"
kind_text (OtherKind kind) = codes "element type " ++ signed_decimal kind
kind_text Truncated = codes "truncated"
kind_text NoNodes = codes "no nodes"
kind_text NoElements = codes "no elements"

-- why a file can't be read
abbrev pub reading_text : MshFault → List ℕ
reading_text (At line kind) = codes "mesh line " ++ decimal line ++ codes ": " ++ kind_text kind
reading_text Memory = codes "memory"

-- why a mesh isn't accepted
abbrev pub fault_text : MeshFault → List ℕ
fault_text faults.NoTets = codes "no tetrahedra"
fault_text (faults.TooManyTets count) = decimal count ++ codes " tetrahedra"
fault_text (faults.TooFar node) = codes "node " ++ decimal node ++ codes " too far"
fault_text (faults.SamePlace node other) = codes "nodes " ++ decimal node ++ codes " and " ++ decimal other ++ codes " at one place"
fault_text (faults.Flat tet) = codes "tetrahedron " ++ decimal tet ++ codes " flat"
fault_text (faults.Repeated tet other) = codes "tetrahedra " ++ decimal tet ++ codes " and " ++ decimal other ++ codes " the same"
fault_text (faults.Overlap tet other) = codes "tetrahedra " ++ decimal tet ++ codes " and " ++ decimal other ++ codes " overlap"
fault_text faults.Memory = codes "memory"

abbrev pub file_text : FileKind → List ℕ
file_text MeshFile = codes "mesh"
file_text PartitionFile = codes "partition"
file_text SizeFile = codes "size"
file_text ScheduleFile = codes "schedule"

-- what is wrong with a line of a file of a job, or with the number of its lines
abbrev pub job_text : FileKind → JobFault → List ℕ
job_text file (job_faults.BadLine line) = file_text file ++ codes " line " ++ decimal line ++ codes ": bad line"
job_text file (job_faults.SizeOutOfRange line) = file_text file ++ codes " line " ++ decimal line ++ codes ": out of range"
job_text file (job_faults.TooManyBoxes line) = file_text file ++ codes " line " ++ decimal line ++ codes ": too many boxes"
job_text file (job_faults.PartTooBig line) = file_text file ++ codes " line " ++ decimal line ++ codes ": part too big"
job_text file (job_faults.WrongCount have want) = file_text file ++ codes ": " ++ decimal have ++ codes " lines for " ++ decimal want ++ codes " tetrahedra"
job_text file job_faults.Memory = codes "memory"

abbrev pub refusal_text : Refusal → List ℕ
refusal_text (Missing file) = file_text file ++ codes ": missing"
refusal_text (TooLong file) = file_text file ++ codes ": too long"
refusal_text (Mesh fault) = reading_text fault
refusal_text (Accept fault) = codes "mesh: " ++ fault_text fault
refusal_text (Partition fault) = job_text PartitionFile fault
refusal_text (Size fault) = job_text SizeFile fault
refusal_text (Schedule fault) = job_text ScheduleFile fault
refusal_text (Rounds rounds grid) = codes "rounds " ++ decimal rounds ++ codes " grid " ++ decimal grid

unfoldable pub refused_line : Refusal → List ℕ
refused_line refusal = ended_line (codes "refused: " ++ refusal_text refusal)

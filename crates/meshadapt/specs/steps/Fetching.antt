-- How the code fetches what a run starts from. No public contract names it, and it is no promise.
use Rattle.std.specs.Prelude.{◌≡◌, ℕ, ◌<◌, ◌≤◌, true, List, length, Option, Some, None, Result, Ok, Err, IfSome}
use Rattle.std.specs.List.{All, list_all}
use Rattle.std.specs.List.Sorted.{IsStrictlySortedBy}
use Rattle.ma_io.specs.Count.{Rose}
use Rattle.ma_io.specs.Files.{Files}
use Rattle.ma_io.specs.Held.{Held}
use Rattle.job_files.specs.declared.fault.JobFault.TheVariants as job_faults
use Rattle.mesh_check.specs.Accepted.{most_accepted_tets}
use Rattle.mesh_laws.specs.Adapted.{IsSoundMesh}
use Rattle.one_mesh.specs.Holding.{set_of}
use Rattle.mesh_check.specs.declared.fault.MeshFault.TheVariants as faults
use Rattle.msh_read.specs.declared.fault.MshFault.TheVariants.{At, Memory as NoMemory}
use Rattle.size_marks.specs.Field.{Field}
use Rattle.meshadapt.specs.declared.fetching.Accepted.{Accepted}
use Rattle.meshadapt.specs.declared.fetching.Fetched.{Fetched}
use Rattle.meshadapt.specs.declared.fetching.Handout.{Handout as FetchedHandout}
use Rattle.meshadapt.specs.declared.halt.Halt.{Halt}
use Rattle.meshadapt.specs.declared.halt.Halt.TheVariants.{Unread, Refused, TooMany, Unstored, Unput, Parts, Memory}
use Rattle.meshadapt.specs.declared.status.Refusal.{Refusal}
use Rattle.meshadapt.specs.declared.status.Refusal.TheVariants.{Missing, TooLong, Mesh, Accept, Partition, Size, Schedule, Rounds}
use Rattle.meshadapt.specs.Outcome.{RefusalCounted}
use Rattle.meshadapt.specs.Printed.{is_of_job}
use Rattle.meshadapt.specs.Verdict.{AcceptedMesh, Handout, Inputs, inputs_with}
use Rattle.ma_cells.specs.Cells.{is_cell, mark_cmp}
use Rattle.ma_cells.specs.Grid.{are_on_grid, marks_are_on_grid}
use Rattle.ma_cells.specs.Incidence.{is_on}
use Rattle.ma_cells.specs.Meshes.{MarkedMesh}
use Rattle.std.specs.Option.{option_map}
use Rattle.meshadapt.specs.Words.{Job}
use Rattle.meshadapt.specs.declared.words.Division.{Division as DivisionWords}

-- the mesh that was accepted
abbrev pub accepted_mesh : Accepted → AcceptedMesh
accepted_mesh accepted = record { mesh = accepted.mesh; grid = accepted.grid; names = accepted.names.items }

-- how a mesh is handed out
abbrev pub handout_of : MarkedMesh → FetchedHandout → Handout
handout_of mesh handout = record { mesh = mesh; parts = handout.parts; labels = handout.labels.items; schedule = handout.schedule }

-- what was fetched
abbrev pub inputs_of : Fetched → Inputs
inputs_of fetched = inputs_with (accepted_mesh fetched.accepted) fetched.field (option_map (handout_of fetched.accepted.mesh) fetched.handout)

-- what a run starts from whose mesh was handed out
abbrev pub inputs_over : Accepted → Field → FetchedHandout → Inputs
inputs_over accepted field handout = inputs_with (accepted_mesh accepted) field (Some (handout_of accepted.mesh handout))

-- ---- what is needed for a run over parts
-- that parts can be run on a mesh, on its grid: its marks are a set of marks on cells of its tetrahedra, there are not too many of these and none is there twice, and the mesh is sound
pub record IsRunnable (mesh : MarkedMesh) (grid : ℕ) : Type 0 where
  pub coarsest : grid ≤ 30
  pub tets : are_on_grid grid mesh.tets ≡ true
  pub marks : marks_are_on_grid grid mesh.marks ≡ true
  pub few : length mesh.tets ≤ most_accepted_tets
  pub rise : IsStrictlySortedBy mark_cmp mesh.marks
  pub cells : list_all (λ mark. is_cell mark.cell) mesh.marks ≡ true
  pub on_cells : list_all (λ mark. is_on mesh.tets mark.cell) mesh.marks ≡ true
  pub sound : IsSoundMesh (set_of mesh)
  pub once : length (set_of mesh).tets ≡ length mesh.tets

-- there is a label for each of so many tetrahedra, each below the number of parts
pub record AreLabels (parts tets : ℕ) (labels : List ℕ) : Type 0 where
  pub each : length labels ≡ tets
  pub below : All (λ label. label < parts) labels

-- the labels of a division, if there is one
abbrev pub LabelsFit : Option DivisionWords → ℕ → Option (List ℕ) → Type 0
LabelsFit None tets None = Unit {0}
LabelsFit None tets (Some labels) = ⊥
LabelsFit (Some division) tets None = ⊥
LabelsFit (Some division) tets (Some labels) = AreLabels division.parts tets labels

-- a mesh is handed out as its division says, with these labels
pub record IsHandedOut (division : DivisionWords) (labels : List ℕ) (handout : FetchedHandout) : Type 0 where
  pub parts : handout.parts ≡ division.parts
  pub labels_are : handout.labels.items ≡ labels

-- a mesh is handed out with its labels, if there is a division
abbrev pub Hands : Option DivisionWords → Option (List ℕ) → Option FetchedHandout → Type 0
Hands (Some division) (Some labels) (Some handout) = IsHandedOut division labels handout
Hands (Some division) (Some labels) None = ⊥
Hands (Some division) None (Some handout) = ⊥
Hands (Some division) None None = Unit {0}
Hands None labels (Some handout) = ⊥
Hands None labels None = Unit {0}

-- what of a division was fetched
pub record IsOfDivision (division : DivisionWords) (tets : ℕ) (handout : FetchedHandout) : Type 0 where
  pub parts : handout.parts ≡ division.parts
  pub labels : AreLabels handout.parts tets handout.labels.items

-- the mesh is handed out where there is a division
abbrev pub HandoutFits : Option DivisionWords → ℕ → Option FetchedHandout → Type 0
HandoutFits None tets None = Unit {0}
HandoutFits None tets (Some handout) = ⊥
HandoutFits (Some division) tets None = ⊥
HandoutFits (Some division) tets (Some handout) = IsOfDivision division tets handout

-- parts can be run on what was fetched for a job with this division
pub record CanRun (division : Option DivisionWords) (fetched : Fetched) : Type 0 where
  pub mesh : IsRunnable fetched.accepted.mesh fetched.accepted.grid
  pub handout : HandoutFits division (length fetched.accepted.mesh.tets) fetched.handout

-- ---- answers
-- what the bytes of a file may be refused for
abbrev pub IsOfBytes : Refusal → Type 0
IsOfBytes (Missing file) = ⊥
IsOfBytes (TooLong file) = ⊥
IsOfBytes (Mesh NoMemory) = ⊥
IsOfBytes (Mesh (At line kind)) = Unit {0}
IsOfBytes (Accept faults.Memory) = ⊥
IsOfBytes (Accept fault) = Unit {0}
IsOfBytes (Partition job_faults.Memory) = ⊥
IsOfBytes (Partition fault) = Unit {0}
IsOfBytes (Schedule job_faults.Memory) = ⊥
IsOfBytes (Schedule fault) = Unit {0}
IsOfBytes (Size job_faults.Memory) = ⊥
IsOfBytes (Size fault) = Unit {0}
IsOfBytes (Rounds rounds grid) = Unit {0}

-- what was answered to bytes, seen by view, is what is due, unless memory ran out
abbrev pub Reads : {X Y : Type 0} → (X → Y) → Result X Halt → Result Y Refusal → Type 0
Reads view (Ok x) due = due ≡ Ok (view x)
Reads view (Err (Unread file)) due = ⊥
Reads view (Err (Refused refusal)) due = IsOfBytes refusal × (due ≡ Err refusal)
Reads view (Err (TooMany round stage count)) due = ⊥
Reads view (Err (Unstored name)) due = ⊥
Reads view (Err Unput) due = ⊥
Reads view (Err (Parts fault)) due = ⊥
Reads view (Err Memory) due = Unit {0}

-- no count has fallen
abbrev pub CountsGrow : Held → Held → Type 0
CountsGrow s t = (s.fetch_faults ≤ t.fetch_faults) × (s.denied ≤ t.denied)

-- likewise of a depot, by the files that it tells, unless the fetch of a file of the job failed
abbrev pub Fetches : {X Y : Type 0} → Job → (X → Y) → Result X Halt → (Files → Result Y Refusal) → Held → Held → Type 0
Fetches job view (Ok x) due s t = IfSome s.files (λ files. due files ≡ Ok (view x))
Fetches job view (Err (Unread file)) due s t = (is_of_job job file ≡ true) × Rose s.fetch_faults t.fetch_faults
Fetches job view (Err (Refused refusal)) due s t = IfSome s.files (λ files. due files ≡ Err refusal) × RefusalCounted refusal s t
Fetches job view (Err (TooMany round stage count)) due s t = ⊥
Fetches job view (Err (Unstored name)) due s t = ⊥
Fetches job view (Err Unput) due s t = ⊥
Fetches job view (Err (Parts fault)) due s t = ⊥
Fetches job view (Err Memory) due s t = Unit {0}

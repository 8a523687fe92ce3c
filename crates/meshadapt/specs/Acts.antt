-- What a run does: the acts of one that meets no fault, in the order of work.
use Rattle.std.specs.Prelude.{◌≡◌, ◌≤◌, ℕ, zero, suc, ◌-◌, min, List, [], ◌∷◌, ◌++◌, length, map}
use Rattle.std.specs.FinMap.{insert}
use Rattle.ma_cells.specs.declared.batch.Batch.{Batch}
use Rattle.ma_cells.specs.declared.view.View.{View}
use Rattle.ma_io.specs.Files.{Files}
use Rattle.msh_write.specs.PartText.{part_text}
use Rattle.msh_write.specs.Text.{text_of}
use Rattle.one_mesh.specs.Adaptation.{adapted}
use Rattle.part_phases.specs.Inboxes.{below}
use Rattle.part_store.specs.Labelled.{LabelledMesh, view_of}
use Rattle.part_store.specs.Stores.{view_in}
use Rattle.part_rules.specs.declared.course.Course.{Course}
use Rattle.staged_meshes.specs.Staged.{adapted_times}
use Rattle.world_run.specs.Drawn.{letters_upto}
use Rattle.world_run.specs.Meshes.{labelled_mesh}
use Rattle.world_run.specs.Told.{WorldState}
use Rattle.world_run.specs.Union.{union_in}
use Rattle.meshadapt.specs.Printed.{done_line, mesh_line, mesh_name, part_name, parts_done_line, round_line}
use Rattle.meshadapt.specs.Verdict.{Handout, Inputs, plan_of}
use Rattle.meshadapt.specs.Words.{Job}

-- a line is put, or bytes are stored under a name
pub data Act : Type 0 where
  PutLine : List ℕ → Act
  StoreFile : List ℕ → List ℕ → Act

-- the lines that are put
abbrev pub lines : List Act → List (List ℕ)
lines [] = []
lines (PutLine line ∷ acts) = line ∷ lines acts
lines (StoreFile name bytes ∷ acts) = lines acts

-- their bytes, one after another
abbrev pub bytes_of : List Act → List ℕ
bytes_of [] = []
bytes_of (PutLine line ∷ acts) = line ++ bytes_of acts
bytes_of (StoreFile name bytes ∷ acts) = bytes_of acts

-- the name and the bytes of a file that is stored
pub record Output : Type 0 where
  pub name : List ℕ
  pub bytes : List ℕ

abbrev pub outputs : List Act → List Output
outputs [] = []
outputs (PutLine line ∷ acts) = outputs acts
outputs (StoreFile name bytes ∷ acts) = record { name = name; bytes = bytes } ∷ outputs acts

-- the files with these put in, one after another
abbrev pub files_with : List Output → Files → Files
files_with [] files = files
files_with (output ∷ more) files = files_with more (insert files output.name output.bytes)

-- ---- the rounds
-- so many rounds, each with the line of the mesh after it
abbrev pub round_acts : (meshes : ℕ → Batch) → ℕ → List Act
round_acts meshes zero = []
round_acts meshes (suc n) = round_acts meshes n ++ PutLine (round_line (suc n) (meshes (suc n))) ∷ []

-- the line of the mesh, and so many rounds
abbrev pub begun : ℕ → Inputs → (meshes : ℕ → Batch) → List Act
begun rounds inputs meshes = PutLine (mesh_line inputs.mesh inputs.loose) ∷ round_acts meshes rounds

-- the mesh after each round as one part makes it
abbrev pub adapted_by : Job → Inputs → ℕ → Batch
adapted_by job inputs round = adapted (plan_of job inputs) round inputs.mesh

-- ---- the end
-- the mesh after each round, what each part sees of the last, and the last line
pub record Ending : Type 0 where
  pub meshes : ℕ → Batch
  pub views : List View
  pub line : List ℕ

-- a file for each part, with what it sees
abbrev pub view_output : Job → Inputs → View → Output
view_output job inputs view = record { name = part_name job view.part; bytes = part_text view inputs.names }

abbrev pub part_act : Job → Inputs → View → Act
part_act job inputs view = let output : Output = view_output job inputs view in StoreFile output.name output.bytes

-- the mesh after all rounds is stored, and what each part sees, with the names of the file, and the last line is put
abbrev pub end_acts : Job → Inputs → Ending → List Act
end_acts job inputs ending = StoreFile (mesh_name job) (text_of (ending.meshes job.rounds) inputs.names) ∷ (map (part_act job inputs) ending.views ++ PutLine ending.line ∷ [])

-- the end of a run without parts, and of one over parts by what these came to after each of so many rounds
abbrev pub plain_ending : Job → Inputs → Ending
plain_ending job inputs = record { meshes = adapted_by job inputs; views = []; line = done_line }

abbrev pub meshes_by : (worlds : ℕ → WorldState) → ℕ → Batch
meshes_by worlds round = union_in (worlds round).parts

abbrev pub ending_by : (worlds : ℕ → WorldState) → ℕ → Ending
ending_by worlds rounds = record {
  meshes = meshes_by worlds;
  views = map (λ part. view_in part.standing.holds) (worlds rounds).parts;
  line = parts_done_line (length (worlds rounds).parts) (worlds rounds).letters;
}

-- what its parts have in common
abbrev pub course_of : Job → Inputs → Handout → Course
course_of job inputs handout = record { parts = handout.parts; grid = inputs.grid; collapse = job.collapses; swap = job.swaps; field = inputs.field }

-- the mesh of a job, with the labels of its parts, and after a round
abbrev pub whole : Handout → LabelledMesh
whole handout = labelled_mesh handout.mesh handout.labels

abbrev pub whole_after : Job → Inputs → Handout → ℕ → LabelledMesh
whole_after job inputs handout round = adapted_times (plan_of job inputs) (whole handout) round

-- that an end over parts is the one that is meant after so many rounds: after each the mesh as one part makes it, then each part's view of the last, and as many letters as the rounds have
pub record IsMeant (job : Job) (inputs : Inputs) (handout : Handout) (rounds : ℕ) (ending : Ending) : Type 0 where
  pub meshes : (round : ℕ) → round ≤ rounds → ending.meshes round ≡ adapted_by job inputs round
  pub views : ending.views ≡ map (view_of (whole_after job inputs handout rounds)) (below handout.parts)
  pub line : ending.line ≡ parts_done_line handout.parts (letters_upto (course_of job inputs handout) rounds)

-- all of a run that ends so: the line of the mesh, the rounds, the files, and the last line
abbrev pub acts_to : Ending → Job → Inputs → List Act
acts_to ending job inputs = begun job.rounds inputs ending.meshes ++ end_acts job inputs ending

-- of how many rounds the lines are among the first acts of a run. Before them there is the line of the mesh, and after them there may be the last line
abbrev pub rounds_among : Job → List Act → ℕ
rounds_among job acts = min job.rounds (length (lines acts) - 1)

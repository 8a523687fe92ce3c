-- What the rounds of a job keep of the geometry of the mesh in its file.
use Rattle.std.specs.Prelude.{◌≡◌, ℕ, ◌-◌, ◌≤◌, true, List, map, Option, Some, Ok, IfSome}
use Rattle.std.specs.FinMap as files_map
use Rattle.ma_cells.specs.Grid.{mesh_is_on_grid}
use Rattle.ma_cells.specs.declared.batch.Batch.{Batch}
use Rattle.ma_cells.specs.declared.view.View.{View}
use Rattle.mesh_laws.specs.Adapted.{IsAdapted, IsSoundMesh}
use Rattle.ma_io.specs.Files.{Files}
use Rattle.msh_write.specs.Text.{text_of}
use Rattle.one_mesh.specs.Adaptation.{adapted}
use Rattle.meshadapt.specs.declared.status.Status.{Status}
use Rattle.meshadapt.specs.declared.status.Status.TheVariants.{Done, Usage, ReadFault, WriteFault, Refused, TooMany, Memory, LinkFault, BadLetter, Starved}
use Rattle.meshadapt.specs.Acts.{files_with, view_output}
use Rattle.meshadapt.specs.Outcome.{LettersArrive, Seen}
use Rattle.meshadapt.specs.Printed.{mesh_name}
use Rattle.meshadapt.specs.Verdict.{Inputs, plan_of, verdict}
use Rattle.meshadapt.specs.Words.{Job}

-- Of the mesh that is accepted for a job, and of a new one that so many rounds made of it
pub record KeepsGeometry (inputs : Inputs) (rounds : ℕ) (new : Batch) : Type 0 where
  -- the file's mesh is conforming, no rational point off its closed faces is within two of its tetrahedra, and none of them is flat
  pub sound : IsSoundMesh inputs.mesh
  -- so is the new one; it covers the same, region by region, off the closed faces of both; and with each tag the same points lie on marked triangles, on marked segments and on marked points
  pub adapted : IsAdapted inputs.mesh new
  -- each round has halved the grid at most once
  pub grid : mesh_is_on_grid (inputs.grid - rounds) new ≡ true

-- the mesh after each round of a job that is accepted does
abbrev pub RoundsKeepGeometry : Type 0
RoundsKeepGeometry = (files : Files) (job : Job) (inputs : Inputs) (round : ℕ) → verdict files job ≡ Ok inputs → round ≤ job.rounds
    → KeepsGeometry inputs round (adapted (plan_of job inputs) round inputs.mesh)

-- The job of the words is accepted over these files. After the run they are the same but for what
-- the parts see, if the mesh was handed out, and for the text, with the names of the file, of a mesh
-- that keeps the geometry of the accepted one.
pub record StoresKept (words : Option Job) (files : Files) (s t : Seen) : Type 0 where
  pub job : Job
  pub inputs : Inputs
  pub new : Batch
  pub words_are : words ≡ Some job
  pub verdict_is : verdict files job ≡ Ok inputs
  pub views : List View
  pub stored : t.depot.files ≡ Some (files_with (map (view_output job inputs) views) (files_map.insert files (mesh_name job) (text_of new inputs.names)))
  -- over parts, where all letters arrive
  pub kept : LettersArrive s.carrier inputs.handout → KeepsGeometry inputs job.rounds new

-- Where the depot told its files, a run that is done has stored such a text. A run that ends
-- otherwise may have stored a front of one, or nothing, and nothing is said of it.
abbrev pub GeometryIsKept : Status → Option Job → Seen → Seen → Type 0
GeometryIsKept Done words s t = IfSome s.depot.files (λ files. StoresKept words files s t)
GeometryIsKept Usage words s t = Unit {0}
GeometryIsKept ReadFault words s t = Unit {0}
GeometryIsKept WriteFault words s t = Unit {0}
GeometryIsKept (Refused refusal) words s t = Unit {0}
GeometryIsKept (TooMany round stage count) words s t = Unit {0}
GeometryIsKept Memory words s t = Unit {0}
GeometryIsKept LinkFault words s t = Unit {0}
GeometryIsKept (BadLetter bytes) words s t = Unit {0}
GeometryIsKept (Starved part phase) words s t = Unit {0}

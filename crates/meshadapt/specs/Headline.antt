-- The promise of a run over parts, in one statement.
use Rattle.std.specs.Prelude.{◌≡◌, ◌≤◌, ℕ, map, Option, Some, Ok}
use Rattle.std.specs.FinMap as files_map
use Rattle.ma_cells.specs.declared.view.View.{View}
use Rattle.ma_io.specs.Files.{Files}
use Rattle.msh_write.specs.Text.{text_of}
use Rattle.part_phases.specs.Inboxes.{below}
use Rattle.part_store.specs.Agreement.{Agree}
use Rattle.part_store.specs.Labelled.{view_of}
use Rattle.world_run.specs.Rounds.{SeeMesh}
use Rattle.world_run.specs.Told.{WorldState}
use Rattle.world_run.specs.Union.{union_in}
use Rattle.world_run.specs.Views.{seen_at}
use Rattle.meshadapt.specs.declared.status.Status.{Status}
use Rattle.meshadapt.specs.declared.status.Status.TheVariants.{Done}
use Rattle.meshadapt.specs.Acts.{adapted_by, files_with, view_output, whole_after}
use Rattle.meshadapt.specs.Geometry.{KeepsGeometry}
use Rattle.meshadapt.specs.Outcome.{Seen}
use Rattle.meshadapt.specs.OverParts.{AllArrive, ComesOf}
use Rattle.meshadapt.specs.Printed.{mesh_name}
use Rattle.meshadapt.specs.Verdict.{Handout, Inputs, verdict}
use Rattle.meshadapt.specs.Words.{Job}

-- what the run of a job over parts leaves of these files, and what its parts come to over the carrier
pub record IsAsByOnePart (job : Job) (inputs : Inputs) (handout : Handout) (files : Files) (s t : Seen) : Type 0 where
  -- The mesh file has the bytes that a run without parts stores, and the file of each part has what the part sees of that mesh with labels. No other file has changed
  pub stored : t.depot.files ≡ Some (files_with (map (view_output job inputs) (map (view_of (whole_after job inputs handout job.rounds)) (below handout.parts))) (files_map.insert files (mesh_name job) (text_of (adapted_by job inputs job.rounds) inputs.names)))
  -- after each round, whatever the order in which the letters came, the parts stand so
  pub worlds : ℕ → WorldState
  pub comes : ComesOf job inputs handout worlds job.rounds s.carrier t.carrier (Ok (worlds job.rounds))
  -- each of them sees its own of one mesh with labels, and what lies beside it
  pub see : (round : ℕ) → round ≤ job.rounds → SeeMesh (whole_after job inputs handout round) (worlds round).parts
  -- together they have the mesh that a run without parts has after this round
  pub one : (round : ℕ) → round ≤ job.rounds → union_in (worlds round).parts ≡ adapted_by job inputs round
  -- and all copies agree: on marks, on residents and on owners
  pub agree : (round : ℕ) → round ≤ job.rounds → (p q : ℕ) (v w : View) → seen_at (worlds round).parts p ≡ Some v → seen_at (worlds round).parts q ≡ Some w → Agree v w
  -- The mesh conforms, no tetrahedron is flat, each rational point off the faces keeps its region, and the classification stays
  pub geometry : (round : ℕ) → round ≤ job.rounds → KeepsGeometry inputs round (adapted_by job inputs round)

-- So it is where a run is done, its job is accepted over files that the depot told, and all letters arrive: there is one part, or the carrier tells which letters it hands out and which wait, and none waited at first
abbrev pub Headline : Status → Option Job → Seen → Seen → Type 0
Headline status words s t =
    status ≡ Done → (job : Job) (inputs : Inputs) (handout : Handout) (files : Files) → words ≡ Some job → s.depot.files ≡ Some files → verdict files job ≡ Ok inputs → inputs.handout ≡ Some handout
    → AllArrive handout.parts s.carrier → IsAsByOnePart job inputs handout files s t

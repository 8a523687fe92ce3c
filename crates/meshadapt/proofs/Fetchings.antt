-- Fetches one after another.
use Rattle.std.proofs.Common.{◌≡◌, ℕ, ◌≤◌, List, length, Some, None, refl, subst, sym, arith}
use Rattle.std.specs.Prelude.{IfSome, Option, Result, Ok, Err}
use Rattle.std.specs.FinMap.{get}
use Rattle.msh_read.specs.Trying.{◌>>=◌}
use Rattle.ma_io.specs.Count.{Rose}
use Rattle.ma_io.specs.Files.{Files}
use Rattle.ma_io.specs.Held.{Held}
use Rattle.job_files.specs.declared.fault.JobFault.TheVariants as job_faults
use Rattle.mesh_check.specs.declared.fault.MeshFault.TheVariants as faults
use Rattle.msh_read.specs.declared.fault.MshFault.TheVariants.{At, Memory as NoMemory}
use Rattle.meshadapt.specs.declared.halt.Halt.{Halt}
use Rattle.meshadapt.specs.declared.halt.Halt.TheVariants.{Unread, Refused, TooMany, Unstored, Unput, Parts, Memory}
use Rattle.meshadapt.specs.declared.status.Refusal.{Refusal}
use Rattle.meshadapt.specs.declared.status.Refusal.TheVariants.{Missing, TooLong, Mesh, Accept, Partition, Size, Schedule, Rounds}
use Rattle.meshadapt.specs.Outcome.{RefusalCounted}
use Rattle.meshadapt.specs.Verdict.{AcceptedMesh, Handout, Inputs, accepted_in_file, field_in, handout_for, inputs_with, labels_for, verdict, within_grid}
use Rattle.meshadapt.specs.Words.{Job}
use Rattle.meshadapt.specs.declared.fetching.Handout.{Handout as FetchedHandout}
use Rattle.meshadapt.specs.declared.words.Division.{Division}
use Rattle.meshadapt.specs.steps.Fetching.{AreLabels, CountsGrow, Fetches, HandoutFits, Hands, IsOfBytes, LabelsFit, Reads}
use Rattle.size_marks.specs.Field.{Field}

pub grow_on : (s m t : Held) → CountsGrow s m → CountsGrow m t → CountsGrow s t
grow_on s m t h k = (omega (arith, h.0, k.0), omega (arith, h.1, k.1))

rose_before : (a b c : ℕ) → a ≤ b → Rose b c → Rose a c
rose_before a b c h k = omega (arith, h, k)

-- a count that has risen since has risen
counted_before : (refusal : Refusal) (s m t : Held) → CountsGrow s m → RefusalCounted refusal m t → RefusalCounted refusal s t
counted_before (Missing file) s m t h k = rose_before s.denied m.denied t.denied h.1 k
counted_before (TooLong file) s m t h k = rose_before s.denied m.denied t.denied h.1 k
counted_before (Mesh (At line kind)) s m t h k = tt
counted_before (Mesh NoMemory) s m t h k = absurd k
counted_before (Accept faults.NoTets) s m t h k = tt
counted_before (Accept (faults.TooManyTets count)) s m t h k = tt
counted_before (Accept (faults.TooFar node)) s m t h k = tt
counted_before (Accept (faults.SamePlace node other)) s m t h k = tt
counted_before (Accept (faults.Flat tet)) s m t h k = tt
counted_before (Accept (faults.Repeated tet other)) s m t h k = tt
counted_before (Accept (faults.Overlap tet other)) s m t h k = tt
counted_before (Accept faults.Memory) s m t h k = absurd k
counted_before (Partition (job_faults.BadLine line)) s m t h k = tt
counted_before (Partition (job_faults.SizeOutOfRange line)) s m t h k = tt
counted_before (Partition (job_faults.TooManyBoxes line)) s m t h k = tt
counted_before (Partition (job_faults.PartTooBig line)) s m t h k = tt
counted_before (Partition (job_faults.WrongCount have want)) s m t h k = tt
counted_before (Partition job_faults.Memory) s m t h k = absurd k
counted_before (Size (job_faults.BadLine line)) s m t h k = tt
counted_before (Size (job_faults.SizeOutOfRange line)) s m t h k = tt
counted_before (Size (job_faults.TooManyBoxes line)) s m t h k = tt
counted_before (Size (job_faults.PartTooBig line)) s m t h k = tt
counted_before (Size (job_faults.WrongCount have want)) s m t h k = tt
counted_before (Size job_faults.Memory) s m t h k = absurd k
counted_before (Schedule (job_faults.BadLine line)) s m t h k = tt
counted_before (Schedule (job_faults.SizeOutOfRange line)) s m t h k = tt
counted_before (Schedule (job_faults.TooManyBoxes line)) s m t h k = tt
counted_before (Schedule (job_faults.PartTooBig line)) s m t h k = tt
counted_before (Schedule (job_faults.WrongCount have want)) s m t h k = tt
counted_before (Schedule job_faults.Memory) s m t h k = absurd k
counted_before (Rounds rounds grid) s m t h k = tt

-- what bytes are refused for counts nothing
bytes_counted : (refusal : Refusal) (s t : Held) → IsOfBytes refusal → RefusalCounted refusal s t
bytes_counted (Missing file) s t h = absurd h
bytes_counted (TooLong file) s t h = absurd h
bytes_counted (Mesh (At line kind)) s t h = tt
bytes_counted (Mesh NoMemory) s t h = absurd h
bytes_counted (Accept faults.NoTets) s t h = tt
bytes_counted (Accept (faults.TooManyTets count)) s t h = tt
bytes_counted (Accept (faults.TooFar node)) s t h = tt
bytes_counted (Accept (faults.SamePlace node other)) s t h = tt
bytes_counted (Accept (faults.Flat tet)) s t h = tt
bytes_counted (Accept (faults.Repeated tet other)) s t h = tt
bytes_counted (Accept (faults.Overlap tet other)) s t h = tt
bytes_counted (Accept faults.Memory) s t h = absurd h
bytes_counted (Partition (job_faults.BadLine line)) s t h = tt
bytes_counted (Partition (job_faults.SizeOutOfRange line)) s t h = tt
bytes_counted (Partition (job_faults.TooManyBoxes line)) s t h = tt
bytes_counted (Partition (job_faults.PartTooBig line)) s t h = tt
bytes_counted (Partition (job_faults.WrongCount have want)) s t h = tt
bytes_counted (Partition job_faults.Memory) s t h = absurd h
bytes_counted (Size (job_faults.BadLine line)) s t h = tt
bytes_counted (Size (job_faults.SizeOutOfRange line)) s t h = tt
bytes_counted (Size (job_faults.TooManyBoxes line)) s t h = tt
bytes_counted (Size (job_faults.PartTooBig line)) s t h = tt
bytes_counted (Size (job_faults.WrongCount have want)) s t h = tt
bytes_counted (Size job_faults.Memory) s t h = absurd h
bytes_counted (Schedule (job_faults.BadLine line)) s t h = tt
bytes_counted (Schedule (job_faults.SizeOutOfRange line)) s t h = tt
bytes_counted (Schedule (job_faults.TooManyBoxes line)) s t h = tt
bytes_counted (Schedule (job_faults.PartTooBig line)) s t h = tt
bytes_counted (Schedule (job_faults.WrongCount have want)) s t h = tt
bytes_counted (Schedule job_faults.Memory) s t h = absurd h
bytes_counted (Rounds rounds grid) s t h = tt

-- ---- answers of steps one after another
module _ {Y W : Type 0} (due : Files → Result Y Refusal) (rest : Files → Y → Result W Refusal) where
  refused_then : (refusal : Refusal) (files : Option Files) → IfSome files (λ f. due f ≡ Err refusal) → IfSome files (λ f. (due f >>= rest f) ≡ Err refusal)
  refused_then refusal None h = tt
  refused_then refusal (Some f) h = rw h refl

  done_then : (y : Y) (answer : Result W Refusal) (files later : Option Files) → later ≡ files → IfSome files (λ f. due f ≡ Ok y) → IfSome later (λ f. rest f y ≡ answer) → IfSome files (λ f. (due f >>= rest f) ≡ answer)
  done_then y answer None later same h k = tt
  done_then y answer (Some f) later same h k =
      let k' : rest f y ≡ answer = subst (λ (o : Option Files). IfSome o (λ f. rest f y ≡ answer)) same k in
      rw h k'

  -- where a step halts, all halt
  pub halts : {X Z : Type 0} (job : Job) (seen : X → Y) (view : Z → W) (halt : Halt) (s t : Held) → Fetches job seen (Err halt) due s t → Fetches job view (Err halt) (λ files. due files >>= rest files) s t
  halts job seen view (Unread file) s t h = h
  halts job seen view (Refused refusal) s t h = (refused_then refusal s.files h.0, h.1)
  halts job seen view (TooMany round stage count) s t h = absurd h
  halts job seen view (Unstored name) s t h = absurd h
  halts job seen view Unput s t h = absurd h
  halts job seen view (Parts fault) s t h = absurd h
  halts job seen view Memory s t h = tt

  -- behind a step that went well, what is answered to the rest is answered to all
  pub goes_on : {Z : Type 0} (job : Job) (view : Z → W) (y : Y) (result : Result Z Halt) (s m t : Held) → IfSome s.files (λ f. due f ≡ Ok y) → m.files ≡ s.files → CountsGrow s m
      → Fetches job view result (λ files. rest files y) m t → Fetches job view result (λ files. due files >>= rest files) s t
  goes_on job view y (Ok z) s m t h same grow k = done_then y (Ok (view z)) s.files m.files same h k
  goes_on job view y (Err (Unread file)) s m t h same grow k = (k.0, rose_before s.fetch_faults m.fetch_faults t.fetch_faults grow.0 k.1)
  goes_on job view y (Err (Refused refusal)) s m t h same grow k = (done_then y (Err refusal) s.files m.files same h k.0, counted_before refusal s m t grow k.1)
  goes_on job view y (Err (TooMany round stage count)) s m t h same grow k = absurd k
  goes_on job view y (Err (Unstored name)) s m t h same grow k = absurd k
  goes_on job view y (Err Unput) s m t h same grow k = absurd k
  goes_on job view y (Err (Parts fault)) s m t h same grow k = absurd k
  goes_on job view y (Err Memory) s m t h same grow k = tt

-- what is answered to bytes is answered of a depot
told_anyway : {Y : Type 0} (due answer : Result Y Refusal) (files : Option Files) → due ≡ answer → IfSome files (λ f. due ≡ answer)
told_anyway due answer None h = tt
told_anyway due answer (Some f) h = h

pub reads_on : {Z W : Type 0} (job : Job) (view : Z → W) (result : Result Z Halt) (due : Result W Refusal) (s t : Held) → Reads view result due → Fetches job view result (λ files. due) s t
reads_on job view (Ok z) due s t h = told_anyway due (Ok (view z)) s.files h
reads_on job view (Err (Unread file)) due s t h = absurd h
reads_on job view (Err (Refused refusal)) due s t h = (told_anyway due (Err refusal) s.files h.1, bytes_counted refusal s t h.0)
reads_on job view (Err (TooMany round stage count)) due s t h = absurd h
reads_on job view (Err (Unstored name)) due s t h = absurd h
reads_on job view (Err Unput) due s t h = absurd h
reads_on job view (Err (Parts fault)) due s t h = absurd h
reads_on job view (Err Memory) due s t h = tt

-- ---- what a run starts from, file by file
abbrev mesh_due : Job → Files → Result AcceptedMesh Refusal
mesh_due job files = accepted_in_file (get files job.mesh)

abbrev labels_due : Job → AcceptedMesh → Files → Result (Option (List ℕ)) Refusal
labels_due job accepted files = labels_for job.division (length accepted.mesh.tets) files

abbrev handout_due : Job → AcceptedMesh → Option (List ℕ) → Files → Result (Option Handout) Refusal
handout_due job accepted labels files = handout_for accepted.mesh job.division labels files

abbrev behind_handout : Job → AcceptedMesh → Field → Option Handout → Result Inputs Refusal
behind_handout job accepted field handout = within_grid job.rounds (inputs_with accepted field handout)

abbrev behind_field : Job → AcceptedMesh → Option (List ℕ) → Files → Field → Result Inputs Refusal
behind_field job accepted labels files field = handout_due job accepted labels files >>= behind_handout job accepted field

abbrev behind_labels : Job → AcceptedMesh → Files → Option (List ℕ) → Result Inputs Refusal
behind_labels job accepted files labels = field_in job.sizes files >>= behind_field job accepted labels files

abbrev behind_mesh : Job → Files → AcceptedMesh → Result Inputs Refusal
behind_mesh job files accepted = labels_due job accepted files >>= behind_labels job accepted files

module _ {Z : Type 0} (job : Job) (view : Z → Inputs) where
  pub mesh_halts : {X : Type 0} (seen : X → AcceptedMesh) (halt : Halt) (s t : Held) → Fetches job seen (Err halt) (mesh_due job) s t → Fetches job view (Err halt) (λ files. verdict files job) s t
  mesh_halts seen halt s t h = halts (mesh_due job) (behind_mesh job) job seen view halt s t h

  module _ (accepted : AcceptedMesh) (s m : Held) (read : IfSome s.files (λ f. mesh_due job f ≡ Ok accepted)) (same : m.files ≡ s.files) (grow : CountsGrow s m) where
    pub past_mesh : (result : Result Z Halt) (t : Held) → Fetches job view result (λ files. behind_mesh job files accepted) m t → Fetches job view result (λ files. verdict files job) s t
    past_mesh result t h = goes_on (mesh_due job) (behind_mesh job) job view accepted result s m t read same grow h

    pub labels_halt : {X : Type 0} (seen : X → Option (List ℕ)) (halt : Halt) (t : Held) (tets : ℕ) → tets ≡ length accepted.mesh.tets
        → Fetches job seen (Err halt) (λ files. labels_for job.division tets files) m t → Fetches job view (Err halt) (λ files. verdict files job) s t
    labels_halt seen halt t tets all h =
        let h' : Fetches job seen (Err halt) (labels_due job accepted) m t = subst (λ n. Fetches job seen (Err halt) (λ files. labels_for job.division n files) m t) all h in
        past_mesh (Err halt) t (halts (labels_due job accepted) (behind_labels job accepted) job seen view halt m t h')

    module _ (labels : Option (List ℕ)) (l : Held) (labels_read : IfSome m.files (λ f. labels_due job accepted f ≡ Ok labels)) (labels_same : l.files ≡ m.files) (labels_grow : CountsGrow m l) where
      pub past_labels : (result : Result Z Halt) (t : Held) → Fetches job view result (λ files. behind_labels job accepted files labels) l t → Fetches job view result (λ files. verdict files job) s t
      past_labels result t h = past_mesh result t (goes_on (labels_due job accepted) (behind_labels job accepted) job view labels result m l t labels_read labels_same labels_grow h)

      pub field_halts : {X : Type 0} (seen : X → Field) (halt : Halt) (t : Held) → Fetches job seen (Err halt) (field_in job.sizes) l t → Fetches job view (Err halt) (λ files. verdict files job) s t
      field_halts seen halt t h = past_labels (Err halt) t (halts (field_in job.sizes) (behind_field job accepted labels) job seen view halt l t h)

      module _ (field : Field) (f : Held) (field_read : IfSome l.files (λ files. field_in job.sizes files ≡ Ok field)) (field_same : f.files ≡ l.files) (field_grow : CountsGrow l f) where
        pub past_field : (result : Result Z Halt) (t : Held) → Fetches job view result (λ files. behind_field job accepted labels files field) f t → Fetches job view result (λ files. verdict files job) s t
        past_field result t h = past_labels result t (goes_on (field_in job.sizes) (behind_field job accepted labels) job view field result l f t field_read field_same field_grow h)

        pub handout_halts : {X : Type 0} (seen : X → Option Handout) (halt : Halt) (t : Held) → Fetches job seen (Err halt) (handout_due job accepted labels) f t → Fetches job view (Err halt) (λ files. verdict files job) s t
        handout_halts seen halt t h = past_field (Err halt) t (halts (handout_due job accepted labels) (λ files. behind_handout job accepted field) job seen view halt f t h)

        -- the grid is looked at last
        pub all_fetched : (handout : Option Handout) (t : Held) → IfSome f.files (λ files. handout_due job accepted labels files ≡ Ok handout) → t.files ≡ f.files → CountsGrow f t
            → (result : Result Z Halt) → Reads view result (behind_handout job accepted field handout) → Fetches job view result (λ files. verdict files job) s t
        all_fetched handout t read same grow result h =
            past_field result t
            (goes_on (handout_due job accepted labels) (λ files. behind_handout job accepted field) job view handout result f t t read same grow (reads_on job view result (behind_handout job accepted field handout) t t h))

-- what is handed out fits the mesh, where its labels do
pub hands_fit : (division : Option Division) (tets : ℕ) (labels : Option (List ℕ)) (handout : Option FetchedHandout) → LabelsFit division tets labels → Hands division labels handout → HandoutFits division tets handout
hands_fit None tets None None h k = tt
hands_fit None tets None (Some handout) h k = absurd k
hands_fit None tets (Some labels) handout h k = absurd h
hands_fit (Some division) tets None handout h k = absurd h
hands_fit (Some division) tets (Some labels) None h k = absurd k
hands_fit (Some division) tets (Some labels) (Some handout) h k = record {
  parts = k.parts;
  labels = subst (AreLabels handout.parts tets) (sym k.labels_are) (subst (λ n. AreLabels n tets labels) (sym k.parts) h);
}

-- The labels and the picks of a division, each from a file of its own.
use Rattle.std.proofs.Common.{◌≡◌, ℕ, List, Some, None, ap, refl, subst, sym, ◌∙◌}
use Rattle.std.specs.Prelude.{IfSome, Option, Result, Ok, Err}
use Rattle.std.specs.FinMap.{get}
use Rattle.msh_read.specs.Trying.{◌>>=◌}
use Rattle.carrier.specs.Schedule.{Picks}
use Rattle.ma_cells.specs.Meshes.{MarkedMesh}
use Rattle.ma_io.specs.Files.{Files}
use Rattle.ma_io.specs.Held.{Held}
use Rattle.meshadapt.specs.declared.halt.Halt.{Halt}
use Rattle.meshadapt.specs.declared.halt.Halt.TheVariants.{Unread, Refused, TooMany, Unstored, Unput, Parts, Memory}
use Rattle.meshadapt.specs.declared.status.FileKind.{FileKind}
use Rattle.meshadapt.specs.declared.status.FileKind.TheVariants.{PartitionFile, ScheduleFile}
use Rattle.meshadapt.specs.declared.status.Refusal.{Refusal}
use Rattle.meshadapt.specs.Verdict.{Handout, bytes_in, handout_for, labels_for, labels_in, schedule_in}
use Rattle.meshadapt.specs.Words.{Division, Job}
use Rattle.meshadapt.specs.steps.Fetching.{CountsGrow, Fetches, Reads}
use Rattle.meshadapt.proofs.Fetchings.{goes_on, halts, reads_on}

-- a file is read, and what it says is wrapped
module _ {Y W : Type 0} (job : Job) (kind : FileKind) (name : List ℕ) (reading : List ℕ → Result Y Refusal) (wrap : Y → W) where
  abbrev file_bytes : Files → Result (List ℕ) Refusal
  file_bytes files = bytes_in kind (get files name)

  abbrev behind_bytes : Files → List ℕ → Result W Refusal
  behind_bytes files bytes = reading bytes >>= λ y. Ok (wrap y)

  bytes_halt : {X Z : Type 0} (seen : X → List ℕ) (view : Z → W) (halt : Halt) (s t : Held) → Fetches job seen (Err halt) file_bytes s t → Fetches job view (Err halt) (λ files. file_bytes files >>= behind_bytes files) s t
  bytes_halt seen view halt s t h = halts file_bytes behind_bytes job seen view halt s t h

  refused_on : (refusal : Refusal) (read : Result Y Refusal) → read ≡ Err refusal → (read >>= λ y. Ok (wrap y)) ≡ Err refusal
  refused_on refusal read e = rw e refl

  wrapped : {X Z : Type 0} (seen : X → Y) (view : Z → W) (halt : Halt) (read : Result Y Refusal) → Reads seen (Err halt) read → Reads view (Err halt) (read >>= λ y. Ok (wrap y))
  wrapped seen view (Unread file) read h = absurd h
  wrapped seen view (Refused refusal) read h = (h.0, refused_on refusal read h.1)
  wrapped seen view (TooMany round stage count) read h = absurd h
  wrapped seen view (Unstored unstored) read h = absurd h
  wrapped seen view Unput read h = absurd h
  wrapped seen view (Parts fault) read h = absurd h
  wrapped seen view Memory read h = tt

  reading_halts : {X Z : Type 0} (seen : X → Y) (view : Z → W) (halt : Halt) (bytes given : List ℕ) → given ≡ bytes → (s t : Held) → IfSome s.files (λ f. file_bytes f ≡ Ok bytes) → t.files ≡ s.files → CountsGrow s t
      → Reads seen (Err halt) (reading given) → Fetches job view (Err halt) (λ files. file_bytes files >>= behind_bytes files) s t
  reading_halts seen view halt bytes given is s t fetched same grow h =
      let fetched' : IfSome s.files (λ f. file_bytes f ≡ Ok given) = subst (λ (b : List ℕ). IfSome s.files (λ f. file_bytes f ≡ Ok b)) (sym is) fetched in
      goes_on file_bytes behind_bytes job view given (Err halt) s t t fetched' same grow (reads_on job view (Err halt) (reading given >>= λ y. Ok (wrap y)) t t (wrapped seen view halt (reading given) h))

  whole_of : (bytes : List ℕ) (y : Y) (read : Result (List ℕ) Refusal) → read ≡ Ok bytes → reading bytes ≡ Ok y → (read >>= λ bytes. (reading bytes >>= λ y. Ok (wrap y))) ≡ Ok (wrap y)
  whole_of bytes y read e f = rw (e, f) refl

  all_read : (bytes given : List ℕ) → given ≡ bytes → (y : Y) (files : Option Files) → IfSome files (λ f. file_bytes f ≡ Ok bytes) → reading given ≡ Ok y → IfSome files (λ f. (file_bytes f >>= behind_bytes f) ≡ Ok (wrap y))
  all_read bytes given is y None h e = tt
  all_read bytes given is y (Some f) h e = whole_of given y (file_bytes f) (h ∙ ap (λ b. Ok b) (sym is)) e

abbrev some_labels : List ℕ → Option (List ℕ)
some_labels labels = Some labels

-- ---- labels
module _ (job : Job) (division : Division) (is : job.division ≡ Some division) (tets : ℕ) where
  pub labels_unread : {X Z : Type 0} (seen : X → List ℕ) (view : Z → Option (List ℕ)) (halt : Halt) (s t : Held) → Fetches job seen (Err halt) (λ files. bytes_in PartitionFile (get files division.partition)) s t
      → Fetches job view (Err halt) (λ files. labels_for job.division tets files) s t
  labels_unread seen view halt s t h =
      subst (λ (d : Option Division). Fetches job view (Err halt) (λ files. labels_for d tets files) s t) (sym is)
      (bytes_halt job PartitionFile division.partition (labels_in tets division.parts) some_labels seen view halt s t h)

  pub labels_refused : {X Z : Type 0} (seen : X → List ℕ) (view : Z → Option (List ℕ)) (halt : Halt) (bytes given : List ℕ) → given ≡ bytes → (s t : Held)
      → IfSome s.files (λ f. bytes_in PartitionFile (get f division.partition) ≡ Ok bytes) → t.files ≡ s.files → CountsGrow s t → Reads seen (Err halt) (labels_in tets division.parts given)
      → Fetches job view (Err halt) (λ files. labels_for job.division tets files) s t
  labels_refused seen view halt bytes given same_bytes s t fetched same grow h =
      subst (λ (d : Option Division). Fetches job view (Err halt) (λ files. labels_for d tets files) s t) (sym is)
      (reading_halts job PartitionFile division.partition (labels_in tets division.parts) some_labels seen view halt bytes given same_bytes s t fetched same grow h)

  pub labels_read : (bytes given : List ℕ) → given ≡ bytes → (labels : List ℕ) (files : Option Files) → IfSome files (λ f. bytes_in PartitionFile (get f division.partition) ≡ Ok bytes) → labels_in tets division.parts given ≡ Ok labels
      → IfSome files (λ f. labels_for job.division tets f ≡ Ok (Some labels))
  labels_read bytes given same_bytes labels files h e =
      subst (λ (d : Option Division). IfSome files (λ f. labels_for d tets f ≡ Ok (Some labels))) (sym is)
      (all_read job PartitionFile division.partition (labels_in tets division.parts) some_labels bytes given same_bytes labels files h e)

-- ---- picks
abbrev handed : MarkedMesh → ℕ → List ℕ → Picks → Option Handout
handed mesh parts labels schedule = Some (record { mesh = mesh; parts = parts; labels = labels; schedule = schedule })

module _ (job : Job) (division : Division) (is : job.division ≡ Some division) (mesh : MarkedMesh) (labels : List ℕ) where
  pub picks_unread : {X Z : Type 0} (seen : X → List ℕ) (view : Z → Option Handout) (halt : Halt) (s t : Held) → Fetches job seen (Err halt) (λ files. bytes_in ScheduleFile (get files division.schedule)) s t
      → Fetches job view (Err halt) (λ files. handout_for mesh job.division (Some labels) files) s t
  picks_unread seen view halt s t h =
      subst (λ (d : Option Division). Fetches job view (Err halt) (λ files. handout_for mesh d (Some labels) files) s t) (sym is)
      (bytes_halt job ScheduleFile division.schedule schedule_in (handed mesh division.parts labels) seen view halt s t h)

  pub picks_refused : {X Z : Type 0} (seen : X → Picks) (view : Z → Option Handout) (halt : Halt) (bytes given : List ℕ) → given ≡ bytes → (s t : Held)
      → IfSome s.files (λ f. bytes_in ScheduleFile (get f division.schedule) ≡ Ok bytes) → t.files ≡ s.files → CountsGrow s t → Reads seen (Err halt) (schedule_in given)
      → Fetches job view (Err halt) (λ files. handout_for mesh job.division (Some labels) files) s t
  picks_refused seen view halt bytes given same_bytes s t fetched same grow h =
      subst (λ (d : Option Division). Fetches job view (Err halt) (λ files. handout_for mesh d (Some labels) files) s t) (sym is)
      (reading_halts job ScheduleFile division.schedule schedule_in (handed mesh division.parts labels) seen view halt bytes given same_bytes s t fetched same grow h)

  pub picks_read : (bytes given : List ℕ) → given ≡ bytes → (schedule : Picks) (files : Option Files) → IfSome files (λ f. bytes_in ScheduleFile (get f division.schedule) ≡ Ok bytes) → schedule_in given ≡ Ok schedule
      → IfSome files (λ f. handout_for mesh job.division (Some labels) f ≡ Ok (handed mesh division.parts labels schedule))
  picks_read bytes given same_bytes schedule files h e =
      subst (λ (d : Option Division). IfSome files (λ f. handout_for mesh d (Some labels) f ≡ Ok (handed mesh division.parts labels schedule))) (sym is)
      (all_read job ScheduleFile division.schedule schedule_in (handed mesh division.parts labels) bytes given same_bytes schedule files h e)

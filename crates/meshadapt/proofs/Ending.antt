-- How a run of a job goes on from step to step, and ends.
use Rattle.std.proofs.Common.{◌≡◌, ℕ, length, arith, List, [], ◌∷◌, ◌++◌, Option, Some, None, inl, inr, refl, sym, subst, ap, ◌∙◌, append_assoc}
use Rattle.std.specs.Prelude.{◌⊎◌, IfSome, Result, Ok, Err, string_bytes}
use Rattle.ma_cells.specs.declared.batch.Batch.{Batch}
use Rattle.carrier.specs.Carried.{Carried}
use Rattle.ma_io.specs.Count.{Rose}
use Rattle.ma_io.specs.Files.{Files}
use Rattle.ma_io.specs.Held.{Held}
use Rattle.ma_io.specs.Received.{Received}
use Rattle.msh_read.specs.GroupNames.{GroupName}
use Rattle.msh_write.specs.Text.{text_of}
use Rattle.one_mesh.specs.Adaptation.{StaysWithin}
use Rattle.one_mesh.specs.Holding.{Holding}
use Rattle.meshadapt.specs.declared.halt.Halt.{Halt}
use Rattle.meshadapt.specs.declared.halt.Halt.TheVariants as halt
use Rattle.meshadapt.specs.Acts.{Act, PutLine, Ending, Output, acts_to, adapted_by, begun, bytes_of, end_acts, outputs, plain_ending}
use Rattle.meshadapt.specs.Outcome.{ComesTo, IsOnTheWay, LeavesDone, LeavesMemory, LettersArrive, MayEnd, Puts, Seen, Stores, StoresFront, seen}
use Rattle.meshadapt.specs.Printed.{done_line, mesh_line, mesh_name}
use Rattle.meshadapt.specs.Verdict.{Handout, Inputs, plan_of, verdict}
use Rattle.meshadapt.specs.Words.{Job}
use Rattle.meshadapt.specs.steps.Fetching.{Fetches}
use Rattle.meshadapt.specs.steps.Running.{Begins, PutsLine, Runs, StoresOne}
use Rattle.meshadapt.specs.steps.Storing.{BreaksBehind, StoresAll}
use Rattle.meshadapt.proofs.Acting.{all-bytes, all-outputs, all_outputs, among_all, among_first, begun_long, comes_last, comes_next, shorter, store_act, stored, stored-bytes, stored-outputs}
use Rattle.meshadapt.proofs.InTurn.{front_after, puts_then}
use Rattle.meshadapt.proofs.OneByOne.{memory_behind, one_broken}

-- ---- the steps of a run
pub text_with : (P : List ℕ → Type 0) (mesh final : Batch) (names same : List GroupName) → mesh ≡ final → names ≡ same → P (text_of mesh names) → P (text_of final same)
text_with P mesh final names same e f h = subst (λ (ns : List GroupName). P (text_of final ns)) f (subst (λ (m : Batch). P (text_of m names)) e h)

-- what stops the fetch stops the run
pub fetch_halts : (X Z : Type 0) (view : X → Inputs) (job : Job) (d e : Held) (c : Carried) (s : Received) (why : Halt) → e.files ≡ d.files
    → Fetches {X = X} job view (Err why) (λ files. verdict files job) d e → Runs {X = Z} (Err why) job (seen d c s) (seen e c s)
fetch_halts X Z view job d e c s (halt.Unread file) same h = (h.0, h.1, (same, refl, refl))
fetch_halts X Z view job d e c s (halt.Refused refusal) same h = (h.0, h.1, (same, refl, refl))
fetch_halts X Z view job d e c s (halt.TooMany round stage count) same h = absurd h
fetch_halts X Z view job d e c s (halt.Unstored name) same h = absurd h
fetch_halts X Z view job d e c s halt.Unput same h = absurd h
fetch_halts X Z view job d e c s (halt.Parts fault) same h = absurd h
fetch_halts X Z view job d e c s halt.Memory same h = inl same

module _ (job : Job) (inputs : Inputs) (c k : Carried) (d : Held) (s : Received) (v : IfSome d.files (λ files. verdict files job ≡ Ok inputs)) where
  -- ---- before the end
  -- an act of a run without parts, at a line before the end
  on_the_way : inputs.handout ≡ None → (done rest : List Act) (act : Act) → begun job.rounds inputs (adapted_by job inputs) ≡ done ++ act ∷ rest → IsOnTheWay job inputs c k done act
  on_the_way alone done rest act are =
      let ending : Ending = plain_ending job inputs in
      let end : List Act = end_acts job inputs ending in
      let less = shorter (begun job.rounds inputs (adapted_by job inputs)) done rest act are in
      let long = begun_long job inputs (adapted_by job inputs) job.rounds in
      record {
        ending = ending;
        rest = rest ++ end;
        acts_are = ap (λ (acts : List Act). acts ++ end) are ∙ append_assoc done (act ∷ rest) end;
        ends = inr (length done, inl (refl, omega arith), subst (λ (handout : Option Handout). MayEnd job inputs handout (length done) c k ending) (sym alone) refl);
      }

  -- at the line of the mesh, whatever the end is
  at_first : (e : Carried) → IsOnTheWay job inputs c e [] (PutLine (mesh_line inputs.mesh inputs.loose))
  at_first e = record { ending = plain_ending job inputs; rest = _; acts_are = refl; ends = inl refl }

  -- the mesh isn't handed out
  pub begin_halts : (X Y : Type 0) (new : Holding) (e : Held) (t : Received) (why : Halt) → inputs.handout ≡ None → e.files ≡ d.files → Begins {X = X} (Err why) job inputs new s t → Runs {X = Y} (Err why) job (seen d c s) (seen e k t)
  begin_halts X Y new e t (halt.Unread file) alone same h = absurd h
  begin_halts X Y new e t (halt.Refused refusal) alone same h = absurd h
  begin_halts X Y new e t (halt.TooMany round stage count) alone same h = record { inputs = inputs; verdict = v; alone = alone; first = h.0; files = same; printed = h.1 }
  begin_halts X Y new e t (halt.Unstored name) alone same h = absurd h
  begin_halts X Y new e t halt.Unput alone same h = record {
    job = job;
    inputs = inputs;
    done = h.done;
    line = h.line;
    comes = record { words_are = refl; verdict = v; way = on_the_way alone h.done h.rest (PutLine h.line) h.acts_are; within = λ _. h.within };
    files = subst (λ (outs : List Output). Stores outs d.files e.files) (sym h.none_stored) same;
    printed = h.front;
  }
  begin_halts X Y new e t (halt.Parts fault) alone same h = absurd h
  begin_halts X Y new e t halt.Memory alone same h = inl same

  -- the line of the mesh could not be put
  pub first_stops : (X Y : Type 0) (e : Held) (t : Received) (why : Halt) → e.files ≡ d.files → PutsLine {X = X} (Err why) (mesh_line inputs.mesh inputs.loose) s t → Runs {X = Y} (Err why) job (seen d c s) (seen e k t)
  first_stops X Y e t (halt.Unread file) same h = absurd h
  first_stops X Y e t (halt.Refused refusal) same h = absurd h
  first_stops X Y e t (halt.TooMany round stage count) same h = absurd h
  first_stops X Y e t (halt.Unstored name) same h = absurd h
  first_stops X Y e t halt.Unput same h =
      let line : List ℕ = mesh_line inputs.mesh inputs.loose in
      record {
        job = job;
        inputs = inputs;
        done = [];
        line = line;
        comes = record { words_are = refl; verdict = v; way = at_first k; within = λ _. among_first job inputs line };
        files = same;
        printed = h;
      }
  first_stops X Y e t (halt.Parts fault) same h = absurd h
  first_stops X Y e t halt.Memory same h = inl same

  -- ---- all lines before the end were put, and the run may end so
  module _ (ending : Ending) (ends : MayEnd job inputs inputs.handout job.rounds c k ending) (within : LettersArrive c inputs.handout → StaysWithin (plan_of job inputs) job.rounds inputs.mesh)
      (e : Held) (t : Received) (same : e.files ≡ d.files) (counts : e.store_faults ≡ d.store_faults) (puts : Puts (bytes_of (begun job.rounds inputs ending.meshes)) s t) where
    abbrev all : List Output
    all = all_outputs job inputs ending

    abbrev after : List Output → List Act
    after done = stored job inputs ending done

    comes_to : (done rest : List Act) (act : Act) → acts_to ending job inputs ≡ done ++ act ∷ rest → (left : Seen) → left.carrier ≡ k → ComesTo (Some job) (seen d c s) left job inputs done act
    comes_to done rest act are left is = record {
      words_are = refl;
      verdict = v;
      way = record { ending = ending; rest = rest; acts_are = are; ends = inr (job.rounds, inr refl, subst (λ (carried : Carried). MayEnd job inputs inputs.handout job.rounds c carried ending) (sym is) ends) };
      within = λ arrive. among_all job inputs (done ++ act ∷ []) (within arrive);
    }

    puts_so : (done : List Output) → Puts (bytes_of (after done)) s t
    puts_so done = subst (λ (bytes : List ℕ). Puts bytes s t) (sym (stored-bytes job inputs ending done)) puts

    front_so : (f : Held) (done : List Output) (name bytes : List ℕ) → StoresFront done name bytes e.files f.files → StoresFront (outputs (after done)) name bytes d.files f.files
    front_so f done name bytes h =
        subst (λ (outs : List Output). StoresFront outs name bytes d.files f.files) (sym (stored-outputs job inputs ending done)) (subst (λ (o : Option Files). StoresFront done name bytes o f.files) same h)

    left_behind : (f : Held) (u : Received) → (f.files ≡ e.files) ⊎ BreaksBehind all e f → LeavesMemory (Some job) (seen d c s) (seen f k u)
    left_behind f u (inl none) = inl (none ∙ same)
    left_behind f u (inr broken) =
        let output : Output = broken.output in
        inr (record {
          job = job;
          inputs = inputs;
          done = after broken.done;
          name = output.name;
          bytes = output.bytes;
          comes = comes_to (after broken.done) _ (store_act output) (comes_next job inputs ending broken.done output broken.rest broken.outputs_are) (seen f k u) refl;
          files = front_so f broken.done output.name output.bytes broken.files;
        })

    pub store_halts : (X Y : Type 0) (f : Held) (why : Halt) → StoresAll {X = X} (Err why) all e f → Runs {X = Y} (Err why) job (seen d c s) (seen f k t)
    store_halts X Y f (halt.Unread file) h = absurd h
    store_halts X Y f (halt.Refused refusal) h = absurd h
    store_halts X Y f (halt.TooMany round stage count) h = absurd h
    store_halts X Y f (halt.Unstored name) h =
        let output : Output = record { name = string_bytes name; bytes = h.bytes } in
        record {
          inputs = inputs;
          done = after h.done;
          bytes = h.bytes;
          comes = comes_to (after h.done) _ (store_act output) (comes_next job inputs ending h.done output h.rest h.outputs_are) (seen f k t) refl;
          counted = subst (λ (n : ℕ). Rose n f.store_faults) counts h.counted;
          files = front_so f h.done (string_bytes name) h.bytes h.files;
          printed = puts_so h.done;
        }
    store_halts X Y f halt.Unput h = absurd h
    store_halts X Y f (halt.Parts fault) h = absurd h
    store_halts X Y f halt.Memory h = left_behind f t h

    -- the files are stored, and the last line is to be put
    module _ (f : Held) (stores : Stores all e.files f.files) where
      stores_so : Stores all d.files f.files
      stores_so = subst (λ (o : Option Files). Stores all o f.files) same stores

      pub all_done : (u : Received) → Puts ending.line t u → LeavesDone (Some job) (seen d c s) (seen f k u)
      all_done u h = record {
        job = job;
        inputs = inputs;
        words_are = refl;
        verdict = v;
        within = within;
        ending = ending;
        ends = ends;
        files = subst (λ (outs : List Output). Stores outs d.files f.files) (sym (all-outputs job inputs ending)) stores_so;
        printed = subst (λ (bytes : List ℕ). Puts bytes s u) (sym (all-bytes job inputs ending)) (puts_then (bytes_of (begun job.rounds inputs ending.meshes)) ending.line s t u puts h);
      }

      pub done_halts : (X Y : Type 0) (u : Received) (why : Halt) → PutsLine {X = X} (Err why) ending.line t u → Runs {X = Y} (Err why) job (seen d c s) (seen f k u)
      done_halts X Y u (halt.Unread file) h = absurd h
      done_halts X Y u (halt.Refused refusal) h = absurd h
      done_halts X Y u (halt.TooMany round stage count) h = absurd h
      done_halts X Y u (halt.Unstored name) h = absurd h
      done_halts X Y u halt.Unput h = record {
        job = job;
        inputs = inputs;
        done = after all;
        line = ending.line;
        comes = comes_to (after all) [] (PutLine ending.line) (comes_last job inputs ending) (seen f k u) refl;
        files = subst (λ (outs : List Output). Stores outs d.files f.files) (sym (stored-outputs job inputs ending all)) stores_so;
        printed = front_after (bytes_of (after all)) ending.line s t u (puts_so all) h;
      }
      done_halts X Y u (halt.Parts fault) h = absurd h
      done_halts X Y u halt.Memory h = left_behind f u (memory_behind X all e f stores)

      pub line_ends : (X : Type 0) (u : Received) (result : Result X Halt) → PutsLine result ending.line t u → Runs result job (seen d c s) (seen f k u)
      line_ends X u (Ok x) h = all_done u h
      line_ends X u (Err why) h = done_halts X X u why h

-- ---- a run without parts
module _ (job : Job) (inputs : Inputs) (c k : Carried) (d : Held) (s : Received) (v : IfSome d.files (λ files. verdict files job ≡ Ok inputs)) (alone : inputs.handout ≡ None) (within : StaysWithin (plan_of job inputs) job.rounds inputs.mesh)
    (e : Held) (t : Received) (same : e.files ≡ d.files) (counts : e.store_faults ≡ d.store_faults) (puts : Puts (bytes_of (begun job.rounds inputs (adapted_by job inputs))) s t) where
  abbrev plain : Ending
  plain = plain_ending job inputs

  abbrev mesh_file : Output
  mesh_file = record { name = mesh_name job; bytes = text_of (adapted_by job inputs job.rounds) inputs.names }

  ends_plain : MayEnd job inputs inputs.handout job.rounds c k plain
  ends_plain = subst (λ (handout : Option Handout). MayEnd job inputs handout job.rounds c k plain) (sym alone) refl

  pub plain_halts : (X Y : Type 0) (f : Held) (why : Halt) → StoresOne {X = X} (Err why) (mesh_name job) (text_of (adapted_by job inputs job.rounds) inputs.names) e f → Runs {X = Y} (Err why) job (seen d c s) (seen f k t)
  plain_halts X Y f why h = store_halts job inputs c k d s v plain ends_plain (λ _. within) e t same counts puts X Y f why (one_broken mesh_file e f X X why h)

  pub plain_ends : (f : Held) → StoresOne {X = Unit {0}} (Ok tt) (mesh_name job) (text_of (adapted_by job inputs job.rounds) inputs.names) e f
      → (X : Type 0) (u : Received) (result : Result X Halt) → PutsLine result done_line t u → Runs result job (seen d c s) (seen f k u)
  plain_ends f h = line_ends job inputs c k d s v plain ends_plain (λ _. within) e t same counts puts f h.0

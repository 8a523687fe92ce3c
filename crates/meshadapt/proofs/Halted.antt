-- What a run leaves once its last line was put.
use Rattle.std.proofs.Common.{◌≡◌, ℕ, ◌-◌, List, [], Some, None, inl, inr, refl, sym, subst}
use Rattle.std.specs.Prelude.{Result, Ok, Err, IfOk, MatchResult, string_bytes}
use Rattle.carrier.specs.Carried.{Carried}
use Rattle.ma_io.specs.Held.{Held}
use Rattle.ma_io.specs.Received.{Received}
use Rattle.meshadapt.specs.declared.halt.Halt.{Halt}
use Rattle.meshadapt.specs.declared.halt.Halt.TheVariants as halt
use Rattle.meshadapt.specs.declared.status.Status.{Status}
use Rattle.meshadapt.specs.declared.status.Status.TheVariants.{Usage, Memory}
use Rattle.world_run.specs.declared.fault.RunFault.{RunFault}
use Rattle.world_run.specs.declared.fault.RunFault.TheVariants as run
use Rattle.meshadapt.specs.Acts.{adapted_by, begun, bytes_of, meshes_by}
use Rattle.meshadapt.specs.Outcome.{Leaves, LeavesMemory, LeavesParts, LeavesUnput, PutsLast, Seen, seen}
use Rattle.meshadapt.specs.Printed.{bad_letter_line, file_name, link_fault_line, read_fault_line, refused_line, starved_line, too_many_line, usage_line, write_fault_line}
use Rattle.meshadapt.specs.Words.{Job}
use Rattle.meshadapt.specs.steps.Running.{Ends, EndsAs, HaltsParts, PartsEnd, Runs}
use Rattle.meshadapt.proofs.InTurn.{last_after}

module _ (job : Job) (s m : Seen) (t : Received) where
  abbrev pub Left : Status → Type 0
  Left status = Leaves status (Some job) s (seen m.depot m.carrier t)

  memory_left : (status : Status) → status ≡ Memory → LeavesMemory (Some job) s m → Left status
  memory_left status e (inl none) = subst Left (sym e) (inl none)
  memory_left status e (inr some) =
      subst Left (sym e) (inr (record {
        job = some.job;
        inputs = some.inputs;
        done = some.done;
        name = some.name;
        bytes = some.bytes;
        comes = record { words_are = some.comes.words_are; verdict = some.comes.verdict; way = some.comes.way; within = some.comes.within };
        files = some.files;
      }))

  -- ---- parts
  parts_left : (fault : RunFault) (line : List ℕ) → HaltsParts fault job s m → PutsLast [] line m.sink t → LeavesParts fault line (Some job) s (seen m.depot m.carrier t)
  parts_left fault line h ended = record {
    job = job;
    inputs = h.inputs;
    handout = h.handout;
    words_are = refl;
    verdict = h.verdict;
    handed = h.handed;
    round = h.round;
    upto = h.upto;
    worlds = h.worlds;
    comes = h.comes;
    cause = h.cause;
    meant = h.meant;
    files = h.files;
    printed = last_after (bytes_of (begun (h.round - 1) h.inputs (meshes_by h.worlds))) line s.sink m.sink t h.printed ended;
  }

  parts_halted : (status : Status) (fault : RunFault) → HaltsParts fault job s m → PartsEnd status fault m.sink t → Left status
  parts_halted status run.Link h (inl ended) = subst Left (sym ended.0) (parts_left run.Link link_fault_line h ended.1)
  parts_halted status run.Link h (inr out) = memory_left status out (inl h.files)
  parts_halted status (run.BadLetter bytes) h (inl ended) = subst Left (sym ended.0) (parts_left (run.BadLetter bytes) (bad_letter_line bytes.items) h ended.1)
  parts_halted status (run.BadLetter bytes) h (inr out) = memory_left status out (inl h.files)
  parts_halted status (run.Starved part phase) h (inl ended) = subst Left (sym ended.0) (parts_left (run.Starved part phase) (starved_line part phase) h ended.1)
  parts_halted status (run.Starved part phase) h (inr out) = memory_left status out (inl h.files)
  parts_halted status (run.Over round stage count) h (inl ended) = subst Left (sym ended.0) (inr (parts_left (run.Over round stage count) (too_many_line round stage count) h ended.1))
  parts_halted status (run.Over round stage count) h (inr out) = memory_left status out (inl h.files)
  parts_halted status run.Memory h out = memory_left status out (inl h.files)

  -- ---- any run
  pub halted_leaves : (X : Type 0) (status : Status) (why : Halt) → Runs {X = X} (Err why) job s m → Ends status why job m.sink t → Left status
  halted_leaves X status (halt.Unread file) h (inl ended) =
      let line : List ℕ = read_fault_line (file_name job file) in
      subst Left (sym ended.0) (record { job = job; file = file; words_are = refl; is_of_it = h.0; counted = h.1; files = h.2.0; carrier = h.2.1; printed = subst (λ (r : Received). PutsLast [] line r t) h.2.2 ended.1 })
  halted_leaves X status (halt.Unread file) h (inr out) = memory_left status out (inl h.2.0)
  halted_leaves X status (halt.Refused refusal) h (inl ended) =
      subst Left (sym ended.0) (record { job = job; words_are = refl; verdict = h.0; counted = h.1; files = h.2.0; carrier = h.2.1; printed = subst (λ (r : Received). PutsLast [] (refused_line refusal) r t) h.2.2 ended.1 })
  halted_leaves X status (halt.Refused refusal) h (inr out) = memory_left status out (inl h.2.0)
  halted_leaves X status (halt.TooMany round stage count) h (inl ended) =
      subst Left (sym ended.0) (inl (record {
        job = job;
        inputs = h.inputs;
        words_are = refl;
        verdict = h.verdict;
        alone = h.alone;
        first = h.first;
        files = h.files;
        printed = last_after (bytes_of (begun (round - 1) h.inputs (adapted_by job h.inputs))) (too_many_line round stage count) s.sink m.sink t h.printed ended.1;
      }))
  halted_leaves X status (halt.TooMany round stage count) h (inr out) = memory_left status out (inl h.files)
  halted_leaves X status (halt.Unstored name) h (inl ended) =
      subst Left (sym ended.0) (inl (record {
        job = job;
        inputs = h.inputs;
        done = h.done;
        name = string_bytes name;
        bytes = h.bytes;
        comes = record { words_are = refl; verdict = h.comes.verdict; way = h.comes.way; within = h.comes.within };
        counted = h.counted;
        files = h.files;
        printed = last_after (bytes_of h.done) (write_fault_line (string_bytes name)) s.sink m.sink t h.printed ended.1;
      }))
  halted_leaves X status (halt.Unstored name) h (inr out) =
      memory_left status out (inr (record { job = job; inputs = h.inputs; done = h.done; name = string_bytes name; bytes = h.bytes; comes = h.comes; files = h.files }))
  halted_leaves X status halt.Unput h ended = subst Left (sym ended.0) (inr (subst (λ (r : Received). LeavesUnput (Some job) s (seen m.depot m.carrier r)) (sym ended.1) h))
  halted_leaves X status (halt.Parts fault) h ended = parts_halted status fault h ended
  halted_leaves X status halt.Memory h out = memory_left status out h

pub usage_leaves : (status : Status) (d : Held) (c : Carried) (s t : Received) → EndsAs status Usage usage_line s t → Leaves status None (seen d c s) (seen d c t)
usage_leaves status d c s t (inl ended) = subst (λ (st : Status). Leaves st None (seen d c s) (seen d c t)) (sym ended.0) (record { words_are = refl; files = refl; carrier = refl; printed = ended.1 })
usage_leaves status d c s t (inr out) = subst (λ (st : Status). Leaves st None (seen d c s) (seen d c t)) (sym out) (inl refl)

-- the line that tells of the usage was made, and put or not
pub usage_told : {L E : Type 0} (bytes : L → List ℕ) (line : Result L E) (status : Status) (s t : Received) → IfOk line (λ l. bytes l ≡ usage_line)
    → MatchResult line (λ l. EndsAs status Usage (bytes l) s t) (λ _. status ≡ Memory) → EndsAs status Usage usage_line s t
usage_told bytes (Ok l) status s t is ended = subst (λ (put : List ℕ). EndsAs status Usage put s t) is ended
usage_told bytes (Err e) status s t is ended = inr ended

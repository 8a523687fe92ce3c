-- How a run over parts goes on from step to step, and ends.
use Rattle.std.proofs.Common.{◌≡◌, ◌≤◌, ◌+◌, ◌-◌, ℕ, suc, length, List, [], ◌∷◌, ◌++◌, map, take, Option, Some, inl, inr, refl, sym, subst, ap, ap₂, ◌∙◌, append_assoc, arith}
use Rattle.std.specs.Prelude.{IfSome, Result, Ok, Err, codes}
use Rattle.std.specs.Fmt.{decimal}
use Rattle.std.specs.Option.{option_map}
use Rattle.std.proofs.lemmas.Option.{slice_get-map}
use Rattle.std.proofs.lemmas.List.{length-map, take_all}
use Rattle.ma_cells.specs.declared.batch.Batch.{Batch}
use Rattle.ma_cells.specs.declared.view.View.{View}
use Rattle.carrier.specs.Carried.{Carried}
use Rattle.ma_io.specs.Held.{Held}
use Rattle.ma_io.specs.Received.{Received}
use Rattle.msh_read.specs.GroupNames.{GroupName}
use Rattle.msh_write.specs.PartText.{part_text}
use Rattle.msh_write.specs.Text.{text_of}
use Rattle.one_mesh.specs.Adaptation.{StaysWithin}
use Rattle.world_run.specs.Told.{WorldState}
use Rattle.world_run.specs.Union.{union_in}
use Rattle.world_run.specs.Views.{seen_at}
use Rattle.part_core.specs.Parts.{PartState}
use Rattle.part_store.specs.Stores.{view_in}
use Rattle.meshadapt.specs.declared.halt.Halt.{Halt}
use Rattle.meshadapt.specs.declared.halt.Halt.TheVariants as halt
use Rattle.meshadapt.specs.Acts.{Act, PutLine, Ending, Output, begun, bytes_of, end_acts, ending_by, meshes_by, round_acts, view_output}
use Rattle.meshadapt.specs.Outcome.{LeavesUnput, LettersArrive, MayEnd, Puts, Stores, seen}
use Rattle.meshadapt.specs.OverParts.{AllArrive}
use Rattle.meshadapt.specs.Printed.{mesh_line, mesh_name, part_name, parts_done_line, round_line}
use Rattle.meshadapt.specs.Verdict.{Handout, Inputs, plan_of, verdict}
use Rattle.meshadapt.specs.Words.{Job}
use Rattle.meshadapt.specs.steps.OverRounds.{CameThrough, EndsParts, HaltsParted, RunsParts}
use Rattle.meshadapt.specs.steps.Running.{PutsLine, Runs, StoresOne}
use Rattle.meshadapt.specs.steps.Storing.{StoresAll, view_outputs}
use Rattle.meshadapt.proofs.Acting.{among_begun, begun_long, begun_store_nothing, next_round}
use Rattle.meshadapt.proofs.Ending.{line_ends, store_halts, text_with}
use Rattle.meshadapt.proofs.InTurn.{front_then, puts_then}
use Rattle.meshadapt.proofs.HandedOut.{next_seen}
use Rattle.meshadapt.proofs.OneByOne.{all_broken, all_stored, broken_before, one_broken}

-- ---- what each part sees
abbrev pub seen_of : PartState → View
seen_of part = view_in part.standing.holds

abbrev pub output_of : List ℕ → List GroupName → View → Output
output_of out names view = record { name = out ++ codes ".p" ++ decimal view.part ++ codes ".msh"; bytes = part_text view names }

-- the next one is stored
pub next_view : (out : List ℕ) (names : List GroupName) (parts : List PartState) (n : ℕ) (view : View) → seen_at parts n ≡ Some view
    → take (suc n) (view_outputs out names (map seen_of parts)) ≡ take n (view_outputs out names (map seen_of parts)) ++ output_of out names view ∷ []
next_view out names parts n view e = next_seen (output_of out names) (map seen_of parts) n (output_of out names view) (ap (option_map (output_of out names)) (slice_get-map seen_of parts n ∙ e))

-- all are
pub all_views : (out : List ℕ) (names : List GroupName) (parts : List PartState) (n : ℕ) → length parts ≤ n → take n (view_outputs out names (map seen_of parts)) ≡ view_outputs out names (map seen_of parts)
all_views out names parts n h =
    let long : length (map (output_of out names) (map seen_of parts)) ≡ length parts = length-map (map seen_of parts) (output_of out names) ∙ length-map parts seen_of in
    take_all n (view_outputs out names (map seen_of parts)) (subst (λ (k : ℕ). k ≤ n) (sym long) h)

views_are : (job : Job) (inputs : Inputs) (views : List View) → view_outputs job.out inputs.names views ≡ map (view_output job inputs) views
unfolding part_name
views_are job inputs views = refl

module _ (job : Job) (inputs : Inputs) (handout : Handout) (handed : inputs.handout ≡ Some handout) (c k : Carried) (d : Held) (s : Received) (v : IfSome d.files (λ files. verdict files job ≡ Ok inputs))
    (e : Held) (m t : Received) (same : e.files ≡ d.files) (counts : e.store_faults ≡ d.store_faults) (puts : Puts (mesh_line inputs.mesh inputs.loose) s m) where
  arrived : LettersArrive c inputs.handout → AllArrive handout.parts c
  arrived arrive = subst (LettersArrive c) handed arrive

  may_end : (worlds : ℕ → WorldState) (round : ℕ) → CameThrough job inputs handout worlds round c k → MayEnd job inputs inputs.handout round c k (ending_by worlds round)
  may_end worlds round through = subst (λ (o : Option Handout). MayEnd job inputs o round c k (ending_by worlds round)) (sym handed) (worlds, through.comes, through.all, refl, through.meant, through.see)

  -- the line of a round could not be put
  line_unput : HaltsParted job inputs handout c k m t → LeavesUnput (Some job) (seen d c s) (seen e k t)
  line_unput h =
      let meshes : ℕ → Batch = meshes_by h.worlds in
      let ending : Ending = ending_by h.worlds (h.done + 1) in
      let line : List ℕ = round_line (h.done + 1) (meshes (h.done + 1)) in
      let done : List Act = begun h.done inputs meshes in
      let end : List Act = end_acts job inputs ending in
      let next = next_round job inputs meshes h.done h.more in
      let rest : List Act = next.0 in
      record {
        job = job;
        inputs = inputs;
        done = done;
        line = line;
        comes = record {
          words_are = refl;
          verdict = v;
          way = record {
            ending = ending;
            rest = rest ++ end;
            acts_are = ap (λ (acts : List Act). acts ++ end) next.1 ∙ append_assoc done (PutLine line ∷ rest) end;
            ends = inr (h.done + 1, inl (begun_long job inputs meshes h.done, h.more), may_end h.worlds (h.done + 1) h.through);
          };
          within = λ arrive. among_begun job inputs meshes h.done line (h.through.within (arrived arrive));
        };
        files = subst (λ (outs : List Output). Stores outs d.files e.files) (sym (begun_store_nothing job inputs meshes h.done)) same;
        printed = front_then (mesh_line inputs.mesh inputs.loose) (bytes_of (round_acts meshes h.done)) line s m t puts h.front;
      }

  pub parts_halt : (X Y : Type 0) (world : X → WorldState) (why : Halt) → RunsParts world (Err why) job inputs handout c k m t → Runs {X = Y} (Err why) job (seen d c s) (seen e k t)
  parts_halt X Y world (halt.Unread file) h = absurd h
  parts_halt X Y world (halt.Refused refusal) h = absurd h
  parts_halt X Y world (halt.TooMany round stage count) h = absurd h
  parts_halt X Y world (halt.Unstored name) h = absurd h
  parts_halt X Y world halt.Unput h = line_unput h
  parts_halt X Y world (halt.Parts fault) h = record {
    inputs = inputs;
    handout = handout;
    verdict = v;
    handed = handed;
    round = h.round;
    upto = h.upto;
    worlds = h.worlds;
    comes = h.breaks.comes;
    cause = h.breaks.cause;
    meant = h.breaks.meant;
    files = same;
    printed = puts_then (mesh_line inputs.mesh inputs.loose) (bytes_of (round_acts (meshes_by h.worlds) (h.round - 1))) s m t puts h.printed;
  }
  parts_halt X Y world halt.Memory h = inl same

  -- the parts have come to an end, and the files are to be stored
  module _ (world : WorldState) (ended : EndsParts job inputs handout c k world m t) where
    abbrev ending : Ending
    ending = ending_by ended.worlds job.rounds

    abbrev mesh_file : Output
    mesh_file = record { name = mesh_name job; bytes = text_of (ending.meshes job.rounds) inputs.names }

    abbrev view_files : List Output
    view_files = map (view_output job inputs) ending.views

    may : MayEnd job inputs inputs.handout job.rounds c k ending
    may = may_end ended.worlds job.rounds ended.through

    within : LettersArrive c inputs.handout → StaysWithin (plan_of job inputs) job.rounds inputs.mesh
    within arrive = ended.through.within (arrived arrive)

    put : Puts (bytes_of (begun job.rounds inputs ending.meshes)) s t
    put = puts_then (mesh_line inputs.mesh inputs.loose) (bytes_of (round_acts ending.meshes job.rounds)) s m t puts ended.printed

    -- the mesh and the names of the file, as they are handed on
    module _ (mesh : Batch) (meshed : mesh ≡ union_in world.parts) (names : List GroupName) (named : names ≡ inputs.names) where
      mesh_same : mesh ≡ ending.meshes job.rounds
      mesh_same = meshed ∙ ap (λ (w : WorldState). union_in w.parts) (sym ended.last)

      named_one : (X : Type 0) (result : Result X Halt) (f : Held) → StoresOne result (mesh_name job) (text_of mesh names) e f → StoresOne result (mesh_name job) (text_of (ending.meshes job.rounds) inputs.names) e f
      named_one X result f h = text_with (λ (text : List ℕ). StoresOne result (mesh_name job) text e f) mesh (ending.meshes job.rounds) names inputs.names mesh_same named h

      abbrev views_at : WorldState → List View
      views_at w = map seen_of w.parts

      named_views : (X : Type 0) (result : Result X Halt) (f last : Held) → StoresAll result (view_outputs job.out names (views_at world)) f last → StoresAll result view_files f last
      named_views X result f last h =
          let there : StoresAll result (view_outputs job.out names ending.views) f last = subst (λ (w : WorldState). StoresAll result (view_outputs job.out names (views_at w)) f last) (sym ended.last) h in
          subst (λ (outs : List Output). StoresAll result outs f last) (views_are job inputs ending.views) (subst (λ (ns : List GroupName). StoresAll result (view_outputs job.out ns ending.views) f last) named there)

      pub whole_halts : (X Y : Type 0) (f : Held) (why : Halt) → StoresOne {X = X} (Err why) (mesh_name job) (text_of mesh names) e f → Runs {X = Y} (Err why) job (seen d c s) (seen f k t)
      whole_halts X Y f why h =
          store_halts job inputs c k d s v ending may within e t same counts put X Y f why (broken_before X X (mesh_file ∷ []) view_files e f why (one_broken mesh_file e f X X why (named_one X (Err why) f h)))

      -- the mesh is stored, and what each part sees is to be
      module _ (f : Held) (first : StoresOne {X = Unit {0}} (Ok tt) (mesh_name job) (text_of mesh names) e f) where
        stored_first : StoresOne {X = Unit {0}} (Ok tt) (mesh_name job) (text_of (ending.meshes job.rounds) inputs.names) e f
        stored_first = named_one (Unit {0}) (Ok tt) f first

        pub views_halt : (X Y : Type 0) (last : Held) (why : Halt) → StoresAll {X = X} (Err why) (view_outputs job.out names (views_at world)) f last → Runs {X = Y} (Err why) job (seen d c s) (seen last k t)
        views_halt X Y last why h =
            store_halts job inputs c k d s v ending may within e t same counts put X Y last why
            (all_broken (mesh_file ∷ []) view_files e f last stored_first.0 stored_first.1 X X why (named_views X (Err why) f last h))

        pub parts_end : (last : Held) → StoresAll {X = Unit {0}} (Ok tt) (view_outputs job.out names (views_at world)) f last
            → (X : Type 0) (u : Received) (line : List ℕ) → line ≡ parts_done_line handout.parts world.letters → (result : Result X Halt) → PutsLine result line t u → Runs result job (seen d c s) (seen last k u)
        parts_end last h X u line is result puts_last =
            let all = all_stored (mesh_file ∷ []) view_files e f last stored_first.0 stored_first.1 (Unit {0}) tt (named_views (Unit {0}) (Ok tt) f last h) in
            let parts = (ended.through.all job.rounds (omega arith)).0 in
            let same_line : line ≡ ending.line = is ∙ ap₂ parts_done_line (sym parts) (ap (λ (w : WorldState). w.letters) (sym ended.last)) in
            line_ends job inputs c k d s v ending may within e t same counts put last all.0 X u result (subst (λ (bytes : List ℕ). PutsLine result bytes t u) same_line puts_last)

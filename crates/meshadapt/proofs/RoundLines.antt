-- The rounds of parts with their lines: what is kept from one to the next, and what it comes to.
use Rattle.std.proofs.Common.{◌≡◌, ℕ, suc, ◌+◌, ◌-◌, ◌<◌, List, [], ◌++◌, Option, Some, None, map, refl, sym, subst, ap, ap₂, ◌∙◌, add-one, arith}
use Rattle.std.specs.Prelude.{IfSome, Ok, Err}
use Rattle.std.proofs.lemmas.List.{append-nil}
use Rattle.carrier.specs.Carried.{Carried}
use Rattle.carrier.specs.Schedule.{Picks}
use Rattle.ma_io.specs.Received.{Received}
use Rattle.part_core.specs.Parts.{PartState}
use Rattle.part_phases.specs.Inboxes.{below}
use Rattle.part_store.specs.Labelled.{view_of}
use Rattle.part_store.specs.Stores.{view_in}
use Rattle.world_run.specs.Rounds.{MayGoOn}
use Rattle.world_run.specs.Told.{WorldState}
use Rattle.world_run.specs.Union.{union_in}
use Rattle.meshadapt.specs.declared.halt.Halt.{Halt}
use Rattle.meshadapt.specs.declared.halt.Halt.TheVariants as halt
use Rattle.meshadapt.specs.Acts.{IsMeant, bytes_of, course_of, ending_by, meshes_by, round_acts, whole_after}
use Rattle.meshadapt.specs.Outcome.{Puts, PutsFront}
use Rattle.meshadapt.specs.OverParts.{AllArrive}
use Rattle.meshadapt.specs.Printed.{parts_done_line, round_line}
use Rattle.meshadapt.specs.Verdict.{Handout, Inputs}
use Rattle.meshadapt.specs.Words.{Job}
use Rattle.meshadapt.specs.steps.OverRounds.{CameThrough, EndsParts, GoesOn, HaveCome, MayRun, RanParts, RunsParts, StartsParts, with_world}
use Rattle.meshadapt.specs.steps.Running.{PutsLine}
use Rattle.meshadapt.proofs.Acting.{one_line_more, same_rounds}
use Rattle.meshadapt.proofs.HandedOut.{all_seen}
use Rattle.meshadapt.proofs.InTurn.{front_after, puts_then}
use Rattle.meshadapt.proofs.Meant.{union_is}
use Rattle.meshadapt.proofs.PartRounds.{last_world, may_go_on, world_before}

-- nothing was put
puts_none : (s : Received) → Puts [] s s
puts_none s = (refl, same s.written)
  where
    same : (written : Option (List ℕ)) → IfSome written (λ before. written ≡ Some (before ++ []))
    same None = tt
    same (Some bytes) = ap Some (sym (append-nil bytes))

back_one : (n : ℕ) → n ≡ n + 1 - 1
back_one n = omega arith

module _ (job : Job) (inputs : Inputs) (handout : Handout) (may : MayRun job inputs handout) (s : Carried) where
  -- ---- what was come to is what is meant
  module _ (worlds : ℕ → WorldState) (round : ℕ) (left : Picks) (t : Carried) (come : HaveCome job inputs handout worlds round left s t) where
    is_meant : AllArrive handout.parts s → IsMeant job inputs handout round (ending_by worlds round)
    is_meant arrive =
        let parts : List PartState = (worlds round).parts in
        let have = come.have_adapted arrive round (omega arith) in
        let counts = come.all round (omega arith) in
        record {
          meshes = λ n within. union_is job inputs handout may come.is_whole n (worlds n).parts (come.have_adapted arrive n within);
          views = all_seen (λ (part : PartState). view_in part.standing.holds) (view_of (whole_after job inputs handout round)) parts have.see ∙ ap (λ (n : ℕ). map (view_of (whole_after job inputs handout round)) (below n)) counts.0;
          line = ap₂ parts_done_line counts.0 counts.1;
        }

    pub through : CameThrough job inputs handout worlds round s t
    through = record {
      comes = come.comes;
      all = come.all;
      meant = is_meant;
      within = come.within;
      see = λ arrive n within. (come.have_adapted arrive n within).see;
    }

  -- ---- from line to line
  module _ (before : Received) where
    pub none_ran : (world : WorldState) (left : Picks) (t : Carried) → StartsParts (Ok world) job inputs handout left s t → RanParts job inputs handout 0 world left s t before before
    none_ran world left t come = record { worlds = λ _. world; last = refl; come = come; printed = puts_none before }

    pub none_started : (X : Type 0) (view : X → WorldState) (left : Picks) (t : Carried) (why : Halt) → StartsParts (Err why) job inputs handout left s t → RunsParts view (Err why) job inputs handout s t before before
    none_started X view left t (halt.Unread file) h = absurd h
    none_started X view left t (halt.Refused refusal) h = absurd h
    none_started X view left t (halt.TooMany round stage count) h = absurd h
    none_started X view left t (halt.Unstored name) h = absurd h
    none_started X view left t halt.Unput h = absurd h
    none_started X view left t (halt.Parts fault) h = record { worlds = h.worlds; round = 0; upto = omega arith; breaks = h.breaks; printed = puts_none before }
    none_started X view left t halt.Memory h = tt

    -- another round can be run
    pub may_go : (done : ℕ) (world : WorldState) (left : Picks) (t : Carried) (after : Received) → RanParts job inputs handout done world left s t before after → done < job.rounds → MayGoOn world
    may_go done world left t after ran more = subst MayGoOn ran.last (may_go_on (course_of job inputs handout) (ran.worlds done) done job.rounds ran.come.done ran.come.unspent more may.finer)

    module _ (done : ℕ) (world : WorldState) (left : Picks) (m t : Carried) (so_far : Received) (ran : RanParts job inputs handout done world left s m before so_far) (more : done < job.rounds) where
      abbrev worlds : ℕ → WorldState
      worlds = ran.worlds

      -- the next round came to a fault
      pub round_stops : (X Y : Type 0) (view : Y → WorldState) (new : WorldState) (right : Picks) (why : Halt) → GoesOn {X = X} (Err why) job inputs handout worlds done new right s t → RunsParts view (Err why) job inputs handout s t before so_far
      round_stops X Y view new right (halt.Unread file) h = absurd h
      round_stops X Y view new right (halt.Refused refusal) h = absurd h
      round_stops X Y view new right (halt.TooMany round stage count) h = absurd h
      round_stops X Y view new right (halt.Unstored name) h = absurd h
      round_stops X Y view new right halt.Unput h = absurd h
      round_stops X Y view new right (halt.Parts fault) h = record {
        worlds = worlds;
        round = done + 1;
        upto = omega (arith, more);
        breaks = h;
        printed = subst (λ (n : ℕ). Puts (bytes_of (round_acts (meshes_by worlds) n)) before so_far) (back_one done) ran.printed;
      }
      round_stops X Y view new right halt.Memory h = tt

      -- it came to its end
      module _ (new : WorldState) (right : Picks) (come : GoesOn {X = Unit {0}} (Ok tt) job inputs handout worlds done new right s t) (after : Received) where
        abbrev then : ℕ → WorldState
        then = with_world worlds (done + 1) new

        line_is : round_line (done + 1) (union_in new.parts) ≡ round_line (done + 1) (meshes_by then (done + 1))
        line_is = ap (λ (w : WorldState). round_line (done + 1) (union_in w.parts)) (sym (last_world worlds (done + 1) new))

        put_so_far : Puts (bytes_of (round_acts (meshes_by then) done)) before so_far
        put_so_far =
            let same = same_rounds (meshes_by worlds) (meshes_by then) done (λ n within. ap (λ (w : WorldState). union_in w.parts) (sym (world_before worlds (done + 1) new n (omega (arith, within))))) in
            subst (λ acts. Puts (bytes_of acts) before so_far) same ran.printed

        pub one_ran : (X : Type 0) (x : X) → PutsLine {X = X} (Ok x) (round_line (done + 1) (union_in new.parts)) so_far after → RanParts job inputs handout (done + 1) new right s t before after
        one_ran X x h =
            let line : List ℕ = round_line (suc done) (meshes_by then (suc done)) in
            let put : Puts line so_far after = subst (λ (n : ℕ). Puts (round_line n (meshes_by then n)) so_far after) (add-one done) (subst (λ (bytes : List ℕ). Puts bytes so_far after) line_is h) in
            let all : Puts (bytes_of (round_acts (meshes_by then) (suc done))) before after
            = subst (λ (bytes : List ℕ). Puts bytes before after) (sym (one_line_more (meshes_by then) done)) (puts_then (bytes_of (round_acts (meshes_by then) done)) line before so_far after put_so_far put) in
            record {
              worlds = then;
              last = last_world worlds (done + 1) new;
              come = come;
              printed = subst (λ (n : ℕ). Puts (bytes_of (round_acts (meshes_by then) n)) before after) (sym (add-one done)) all;
            }

        pub line_stops : (X Y : Type 0) (view : Y → WorldState) (why : Halt) → PutsLine {X = X} (Err why) (round_line (done + 1) (union_in new.parts)) so_far after → RunsParts view (Err why) job inputs handout s t before after
        line_stops X Y view (halt.Unread file) h = absurd h
        line_stops X Y view (halt.Refused refusal) h = absurd h
        line_stops X Y view (halt.TooMany round stage count) h = absurd h
        line_stops X Y view (halt.Unstored name) h = absurd h
        line_stops X Y view halt.Unput h = record {
          worlds = then;
          done = done;
          more = omega (arith, more);
          through = through then (done + 1) right t come;
          front = front_after (bytes_of (round_acts (meshes_by then) done)) (round_line (done + 1) (meshes_by then (done + 1))) before so_far after put_so_far (subst (λ (bytes : List ℕ). PutsFront [] bytes so_far after) line_is h);
        }
        line_stops X Y view (halt.Parts fault) h = absurd h
        line_stops X Y view halt.Memory h = tt

    -- all rounds are done
    pub all_ran : (done : ℕ) (world : WorldState) (left : Picks) (t : Carried) (after : Received) → done ≡ job.rounds → RanParts job inputs handout done world left s t before after → EndsParts job inputs handout s t world before after
    all_ran done world left t after all ran =
        let last : RanParts job inputs handout job.rounds world left s t before after = subst (λ (n : ℕ). RanParts job inputs handout n world left s t before after) all ran in
        record { worlds = last.worlds; last = last.last; through = through last.worlds job.rounds left t last.come; printed = last.printed }

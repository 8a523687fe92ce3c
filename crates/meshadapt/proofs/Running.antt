-- One round after others, and rounds after the line of the mesh.
use Rattle.std.proofs.Common.{◌≡◌, ℕ, suc, ◌+◌, ◌-◌, ◌<◌, ◌≤◌, false, List, [], length, inl, inr, refl, sym, subst, ap, add-one, arith}
use Rattle.std.specs.Prelude.{Result, Ok, Err}
use Rattle.std.proofs.lemmas.Bool.{cases_lt}
use Rattle.ma_cells.specs.declared.batch.Batch.{Batch}
use Rattle.ma_io.specs.Received.{Received}
use Rattle.one_mesh.specs.Adaptation.{IsFirstPast, IsFirstStagePast, Plan, RoundStaysWithin, StaysWithin, adapted, last_stage, most_adapted_tets, staged}
use Rattle.one_mesh.specs.Holding.{Holding}
use Rattle.meshadapt.specs.declared.halt.Halt.{Halt}
use Rattle.meshadapt.specs.declared.halt.Halt.TheVariants as halt
use Rattle.meshadapt.specs.Acts.{adapted_by, begun, bytes_of, round_acts}
use Rattle.meshadapt.specs.Outcome.{Puts, PutsFront}
use Rattle.meshadapt.specs.Printed.{mesh_line, round_line}
use Rattle.meshadapt.specs.Verdict.{Inputs, plan_of}
use Rattle.meshadapt.specs.Words.{Job}
use Rattle.meshadapt.specs.steps.Running.{Begins, HaltsBegun, HaltsRounds, PutsLine, RanRounds, RunsRound, RunsRounds, by_plan}
use Rattle.meshadapt.proofs.Acting.{among_begun, among_first, bytes_of-line, next_round, rounds_store_nothing}
use Rattle.meshadapt.proofs.InTurn.{front_after, front_then, puts_then}

-- ---- one round more
module _ (plan : Plan) (mesh : Batch) where
  held_is : (done : ℕ) (held : Holding) → held ≡ record { mesh = adapted plan done mesh; spent = false } → held.mesh ≡ adapted plan done mesh
  held_is done held is = ap (λ (h : Holding). h.mesh) is

  back_one : (done : ℕ) → done + 1 - 1 ≡ done
  back_one done = omega arith

  pub one_within : (done : ℕ) → StaysWithin plan done mesh → RoundStaysWithin plan (adapted plan done mesh) → StaysWithin plan (done + 1) mesh
  one_within done within next = λ round stage least greatest last.
      elim (cases_lt round (done + 1)) [
        | inl less ↦ within round stage least (omega arith) last
        | inr not_less ↦
            let e : done ≡ round - 1 = omega arith in
            subst (λ (n : ℕ). length (staged plan stage (adapted plan n mesh)).tets ≤ most_adapted_tets) e (next stage last)
      ]

  -- what a round that was run leaves
  abbrev pub Round : ℕ → Batch → Holding → Received → Received → Type 0
  Round n b new m t = (new ≡ record { mesh = staged plan (last_stage plan) b; spent = false }) × RoundStaysWithin plan b × Puts (round_line n (staged plan (last_stage plan) b)) m t

  more_put : (done : ℕ) (s m t : Received) → Puts (bytes_of (round_acts (by_plan plan mesh) done)) s m → Puts (round_line (suc done) (adapted plan (suc done) mesh)) m t → Puts (bytes_of (round_acts (by_plan plan mesh) (suc done))) s t
  more_put done s m t h k =
      let line : List ℕ = round_line (suc done) (adapted plan (suc done) mesh) in
      subst (λ (bytes : List ℕ). Puts bytes s t) (sym (bytes_of-line (round_acts (by_plan plan mesh) done) line)) (puts_then (bytes_of (round_acts (by_plan plan mesh) done)) line s m t h k)

  pub one_more : (done : ℕ) (held new : Holding) (s m t : Received) → RanRounds plan done mesh held s m → Round (done + 1) held.mesh new m t → RanRounds plan (done + 1) mesh new s t
  one_more done held new s m t before ran =
      let ran' : Round (suc done) (adapted plan done mesh) new m t
      = subst (λ (b : Batch). Round (suc done) b new m t) (held_is done held before.0) (subst (λ (n : ℕ). Round n held.mesh new m t) (add-one done) ran) in
      let within = one_within done before.1 ran'.1 in
      let within' : StaysWithin plan (suc done) mesh = subst (λ (n : ℕ). StaysWithin plan n mesh) (add-one done) within in
      subst (λ (n : ℕ). RanRounds plan n mesh new s t) (sym (add-one done)) (ran'.0, within', more_put done s m t before.2 ran'.2)

  past : (done rounds : ℕ) (held : Holding) (s m t : Received) (round stage count : ℕ) → done < rounds → RanRounds plan done mesh held s m → round ≡ done + 1
      → IsFirstStagePast plan held.mesh stage count → t ≡ m → IsFirstPast plan rounds mesh round stage count × Puts (bytes_of (round_acts (by_plan plan mesh) (round - 1))) s t
  past done rounds held s m t round stage count more before round_is first same =
      let first' : IsFirstStagePast plan (adapted plan done mesh) stage count = subst (λ (b : Batch). IsFirstStagePast plan b stage count) (held_is done held before.0) first in
      let e : done ≡ round - 1 = omega arith in (
        record {
          least = omega arith;
          greatest = omega arith;
          in_round = subst (λ (n : ℕ). IsFirstStagePast plan (adapted plan n mesh) stage count) e first';
          before = subst (λ (n : ℕ). StaysWithin plan n mesh) e before.1;
        },
        subst (λ (n : ℕ). Puts (bytes_of (round_acts (by_plan plan mesh) n)) s t) e (subst (λ (r : Received). Puts (bytes_of (round_acts (by_plan plan mesh) done)) s r) (sym same) before.2),
      )

  unput : (done rounds : ℕ) (held : Holding) (s m t : Received) → done < rounds → RanRounds plan done mesh held s m
      → RoundStaysWithin plan held.mesh × PutsFront [] (round_line (done + 1) (staged plan (last_stage plan) held.mesh)) m t → HaltsRounds plan rounds mesh s t
  unput done rounds held s m t more before h =
      let at : RoundStaysWithin plan (adapted plan done mesh) × PutsFront [] (round_line (done + 1) (adapted plan (suc done) mesh)) m t
      = subst (λ (b : Batch). RoundStaysWithin plan b × PutsFront [] (round_line (done + 1) (staged plan (last_stage plan) b)) m t) (held_is done held before.0) h in
      let line : PutsFront [] (round_line (done + 1) (adapted plan (done + 1) mesh)) m t
      = subst (λ (n : ℕ). PutsFront [] (round_line (done + 1) (adapted plan n mesh)) m t) (sym (add-one done)) at.1 in
      record {
        done = done;
        more = omega arith;
        within = one_within done before.1 at.0;
        front = front_after (bytes_of (round_acts (by_plan plan mesh) done)) (round_line (done + 1) (adapted plan (done + 1) mesh)) s m t before.2 line;
      }

  -- what stops the next round stops the rounds
  pub halts : (X Y : Type 0) (done rounds : ℕ) (held new last : Holding) (s m t : Received) (why : Halt) → done < rounds → RanRounds plan done mesh held s m
      → RunsRound {X = X} (Err why) (done + 1) plan held.mesh new m t → RunsRounds {X = Y} (Err why) plan rounds mesh last s t
  halts X Y done rounds held new last s m t (halt.Unread file) more before ran = ran
  halts X Y done rounds held new last s m t (halt.Refused refusal) more before ran = ran
  halts X Y done rounds held new last s m t (halt.TooMany round stage count) more before ran = past done rounds held s m t round stage count more before ran.0 ran.1 ran.2
  halts X Y done rounds held new last s m t (halt.Unstored name) more before ran = ran
  halts X Y done rounds held new last s m t halt.Unput more before ran = unput done rounds held s m t more before ran
  halts X Y done rounds held new last s m t (halt.Parts fault) more before ran = ran
  halts X Y done rounds held new last s m t halt.Memory more before ran = tt

-- ---- a line that could not be put
pub line_halts : (X Y : Type 0) (line : List ℕ) (s t : Received) (why : Halt) → PutsLine {X = X} (Err why) line s t → PutsLine {X = Y} (Err why) line s t
line_halts X Y line s t (halt.Unread file) h = h
line_halts X Y line s t (halt.Refused refusal) h = h
line_halts X Y line s t (halt.TooMany round stage count) h = h
line_halts X Y line s t (halt.Unstored name) h = h
line_halts X Y line s t halt.Unput h = h
line_halts X Y line s t (halt.Parts fault) h = h
line_halts X Y line s t halt.Memory h = tt

-- ---- of the same mesh
pub line_of : (X : Type 0) (result : Result X Halt) (mesh same : Batch) (loose count : ℕ) → mesh ≡ same → loose ≡ count → (s t : Received) → PutsLine result (mesh_line mesh loose) s t → PutsLine result (mesh_line same count) s t
line_of X result mesh same loose count e f s t h = subst (λ (n : ℕ). PutsLine result (mesh_line same n) s t) f (subst (λ (b : Batch). PutsLine result (mesh_line b loose) s t) e h)

pub rounds_of : (X : Type 0) (result : Result X Halt) (plan : Plan) (rounds : ℕ) (mesh same : Batch) (new : Holding) → mesh ≡ same → (s t : Received) → RunsRounds result plan rounds mesh new s t → RunsRounds result plan rounds same new s t
rounds_of X result plan rounds mesh same new e s t h = subst (λ (b : Batch). RunsRounds result plan rounds b new s t) e h

-- ---- the line of the mesh, and the rounds
module _ (job : Job) (inputs : Inputs) where
  pub first_halts : (X Y : Type 0) (new : Holding) (s t : Received) (why : Halt) → PutsLine {X = X} (Err why) (mesh_line inputs.mesh inputs.loose) s t → Begins {X = Y} (Err why) job inputs new s t
  first_halts X Y new s t (halt.Unread file) h = h
  first_halts X Y new s t (halt.Refused refusal) h = h
  first_halts X Y new s t (halt.TooMany round stage count) h = absurd h
  first_halts X Y new s t (halt.Unstored name) h = h
  first_halts X Y new s t halt.Unput h = record {
    done = [];
    line = mesh_line inputs.mesh inputs.loose;
    rest = round_acts (adapted_by job inputs) job.rounds;
    acts_are = refl;
    within = among_first job inputs (mesh_line inputs.mesh inputs.loose);
    none_stored = refl;
    front = h;
  }
  first_halts X Y new s t (halt.Parts fault) h = h
  first_halts X Y new s t halt.Memory h = tt

  pub begun_all : (new : Holding) (s m t : Received) → Puts (mesh_line inputs.mesh inputs.loose) s m → RanRounds (plan_of job inputs) job.rounds inputs.mesh new m t → Begins {X = Unit {0}} (Ok tt) job inputs new s t
  begun_all new s m t h k = (k.0, k.1, puts_then (mesh_line inputs.mesh inputs.loose) (bytes_of (round_acts (adapted_by job inputs) job.rounds)) s m t h k.2)

  begun_unput : (s m t : Received) → Puts (mesh_line inputs.mesh inputs.loose) s m → HaltsRounds (plan_of job inputs) job.rounds inputs.mesh m t → HaltsBegun job inputs s t
  begun_unput s m t h k =
      let line : List ℕ = round_line (k.done + 1) (adapted_by job inputs (k.done + 1)) in
      let next = next_round job inputs (adapted_by job inputs) k.done k.more in
      record {
        done = begun k.done inputs (adapted_by job inputs);
        line = line;
        rest = next.0;
        acts_are = next.1;
        within = among_begun job inputs (adapted_by job inputs) k.done line k.within;
        none_stored = rounds_store_nothing (adapted_by job inputs) k.done;
        front = front_then (mesh_line inputs.mesh inputs.loose) (bytes_of (round_acts (adapted_by job inputs) k.done)) line s m t h k.front;
      }

  pub begun_halts : (X Y : Type 0) (held new : Holding) (s m t : Received) (why : Halt) → Puts (mesh_line inputs.mesh inputs.loose) s m
      → RunsRounds {X = X} (Err why) (plan_of job inputs) job.rounds inputs.mesh held m t → Begins {X = Y} (Err why) job inputs new s t
  begun_halts X Y held new s m t (halt.Unread file) h k = k
  begun_halts X Y held new s m t (halt.Refused refusal) h k = k
  begun_halts X Y held new s m t (halt.TooMany round stage count) h k =
      (k.0, puts_then (mesh_line inputs.mesh inputs.loose) (bytes_of (round_acts (adapted_by job inputs) (round - 1))) s m t h k.1)
  begun_halts X Y held new s m t (halt.Unstored name) h k = k
  begun_halts X Y held new s m t halt.Unput h k = begun_unput s m t h k
  begun_halts X Y held new s m t (halt.Parts fault) h k = k
  begun_halts X Y held new s m t halt.Memory h k = tt

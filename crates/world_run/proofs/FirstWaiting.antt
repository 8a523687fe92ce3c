-- The first part that isn't done, and what is so where there is none.
use Rattle.std.proofs.Common.{◌≡◌, ℕ, zero, suc, true, false, cond, nat_le, List, [], ◌∷◌, Some, None, refl, sym, ap, subst, ◌∙◌, arith}
use Rattle.std.specs.Prelude.{slice_get, is_some}
use Rattle.std.proofs.lemmas.Bool.{false≢true}
use Rattle.std.proofs.lemmas.Bool.Decides.{nat_tests}
use Rattle.part_core.specs.Parts.{PartState}
use Rattle.part_phases.proofs.Gathered.{none≢some}
use Rattle.round_rules.specs.Rounds.{rules}
use Rattle.phase_laws.proofs.Staying.{same_some}
use Rattle.world_run.specs.Replay.{first_waiting, is_done}
use Rattle.world_run.specs.steps.Beginning.{owed_all}

-- the first part that isn't done is one of them
pub waits_at : (parts : List PartState) (first : ℕ × ℕ) → first_waiting parts ≡ Some first → (q : ℕ) × (part : PartState) × (slice_get parts q ≡ Some part) × (is_done part ≡ false)
waits_at [] first e = absurd (none≢some first e)
waits_at (part ∷ parts) first e =
    elim (is_done part) as (λ b. is_done part ≡ b → cond b (first_waiting parts) (Some (part.standing.me, part.standing.phase)) ≡ Some first
    → (q : ℕ) × (p : PartState) × (slice_get (part ∷ parts) q ≡ Some p) × (is_done p ≡ false)) [
      | true ↦ λ _ rest. let later = waits_at parts first rest in (suc later.0, later.1, later.2, later.3)
      | false ↦ λ waits _. (zero, part, refl, waits)
    ] refl e

-- where there is none, each part is done, and none is owed a letter
none_further : (part : PartState) (parts : List PartState) → first_waiting (part ∷ parts) ≡ None → (is_done part ≡ true) × (first_waiting parts ≡ None)
none_further part parts none =
    elim (is_done part) as (λ b. is_done part ≡ b → cond b (first_waiting parts) (Some (part.standing.me, part.standing.phase)) ≡ None → (is_done part ≡ true) × (first_waiting parts ≡ None)) [
      | true ↦ λ done rest. (done, rest)
      | false ↦ λ _ rest. absurd (false≢true (sym (ap is_some rest)))
    ] refl none

pub all_done_at : (parts : List PartState) → first_waiting parts ≡ None → (q : ℕ) (part : PartState) → slice_get parts q ≡ Some part → is_done part ≡ true
all_done_at [] none q part there = absurd (none≢some part there)
all_done_at (first ∷ parts) none zero part there = subst (λ p. is_done p ≡ true) (same_some first part there) (none_further first parts none).0
all_done_at (first ∷ parts) none (suc q) part there = all_done_at parts (none_further first parts none).1 q part there

pub none_owed : (parts : List PartState) → first_waiting parts ≡ None → owed_all parts ≡ 0
none_owed [] none = refl
none_owed (part ∷ parts) none =
    let further = none_further part parts none in
    let done = further.0 in
    let late : nat_le part.standing.phase ((rules part.course).last part.standing.round) ≡ false = grind (arith, nat_tests) in
    let others = none_owed parts further.1 in
    rw late (omega (arith, others))

pub waits_not : (parts : List PartState) (first : ℕ × ℕ) → first_waiting parts ≡ Some first → first_waiting parts ≡ None → ⊥
waits_not parts first some none = false≢true (sym (ap is_some none) ∙ ap is_some some)

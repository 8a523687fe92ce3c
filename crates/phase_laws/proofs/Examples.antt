-- Three parts that sum their numbers in two phases: whatever is drawn, all hold the same sum in the end.
use Rattle.std.proofs.Common.{Ok, Err, is_err, sym, ◌≡◌, ℕ, zero, suc, ◌+◌, ◌<◌, false, cond, nat_lt, List, [], ◌∷◌, map, Some, None, refl, ap, arith}
use Rattle.std.proofs.lemmas.Bool.{false≢true}
use Rattle.std.proofs.lemmas.Bool.Decides.{nat_tests}
use Rattle.part_phases.specs.Standings.{Rules, Standing}
use Rattle.part_phases.proofs.Examples.{idle, sums, total}
use Rattle.phase_laws.specs.Drawing.{BeginSo, Drawing, all_begun, part_at, turns}
use Rattle.phase_laws.specs.Lockstep.{AreInForm, EndsAt, IsBlind, lockstep, sent_to, truth_of}
use Rattle.phase_laws.specs.Truth.{HasEnded, Follows, Truth}
use Rattle.phase_laws.proofs.Starts.{all_end_whatever_is_drawn}
use Rattle.phase_laws.proofs.Together.{lockstep_is_followed}

abbrev first : ℕ → ℕ
first q = q + 1

abbrev together : Truth ℕ ℕ
together = truth_of sums 0 first 1

blind : IsBlind sums
blind = record { sends = λ round n q x has now early. refl; ends = λ round n q has now early. refl; keeps = λ round n q has now early. refl }

ends_at : EndsAt sums 0 first 1
ends_at = record {
  upto = omega arith;
  before = λ n q before within. (total (sent_to sums 0 n (lockstep sums 0 first n) q), refl);
  there = λ q within held is. refl;
}

-- the bodies are the numbers and one more, and then six
in_form : AreInForm sums 0 first 1
unfolding lockstep
in_form zero p q below one other =
    let few : nat_lt 99 (p + 1) ≡ false = grind (arith, nat_tests) in
    (refl, ap (λ b. cond b (Some (p + 1)) None) few)
in_form (suc zero) p q below one other = (refl, refl)
in_form (suc (suc n)) p q below one other = absurd (omega arith)

follows : Follows sums together
follows = lockstep_is_followed sums 0 first 1 blind ends_at in_form

abbrev parts : List (Standing ℕ ℕ)
parts = idle 0 ∷ idle 1 ∷ idle 2 ∷ []

begin : BeginSo sums together (idle 0) parts
unfolding lockstep
begin = record { all = refl; numbers = numbered; holds = held; kept = λ q within. refl } where
  numbered : (q : ℕ) → q < 3 → (part_at (idle 0) parts q).me ≡ q
  numbered zero within = refl
  numbered (suc zero) within = refl
  numbered (suc (suc zero)) within = refl
  numbered (suc (suc (suc q))) within = absurd (omega arith)

  held : (q : ℕ) → q < 3 → sums.begins 0 (part_at (idle 0) parts q) ≡ q + 1
  held q within = ap (λ n. n + 1) (numbered q within)

abbrev start : Drawing ℕ ℕ
start = all_begun sums 0 parts

-- twelve letters are drawn, by any picks
pub all_hold_the_sum : (picks : List ℕ) → ((turns sums 12 picks start).waiting ≡ []) × ((q : ℕ) → q < 3 → ((part_at (idle 0) (turns sums 12 picks start).parts q).phase ≡ 2) × ((part_at (idle 0) (turns sums 12 picks start).parts q).holds ≡ 18))
unfolding lockstep
all_hold_the_sum picks = all_end_whatever_is_drawn sums together (idle 0) parts follows begin 12 picks (omega arith)

-- part 1 is drawn first and goes on, and its letter of the second phase comes to part 0 before all of the first
comes_early : ((part_at (idle 0) (turns sums 3 (0 ∷ 4 ∷ 4 ∷ []) start).parts 0).now ≡ (0, 1) ∷ []) × ((part_at (idle 0) (turns sums 3 (0 ∷ 4 ∷ 4 ∷ []) start).parts 0).early ≡ (1, 6) ∷ [])
comes_early = (refl, refl)

ends_the_same : ((turns sums 12 (0 ∷ 4 ∷ 4 ∷ []) start).waiting ≡ []) × (map {A = Standing ℕ ℕ} {B = ℕ × ℕ} (λ part. (part.phase, part.holds)) (turns sums 12 (0 ∷ 4 ∷ 4 ∷ []) start).parts ≡ (2, 18) ∷ (2, 18) ∷ (2, 18) ∷ [])
ends_the_same = (refl, refl)

-- with the same numbers, where a sum above five is too much
abbrev capped : Rules ℕ ℕ ℕ
capped = record sums { ends = λ part. cond (nat_lt 5 (total part.now)) (Err (total part.now)) (Ok (total part.now)) }

too_much : EndsAt capped 0 first 0
unfolding lockstep
too_much = record {
  upto = omega arith;
  before = λ n q before within. absurd (omega arith);
  there = λ q within held is. absurd (false≢true (sym (ap is_err is)));
}

in_form_over : AreInForm capped 0 first 0
unfolding lockstep
in_form_over zero p q below one other = in_form zero p q (omega arith) one other
in_form_over (suc n) p q below one other = absurd (omega arith)

follows_over : Follows capped (truth_of capped 0 first 0)
follows_over = lockstep_is_followed capped 0 first 0 (record { sends = λ round n q x has now early. refl; ends = λ round n q has now early. refl; keeps = λ round n q has now early. refl }) too_much in_form_over

-- no part goes past the first phase, and each has got all letters there
pub all_are_over : (picks : List ℕ) → ((turns capped 12 picks (all_begun capped 0 parts)).waiting ≡ []) × ((q : ℕ) → q < 3 → HasEnded capped 0 (part_at (idle 0) (turns capped 12 picks (all_begun capped 0 parts)).parts q) (Err 6))
unfolding lockstep
all_are_over picks = all_end_whatever_is_drawn capped (truth_of capped 0 first 0) (idle 0) parts follows_over (record { all = begin.all; numbers = begin.numbers; holds = begin.holds; kept = begin.kept }) 12 picks (omega arith)

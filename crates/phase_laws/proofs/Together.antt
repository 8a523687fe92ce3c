-- The run in lockstep is a truth that the rules follow.
use Rattle.std.proofs.Common.{◌≡◌, ℕ, suc, ◌+◌, cond, [], ◌∷◌, Result, Ok, sym, ap, ◌∙◌, arith}
use Rattle.part_phases.specs.Standings.{Rules}
use Rattle.phase_laws.specs.Truth.{Follows}
use Rattle.phase_laws.specs.Lockstep.{held_after, sent_to, filled, has_next, lockstep, truth_of, IsBlind, EndsAt, AreInForm, LockstepIsFollowed}

module _ {S B W : Type 0} (r : Rules S B W) (round : ℕ) (first : ℕ → S) (end : ℕ) where
  one_on : (n q : ℕ) → lockstep r round first (n + 1) q ≡ has_next r (filled r round n (lockstep r round first n) q)
  unfolding lockstep
  one_on n q = let e : n + 1 ≡ suc n = omega arith in ap (λ m. lockstep r round first m q) e

  held_is : (e : Result S ℕ) (held old : S) → e ≡ Ok held → held_after e old ≡ held
  held_is e held old is = ap (λ z. held_after z old) is

  pub follows_lockstep : IsBlind r → EndsAt r round first end → AreInForm r round first end → Follows r (truth_of r round first end)
  follows_lockstep blind ends right = record {
    upto = ends.upto;
    sends = λ n q x now early below within inside. blind.sends round n q x (lockstep r round first n q) now early;
    outcomes = λ q early within. blind.ends round end q (lockstep r round first end q) (sent_to r round end (lockstep r round first end) q) early;
    final = λ q within held is. (ends.there q within held is, sym (ap (λ z. z.0) (one_on end q) ∙ held_is _ held _ is));
    ends = λ n q early before within.
        let has = lockstep r round first n in
        let run = ends.before n q before within in
        blind.ends round n q (has q) (sent_to r round n has q) early ∙ run.1 ∙ ap Ok (sym (ap (λ z. z.0) (one_on n q) ∙ held_is _ run.0 _ run.1));
    keeps = λ n q early below within.
        let has = lockstep r round first n in
        ap (λ b. cond b (sent_to r round n has q ∷ (has q).1) []) (blind.keeps round n q (has q) (sent_to r round n has q) early) ∙ sym (ap (λ z. z.1) (one_on n q));
    fits = λ n p q below a b. (right n p q below a b).0;
    right = λ n p q below a b. (right n p q below a b).1;
  }

pub lockstep_is_followed : {S B W : Type 0} → LockstepIsFollowed S B W
lockstep_is_followed r round first end = follows_lockstep r round first end

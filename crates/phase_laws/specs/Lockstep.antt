-- The run in which all parts go from phase to phase together.
use Rattle.std.specs.Prelude.{◌≡◌, ◌<◌, ◌≤◌, ℕ, zero, suc, true, cond, List, [], ◌∷◌, None, Result, Ok, Err}
use Rattle.part_phases.specs.Inboxes.{Inbox, gathered}
use Rattle.part_phases.specs.Standings.{Rules, Standing}
use Rattle.phase_laws.specs.Truth.{Follows, Truth}

-- part q in phase n, with what it holds and keeps, and these bodies of this phase and of the next
abbrev pub placed : {S B : Type 0} → ℕ → ℕ → ℕ → S × List (Inbox B) → Inbox B → Inbox B → Standing S B
placed round n q has now early = record { me = q; round = round; phase = n; holds = has.0; now = now; early = early; kept = has.1 }

-- what is held after a phase: what it leaves, or what was held where the total is too much
abbrev pub held_after : {S : Type 0} → Result S ℕ → S → S
held_after (Ok held) old = held
held_after (Err total) old = old

module _ {S B W : Type 0} where
  -- the bodies of phase n for part q, of all, by what they hold and keep
  abbrev pub sent_to : Rules S B W → ℕ → ℕ → (ℕ → S × List (Inbox B)) → ℕ → Inbox B
  sent_to rules round n has q = gathered rules.parts (λ p. rules.sends (placed round n p (has p) [] []) q)

  -- part q once all bodies of phase n are there
  abbrev pub filled : Rules S B W → ℕ → ℕ → (ℕ → S × List (Inbox B)) → ℕ → Standing S B
  filled rules round n has q = placed round n q (has q) (sent_to rules round n has q) []

  -- what a part then holds and keeps in the next phase
  abbrev pub has_next : Rules S B W → Standing S B → S × List (Inbox B)
  has_next rules part = (held_after (rules.ends part) part.holds, cond (rules.keeps part) (part.now ∷ part.kept) [])

  -- what each part holds and keeps in phase n, by what they hold in the first
  unfoldable pub lockstep : Rules S B W → ℕ → (ℕ → S) → ℕ → ℕ → S × List (Inbox B)
  lockstep rules round first zero q = (first q, [])
  lockstep rules round first (suc n) q = has_next rules (filled rules round n (lockstep rules round first n) q)

  -- this run up to the end of a phase, as what is known of a round
  abbrev pub truth_of : Rules S B W → ℕ → (ℕ → S) → ℕ → Truth S B
  truth_of rules round first end = record {
    round = round;
    end = end;
    outcome = λ q. rules.ends (filled rules round end (lockstep rules round first end) q);
    holds = λ n q. (lockstep rules round first n q).0;
    kept = λ n q. (lockstep rules round first n q).1;
    letter = λ n p q. rules.sends (placed round n p (lockstep rules round first n p) [] []) q;
  }

  -- that what a part sends doesn't hang on the bodies of its phase, and nothing on those of the next
  pub record IsBlind (rules : Rules S B W) : Type 0 where
    pub sends : (round n q x : ℕ) (has : S × List (Inbox B)) (now early : Inbox B) → rules.sends (placed round n q has now early) x ≡ rules.sends (placed round n q has [] []) x
    pub ends : (round n q : ℕ) (has : S × List (Inbox B)) (now early : Inbox B) → rules.ends (placed round n q has now early) ≡ rules.ends (placed round n q has now [])
    pub keeps : (round n q : ℕ) (has : S × List (Inbox B)) (now early : Inbox B) → rules.keeps (placed round n q has now early) ≡ rules.keeps (placed round n q has now [])

  -- that a phase is the end of this run: each phase before leaves something to each part, and it is the last of all if it does too, and else leaves nothing to any
  pub record EndsAt (rules : Rules S B W) (round : ℕ) (first : ℕ → S) (end : ℕ) : Type 0 where
    pub upto : end ≤ rules.last round
    pub before : (n q : ℕ) → n < end → q < rules.parts → (held : S) × (rules.ends (filled rules round n (lockstep rules round first n) q) ≡ Ok held)
    pub there : (q : ℕ) → q < rules.parts → (held : S) → rules.ends (filled rules round end (lockstep rules round first end) q) ≡ Ok held → end ≡ rules.last round

  -- that the bodies of this run are of the form of their phases, and nothing is wrong with them
  abbrev pub AreInForm : Rules S B W → ℕ → (ℕ → S) → ℕ → Type 0
  AreInForm rules round first end = (n p q : ℕ) → n ≤ end → p < rules.parts → q < rules.parts
      → (rules.fits n (rules.sends (placed round n p (lockstep rules round first n p) [] []) q) ≡ true)
      × (rules.wrong round (rules.sends (placed round n p (lockstep rules round first n p) [] []) q) ≡ None)

-- rules that don't look ahead follow the run in lockstep
abbrev pub LockstepIsFollowed : Type 0 → Type 0 → Type 0 → Type 0
LockstepIsFollowed S B W = (rules : Rules S B W) (round : ℕ) (first : ℕ → S) (end : ℕ)
    → IsBlind rules → EndsAt rules round first end → AreInForm rules round first end → Follows rules (truth_of rules round first end)

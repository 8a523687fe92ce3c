-- What a part holds and has got, and the rules that it goes by.
use Rattle.std.specs.Prelude.{ℕ, Bool, List, Option, Result}
use Rattle.part_phases.specs.Inboxes.{Inbox}

-- a body, from one part to another, of a phase of a round
pub record Letter (B : Type 0) : Type 0 where
  pub round : ℕ
  pub phase : ℕ
  pub sender : ℕ
  pub target : ℕ
  pub body : B

-- where a part stands: its number, the round and the phase, what it holds, the bodies of this phase and those that came early, of the next,
-- and those of earlier phases that are kept, the latest phase first. A part that is done stands one phase past the last
pub record Standing (S : Type 0) (B : Type 0) : Type 0 where
  pub me : ℕ
  pub round : ℕ
  pub phase : ℕ
  pub holds : S
  pub now : Inbox B
  pub early : Inbox B
  pub kept : List (Inbox B)

-- how far a part has got: it waits in the phase in which it was, it has entered this phase and waits there, it has ended the round,
-- or it found in this phase that the total is too much
pub data Step : Type 0 where
  Waiting : Step
  Moved : ℕ → Step
  RoundDone : Step
  Over : ℕ → ℕ → Step

-- what a part says to a letter: the step, the phase in which it doesn't expect the letter, or what is wrong with the body
pub data Answer (W : Type 0) : Type 0 where
  Stepped : Step → Answer W
  NotExpected : ℕ → Answer W
  Wrong : W → Answer W

-- what a round is about
pub record Rules (S : Type 0) (B : Type 0) (W : Type 0) : Type 0 where
  pub parts : ℕ
  -- the last phase of a round
  pub last : ℕ → ℕ
  -- whether a body is of the form that letters of a phase have
  pub fits : ℕ → B → Bool
  -- what is wrong with a body in a round, if something is
  pub wrong : ℕ → B → Option W
  -- what a part holds that begins a round
  pub begins : ℕ → Standing S B → S
  -- the body for a part, also for itself
  pub sends : Standing S B → ℕ → B
  -- what a part holds once the bodies of a phase are all there, or the total that is too much
  pub ends : Standing S B → Result S ℕ
  -- whether the bodies of a phase, and those kept before, are kept for later phases
  pub keeps : Standing S B → Bool

-- what comes of a call: the part, the letters that it sends, and its answer
pub record Outcome (S : Type 0) (B : Type 0) (W : Type 0) : Type 0 where
  pub part : Standing S B
  pub letters : List (Letter B)
  pub answer : Answer W

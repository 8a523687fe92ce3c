-- What the parts hold and send in a round where this is known from outside, and what it means that they stand so.
use Rattle.std.specs.Prelude.{◌≡◌, ◌≢◌, ◌+◌, ◌<◌, ◌≤◌, ℕ, true, false, cond, List, [], ◌∷◌, ◌++◌, Some, None, Result, Ok, Err, is_err, ◌↔◌}
use Rattle.std.specs.List.{AllByRecursion}
use Rattle.part_phases.specs.Inboxes.{AreInOrder, Inbox, body_from, gathered}
use Rattle.part_phases.specs.Phases.{handed, is_complete, is_owed}
use Rattle.part_phases.specs.Standings.{Answer, Letter, Moved, NotExpected, Over, RoundDone, Rules, Standing, Stepped, Waiting, Wrong}
use Rattle.part_phases.specs.Balance.{Balanced, IsWith}

-- what is known of a round
pub record Truth (S : Type 0) (B : Type 0) : Type 0 where
  pub round : ℕ
  -- the last phase that is entered
  pub end : ℕ
  -- what that phase leaves to each part, or the total that is too much
  pub outcome : ℕ → Result S ℕ
  -- what a part holds in a phase
  pub holds : ℕ → ℕ → S
  -- the bodies of earlier phases that it keeps
  pub kept : ℕ → ℕ → List (Inbox B)
  -- the body of a phase, from one part to another or to itself
  pub letter : ℕ → ℕ → ℕ → B

-- part q in phase n, with these bodies of this phase and of the next
abbrev pub standing : {S B : Type 0} → Truth S B → ℕ → ℕ → Inbox B → Inbox B → Standing S B
standing truth n q now early = record { me = q; round = truth.round; phase = n; holds = truth.holds n q; now = now; early = early; kept = truth.kept n q }

module _ {S B W : Type 0} where
  -- the bodies of phase n for part q, of all
  abbrev pub full : Rules S B W → Truth S B → ℕ → ℕ → Inbox B
  full rules truth n q = gathered rules.parts (λ p. truth.letter n p q)

  -- that rules lead from each phase of a truth to the next, and from its end to its outcome. They lead to no phase past its end: a part of which
  -- the end leaves something is in the last phase of all
  pub record Follows (rules : Rules S B W) (truth : Truth S B) : Type 0 where
    pub sends : (n q x : ℕ) (now early : Inbox B) → n ≤ truth.end → q < rules.parts → x < rules.parts → rules.sends (standing truth n q now early) x ≡ truth.letter n q x
    pub upto : truth.end ≤ rules.last truth.round
    pub outcomes : (q : ℕ) (early : Inbox B) → q < rules.parts → rules.ends (standing truth truth.end q (full rules truth truth.end q) early) ≡ truth.outcome q
    pub final : (q : ℕ) → q < rules.parts → (held : S) → truth.outcome q ≡ Ok held → (truth.end ≡ rules.last truth.round) × (held ≡ truth.holds (truth.end + 1) q)
    pub ends : (n q : ℕ) (early : Inbox B) → n < truth.end → q < rules.parts → rules.ends (standing truth n q (full rules truth n q) early) ≡ Ok (truth.holds (n + 1) q)
    pub keeps : (n q : ℕ) (early : Inbox B) → n ≤ truth.end → q < rules.parts
        → cond (rules.keeps (standing truth n q (full rules truth n q) early)) (full rules truth n q ∷ truth.kept n q) [] ≡ truth.kept (n + 1) q
    pub fits : (n p q : ℕ) → n ≤ truth.end → p < rules.parts → q < rules.parts → rules.fits n (truth.letter n p q) ≡ true
    pub right : (n p q : ℕ) → n ≤ truth.end → p < rules.parts → q < rules.parts → rules.wrong truth.round (truth.letter n p q) ≡ None

  -- that bodies of phase n for part q are those that their senders send
  abbrev pub AreTrue : Rules S B W → Truth S B → ℕ → ℕ → Inbox B → Type 0
  AreTrue rules truth n q inbox = AreInOrder inbox × ((p : ℕ) (body : B) → body_from p inbox ≡ Some body → (p < rules.parts) × (body ≡ truth.letter n p q))

  -- that a part stands where the truth says, in one of its phases or past its end, with any of the bodies for it
  pub record Stands (rules : Rules S B W) (truth : Truth S B) (q : ℕ) (part : Standing S B) : Type 0 where
    pub is : part ≡ standing truth part.phase q part.now part.early
    pub now : AreTrue rules truth part.phase q part.now
    pub early : AreTrue rules truth (part.phase + 1) q part.early
    pub own : part.phase ≤ truth.end → body_from q part.now ≡ Some (truth.letter part.phase q q)
    pub none_early : truth.end ≤ part.phase → part.early ≡ []
    pub upto : part.phase ≤ truth.end + 1
    pub done : part.phase ≡ truth.end + 1 → truth.outcome q ≡ Ok (truth.holds (truth.end + 1) q)

  -- that a letter is one of the truth, from one part to another
  abbrev pub IsTrueLetter : Rules S B W → Truth S B → Letter B → Type 0
  IsTrueLetter rules truth letter =
      (letter.round ≡ truth.round) × (letter.phase ≤ truth.end) × (letter.sender < rules.parts) × (letter.target < rules.parts) × (letter.sender ≢ letter.target)
      × (letter.body ≡ truth.letter letter.phase letter.sender letter.target)

  -- that a part which has all letters of its phase has gone on, unless the round is at its end and the total is too much
  abbrev pub Rests : Rules S B W → Truth S B → ℕ → Standing S B → Type 0
  Rests rules truth q part = part.phase ≤ truth.end → is_complete rules part ≡ true → (part.phase ≡ truth.end) × (is_err (truth.outcome q) ≡ true)

  -- that all parts stand where the truth says and can't go on by themselves, and that the letters that wait are those of the truth that were sent and not got
  pub record Right (rules : Rules S B W) (truth : Truth S B) (at : ℕ → Standing S B) (waiting : List (Letter B)) : Type 0 where
    pub balance : Balanced rules.parts truth.end at waiting
    pub stands : (q : ℕ) → q < rules.parts → Stands rules truth q (at q)
    pub all_true : AllByRecursion (λ letter. IsTrueLetter rules truth letter) waiting
    pub rests : (q : ℕ) → q < rules.parts → Rests rules truth q (at q)

  -- that an answer tells where the part stands: it waits for a letter, is done, or has found that the total is too much, and no letter was refused
  abbrev pub Tells : Rules S B W → Truth S B → ℕ → Standing S B → Answer W → Type 0
  Tells rules truth q part (Stepped Waiting) = (part.phase ≤ truth.end) × (is_complete rules part ≡ false)
  Tells rules truth q part (Stepped (Moved n)) = (n ≡ part.phase) × (part.phase ≤ truth.end) × (is_complete rules part ≡ false)
  Tells rules truth q part (Stepped RoundDone) = part.phase ≡ truth.end + 1
  Tells rules truth q part (Stepped (Over n total)) = (n ≡ truth.end) × (part.phase ≡ truth.end) × (truth.outcome q ≡ Err total)
  Tells rules truth q part (NotExpected n) = ⊥
  Tells rules truth q part (Wrong place) = ⊥

  -- that a part has ended a round with this outcome
  abbrev pub HasEnded : Rules S B W → ℕ → Standing S B → Result S ℕ → Type 0
  HasEnded rules end part (Ok held) = (part.phase ≡ end + 1) × (part.holds ≡ held)
  HasEnded rules end part (Err total) = (part.phase ≡ end) × (is_complete rules part ≡ true)

-- any letter that waits is owed to the part that it names, and nothing is wrong with it. Once this part was handed it, and the letters that it then sends wait,
-- all stands right again, and its answer tells where it stands
abbrev pub EventStaysRight : Type 0 → Type 0 → Type 0 → Type 0
EventStaysRight S B W = (rules : Rules S B W) (truth : Truth S B) → Follows rules truth → (at at' : ℕ → Standing S B) (front back : List (Letter B)) (letter : Letter B)
    → Right rules truth at (front ++ letter ∷ back) → IsWith at letter.target (handed rules (at letter.target) letter).part at'
    → (is_owed rules (at letter.target) letter ≡ true) × (rules.wrong (at letter.target).round letter.body ≡ None)
    × Right rules truth at' ((front ++ back) ++ (handed rules (at letter.target) letter).letters)
    × Tells rules truth letter.target (at' letter.target) (handed rules (at letter.target) letter).answer

-- where all stands right, no letter waits just if all parts have ended
abbrev pub NoneWaitsJustAtTheEnd : Type 0 → Type 0 → Type 0 → Type 0
NoneWaitsJustAtTheEnd S B W = (rules : Rules S B W) (truth : Truth S B) → Follows rules truth → (at : ℕ → Standing S B) (waiting : List (Letter B)) → Right rules truth at waiting
    → (waiting ≡ []) ↔ ((q : ℕ) → q < rules.parts → HasEnded rules truth.end (at q) (truth.outcome q))

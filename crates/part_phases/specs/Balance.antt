-- Letters that wait, letters that were got and letters that were sent, in balance.
use Rattle.std.specs.Prelude.{◌≡◌, ◌≢◌, ◌+◌, ◌<◌, ◌≤◌, ◌==◌, ℕ, Bool, true, ◌&&◌, nat_le, nat_lt, cond, List, ◌∷◌, ◌++◌, length, None}
use Rattle.std.specs.List.{filter}
use Rattle.part_phases.specs.Inboxes.{Inbox, lacks}
use Rattle.part_phases.specs.Phases.{handed, is_owed}
use Rattle.part_phases.specs.Standings.{Letter, Rules, Standing}

-- how many items pass a test
abbrev pub tally : {X : Type 0} → (X → Bool) → List X → ℕ
tally test xs = length (filter test xs)

-- whether a letter goes from p to q in phase n
abbrev pub is_from_to : {B : Type 0} → ℕ → ℕ → ℕ → Letter B → Bool
is_from_to p q n letter = (letter.sender == p) && ((letter.target == q) && (letter.phase == n))

-- how many bodies of a sender an inbox has: 0 or 1
abbrev pub had : {B : Type 0} → Inbox B → ℕ → ℕ
had inbox sender = cond (lacks inbox sender) 0 1

-- how many letters of phase n a part has got from a sender, 0 or 1: each of an earlier phase, and of its phase and the next those that have come
abbrev pub got : {S B : Type 0} → Standing S B → ℕ → ℕ → ℕ
got part sender n = cond (nat_lt n part.phase) 1 (cond (n == part.phase) (had part.now sender) (cond (n == part.phase + 1) (had part.early sender) 0))

-- how many letters of phase n a part has sent to each other: 0 or 1
abbrev pub sent : {S B : Type 0} → Standing S B → ℕ → ℕ
sent part n = cond (nat_le n part.phase) 1 0

-- that each letter that was sent in a phase up to the last either waits, once, or was got, and that no other letter between parts does
abbrev pub Balanced : {S B : Type 0} → ℕ → ℕ → (ℕ → Standing S B) → List (Letter B) → Type 0
Balanced parts last at waiting =
    (p q n : ℕ) → p < parts → q < parts → p ≢ q → n ≤ last → tally (is_from_to p q n) waiting + got (at q) p n ≡ sent (at p) n

-- that parts stand as before, but for one, which stands so
abbrev pub IsWith : {S B : Type 0} → (ℕ → Standing S B) → ℕ → Standing S B → (ℕ → Standing S B) → Type 0
IsWith at q part at' = (at' q ≡ part) × ((x : ℕ) → x ≢ q → at' x ≡ at x)

-- where a letter that waits is taken by the part that it names, and the letters that this part then sends wait, balance is kept, whatever the rules
abbrev pub BalanceIsKept : Type 0 → Type 0 → Type 0 → Type 0
BalanceIsKept S B W = (rules : Rules S B W) (at at' : ℕ → Standing S B) (front back : List (Letter B)) (letter : Letter B)
    → Balanced rules.parts (rules.last (at letter.target).round) at (front ++ letter ∷ back)
    → (at letter.target).me ≡ letter.target → is_owed rules (at letter.target) letter ≡ true → rules.wrong (at letter.target).round letter.body ≡ None
    → IsWith at letter.target (handed rules (at letter.target) letter).part at'
    → Balanced rules.parts (rules.last (at letter.target).round) at' ((front ++ back) ++ (handed rules (at letter.target) letter).letters)

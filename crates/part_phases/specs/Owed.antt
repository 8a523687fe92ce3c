-- How many letters a part is still owed.
use Rattle.std.specs.Prelude.{◌≡◌, ◌+◌, ◌-◌, ◌*◌, ℕ, true, nat_le, nat_lt, cond, length, None}
use Rattle.part_phases.specs.Inboxes.{missing, others}
use Rattle.part_phases.specs.Phases.{begun, handed, is_owed}
use Rattle.part_phases.specs.Standings.{Letter, Rules, Standing}

-- how many letters of its round a part is owed: those that its phase and the next lack, and those of all others in each later one. A part that is done is owed none
abbrev pub letters_owed : {S B W : Type 0} → Rules S B W → Standing S B → ℕ
letters_owed rules part = cond (nat_le part.phase (rules.last part.round))
    (missing rules.parts part.me part.now
    + cond (nat_lt part.phase (rules.last part.round)) (missing rules.parts part.me part.early + ((rules.last part.round - part.phase) - 1) * length (others rules.parts part.me)) 0)
    0

-- a letter that is owed and in which nothing is wrong lowers by one what a part is owed
abbrev pub TakenLetterLowersWhatIsOwed : Type 0 → Type 0 → Type 0 → Type 0
TakenLetterLowersWhatIsOwed S B W = (rules : Rules S B W) (part : Standing S B) (letter : Letter B)
    → is_owed rules part letter ≡ true → rules.wrong part.round letter.body ≡ None
    → letters_owed rules (handed rules part letter).part + 1 ≡ letters_owed rules part

-- a part that has begun a round is owed a letter of each phase from each other part
abbrev pub RoundBegunOwesAllLetters : Type 0 → Type 0 → Type 0 → Type 0
RoundBegunOwesAllLetters S B W = (rules : Rules S B W) (round : ℕ) (part : Standing S B)
    → letters_owed rules (begun rules round part).part ≡ (rules.last round + 1) * length (others rules.parts part.me)

-- Three parts that sum their numbers in two phases, where a letter of the second phase comes before one of the first.
use Rattle.std.proofs.Common.{◌≡◌, ℕ, ◌+◌, true, false, cond, nat_lt, [], ◌∷◌, map, Some, None, Ok, refl}
use Rattle.part_phases.specs.Inboxes.{Inbox}
use Rattle.part_phases.specs.Owed.{letters_owed}
use Rattle.part_phases.specs.Phases.{begun, handed}
use Rattle.part_phases.specs.Standings.{Letter, Moved, NotExpected, Outcome, RoundDone, Rules, Standing, Stepped, Waiting, Wrong}

abbrev pub total : Inbox ℕ → ℕ
total [] = 0
total (entry ∷ rest) = entry.1 + total rest

-- each part holds its number and one more, sends what it holds to each, and holds the sum of what all sent; a body of three digits is wrong
abbrev pub sums : Rules ℕ ℕ ℕ
sums = record {
  parts = 3;
  last = λ round. 1;
  fits = λ phase body. true;
  wrong = λ round body. cond (nat_lt 99 body) (Some body) None;
  begins = λ round part. part.me + 1;
  sends = λ part target. part.holds;
  ends = λ part. Ok (total part.now);
  keeps = λ part. false;
}

abbrev pub idle : ℕ → Standing ℕ ℕ
idle number = record { me = number; round = 0; phase = 2; holds = 0; now = []; early = []; kept = [] }

-- a letter to part 0
abbrev letter : ℕ → ℕ → ℕ → Letter ℕ
letter phase sender body = record { round = 0; phase = phase; sender = sender; target = 0; body = body }

abbrev started : Outcome ℕ ℕ ℕ
started = begun sums 0 (idle 0)

abbrev with_one : Outcome ℕ ℕ ℕ
with_one = handed sums started.part (letter 0 1 2)

abbrev with_early : Outcome ℕ ℕ ℕ
with_early = handed sums with_one.part (letter 1 1 6)

abbrev with_both : Outcome ℕ ℕ ℕ
with_both = handed sums with_early.part (letter 0 2 3)

abbrev with_all : Outcome ℕ ℕ ℕ
with_all = handed sums with_both.part (letter 1 2 6)

-- it sends its number to the others, and waits for four letters
starts : (map {A = Letter ℕ} {B = ℕ × ℕ × ℕ} (λ sent. (sent.phase, sent.target, sent.body)) started.letters ≡ (0, 1, 1) ∷ (0, 2, 1) ∷ []) × (started.answer ≡ Stepped (Moved 0)) × (letters_owed sums started.part ≡ 4)
starts = (refl, refl, refl)

-- it takes the early letter, and no letter twice
waits : (with_one.answer ≡ Stepped Waiting) × (with_early.answer ≡ Stepped Waiting) × (letters_owed sums with_early.part ≡ 2)
    × ((handed sums with_early.part (letter 1 1 6)).answer ≡ NotExpected 0) × ((handed sums with_early.part (letter 0 2 100)).answer ≡ Wrong 100)
waits = (refl, refl, refl, refl, refl)

-- it goes on with the last letter of the first phase, and is done with the one letter that is left
goes_on : (with_both.answer ≡ Stepped (Moved 1)) × (map {A = Letter ℕ} {B = ℕ × ℕ × ℕ} (λ sent. (sent.phase, sent.target, sent.body)) with_both.letters ≡ (1, 1, 6) ∷ (1, 2, 6) ∷ [])
    × (with_all.answer ≡ Stepped RoundDone) × (with_all.part.holds ≡ 18) × (letters_owed sums with_all.part ≡ 0)
goes_on = (refl, refl, refl, refl, refl)

-- How a part goes from phase to phase.
use Rattle.std.specs.Prelude.{◌+◌, ◌-◌, ◌==◌, ℕ, zero, suc, Bool, true, false, not, ◌&&◌, ◌||◌, nat_le, nat_lt, cond, List, [], ◌∷◌, ◌++◌, map, Option, Some, None, Result, Ok, Err}
use Rattle.part_phases.specs.Inboxes.{lacks, missing, others, put_in}
use Rattle.part_phases.specs.Standings.{Answer, Letter, Outcome, Rules, Standing, Stepped, NotExpected, Wrong, Waiting, Moved, RoundDone, Over}

-- a part with the body of a letter among those of its phase
abbrev pub with_letter : {S B : Type 0} → Standing S B → Letter B → Standing S B
with_letter part letter = cond (letter.phase == part.phase) (record part { now = put_in letter.sender letter.body part.now }) (record part { early = put_in letter.sender letter.body part.early })

module _ {S B W : Type 0} where
  -- the letters of the phase in which a part stands, one for each other part
  abbrev pub letters_of : Rules S B W → Standing S B → List (Letter B)
  letters_of rules part = map (λ target. record { round = part.round; phase = part.phase; sender = part.me; target = target; body = rules.sends part target }) (others rules.parts part.me)

  -- a part with its own body, for which it needs no letter
  abbrev pub entered : Rules S B W → Standing S B → Standing S B
  entered rules part = record part { now = put_in part.me (rules.sends part part.me) part.now }

  -- whether the letters of a part's phase are all there
  abbrev pub is_complete : Rules S B W → Standing S B → Bool
  is_complete rules part = missing rules.parts part.me part.now == 0

  -- whether a part is still owed a letter: it is of another part, for this one, of this round, in the form of its phase,
  -- which is this one or the next and not past the last, and none of the kind has come
  abbrev pub is_owed : Rules S B W → Standing S B → Letter B → Bool
  is_owed rules part letter =
      (letter.round == part.round) && ((letter.target == part.me) && (nat_lt letter.sender rules.parts && (not (letter.sender == part.me)
      && (nat_le letter.phase (rules.last part.round) && (rules.fits letter.phase letter.body
      && (((letter.phase == part.phase) && lacks part.now letter.sender) || ((letter.phase == part.phase + 1) && lacks part.early letter.sender)))))))

  -- a part one phase on, with this in hand: what came early is now of its phase
  abbrev pub moved : Rules S B W → Standing S B → S → Standing S B
  moved rules part held =
      record part { phase = part.phase + 1; holds = held; now = part.early; early = []; kept = cond (rules.keeps part) (part.now ∷ part.kept) [] }

  -- a part that sends nothing
  abbrev pub stays : Standing S B → Answer W → Outcome S B W
  stays part answer = record { part = part; letters = []; answer = answer }

  -- the answer of a part that entered a phase and then gave this one
  abbrev pub answer_after : Standing S B → Answer W → Answer W
  answer_after part (Stepped Waiting) = Stepped (Moved part.phase)
  answer_after part answer = answer

  -- what comes of entering the phase of a part and then of this
  abbrev pub after_entering : Rules S B W → Standing S B → Outcome S B W → Outcome S B W
  after_entering rules part further = record { part = further.part; letters = letters_of rules part ++ further.letters; answer = answer_after part further.answer }

  -- what comes of a part, by whether its letters are all there, by what they leave and by whether its phase is the last:
  -- as it is one phase on, and what comes of it further
  abbrev pub if_complete : Bool → Result S ℕ → Bool → Standing S B → (S → Standing S B) → (S → Outcome S B W) → Outcome S B W
  if_complete false left is_last part next further = stays part (Stepped Waiting)
  if_complete true (Err total) is_last part next further = stays part (Stepped (Over part.phase total))
  if_complete true (Ok held) true part next further = stays (next held) (Stepped RoundDone)
  if_complete true (Ok held) false part next further = further held

  -- a part that goes on as far as its letters allow, but at most so many phases
  abbrev pub gone_on : Rules S B W → ℕ → Standing S B → Outcome S B W
  gone_on rules zero part = stays part (Stepped Waiting)
  gone_on rules (suc n) part =
      if_complete (is_complete rules part) (rules.ends part) (part.phase == rules.last part.round) part (moved rules part)
      (λ held. after_entering rules (moved rules part held) (gone_on rules n (entered rules (moved rules part held))))

  -- how many phases a part has still to end
  abbrev pub phases_left : Rules S B W → Standing S B → ℕ
  phases_left rules part = (rules.last part.round + 1) - part.phase

  -- a part in the first phase of a round, without a body
  abbrev pub begins_at : Rules S B W → ℕ → Standing S B → Standing S B
  begins_at rules round part = record { me = part.me; round = round; phase = 0; holds = rules.begins round part; now = []; early = []; kept = [] }

  -- what comes of a part that begins a round
  abbrev pub begun : Rules S B W → ℕ → Standing S B → Outcome S B W
  begun rules round part =
      let first : Standing S B = begins_at rules round part in
      after_entering rules first (gone_on rules (phases_left rules first) (entered rules first))

  -- what comes of a letter, by whether it is owed, by what is wrong with its body, and by what comes of the part with it
  abbrev pub if_owed : Bool → Option W → Standing S B → Outcome S B W → Outcome S B W
  if_owed false wrong part further = stays part (NotExpected part.phase)
  if_owed true (Some wrong) part further = stays part (Wrong wrong)
  if_owed true None part further = further

  -- what comes of a part that is handed a letter
  abbrev pub handed : Rules S B W → Standing S B → Letter B → Outcome S B W
  handed rules part letter =
      if_owed (is_owed rules part letter) (rules.wrong part.round letter.body) part (gone_on rules (phases_left rules part) (with_letter part letter))

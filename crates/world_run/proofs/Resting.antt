-- A part that was called goes as far as it can: it waits for a letter, is done, or has found that the total is too much.
use Rattle.std.proofs.Common.{◌≡◌, ◌+◌, ◌<◌, ℕ, zero, suc, Bool, true, false, not, ◌&&◌, nat_lt, None, Ok, Err, refl, sym, ap, subst, ◌∙◌, arith}
use Rattle.std.specs.Prelude.{◌==◌}
use Rattle.std.proofs.lemmas.Bool.{false≢true}
use Rattle.std.proofs.lemmas.Bool.Decides.{nat_tests}
use Rattle.part_phases.specs.Phases.{answer_after, begins_at, begun, entered, gone_on, handed, if_owed, is_complete, is_owed, moved, phases_left, with_letter}
use Rattle.part_phases.specs.Standings.{Answer, Letter, Moved, NotExpected, Outcome, Over, RoundDone, Rules, Standing, Stepped, Waiting, Wrong}
use Rattle.part_phases.proofs.Kept.{gone_over, opened, same_part, still_open}

-- whether an answer says that the total is too much
abbrev pub is_over : {W : Type 0} → Answer W → Bool
is_over (Stepped Waiting) = false
is_over (Stepped (Moved phase)) = false
is_over (Stepped RoundDone) = false
is_over (Stepped (Over phase total)) = true
is_over (NotExpected phase) = false
is_over (Wrong wrong) = false

module _ {S B W : Type 0} (r : Rules S B W) where
  -- whether a part has all letters of its phase and is not done
  abbrev pub could_go_on : Standing S B → Bool
  could_go_on part = is_complete r part && not (nat_lt (r.last part.round) part.phase)

  -- what an answer that refuses nothing says of the part
  abbrev pub Rests : Standing S B → Answer W → Type 0
  Rests part (Stepped Waiting) = could_go_on part ≡ false
  Rests part (Stepped (Moved phase)) = could_go_on part ≡ false
  Rests part (Stepped RoundDone) = could_go_on part ≡ false
  Rests part (Stepped (Over phase total)) = (phase ≡ part.phase) × (is_complete r part ≡ true) × (r.ends part ≡ Err total)
  Rests part (NotExpected phase) = ⊥
  Rests part (Wrong wrong) = ⊥

  rests-entered : (first part : Standing S B) (answer : Answer W) → Rests part answer → Rests part (answer_after first answer)
  rests-entered first part (Stepped Waiting) h = h
  rests-entered first part (Stepped (Moved phase)) h = h
  rests-entered first part (Stepped RoundDone) h = h
  rests-entered first part (Stepped (Over phase total)) h = h
  rests-entered first part (NotExpected phase) h = h
  rests-entered first part (Wrong wrong) h = h

  past_last : (s : Standing S B) → r.last s.round < s.phase → could_go_on s ≡ false
  past_last s past =
      let done : nat_lt (r.last s.round) s.phase ≡ true = grind (arith, nat_tests) in
      ap (λ b. is_complete r s && not b) done ∙ (elim (is_complete r s) as (λ b. (b && false) ≡ false) [ true ↦ refl | false ↦ refl ])

  abbrev AllRests : Outcome S B W → Type 0
  AllRests due = Rests due.part due.answer

  rests-gone_on : (n : ℕ) (s : Standing S B) → r.last s.round < s.phase + n → AllRests (gone_on r n s)
  rests-gone_on zero s enough = past_last s (omega arith)
  rests-gone_on (suc n) s enough =
      elim (is_complete r s) as (λ c. is_complete r s ≡ c → AllRests (gone_on r (suc n) s)) [
        | false ↦ λ c. subst AllRests (sym (still_open r n s c)) (ap (λ b. b && not (nat_lt (r.last s.round) s.phase)) c)
        | true ↦ λ c. elim (r.ends s) as (λ e. r.ends s ≡ e → AllRests (gone_on r (suc n) s)) [
          | Err total ↦ λ e. subst AllRests (sym (gone_over r n s total c e)) (refl, c, e)
          | Ok held ↦ λ e. elim (s.phase == r.last s.round) as (λ b. (s.phase == r.last s.round) ≡ b → AllRests (gone_on r (suc n) s)) [
            | true ↦ λ b. subst AllRests (sym (opened r n s true held c e b)) (past_last (moved r s held) (grind (arith, nat_tests)))
            | false ↦ λ b.
                let next : Standing S B = entered r (moved r s held) in
                subst AllRests (sym (opened r n s false held c e b)) (rests-entered (moved r s held) (gone_on r n next).part (gone_on r n next).answer (rests-gone_on n next (omega arith)))
          ] refl
        ] refl
      ] refl

  pub rests : (s : Standing S B) → Rests (gone_on r (phases_left r s) s).part (gone_on r (phases_left r s) s).answer
  rests s = rests-gone_on (phases_left r s) s (omega arith)

  pub rests-begun : (round : ℕ) (s : Standing S B) → Rests (begun r round s).part (begun r round s).answer
  rests-begun round s =
      let first : Standing S B = begins_at r round s in
      rests-entered first (gone_on r (phases_left r first) (entered r first)).part (gone_on r (phases_left r first) (entered r first)).answer
      (rests-gone_on (phases_left r first) (entered r first) (omega arith))

  -- a letter that is owed, and in which nothing is wrong
  pub rests-handed : (s : Standing S B) (l : Letter B) → is_owed r s l ≡ true → r.wrong s.round l.body ≡ None → Rests (handed r s l).part (handed r s l).answer
  rests-handed s l owed right =
      let further : Outcome S B W = gone_on r (phases_left r s) (with_letter s l) in
      let same = same_part s l in
      let last_same : r.last (with_letter s l).round ≡ r.last s.round = ap r.last same.1 in
      let is : handed r s l ≡ further = ap (λ z. if_owed z (r.wrong s.round l.body) s further) owed ∙ ap (λ z. if_owed true z s further) right in
      subst AllRests (sym is) (rests-gone_on (phases_left r s) (with_letter s l) (omega (arith, last_same, same.2)))

  -- where the total isn't too much, the part waits for a letter or is done
  pub waits_or_done : (part : Standing S B) (answer : Answer W) → Rests part answer → is_over answer ≡ false → could_go_on part ≡ false
  waits_or_done part (Stepped Waiting) h is = h
  waits_or_done part (Stepped (Moved phase)) h is = h
  waits_or_done part (Stepped RoundDone) h is = h
  waits_or_done part (Stepped (Over phase total)) h is = absurd (false≢true (sym is))
  waits_or_done part (NotExpected phase) h is = absurd h
  waits_or_done part (Wrong wrong) h is = absurd h

  -- where it is, the part stands in the phase that the answer names, and its letters tell that total
  pub says_over : (part : Standing S B) (answer : Answer W) (phase total : ℕ) → Rests part answer → answer ≡ Stepped (Over phase total)
      → (phase ≡ part.phase) × (is_complete r part ≡ true) × (r.ends part ≡ Err total)
  says_over part answer phase total h is = subst (Rests part) is h

-- What becomes of parts when a letter is handed to one of them.
use Rattle.std.proofs.Common.{◌≡◌, ◌+◌, ◌<◌, ℕ, zero, suc, true, false, cond, List, [], ◌∷◌, length, drop, get_or, set, Some, None, Ok, refl, sym, ap, subst, ◌∙◌, arith}
use Rattle.std.specs.Prelude.{slice_get, is_some}
use Rattle.std.proofs.lemmas.Bool.{false≢true}
use Rattle.std.proofs.lemmas.List.{drop_more}
use Rattle.ma_geom.specs.Coordinates.{Coordinates}
use Rattle.letters.specs.declared.letter.Body.{Body}
use Rattle.letters.specs.declared.letter.Letter.{Letter}
use Rattle.part_core.specs.Parts.{Answers, PartState, stepped, taken}
use Rattle.part_core.specs.declared.answers.Step.{Step}
use Rattle.part_phases.specs.Owed.{letters_owed}
use Rattle.part_phases.specs.Phases.{handed}
use Rattle.part_phases.specs.Standings as phases
use Rattle.part_phases.proofs.Owed.{taken_letter_lowers_what_is_owed}
use Rattle.round_rules.specs.Rounds.{rules}
use Rattle.part_store.specs.Stores.{StoreState}
use Rattle.world_run.specs.Replay.{after_outcome, all_done, first_waiting, handed_bytes, handed_letter, is_bad, is_done, is_refusal, letter_in, outcome_at, outcome_of, refuses, unless_done, with_outcome}
use Rattle.world_run.specs.declared.excess.Excess.{Excess}
use Rattle.world_run.specs.declared.handing.Handed.{Handed}
use Rattle.world_run.specs.declared.handing.Handed.TheVariants as ways
use Rattle.world_run.specs.steps.Beginning.{AreUnspent, Says, excess_of, owed_all}
use Rattle.world_run.specs.steps.Turns.{Gives, Hands}
use Rattle.world_run.proofs.Excesses.{left_as, not_refused, says, stands-handed}

-- ---- one part
module _ (old new : PartState) (letter : Letter) where
  abbrev pub due : phases.Outcome StoreState Body Coordinates
  due = handed (rules old.course) old.standing (taken letter)

  pub given-too_many : (round : ℕ) (step : Step) (excess : Excess) → Answers (Ok step) due.answer → new ≡ stepped old old.begun due.part step → round ≡ new.standing.round → excess_of round step ≡ Some excess → Gives (ways.TooMany excess) old new due
  given-too_many round step excess is left here some =
      (left_as old new due old.begun step is left, subst (Says new) some (says old new due old.begun round step is left here (stands-handed (rules old.course) old.standing (taken letter))))

-- ---- lists of parts
there-set : (parts : List PartState) (q : ℕ) (part new : PartState) → slice_get parts q ≡ Some part → slice_get (set parts q new) q ≡ Some new
there-set [] q part new there = absurd (false≢true (ap is_some there))
there-set (x ∷ parts) zero part new there = refl
there-set (x ∷ parts) (suc q) part new there = there-set parts q part new there

pub unspent-at : (parts : List PartState) (q : ℕ) (part : PartState) → AreUnspent parts → slice_get parts q ≡ Some part → part.spent ≡ false
unspent-at [] q part all there = absurd (false≢true (ap is_some there))
unspent-at (x ∷ parts) zero part all there = grind (arith, all.0)
unspent-at (x ∷ parts) (suc q) part all there = unspent-at parts q part all.1 there

unspent-set : (parts : List PartState) (q : ℕ) (new : PartState) → AreUnspent parts → new.spent ≡ false → AreUnspent (set parts q new)
unspent-set [] q new all one = tt
unspent-set (x ∷ parts) zero new all one = (one, all.1)
unspent-set (x ∷ parts) (suc q) new all one = (all.0, unspent-set parts q new all.1 one)

owed : PartState → ℕ
owed part = letters_owed (rules part.course) part.standing

owed-set : (parts : List PartState) (q : ℕ) (part new : PartState) → slice_get parts q ≡ Some part → owed new + 1 ≡ owed part → owed_all (set parts q new) + 1 ≡ owed_all parts
unfolding owed
owed-set [] q part new there less = absurd (false≢true (ap is_some there))
owed-set (x ∷ parts) zero part new there less = let same : owed x ≡ owed part = grind arith in omega (arith, same, less)
owed-set (x ∷ parts) (suc q) part new there less = let rest = owed-set parts q part new there less in omega (arith, rest)

-- ---- what letters are refused
pub refused-no_letter : (parts : List PartState) (bytes : List ℕ) → letter_in bytes ≡ None → is_bad parts bytes ≡ true
refused-no_letter parts bytes none = ap (λ l. refuses (outcome_of parts l)) none

module _ (parts : List PartState) (bytes : List ℕ) (letter : Letter) (is : letter_in bytes ≡ Some letter) where
  pub refused-no_part : slice_get parts letter.target ≡ None → is_bad parts bytes ≡ true
  refused-no_part none = ap (λ l. refuses (outcome_of parts l)) is ∙ ap (λ p. refuses (outcome_at letter (unless_done p))) none

  module _ (part : PartState) (there : slice_get parts letter.target ≡ Some part) where
    pub refused-done : is_done part ≡ true → is_bad parts bytes ≡ true
    refused-done done = ap (λ l. refuses (outcome_of parts l)) is ∙ ap (λ p. refuses (outcome_at letter (unless_done p))) there ∙ ap (λ b. refuses (outcome_at letter (cond b None (Some part)))) done

    module _ (waits : is_done part ≡ false) where
      abbrev pub due' : phases.Outcome StoreState Body Coordinates
      due' = handed (rules part.course) part.standing (taken letter)

      bad_is : is_bad parts bytes ≡ is_refusal due'.answer
      bad_is = ap (λ l. refuses (outcome_of parts l)) is ∙ ap (λ p. refuses (outcome_at letter (unless_done p))) there ∙ ap (λ b. refuses (outcome_at letter (cond b None (Some part)))) waits

      handed_is : handed_bytes parts bytes ≡ set parts letter.target (after_outcome part part.begun due')
      handed_is =
          ap (handed_letter parts) is
          ∙ ap (λ p. with_outcome parts letter.target p (outcome_at letter (unless_done p))) there
          ∙ ap (λ b. with_outcome parts letter.target (Some part) (outcome_at letter (cond b None (Some part)))) waits

      pub hands : (way : Handed) (new : PartState) → AreUnspent parts → Gives way part new due' → Hands way parts (set parts letter.target new) bytes
      unfolding owed
      hands ways.Refused new all gives = bad_is ∙ gives.0
      hands ways.Taken new all gives =
          let right = not_refused (rules part.course) part.standing (taken letter) gives.0 in
          let less : owed new + 1 ≡ owed part = ap (λ p. owed p + 1) gives.2 ∙ taken_letter_lowers_what_is_owed (rules part.course) part.standing (taken letter) right.0 right.1 in (
            ap (set parts letter.target) gives.2 ∙ sym handed_is,
            unspent-set parts letter.target new all (ap (λ p. p.spent) gives.2 ∙ gives.1),
            owed-set parts letter.target part new there less,
          )
      hands (ways.TooMany excess) new all gives =
          record {
            number = letter.target;
            part = new;
            there = ap (λ ps. slice_get ps letter.target) (handed_is ∙ ap (set parts letter.target) (sym gives.0)) ∙ there-set parts letter.target part new there;
            spent = gives.1.spent;
            round_is = gives.1.round_is;
            stage_is = gives.1.stage_is;
            count_is = gives.1.count_is;
            much = gives.1.much;
          }
      hands ways.Memory new all gives = tt

-- ---- the first part that waits
pub passed-done : (parts : List PartState) (i : ℕ) (part : PartState) → i < length parts → part ≡ get_or parts i part → is_done part ≡ true → first_waiting (drop (i + 1) parts) ≡ first_waiting (drop i parts)
passed-done parts i part within is done =
    sym (ap first_waiting (drop_more parts i part within) ∙ ap (λ p. first_waiting (p ∷ drop (i + 1) parts)) (sym is) ∙ ap (λ b. cond b (first_waiting (drop (i + 1) parts)) (Some (part.standing.me, part.standing.phase))) done)

pub found-waiting : (parts : List PartState) (i : ℕ) (part : PartState) → i < length parts → part ≡ get_or parts i part → is_done part ≡ false → first_waiting (drop i parts) ≡ Some (part.standing.me, part.standing.phase)
found-waiting parts i part within is waits =
    ap first_waiting (drop_more parts i part within) ∙ ap (λ p. first_waiting (p ∷ drop (i + 1) parts)) (sym is) ∙ ap (λ b. cond b (first_waiting (drop (i + 1) parts)) (Some (part.standing.me, part.standing.phase))) waits

-- ---- all are done where none waits
pub none_waits : (parts : List PartState) → first_waiting parts ≡ None → all_done parts ≡ true
none_waits [] none = refl
none_waits (part ∷ parts) none =
    elim (is_done part) as (λ b. is_done part ≡ b → cond b (first_waiting parts) (Some (part.standing.me, part.standing.phase)) ≡ None → all_done (part ∷ parts) ≡ true) [
      | true ↦ λ done rest. rw done (none_waits parts rest)
      | false ↦ λ _ rest. absurd (false≢true (sym (ap is_some rest)))
    ] refl none

-- What neither a letter nor the beginning of a round changes of parts: their courses, their numbers, and of a letter how many rounds they have begun.
use Rattle.std.proofs.Common.{◌≡◌, ◌+◌, ℕ, zero, suc, true, false, List, [], ◌∷◌, set, Option, Some, None, Ok, Err, refl, sym, ap, ap₂, ◌∙◌}
use Rattle.std.specs.Prelude.{◌==◌, map, slice_get, is_some, if◌then◌else◌}
use Rattle.std.proofs.lemmas.Bool.{false≢true}
use Rattle.letters.specs.declared.letter.Letter.{Letter}
use Rattle.part_core.specs.Parts.{PartState, taken}
use Rattle.part_phases.specs.Phases.{after_entering, begins_at, begun, entered, gone_on, handed, if_complete, if_owed, is_complete, is_owed, moved, phases_left, with_letter}
use Rattle.part_phases.specs.Standings.{Letter as PhaseLetter, Outcome, Rules, Standing}
use Rattle.part_phases.proofs.Kept.{same_part}
use Rattle.round_rules.specs.Rounds.{rules}
use Rattle.part_rules.specs.declared.course.Course.{Course}
use Rattle.phase_laws.proofs.Staying.{same_some}
use Rattle.world_run.specs.Replay.{after_outcome, all_next, handed_bytes, handed_letter, is_done, letter_in, next_begun, outcome_at, unless_done, with_outcome}
use Rattle.world_run.specs.steps.Beginning.{AreKept, known_of}

-- ---- one part
module _ {S B W : Type 0} (r : Rules S B W) where
  number-gone_on : (n : ℕ) (s : Standing S B) → (gone_on r n s).part.me ≡ s.me
  number-gone_on zero s = refl
  number-gone_on (suc n) s =
      let further : S → Outcome S B W = λ held. after_entering r (moved r s held) (gone_on r n (entered r (moved r s held))) in
      elim (is_complete r s) as (λ b. (if_complete b (r.ends s) (s.phase == r.last s.round) s (moved r s) further).part.me ≡ s.me) [
        | false ↦ refl
        | true ↦ elim (r.ends s) as (λ e. (if_complete true e (s.phase == r.last s.round) s (moved r s) further).part.me ≡ s.me) [
          | Err total ↦ refl
          | Ok held ↦ elim (s.phase == r.last s.round) as (λ b. (if_complete true (Ok held) b s (moved r s) further).part.me ≡ s.me) [
            | true ↦ refl
            | false ↦ number-gone_on n (entered r (moved r s held))
          ]
        ]
      ]

  pub number-begun : (round : ℕ) (s : Standing S B) → (begun r round s).part.me ≡ s.me
  number-begun round s =
      let first : Standing S B = begins_at r round s in
      number-gone_on (phases_left r first) (entered r first)

  pub number-handed : (s : Standing S B) (l : PhaseLetter B) → (handed r s l).part.me ≡ s.me
  number-handed s l =
      let further : Outcome S B W = gone_on r (phases_left r s) (with_letter s l) in
      elim (is_owed r s l) as (λ b. (if_owed b (r.wrong s.round l.body) s further).part.me ≡ s.me) [
        | false ↦ refl
        | true ↦ elim (r.wrong s.round l.body) as (λ w. (if_owed true w s further).part.me ≡ s.me) [
          | Some wrong ↦ refl
          | None ↦ number-gone_on (phases_left r s) (with_letter s l) ∙ (same_part s l).0
        ]
      ]

-- ---- all parts
known-set : (parts : List PartState) (q : ℕ) (part new : PartState) → slice_get parts q ≡ Some part → known_of new ≡ known_of part → map known_of (set parts q new) ≡ map known_of parts
known-set [] q part new there same = absurd (false≢true (ap is_some there))
known-set (x ∷ parts) zero part new there same = ap (λ known. known ∷ map known_of parts) (same ∙ ap known_of (sym (same_some x part there)))
known-set (x ∷ parts) (suc q) part new there same = ap (λ known. known_of x ∷ known) (known-set parts q part new there same)

known-at : (parts : List PartState) (letter : Letter) (o : Option PartState) → slice_get parts letter.target ≡ o → AreKept parts (with_outcome parts letter.target o (outcome_at letter (unless_done o)))
known-at parts letter None there = refl
known-at parts letter (Some part) there =
    elim (is_done part) as (λ b. AreKept parts (with_outcome parts letter.target (Some part) (outcome_at letter (if b then None else Some part)))) [
      | true ↦ refl
      | false ↦
          let due = handed (rules part.course) part.standing (taken letter) in
          let number : due.part.me ≡ part.standing.me = number-handed (rules part.course) part.standing (taken letter) in
          let same : known_of (after_outcome part part.begun due) ≡ known_of part = ap (λ me. (part.course, me, part.begun)) number in
          known-set parts letter.target part (after_outcome part part.begun due) there same
    ]

pub kept-handed : (parts : List PartState) (bytes : List ℕ) → AreKept parts (handed_bytes parts bytes)
kept-handed parts bytes = elim (letter_in bytes) as (λ o. AreKept parts (handed_letter parts o)) [
  | None ↦ refl
  | Some letter ↦ known-at parts letter (slice_get parts letter.target) refl
]

-- what is known of a part once it has begun its next round
abbrev pub known_next : Course × ℕ × ℕ → Course × ℕ × ℕ
known_next known = (known.0, known.1, known.2 + 1)

pub known-next : (parts : List PartState) → map known_of (all_next parts) ≡ map (λ part. known_next (known_of part)) parts
known-next [] = refl
known-next (part ∷ parts) =
    let number : (next_begun part).standing.me ≡ part.standing.me = number-begun (rules part.course) part.begun part.standing in
    let same : known_of (next_begun part) ≡ known_next (known_of part) = ap (λ me. (part.course, me, part.begun + 1)) number in
    ap₂ (λ known more. known ∷ more) same (known-next parts)

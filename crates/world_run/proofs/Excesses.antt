-- A part that finds too many tetrahedra stands in the phase of the posts that tell them.
use Rattle.std.proofs.Common.{◌≡◌, ◌<◌, ◌/◌, ℕ, zero, suc, Bool, true, false, Some, None, Ok, Err, refl, sym, ap, subst, ◌∙◌, arith}
use Rattle.std.specs.Prelude.{◌==◌, nat_le, Result, is_ok, if◌then◌else◌}
use Rattle.std.proofs.lemmas.Bool.{false≢true}
use Rattle.std.proofs.lemmas.Bool.Decides.{nat_tests}
use Rattle.ma_geom.specs.Coordinates.{Coordinates}
use Rattle.letters.specs.declared.letter.Body.{Body}
use Rattle.letters.specs.declared.letter.LetterKind.{LetterKind}
use Rattle.letters.specs.declared.letter.LetterKind.TheVariants as kinds
use Rattle.part_core.specs.Parts.{Answers, PartState, is_over, stepped}
use Rattle.part_core.specs.declared.answers.Step.{Step}
use Rattle.part_core.specs.declared.answers.Step.TheVariants as steps
use Rattle.part_phases.specs.Phases.{after_entering, answer_after, begins_at, begun, entered, gone_on, handed, if_complete, if_owed, is_complete, is_owed, moved, phases_left, with_letter}
use Rattle.part_phases.specs.Standings.{Answer, Letter, Moved, NotExpected, Outcome, Over, RoundDone, Rules, Standing, Stepped, Waiting, Wrong}
use Rattle.part_rules.specs.Bodies.{posts_in}
use Rattle.part_rules.specs.Ends.{if_within, most_tets, total_by}
use Rattle.round_rules.specs.Rounds.{left_by, rules}
use Rattle.round_rules.specs.Stages.{phase_kind}
use Rattle.part_rules.specs.declared.course.Course.{Course}
use Rattle.part_store.specs.Stores.{StoreState}
use Rattle.world_run.specs.Replay.{after_outcome, is_refusal, is_too_many}
use Rattle.world_run.specs.steps.Beginning.{Says, excess_of}

module _ {S B W : Type 0} (r : Rules S B W) where
  -- that a part stands in the phase that an answer tells, whose letters tell too much
  abbrev pub Stands : Standing S B → Answer W → Type 0
  Stands part (Stepped (Over phase total)) = (part.phase ≡ phase) × (r.ends part ≡ Err total)
  Stands part _ = Unit {0}

  stands-entered : (first part : Standing S B) (answer : Answer W) → Stands part answer → Stands part (answer_after first answer)
  stands-entered first part (Stepped Waiting) h = tt
  stands-entered first part (Stepped (Moved phase)) h = tt
  stands-entered first part (Stepped RoundDone) h = tt
  stands-entered first part (Stepped (Over phase total)) h = h
  stands-entered first part (NotExpected phase) h = tt
  stands-entered first part (Wrong wrong) h = tt

  stands-gone_on : (n : ℕ) (s : Standing S B) → Stands (gone_on r n s).part (gone_on r n s).answer
  stands-gone_on zero s = tt
  stands-gone_on (suc n) s =
      let further : S → Outcome S B W = λ held. after_entering r (moved r s held) (gone_on r n (entered r (moved r s held))) in
      elim (is_complete r s) as (λ b. Stands (if_complete b (r.ends s) (s.phase == r.last s.round) s (moved r s) further).part (if_complete b (r.ends s) (s.phase == r.last s.round) s (moved r s) further).answer) [
        | false ↦ tt
        | true ↦ elim (r.ends s) as (λ e. r.ends s ≡ e → Stands (if_complete true e (s.phase == r.last s.round) s (moved r s) further).part (if_complete true e (s.phase == r.last s.round) s (moved r s) further).answer) [
          | Err total ↦ λ is. (refl, is)
          | Ok held ↦ λ _. elim (s.phase == r.last s.round) as (λ b. Stands (if_complete true (Ok held) b s (moved r s) further).part (if_complete true (Ok held) b s (moved r s) further).answer) [
            | true ↦ tt
            | false ↦ stands-entered (moved r s held) (gone_on r n (entered r (moved r s held))).part (gone_on r n (entered r (moved r s held))).answer (stands-gone_on n (entered r (moved r s held)))
          ]
        ] refl
      ]

  pub stands-begun : (round : ℕ) (s : Standing S B) → Stands (begun r round s).part (begun r round s).answer
  stands-begun round s =
      let first : Standing S B = begins_at r round s in
      stands-entered first (gone_on r (phases_left r first) (entered r first)).part (gone_on r (phases_left r first) (entered r first)).answer (stands-gone_on (phases_left r first) (entered r first))

  pub stands-handed : (s : Standing S B) (l : Letter B) → Stands (handed r s l).part (handed r s l).answer
  stands-handed s l =
      let further : Outcome S B W = gone_on r (phases_left r s) (with_letter s l) in
      elim (is_owed r s l) as (λ b. Stands (if_owed b (r.wrong s.round l.body) s further).part (if_owed b (r.wrong s.round l.body) s further).answer) [
        | false ↦ tt
        | true ↦ elim (r.wrong s.round l.body) as (λ w. Stands (if_owed true w s further).part (if_owed true w s further).answer) [
          | Some wrong ↦ tt
          | None ↦ stands-gone_on (phases_left r s) (with_letter s l)
        ]
      ]

-- a letter that isn't refused is owed, and nothing is wrong in it
pub not_refused : {S B : Type 0} (r : Rules S B Coordinates) (s : Standing S B) (l : Letter B) → is_refusal (handed r s l).answer ≡ false → (is_owed r s l ≡ true) × (r.wrong s.round l.body ≡ None)
not_refused {S} {B} r s l answer =
    let further : Outcome S B Coordinates = gone_on r (phases_left r s) (with_letter s l) in
    elim (is_owed r s l) as (λ b. is_owed r s l ≡ b → is_refusal (if_owed b (r.wrong s.round l.body) s further).answer ≡ false → (is_owed r s l ≡ true) × (r.wrong s.round l.body ≡ None)) [
      | false ↦ λ _ h. absurd (false≢true (sym h))
      | true ↦ λ owed. elim (r.wrong s.round l.body) as (λ w. r.wrong s.round l.body ≡ w → is_refusal (if_owed true w s further).answer ≡ false → (is_owed r s l ≡ true) × (r.wrong s.round l.body ≡ None)) [
        | Some wrong ↦ λ _ h. absurd (false≢true (sym h))
        | None ↦ λ right _. (owed, right)
      ] refl
    ] refl answer

abbrev pub in_err : Result StoreState ℕ → ℕ
in_err (Ok s) = 0
in_err (Err total) = total

too_many : (all : ℕ) (s : StoreState) (total : ℕ) → if_within all s ≡ Err total → (total ≡ all) × (most_tets < total)
too_many all s total ends =
    elim (nat_le all most_tets) as (λ b. nat_le all most_tets ≡ b → (if b then Ok s else Err all) ≡ Err total → (total ≡ all) × (most_tets < total)) [
      | true ↦ λ _ h. absurd (false≢true (sym (ap is_ok h)))
      | false ↦ λ past h. let same : all ≡ total = ap in_err h in (sym same, grind (arith, nat_tests))
    ] refl ends

-- whether letters of a kind are posts
abbrev pub is_post : LetterKind → Bool
is_post kinds.Post = true
is_post _ = false

-- only posts tell too many tetrahedra
pub left_over : (kind : LetterKind) (part : Standing StoreState Body) (total : ℕ) → left_by kind part ≡ Err total → (total ≡ total_by part.holds (posts_in part.now)) × (most_tets < total)
left_over kinds.Post part total ends = too_many (total_by part.holds (posts_in part.now)) part.holds total ends
left_over kinds.Reply part total ends = absurd (false≢true (sym (ap is_ok ends)))
left_over kinds.Ghosts part total ends = absurd (false≢true (sym (ap is_ok ends)))
left_over kinds.Propose part total ends = absurd (false≢true (sym (ap is_ok ends)))
left_over kinds.Vote part total ends = absurd (false≢true (sym (ap is_ok ends)))
left_over kinds.Order part total ends = absurd (false≢true (sym (ap is_ok ends)))
left_over kinds.Deliver part total ends = absurd (false≢true (sym (ap is_ok ends)))

pub over_is_post : (kind : LetterKind) (part : Standing StoreState Body) (total : ℕ) → left_by kind part ≡ Err total → is_post kind ≡ true
over_is_post kinds.Post part total ends = refl
over_is_post kinds.Reply part total ends = absurd (false≢true (sym (ap is_ok ends)))
over_is_post kinds.Ghosts part total ends = absurd (false≢true (sym (ap is_ok ends)))
over_is_post kinds.Propose part total ends = absurd (false≢true (sym (ap is_ok ends)))
over_is_post kinds.Vote part total ends = absurd (false≢true (sym (ap is_ok ends)))
over_is_post kinds.Order part total ends = absurd (false≢true (sym (ap is_ok ends)))
over_is_post kinds.Deliver part total ends = absurd (false≢true (sym (ap is_ok ends)))

-- ---- what a step says of a part
abbrev made : Course → Standing StoreState Body → ℕ → Bool → PartState
made course standing begun spent = record { course = course; standing = standing; begun = begun; spent = spent }

step_over : (step : Step) (answer : Answer Coordinates) → Answers (Ok step) answer → (is_over step ≡ is_too_many answer) × (is_refusal answer ≡ false)
step_over steps.Waiting answer is = (sym (ap is_too_many is), ap is_refusal is)
step_over (steps.Moved phase) answer is = (sym (ap is_too_many is), ap is_refusal is)
step_over steps.RoundDone answer is = (sym (ap is_too_many is), ap is_refusal is)
step_over (steps.Over phase total) answer is = (sym (ap is_too_many is), ap is_refusal is)

pub takes : (step : Step) (answer : Answer Coordinates) → Answers (Ok step) answer → is_refusal answer ≡ false
takes step answer is = (step_over step answer is).1

-- the part is what comes of the call
pub left_as : (old new : PartState) (due : Outcome StoreState Body Coordinates) (rounds : ℕ) (step : Step) → Answers (Ok step) due.answer → new ≡ stepped old rounds due.part step → new ≡ after_outcome old rounds due
left_as old new due rounds step is left = left ∙ ap (made old.course due.part rounds) ((step_over step due.answer is).0)

-- and says whether there are too many
pub says : (old new : PartState) (due : Outcome StoreState Body Coordinates) (rounds round : ℕ) (step : Step) → Answers (Ok step) due.answer → new ≡ stepped old rounds due.part step → round ≡ new.standing.round
    → Stands (rules old.course) due.part due.answer → Says new (excess_of round step)
says old new due rounds round steps.Waiting is left here stands = ap (λ p. p.spent) left
says old new due rounds round (steps.Moved phase) is left here stands = ap (λ p. p.spent) left
says old new due rounds round steps.RoundDone is left here stands = ap (λ p. p.spent) left
says old new due rounds round (steps.Over phase total) is left here stands =
    let told : Stands (rules old.course) due.part (Stepped (Over phase total)) = subst (Stands (rules old.course) due.part) is stands in
    let standing_is : new.standing ≡ due.part = ap (λ p. p.standing) left in
    let much = left_over (phase_kind due.part.phase) due.part total told.1 in
    record {
      spent = ap (λ p. p.spent) left;
      round_is = here;
      stage_is = ap (λ k. k / 7) (sym told.0 ∙ ap (λ s. s.phase) (sym standing_is));
      count_is = much.0 ∙ ap (λ s. total_by s.holds (posts_in s.now)) (sym standing_is);
      much = much.1;
    }

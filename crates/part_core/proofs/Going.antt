-- How the steps of the code compose to what is due.
use Rattle.std.proofs.Common.{◌≡◌, ℕ, suc, ◌+◌, ◌-◌, ◌≤◌, Bool, true, false, List, [], ◌++◌, map, None, Ok, sym, ap, subst, ◌∙◌, arith, append_assoc}
use Rattle.std.specs.Prelude.{◌==◌}
use Rattle.std.proofs.lemmas.Bool.Decides.{nat_tests}
use Rattle.std.proofs.lemmas.List.{map-append}
use Rattle.ma_geom.specs.Coordinates.{Coordinates}
use Rattle.letters.specs.declared.letter.Body.{Body}
use Rattle.letters.specs.declared.letter.Letter.{Letter}
use Rattle.part_phases.specs.Phases.{after_entering, answer_after, begins_at, begun, entered, gone_on, is_complete, letters_of, moved, phases_left, if_complete}
use Rattle.part_phases.specs.Standings as phases
use Rattle.part_phases.proofs.Kept.{opened}
use Rattle.part_rules.specs.Begins.{begins_with}
use Rattle.round_rules.specs.Rounds.{rules}
use Rattle.part_store.specs.Stores.{StoreState}
use Rattle.part_core.specs.Parts.{Answers, PartState, is_over, sent}
use Rattle.part_core.specs.steps.Beginning.{holding, opening}
use Rattle.part_core.specs.steps.Going.{Came, Ended, Gone, Matches, standing_at, step_after}
use Rattle.part_core.specs.declared.answers.Step.{Step}
use Rattle.part_core.specs.declared.answers.Step.TheVariants as steps

-- the answer after a phase is entered
answers_after : (step : Step) (a : phases.Answer Coordinates) (s : phases.Standing StoreState Body) → Answers (Ok step) a → Answers (Ok (step_after s.phase step)) (answer_after s a)
answers_after steps.Waiting a s e = ap (answer_after s) e
answers_after (steps.Moved n) a s e = ap (answer_after s) e
answers_after steps.RoundDone a s e = ap (answer_after s) e
answers_after (steps.Over n total) a s e = ap (answer_after s) e

-- a phase is entered, and then the part goes on
pub entering : (first mid new : PartState) (step : Step) (before between after : List Letter) → mid ≡ standing_at first (entered (rules first.course) first.standing)
    → between ≡ before ++ map sent (letters_of (rules first.course) first.standing) → Gone step mid new between after
    → Matches (step_after first.standing.phase step) (after_entering (rules first.course) first.standing (gone_on (rules first.course) (phases_left (rules first.course) first.standing) (entered (rules first.course) first.standing))) first new before after
entering first mid new step before between after is letters gone =
    let r = rules first.course in
    let s = first.standing in
    let inside : phases.Standing StoreState Body = entered r s in
    let g : Gone step (standing_at first inside) new between after = subst (λ m. Gone step m new between after) is gone in (
      answers_after step (gone_on r (phases_left r inside) inside).answer s g.0,
      g.1,
      g.2 ∙ ap (λ l. l ++ map sent (gone_on r (phases_left r inside) inside).letters) letters
          ∙ append_assoc before (map sent (letters_of r s)) (map sent (gone_on r (phases_left r inside) inside).letters)
          ∙ ap (λ l. before ++ l) (sym (map-append sent (letters_of r s) (gone_on r (phases_left r inside) inside).letters)),
    )

-- the last phase of the round in which a part stands
abbrev pub last_of : PartState → ℕ
last_of part = (rules part.course).last part.standing.round

-- with a phase left there is one more to end
one_left : (last phase : ℕ) → phase ≤ last → (last + 1) - phase ≡ suc (last - phase)
one_left last phase le = omega arith

-- what comes of a part whose phase has ended
pub ends : (old new : PartState) → old.standing.phase ≤ last_of old → is_complete (rules old.course) old.standing ≡ true → Ended None old new → (b : Bool) → (old.standing.phase == last_of old) ≡ b
    → gone_on (rules old.course) (phases_left (rules old.course) old.standing) old.standing
    ≡ if_complete true (Ok new.standing.holds) b old.standing (moved (rules old.course) old.standing) (λ h. after_entering (rules old.course) (moved (rules old.course) old.standing h) (gone_on (rules old.course) (last_of old - old.standing.phase) (entered (rules old.course) (moved (rules old.course) old.standing h))))
ends old new le full ended b at =
    let r = rules old.course in
    let s = old.standing in
    ap (λ n. gone_on r n s) (one_left (last_of old) s.phase le) ∙ opened r (last_of old - s.phase) s b new.standing.holds full ended.0 at

-- where one more phase follows, the last is not reached, and one phase less is left
not_last : (phase last : ℕ) → phase + 1 ≤ last → (phase == last) ≡ false
not_last phase last le = grind (arith, nat_tests)

one_less : (last phase : ℕ) → (last + 1) - (phase + 1) ≡ last - phase
one_less last phase = omega arith

-- a phase has ended, the next is entered, and the part goes on
pub goes_on : (old next mid new : PartState) (step : Step) (before between after : List Letter) → old.standing.phase ≤ last_of old → is_complete (rules old.course) old.standing ≡ true → Ended None old next
    → next.standing.phase ≤ last_of next → mid ≡ standing_at next (entered (rules next.course) next.standing) → between ≡ before ++ map sent (letters_of (rules next.course) next.standing)
    → Gone step mid new between after → Gone (step_after next.standing.phase step) old new before after
goes_on old next mid new step before between after le full ended within is letters gone =
    let r = rules old.course in
    let s = old.standing in
    let at : phases.Standing StoreState Body = moved r s next.standing.holds in
    let there : s.phase + 1 ≤ last_of old = subst (λ (p : PartState). p.standing.phase ≤ last_of p) ended.1 within in
    let all = entering next mid new step before between after is letters gone in
    let due : Matches (step_after next.standing.phase step) (after_entering r at (gone_on r (phases_left r at) (entered r at))) (standing_at old at) new before after
    = subst (λ (n : PartState). Matches (step_after next.standing.phase step) (after_entering (rules n.course) n.standing (gone_on (rules n.course) (phases_left (rules n.course) n.standing) (entered (rules n.course) n.standing))) n new before after) ended.1 all in
    subst (λ d. Matches (step_after next.standing.phase step) d old new before after) (sym (ends old next le full ended false (not_last s.phase (last_of old) there)))
    (subst (λ k. Matches (step_after next.standing.phase step) (after_entering r at (gone_on r k (entered r at))) old new before after) (one_less (last_of old) s.phase) due)

-- the part holds what it begins the round with, its first phase is entered, and the part has gone on
pub came_first : (old held first mid gone : PartState) (round : ℕ) (step : Step) (before empty between letters after : List Letter)
    → held ≡ holding old (begins_with old.course.field round old.standing.holds) → first ≡ opening held round
    → mid ≡ standing_at first (entered (rules first.course) first.standing) → empty ≡ [] → between ≡ empty ++ map sent (letters_of (rules first.course) first.standing)
    → Gone step mid gone between letters → after ≡ before ++ letters
    → Came (step_after 0 step) (begun (rules old.course) round old.standing) (round + 1) old (record { course = gone.course; standing = gone.standing; begun = gone.begun; spent = is_over (step_after 0 step) }) before after
came_first old held first mid gone round step before empty between letters after holds opens is none sends went all =
    let r = rules old.course in
    let start : PartState = record { course = old.course; standing = begins_at r round old.standing; begun = round + 1; spent = old.spent } in
    let starts : first ≡ start = opens ∙ ap (λ (p : PartState). opening p round) holds in
    let m : mid ≡ standing_at start (entered r start.standing) = is ∙ ap (λ (p : PartState). standing_at p (entered (rules p.course) p.standing)) starts in
    let b : between ≡ [] ++ map sent (letters_of r start.standing) = sends ∙ ap (λ (p : PartState). empty ++ map sent (letters_of (rules p.course) p.standing)) starts ∙ ap (λ e. e ++ map sent (letters_of r start.standing)) none in
    let h = entering start mid gone step [] between letters m b went in
    (h.0, (ap (λ (p : PartState). record { course = p.course; standing = p.standing; begun = p.begun; spent = is_over (step_after 0 step) }) h.1, all ∙ ap (λ ls. before ++ ls) h.2))

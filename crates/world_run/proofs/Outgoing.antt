-- What a part that is given a letter sends, or says of too many tetrahedra.
use Rattle.std.proofs.Common.{◌≡◌, ◌∙◌, ℕ, false, cond, List, Option, Some, None, Ok, refl, ap, subst}
use Rattle.std.specs.Prelude.{slice_get}
use Rattle.letters.specs.declared.letter.Letter.{Letter}
use Rattle.part_core.specs.Parts.{Answers, PartState, stepped, taken}
use Rattle.part_core.specs.declared.answers.Step.{Step}
use Rattle.part_core.specs.declared.answers.Step.TheVariants as steps
use Rattle.part_phases.specs.Phases.{handed}
use Rattle.round_rules.specs.Rounds.{rules}
use Rattle.world_run.specs.Replay.{is_done, letter_in, outcome_at, outcome_of, unless_done}
use Rattle.world_run.specs.declared.excess.Excess.{Excess}
use Rattle.world_run.specs.declared.handing.Handed.{Handed}
use Rattle.world_run.specs.declared.handing.Handed.TheVariants as ways
use Rattle.world_run.specs.steps.Beginning.{excess_of}
use Rattle.world_run.specs.steps.Handing.{Due, GivesOut, HandsOut, SaysOver}

-- what a step says, if anything, is what comes of the letter
abbrev SaysSo : Due → Option Excess → Type 0
SaysSo due None = Unit {0}
SaysSo due (Some excess) = SaysOver due excess.round excess.stage excess.count

says_so : (old new : PartState) (due : Due) (begun round : ℕ) (step : Step) → Answers (Ok step) due.answer → new ≡ stepped old begun due.part step → round ≡ new.standing.round → SaysSo due (excess_of round step)
says_so old new due begun round steps.Waiting is left here = tt
says_so old new due begun round (steps.Moved phase) is left here = tt
says_so old new due begun round steps.RoundDone is left here = tt
says_so old new due begun round (steps.Over phase total) is left here = record { phase = phase; answer = is; round_is = here ∙ ap (λ (p : PartState). p.standing.round) left; stage_is = refl }

pub says_over : (old new : PartState) (due : Due) (begun round : ℕ) (step : Step) (excess : Excess) → Answers (Ok step) due.answer → new ≡ stepped old begun due.part step → round ≡ new.standing.round → excess_of round step ≡ Some excess
    → SaysOver due excess.round excess.stage excess.count
says_over old new due begun round step excess is left here some = subst (SaysSo due) some (says_so old new due begun round step is left here)

-- ---- the part that bytes name
module _ (parts : List PartState) (bytes : List ℕ) (letter : Letter) (is : letter_in bytes ≡ Some letter) (part : PartState) (there : slice_get parts letter.target ≡ Some part) (waits : is_done part ≡ false) where
  abbrev due' : Due
  due' = handed (rules part.course) part.standing (taken letter)

  comes : outcome_of parts (letter_in bytes) ≡ Some due'
  comes = ap (outcome_of parts) is ∙ ap (λ p. outcome_at letter (unless_done p)) there ∙ ap (λ b. outcome_at letter (cond b None (Some part))) waits

  pub hands_out : (way : Handed) (before after : List Letter) → GivesOut way due' before after → HandsOut way parts bytes before after
  hands_out ways.Refused before after gives = tt
  hands_out ways.Taken before after gives = (due', comes, gives)
  hands_out (ways.TooMany excess) before after gives = (due', comes, gives)
  hands_out ways.Memory before after gives = tt

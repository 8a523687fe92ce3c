use Rattle.std.proofs.Common.{◌≡◌, ◌≤◌, true, sym, ap, subst, ◌∙◌, arith}
use Rattle.std.proofs.lemmas.Bool.Decides.{nat_tests}
use Rattle.part_phases.specs.Phases.{is_complete}
use Rattle.round_rules.specs.Rounds.{rules}
use Rattle.part_core.specs.steps.Going.{Ended, Gone, step_after}
use Rattle.part_core.proofs.Going.{goes_on, last_of}
use Rattle.part_core.proofs.part.Part.+go_on.Goals as goal

pub returns : goal.returns
returns t c =
    let old = c.args.self.now in
    let next = c.end_phase.new.self in
    let full : is_complete (rules old.course) old.standing ≡ true = grind (arith, nat_tests) in
    let ended = subst (λ o. Ended o old next) c.in-None.is c.in_ok-over.ensures in
    let within : next.standing.phase ≤ last_of next = omega arith in
    subst (λ step. Gone step old c.go_on.new.self c.args.out.now.items c.go_on.new.out.items) (sym (c.step_after.ensures ∙ ap (λ k. step_after k c.in_ok-step.step) c.phase-phase.ensures))
    (goes_on old next c.enter.new.self c.go_on.new.self c.in_ok-step.step c.args.out.now.items c.enter.new.out.items c.go_on.new.out.items c.requires full ended within
    c.in_ok-enter.ensures.entered c.in_ok-enter.ensures.sent c.in_ok-step.ensures)

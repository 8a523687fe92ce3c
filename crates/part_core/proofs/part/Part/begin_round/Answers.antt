use Rattle.std.proofs.Common.{◌+◌, sym, subst}
use Rattle.part_phases.specs.Phases.{begun}
use Rattle.round_rules.specs.Rounds.{rules}
use Rattle.part_core.specs.Parts.{PartState, is_over}
use Rattle.part_core.specs.steps.Going.{Came}
use Rattle.part_core.proofs.Going.{came_first}
use Rattle.part_core.proofs.part.Part.begin_round.Goals as goal

pub returns-clause-ok : goal.returns-clause-ok
returns-clause-ok c =
    let old = c.args.self.now in
    let gone = c.go_on.new.self in
    let n = c.args.round + 1 in
    let due = begun (rules old.course) c.args.round old.standing in
    subst (λ (p : PartState). Came c.step_after-step.result due n old p c.args.out.now.items c.append.new.self.items) (sym c.close.ensures)
    (subst (λ step. Came step due n old (record { course = gone.course; standing = gone.standing; begun = gone.begun; spent = is_over step }) c.args.out.now.items c.append.new.self.items) (sym c.step_after-step.ensures)
    (came_first old c.refine_for.new.self c.open.new.self c.enter.new.self gone c.args.round c.in_ok-gone.gone c.args.out.now.items c.new-letters.result.items c.enter.new.out.items c.go_on.new.out.items c.append.new.self.items
    c.in_ok-refine_for.ensures c.open.ensures c.in_ok-enter.ensures.entered c.new-letters.ensures.items c.in_ok-enter.ensures.sent c.in_ok-gone.ensures c.in_ok-append.ensures.items))

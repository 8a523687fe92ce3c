use Rattle.std.proofs.Common.{◌∙◌, ◌+◌, ◌++◌, ap, subst, sym}
use Rattle.std.specs.Prelude.{map}
use Rattle.part_core.specs.Parts.{sent}
use Rattle.part_phases.specs.Phases.{begun}
use Rattle.round_rules.specs.Rounds.{rules}
use Rattle.world_run.specs.Replay.{after_outcome}
use Rattle.world_run.specs.steps.Beginning.{Says}
use Rattle.world_run.proofs.Excesses.{left_as, says, stands-begun}
use Rattle.world_run.proofs.round.begin.Goals as goal

pub returns-in-Ok-clause-begun : goal.returns-in-Ok-clause-begun
returns-in-Ok-clause-begun c =
    let old = c.args.part.now in
    let round = c.begun-round.result in
    let due = begun (rules old.course) round old.standing in
    left_as old c.begin.new.self due (round + 1) c.in-Ok.step c.in-Ok.ensures.answer c.in-Ok.ensures.leaves.0 ∙ ap (λ n. after_outcome old (n + 1) (begun (rules old.course) n old.standing)) c.begun-round.ensures

pub returns-in-Ok-clause-letters : goal.returns-in-Ok-clause-letters
returns-in-Ok-clause-letters c =
    let old = c.args.part.now in
    c.in-Ok.ensures.leaves.1 ∙ ap (λ n. c.args.out.now.items ++ map sent (begun (rules old.course) n old.standing).letters) c.begun-round.ensures

pub returns-in-Ok-clause-says : goal.returns-in-Ok-clause-says
returns-in-Ok-clause-says c =
    let old = c.args.part.now in
    let round = c.begun-round.result in
    let due = begun (rules old.course) round old.standing in
    subst (Says c.begin.new.self) (sym c.of.ensures)
    (says old c.begin.new.self due (round + 1) c.round.result c.in-Ok.step c.in-Ok.ensures.answer c.in-Ok.ensures.leaves.0 c.round.ensures (stands-begun (rules old.course) round old.standing))

use Rattle.std.proofs.Common.{sym}
use Rattle.part_phases.specs.Phases.{handed}
use Rattle.part_core.specs.Parts.{taken}
use Rattle.round_rules.specs.Rounds.{rules as rules_of}
use Rattle.world_run.proofs.Handings.{given-too_many}
use Rattle.world_run.proofs.Outgoing.{says_over}
use Rattle.world_run.proofs.handing.give.Goals as goal

pub returns-in-Some : goal.returns-in-Some
returns-in-Some c =
    let old = c.args.part.now in
    let new = c.accept.new.self in
    let step = c.in-Ok.step in
    let said = c.in-Ok.ensures in
    let some = sym c.in-Some.ensures in
    record {
      gives = given-too_many old new c.args.letter c.round.result step c.in-Some.excess said.answer said.leaves.0 c.round.ensures some;
      out = says_over old new (handed (rules_of old.course) old.standing (taken c.args.letter)) old.begun c.round.result step c.in-Some.excess said.answer said.leaves.0 c.round.ensures some;
    }

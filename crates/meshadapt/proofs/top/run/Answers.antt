use Rattle.std.proofs.Common.{Option, subst}
use Rattle.std.specs.Prelude.{string_bytes}
use Rattle.meshadapt.specs.Outcome.{Leaves, seen}
use Rattle.meshadapt.specs.Words.{Job}
use Rattle.meshadapt.specs.steps.Asking.{asked}
use Rattle.meshadapt.proofs.Halted.{halted_leaves, usage_leaves, usage_told}
use Rattle.meshadapt.proofs.top.run.Goals as goal

pub returns-in-Err-clause-leaves : goal.returns-in-Err-clause-leaves
returns-in-Err-clause-leaves g c =
    let carried = g.C.Carrier.carried c.run_job.new.carrier in
    let before = seen (g.D.Depot.held c.args.depot.now) (g.C.Carrier.carried c.args.carrier.now) (g.S.Sink.received c.args.out.now) in
    let between = seen (g.D.Depot.held c.run_job.new.depot) carried (g.S.Sink.received c.run_job.new.out) in
    let after = seen (g.D.Depot.held c.run_job.new.depot) carried (g.S.Sink.received c.end_halted.new.out) in
    subst (λ (o : Option Job). Leaves c.end_halted.result o before after) c.in-Some.ensures.value
    (halted_leaves (asked c.in-Some.job) before between (g.S.Sink.received c.end_halted.new.out) (Unit {0}) c.end_halted.result c.in-Err.halt c.in-Err.ensures.runs c.end_halted.ensures)

pub returns-in-None-clause-leaves : goal.returns-in-None-clause-leaves
returns-in-None-clause-leaves g c =
    let carried = g.C.Carrier.carried c.args.carrier.now in
    let held = g.D.Depot.held c.args.depot.now in
    let before = g.S.Sink.received c.args.out.now in
    let after = g.S.Sink.received c.end_with.new.out in
    subst (λ (o : Option Job). Leaves c.end_with.result o (seen held carried before) (seen held carried after)) c.in-None.ensures.value
    (usage_leaves c.end_with.result held carried before after (usage_told string_bytes c.usage_line.result c.end_with.result before after c.usage_line.ensures c.end_with.ensures))

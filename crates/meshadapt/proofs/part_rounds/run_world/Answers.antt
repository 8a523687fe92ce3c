use Rattle.std.proofs.Common.{arith}
use Rattle.std.proofs.lemmas.Result.{err_from_is_err_and}
use Rattle.world_run.specs.Told.{WorldState}
use Rattle.meshadapt.specs.declared.part_rounds.Ran.{Ran}
use Rattle.meshadapt.specs.declared.part_rounds.Whole.{Whole}
use Rattle.meshadapt.specs.steps.Asking.{asked}
use Rattle.meshadapt.specs.steps.Fetching.{handout_of, inputs_over}
use Rattle.meshadapt.proofs.HandedOut.{may_run}
use Rattle.meshadapt.proofs.RoundLines.{all_ran, line_stops, may_go, none_ran, none_started, one_ran, round_stops}
use Rattle.meshadapt.proofs.part_rounds.run_world.Goals as goal

abbrev world_of : Ran → WorldState
world_of ran = ran.world

pub loop-done-init : goal.loop-done-init
loop-done-init g c =
    let words = c.args.job.now in
    let accepted = c.args.accepted.now in
    let fetched = c.args.handout.now in
    let field = c.args.course.field in
    let inputs = inputs_over accepted field fetched in
    let handout = handout_of accepted.mesh fetched in
    let may = may_run words accepted fetched c.requires.right c.requires.runs c.requires.fits field c.requires.finer in
    let carried = g.C.Carrier.carried c.args.carrier.now in
    let before = g.S.Sink.received c.args.out.now in
    (none_ran (asked words) inputs handout may carried before c.in_ok-world.world c.start_world.new.handout.schedule (g.C.Carrier.carried c.start_world.new.carrier) c.in_ok-world.ensures, tt)

pub returns-in_err-world-clause-runs : goal.returns-in_err-world-clause-runs
returns-in_err-world-clause-runs g c =
    let p = err_from_is_err_and c.from_residual.result c.from_residual.ensures.1 in
    let words = c.args.job.now in
    let accepted = c.args.accepted.now in
    let fetched = c.args.handout.now in
    let field = c.args.course.field in
    let inputs = inputs_over accepted field fetched in
    let handout = handout_of accepted.mesh fetched in
    let may = may_run words accepted fetched c.requires.right c.requires.runs c.requires.fits field c.requires.finer in
    let carried = g.C.Carrier.carried c.args.carrier.now in
    let before = g.S.Sink.received c.args.out.now in
    rw (p.1, p.2)
    (none_started (asked words) inputs handout may carried before Ran world_of c.start_world.new.handout.schedule (g.C.Carrier.carried c.start_world.new.carrier) c.in_err-world.field-0.0 c.in_err-world.ensures)

pub go_on-requires : goal.go_on-requires
go_on-requires g c =
    let words = c.args.job.now in
    let accepted = c.args.accepted.now in
    let fetched = c.args.handout.now in
    let field = c.args.course.field in
    let inputs = inputs_over accepted field fetched in
    let handout = handout_of accepted.mesh fetched in
    let may = may_run words accepted fetched c.requires.right c.requires.runs c.requires.fits field c.requires.finer in
    let carried = g.C.Carrier.carried c.args.carrier.now in
    let before = g.S.Sink.received c.args.out.now in
    let at = c.loop-done in
    let ran = at.invariant.0 in
    let less = c.loop-done-test.true in
    may_go (asked words) inputs handout may carried before at.done at.world at.handout.schedule (g.C.Carrier.carried at.carrier) (g.S.Sink.received at.out) ran less

pub returns-in_err-go_on-clause-runs : goal.returns-in_err-go_on-clause-runs
returns-in_err-go_on-clause-runs g c =
    let p = err_from_is_err_and c.from_residual-in_err-go_on.result c.from_residual-in_err-go_on.ensures.1 in
    let words = c.args.job.now in
    let accepted = c.args.accepted.now in
    let fetched = c.args.handout.now in
    let field = c.args.course.field in
    let inputs = inputs_over accepted field fetched in
    let handout = handout_of accepted.mesh fetched in
    let may = may_run words accepted fetched c.requires.right c.requires.runs c.requires.fits field c.requires.finer in
    let carried = g.C.Carrier.carried c.args.carrier.now in
    let before = g.S.Sink.received c.args.out.now in
    let at = c.loop-done in
    let ran = at.invariant.0 in
    let less = c.loop-done-test.true in
    let broke = c.in_err-go_on.ensures (asked words) inputs handout ran.worlds at.done carried may ran.last ran.come (omega (arith, less)) in
    rw (p.1, p.2)
    (round_stops (asked words) inputs handout may carried before at.done at.world at.handout.schedule (g.C.Carrier.carried at.carrier) (g.C.Carrier.carried c.go_on.new.carrier) (g.S.Sink.received at.out) ran less
    (Unit {0}) Ran world_of c.go_on.new.world c.go_on.new.schedule c.in_err-go_on.field-0.0 broke)

pub returns-in_err-put_whole-clause-runs : goal.returns-in_err-put_whole-clause-runs
returns-in_err-put_whole-clause-runs g c =
    let p = err_from_is_err_and c.from_residual-in_err-put_whole.result c.from_residual-in_err-put_whole.ensures.1 in
    let words = c.args.job.now in
    let accepted = c.args.accepted.now in
    let fetched = c.args.handout.now in
    let field = c.args.course.field in
    let inputs = inputs_over accepted field fetched in
    let handout = handout_of accepted.mesh fetched in
    let may = may_run words accepted fetched c.requires.right c.requires.runs c.requires.fits field c.requires.finer in
    let carried = g.C.Carrier.carried c.args.carrier.now in
    let before = g.S.Sink.received c.args.out.now in
    let at = c.loop-done in
    let ran = at.invariant.0 in
    let less = c.loop-done-test.true in
    let come = c.in_ok-go_on.ensures (asked words) inputs handout ran.worlds at.done carried may ran.last ran.come (omega (arith, less)) in
    rw (p.1, p.2)
    (line_stops (asked words) inputs handout may carried before at.done at.world at.handout.schedule (g.C.Carrier.carried at.carrier) (g.C.Carrier.carried c.go_on.new.carrier) (g.S.Sink.received at.out) ran less
    c.go_on.new.world c.go_on.new.schedule come (g.S.Sink.received c.put_whole.new.out) Whole Ran world_of c.in_err-put_whole.field-0.0 c.in_err-put_whole.ensures.line)

pub loop-done-preserved : goal.loop-done-preserved
loop-done-preserved g c =
    let words = c.args.job.now in
    let accepted = c.args.accepted.now in
    let fetched = c.args.handout.now in
    let field = c.args.course.field in
    let inputs = inputs_over accepted field fetched in
    let handout = handout_of accepted.mesh fetched in
    let may = may_run words accepted fetched c.requires.right c.requires.runs c.requires.fits field c.requires.finer in
    let carried = g.C.Carrier.carried c.args.carrier.now in
    let before = g.S.Sink.received c.args.out.now in
    let at = c.loop-done in
    let ran = at.invariant.0 in
    let less = c.loop-done-test.true in
    let come = c.in_ok-go_on.ensures (asked words) inputs handout ran.worlds at.done carried may ran.last ran.come (omega (arith, less)) in (
      one_ran (asked words) inputs handout may carried before at.done at.world at.handout.schedule (g.C.Carrier.carried at.carrier) (g.C.Carrier.carried c.go_on.new.carrier) (g.S.Sink.received at.out) ran less
          c.go_on.new.world c.go_on.new.schedule come (g.S.Sink.received c.put_whole.new.out) Whole c.in_ok-put_whole.field-0 c.in_ok-put_whole.ensures.line,
      c.in_ok-put_whole.ensures.whole,
    )

pub returns-clause-runs : goal.returns-clause-runs
returns-clause-runs g c =
    let words = c.args.job.now in
    let accepted = c.args.accepted.now in
    let fetched = c.args.handout.now in
    let field = c.args.course.field in
    let inputs = inputs_over accepted field fetched in
    let handout = handout_of accepted.mesh fetched in
    let may = may_run words accepted fetched c.requires.right c.requires.runs c.requires.fits field c.requires.finer in
    let carried = g.C.Carrier.carried c.args.carrier.now in
    let before = g.S.Sink.received c.args.out.now in
    let at = c.loop-done in
    let past = c.loop-done-test.false in
    let end = at.auto.done-end in
    all_ran (asked words) inputs handout may carried before at.done at.world at.handout.schedule (g.C.Carrier.carried at.carrier) (g.S.Sink.received at.out) (omega (arith, past, end)) at.invariant.0

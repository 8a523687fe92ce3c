use Rattle.std.proofs.Common.{ap, refl, ◌∙◌}
use Rattle.std.specs.Prelude.{Err}
use Rattle.std.proofs.lemmas.Result.{err_from_is_err_and}
use Rattle.meshadapt.specs.declared.halt.Halt.TheVariants as halt
use Rattle.meshadapt.specs.declared.part_rounds.Ran.{Ran}
use Rattle.meshadapt.specs.Printed.{parts_done_line}
use Rattle.meshadapt.specs.steps.Asking.{asked}
use Rattle.meshadapt.specs.steps.Fetching.{handout_of, inputs_over}
use Rattle.meshadapt.proofs.Divided.{parts_end, parts_halt, views_halt, whole_halts}
use Rattle.meshadapt.proofs.Ending.{first_stops}
use Rattle.meshadapt.proofs.parts.run_parts.Goals as goal

pub returns-in_err-begin_run : goal.returns-in_err-begin_run
returns-in_err-begin_run g c d same counts v =
    let p = err_from_is_err_and c.from_residual.result c.from_residual.ensures.1 in
    let carried = g.C.Carrier.carried c.args.carrier.now in
    rw (p.1, p.2)
    (first_stops (asked c.args.job.now) (inputs_over c.args.accepted.now c.args.course.field c.args.handout.now) carried carried d (g.S.Sink.received c.args.out.now) v
    (Unit {0}) (Unit {0}) (g.D.Depot.held c.args.depot.now) (g.S.Sink.received c.begin_run.new.out) c.in_err-begin_run.field-0.0 same c.in_err-begin_run.ensures)

pub returns-in_err-world : goal.returns-in_err-world
returns-in_err-world g c d same counts v =
    let p = err_from_is_err_and c.from_residual-in_err-world.result c.from_residual-in_err-world.ensures.1 in
    let accepted = c.args.accepted.now in
    let fetched = c.args.handout.now in
    let inputs = inputs_over accepted c.args.course.field fetched in
    let handout = handout_of accepted.mesh fetched in
    let carried = g.C.Carrier.carried c.args.carrier.now in
    let last_carried = g.C.Carrier.carried c.run_world.new.carrier in
    let held = g.D.Depot.held c.args.depot.now in
    rw (p.1, p.2)
    (parts_halt (asked c.args.job.now) inputs handout refl carried last_carried d (g.S.Sink.received c.args.out.now) v held (g.S.Sink.received c.begin_run.new.out) (g.S.Sink.received c.run_world.new.out) same counts c.in_ok-begin_run.ensures
    Ran (Unit {0}) (λ ran. ran.world) c.in_err-world.field-0.0 c.in_err-world.ensures.runs)

pub returns-in_err-store_mesh : goal.returns-in_err-store_mesh
returns-in_err-store_mesh g c d same counts v =
    let p = err_from_is_err_and c.from_residual-in_err-store_mesh.result c.from_residual-in_err-store_mesh.ensures.1 in
    let accepted = c.args.accepted.now in
    let fetched = c.args.handout.now in
    let inputs = inputs_over accepted c.args.course.field fetched in
    let handout = handout_of accepted.mesh fetched in
    let carried = g.C.Carrier.carried c.args.carrier.now in
    let last_carried = g.C.Carrier.carried c.run_world.new.carrier in
    let held = g.D.Depot.held c.args.depot.now in
    rw (p.1, p.2)
    (whole_halts (asked c.args.job.now) inputs handout refl carried last_carried d (g.S.Sink.received c.args.out.now) v held (g.S.Sink.received c.begin_run.new.out) (g.S.Sink.received c.run_world.new.out) same counts c.in_ok-begin_run.ensures
    c.in_ok-world.field-0.world c.in_ok-world.ensures.runs c.in_ok-world.field-0.whole.mesh c.in_ok-world.ensures.whole.mesh c.as_slice-names.result.now c.as_slice-names.ensures.value
    (Unit {0}) (Unit {0}) (g.D.Depot.held c.store_mesh.new.depot) c.in_err-store_mesh.field-0.0 c.in_err-store_mesh.ensures)

pub returns-in_err-store_views : goal.returns-in_err-store_views
returns-in_err-store_views g c d same counts v =
    let p = err_from_is_err_and c.from_residual-in_err-store_views.result c.from_residual-in_err-store_views.ensures.1 in
    let accepted = c.args.accepted.now in
    let fetched = c.args.handout.now in
    let inputs = inputs_over accepted c.args.course.field fetched in
    let handout = handout_of accepted.mesh fetched in
    let carried = g.C.Carrier.carried c.args.carrier.now in
    let last_carried = g.C.Carrier.carried c.run_world.new.carrier in
    let held = g.D.Depot.held c.args.depot.now in
    rw (p.1, p.2)
    (views_halt (asked c.args.job.now) inputs handout refl carried last_carried d (g.S.Sink.received c.args.out.now) v held (g.S.Sink.received c.begin_run.new.out) (g.S.Sink.received c.run_world.new.out) same counts c.in_ok-begin_run.ensures
    c.in_ok-world.field-0.world c.in_ok-world.ensures.runs c.in_ok-world.field-0.whole.mesh c.in_ok-world.ensures.whole.mesh c.as_slice-names.result.now c.as_slice-names.ensures.value
    (g.D.Depot.held c.store_mesh.new.depot) c.in_ok-store_mesh.ensures
    (Unit {0}) (Unit {0}) (g.D.Depot.held c.store_views.new.depot) c.in_err-store_views.field-0.0 c.in_err-store_views.ensures)

pub returns-in_err-line : goal.returns-in_err-line
returns-in_err-line g c d same counts v =
    let p = err_from_is_err_and c.from_residual-in_err-line.result c.from_residual-in_err-line.ensures.1 in
    let accepted = c.args.accepted.now in
    let fetched = c.args.handout.now in
    let inputs = inputs_over accepted c.args.course.field fetched in
    let handout = handout_of accepted.mesh fetched in
    let carried = g.C.Carrier.carried c.args.carrier.now in
    let last_carried = g.C.Carrier.carried c.run_world.new.carrier in
    let held = g.D.Depot.held c.args.depot.now in
    rw (p.1, p.2)
    (parts_end (asked c.args.job.now) inputs handout refl carried last_carried d (g.S.Sink.received c.args.out.now) v held (g.S.Sink.received c.begin_run.new.out) (g.S.Sink.received c.run_world.new.out) same counts c.in_ok-begin_run.ensures
    c.in_ok-world.field-0.world c.in_ok-world.ensures.runs c.in_ok-world.field-0.whole.mesh c.in_ok-world.ensures.whole.mesh c.as_slice-names.result.now c.as_slice-names.ensures.value
    (g.D.Depot.held c.store_mesh.new.depot) c.in_ok-store_mesh.ensures (g.D.Depot.held c.store_views.new.depot) c.in_ok-store_views.ensures
    (Unit {0}) (g.S.Sink.received c.run_world.new.out) (parts_done_line fetched.parts c.in_ok-world.field-0.world.letters) refl (Err halt.Memory) tt)

pub returns : goal.returns
returns g c d same counts v =
    let accepted = c.args.accepted.now in
    let fetched = c.args.handout.now in
    let inputs = inputs_over accepted c.args.course.field fetched in
    let handout = handout_of accepted.mesh fetched in
    let carried = g.C.Carrier.carried c.args.carrier.now in
    let last_carried = g.C.Carrier.carried c.run_world.new.carrier in
    let held = g.D.Depot.held c.args.depot.now in
    parts_end (asked c.args.job.now) inputs handout refl carried last_carried d (g.S.Sink.received c.args.out.now) v held (g.S.Sink.received c.begin_run.new.out) (g.S.Sink.received c.run_world.new.out) same counts c.in_ok-begin_run.ensures
    c.in_ok-world.field-0.world c.in_ok-world.ensures.runs c.in_ok-world.field-0.whole.mesh c.in_ok-world.ensures.whole.mesh c.as_slice-names.result.now c.as_slice-names.ensures.value
    (g.D.Depot.held c.store_mesh.new.depot) c.in_ok-store_mesh.ensures (g.D.Depot.held c.store_views.new.depot) c.in_ok-store_views.ensures
    (Unit {0}) (g.S.Sink.received c.put_line.new.out) c.as_bytes.result.now (c.as_bytes.ensures.value ∙ c.in_ok-line.ensures ∙ ap (parts_done_line fetched.parts) c.letters.ensures) c.put_line.result c.put_line.ensures

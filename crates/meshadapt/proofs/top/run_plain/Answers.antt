use Rattle.std.proofs.Common.{inl, List, ℕ, ap, ◌∙◌}
use Rattle.std.specs.Prelude.{Ok, Err}
use Rattle.std.specs.Option.{option_map}
use Rattle.std.proofs.lemmas.Result.{err_from_is_err_and}
use Rattle.ma_geom.specs.declared.place.Place.{Place}
use Rattle.one_mesh.specs.Holding.{Holding}
use Rattle.meshadapt.specs.Acts.{adapted_by}
use Rattle.meshadapt.specs.Printed.{mesh_name}
use Rattle.meshadapt.specs.steps.Asking.{asked}
use Rattle.meshadapt.specs.steps.Fetching.{handout_of, inputs_of}
use Rattle.meshadapt.specs.steps.Running.{StoresOne}
use Rattle.meshadapt.proofs.Ending.{begin_halts, plain_halts, plain_ends, text_with}
use Rattle.meshadapt.proofs.top.run_plain.Goals as goal

pub returns-in_err-mesh : goal.returns-in_err-mesh
returns-in_err-mesh g c carried d same counts v =
    let p = err_from_is_err_and c.from_residual.result c.from_residual.ensures.1 in
    rw (p.1, p.2) (inl same)

pub returns-in_err-nodes : goal.returns-in_err-nodes
returns-in_err-nodes g c carried d same counts v =
    let p = err_from_is_err_and c.from_residual-in_err-nodes.result c.from_residual-in_err-nodes.ensures.1 in
    let inputs = inputs_of c.args.fetched.now in
    rw (p.1, p.2)
    (begin_halts (asked c.args.job.now) inputs carried carried d (g.S.Sink.received c.args.out.now) v
    (List Place) (Unit {0}) _ (g.D.Depot.held c.args.depot.now) (g.S.Sink.received c.adapt_mesh.new.out) c.in_err-nodes.field-0.0
    (ap (option_map (handout_of c.args.fetched.now.accepted.mesh)) c.requires.alone) same c.in_err-nodes.ensures.begins)

pub returns-in_err-store_mesh : goal.returns-in_err-store_mesh
returns-in_err-store_mesh g c carried d same counts v =
    let p = err_from_is_err_and c.from_residual-in_err-store_mesh.result c.from_residual-in_err-store_mesh.ensures.1 in
    let job = asked c.args.job.now in
    let inputs = inputs_of c.args.fetched.now in
    let begins = c.in_ok-nodes.ensures.begins in
    let held = g.D.Depot.held c.args.depot.now in
    let stored_held = g.D.Depot.held c.store_mesh.new.depot in
    rw (p.1, p.2)
    (plain_halts job inputs carried carried d (g.S.Sink.received c.args.out.now) v (ap (option_map (handout_of c.args.fetched.now.accepted.mesh)) c.requires.alone) begins.1 held (g.S.Sink.received c.adapt_mesh.new.out) same counts begins.2
    (Unit {0}) (Unit {0}) stored_held c.in_err-store_mesh.field-0.0
    (text_with (λ (text : List ℕ). StoresOne {X = Unit {0}} (Err c.in_err-store_mesh.field-0.0) (mesh_name job) text held stored_held) c.batch.result.now (adapted_by job inputs job.rounds) c.as_slice-names.result.now inputs.names
    (c.batch.ensures.value ∙ ap (λ (h : Holding). h.mesh) begins.0) c.as_slice-names.ensures.value c.in_err-store_mesh.ensures))

pub returns : goal.returns
returns g c carried d same counts v =
    let job = asked c.args.job.now in
    let inputs = inputs_of c.args.fetched.now in
    let begins = c.in_ok-nodes.ensures.begins in
    let held = g.D.Depot.held c.args.depot.now in
    let stored_held = g.D.Depot.held c.store_mesh.new.depot in
    plain_ends job inputs carried carried d (g.S.Sink.received c.args.out.now) v (ap (option_map (handout_of c.args.fetched.now.accepted.mesh)) c.requires.alone) begins.1 held (g.S.Sink.received c.adapt_mesh.new.out) same counts begins.2
    stored_held
    (text_with (λ (text : List ℕ). StoresOne {X = Unit {0}} (Ok tt) (mesh_name job) text held stored_held) c.batch.result.now (adapted_by job inputs job.rounds) c.as_slice-names.result.now inputs.names
    (c.batch.ensures.value ∙ ap (λ (h : Holding). h.mesh) begins.0) c.as_slice-names.ensures.value c.in_ok-store_mesh.ensures)
    (Unit {0}) (g.S.Sink.received c.put_line.new.out) c.put_line.result c.put_line.ensures

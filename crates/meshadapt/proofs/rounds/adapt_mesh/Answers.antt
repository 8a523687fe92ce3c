use Rattle.std.proofs.Common.{◌≡◌, ◌∙◌, List, ap}
use Rattle.std.specs.Prelude.{Err, Ok}
use Rattle.std.proofs.lemmas.Result.{err_from_is_err_and}
use Rattle.ma_geom.specs.declared.place.Place.{Place}
use Rattle.one_mesh.specs.Holding.{Holding}
use Rattle.meshadapt.specs.Verdict.{plan_of}
use Rattle.meshadapt.specs.steps.Asking.{asked}
use Rattle.meshadapt.specs.steps.Fetching.{inputs_of}
use Rattle.meshadapt.proofs.Running.{begun_all, begun_halts, first_halts, line_of, rounds_of}
use Rattle.meshadapt.proofs.rounds.adapt_mesh.Goals as goal

pub run_rounds-requires-clause-spent : goal.run_rounds-requires-clause-spent
run_rounds-requires-clause-spent g c = ap (λ (h : Holding). h.spent) c.requires.mesh

pub returns-in_err-before-clause-begins : goal.returns-in_err-before-clause-begins
returns-in_err-before-clause-begins g c =
    let p = err_from_is_err_and c.from_residual.result c.from_residual.ensures.1 in
    let inputs = inputs_of c.args.fetched.now in
    let is : c.batch.result.now ≡ inputs.mesh = c.batch.ensures.value ∙ ap (λ (h : Holding). h.mesh) c.requires.mesh in
    rw (p.1, p.2)
    (first_halts (asked c.args.job.now) inputs (List Place) (List Place) c.args.mesh.now (g.S.Sink.received c.args.out.now) (g.S.Sink.received c.put_mesh.new.out) c.in_err-before.field-0.0
    (line_of (List Place) (Err c.in_err-before.field-0.0) c.batch.result.now inputs.mesh c.loose-loose.result inputs.loose is c.loose-loose.ensures (g.S.Sink.received c.args.out.now) (g.S.Sink.received c.put_mesh.new.out) c.in_err-before.ensures.line))

pub returns-in_err-nodes-clause-begins : goal.returns-in_err-nodes-clause-begins
returns-in_err-nodes-clause-begins g c =
    let p = err_from_is_err_and c.from_residual-in_err-nodes.result c.from_residual-in_err-nodes.ensures.1 in
    let inputs = inputs_of c.args.fetched.now in
    let job = asked c.args.job.now in
    let same : c.args.mesh.now.mesh ≡ inputs.mesh = ap (λ (h : Holding). h.mesh) c.requires.mesh in
    rw (p.1, p.2)
    (begun_halts job inputs (List Place) (List Place) _ _ (g.S.Sink.received c.args.out.now) (g.S.Sink.received c.put_mesh.new.out) (g.S.Sink.received c.run_rounds.new.out) c.in_err-nodes.field-0.0
    (line_of (Unit {0}) (Ok tt) c.batch.result.now inputs.mesh c.loose-loose.result inputs.loose (c.batch.ensures.value ∙ same) c.loose-loose.ensures (g.S.Sink.received c.args.out.now) (g.S.Sink.received c.put_mesh.new.out) c.in_ok-before.ensures.line)
    (rounds_of (List Place) (Err c.in_err-nodes.field-0.0) (plan_of job inputs) job.rounds c.args.mesh.now.mesh inputs.mesh c.run_rounds.new.mesh same (g.S.Sink.received c.put_mesh.new.out) (g.S.Sink.received c.run_rounds.new.out) c.in_err-nodes.ensures.runs))

pub returns-clause-begins : goal.returns-clause-begins
returns-clause-begins g c =
    let inputs = inputs_of c.args.fetched.now in
    let job = asked c.args.job.now in
    let same : c.args.mesh.now.mesh ≡ inputs.mesh = ap (λ (h : Holding). h.mesh) c.requires.mesh in
    begun_all job inputs c.run_rounds.new.mesh (g.S.Sink.received c.args.out.now) (g.S.Sink.received c.put_mesh.new.out) (g.S.Sink.received c.run_rounds.new.out)
    (line_of (Unit {0}) (Ok tt) c.batch.result.now inputs.mesh c.loose-loose.result inputs.loose (c.batch.ensures.value ∙ same) c.loose-loose.ensures (g.S.Sink.received c.args.out.now) (g.S.Sink.received c.put_mesh.new.out) c.in_ok-before.ensures.line)
    (rounds_of (Unit {0}) (Ok tt) (plan_of job inputs) job.rounds c.args.mesh.now.mesh inputs.mesh c.run_rounds.new.mesh same (g.S.Sink.received c.put_mesh.new.out) (g.S.Sink.received c.run_rounds.new.out) c.in_ok-nodes.ensures.runs)

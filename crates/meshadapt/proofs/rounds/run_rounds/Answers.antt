use Rattle.std.specs.Prelude.{List}
use Rattle.std.proofs.lemmas.Result.{err_from_is_err_and}
use Rattle.ma_geom.specs.declared.place.Place.{Place}
use Rattle.one_mesh.specs.Adaptation.{Plan}
use Rattle.meshadapt.proofs.Running.{halts, one_more}
use Rattle.meshadapt.proofs.rounds.run_rounds.Goals as goal

pub returns-in_err-nodes-clause-runs : goal.returns-in_err-nodes-clause-runs
returns-in_err-nodes-clause-runs g c =
    let p = err_from_is_err_and c.from_residual.result c.from_residual.ensures.1 in
    let plan : Plan = record { field = c.args.field.now; collapses = c.args.job.now.collapses; swaps = c.args.job.now.swaps } in
    rw (p.1, p.2)
    (halts plan c.args.mesh.now.mesh (List Place) (List Place) c.loop-done.done c.args.job.now.rounds c.loop-done.mesh c.run_round.new.mesh _
    (g.S.Sink.received c.args.out.now) (g.S.Sink.received c.loop-done.out) (g.S.Sink.received c.run_round.new.out)
    c.in_err-nodes.field-0.0 c.loop-done-test.true c.loop-done.invariant.0 c.in_err-nodes.ensures.runs)

pub loop-done-preserved : goal.loop-done-preserved
loop-done-preserved g c =
    let plan : Plan = record { field = c.args.field.now; collapses = c.args.job.now.collapses; swaps = c.args.job.now.swaps } in (
      one_more plan c.args.mesh.now.mesh c.loop-done.done c.loop-done.mesh c.run_round.new.mesh
          (g.S.Sink.received c.args.out.now) (g.S.Sink.received c.loop-done.out) (g.S.Sink.received c.run_round.new.out)
          c.loop-done.invariant.0 c.in_ok-nodes.ensures.runs,
      c.in_ok-nodes.ensures.nodes,
    )

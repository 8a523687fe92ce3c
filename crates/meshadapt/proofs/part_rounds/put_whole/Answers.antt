use Rattle.std.proofs.Common.{List, subst}
use Rattle.std.specs.Prelude.{Err}
use Rattle.std.proofs.lemmas.Result.{err_from_is_err_and}
use Rattle.ma_cells.specs.declared.batch.Batch.{Batch}
use Rattle.ma_geom.specs.declared.place.Place.{Place}
use Rattle.world_run.specs.Union.{union_in}
use Rattle.meshadapt.specs.Printed.{round_line}
use Rattle.meshadapt.specs.steps.Running.{PutsLine}
use Rattle.meshadapt.specs.declared.part_rounds.Whole.{Whole}
use Rattle.meshadapt.proofs.Running.{line_halts}
use Rattle.meshadapt.proofs.part_rounds.put_whole.Goals as goal

pub returns-in_err-nodes-clause-line : goal.returns-in_err-nodes-clause-line
returns-in_err-nodes-clause-line g c =
    let p = err_from_is_err_and c.from_residual-in_err-nodes.result c.from_residual-in_err-nodes.ensures.1 in
    let before = g.S.Sink.received c.args.out.now in
    let after = g.S.Sink.received c.put_round.new.out in
    let line = round_line c.args.round (union_in c.args.world.now.parts) in
    rw (p.1, p.2)
    (line_halts (List Place) Whole line before after c.in_err-nodes.field-0.0
    (subst (λ (mesh : Batch). PutsLine {X = List Place} (Err c.in_err-nodes.field-0.0) (round_line c.args.round mesh) before after) c.in_ok-mesh.ensures c.in_err-nodes.ensures.line))

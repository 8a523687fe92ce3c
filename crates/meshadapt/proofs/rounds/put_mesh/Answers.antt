use Rattle.std.proofs.Common.{List, ℕ, subst, ◌∙◌}
use Rattle.std.specs.Prelude.{Err}
use Rattle.std.proofs.lemmas.Result.{err_from_is_err_and}
use Rattle.ma_geom.specs.declared.place.Place.{Place}
use Rattle.meshadapt.specs.Printed.{mesh_line}
use Rattle.meshadapt.specs.steps.Running.{PutsLine}
use Rattle.meshadapt.proofs.Running.{line_halts}
use Rattle.meshadapt.proofs.rounds.put_mesh.Goals as goal

pub returns-in_err-put_line-clause-line : goal.returns-in_err-put_line-clause-line
returns-in_err-put_line-clause-line g c =
    let p = err_from_is_err_and c.from_residual-in_err-put_line.result c.from_residual-in_err-put_line.ensures.1 in
    rw (p.1, p.2)
    (line_halts (Unit {0}) (List Place) (mesh_line c.args.mesh.now c.args.loose) (g.S.Sink.received c.args.out.now) (g.S.Sink.received c.put_line.new.out) c.in_err-put_line.field-0.0
    (subst (λ (bytes : List ℕ). PutsLine {X = Unit {0}} (Err c.in_err-put_line.field-0.0) bytes (g.S.Sink.received c.args.out.now) (g.S.Sink.received c.put_line.new.out)) (c.as_bytes.ensures.value ∙ c.in_ok-line.ensures) c.in_err-put_line.ensures))

use Rattle.std.proofs.Common.{◌≡◌, ◌∙◌, List, ap}
use Rattle.std.specs.Prelude.{Err, Ok}
use Rattle.std.proofs.lemmas.Result.{err_from_is_err_and}
use Rattle.ma_geom.specs.declared.place.Place.{Place}
use Rattle.one_mesh.specs.Holding.{Holding, set_of}
use Rattle.meshadapt.specs.Printed.{mesh_line}
use Rattle.meshadapt.proofs.Running.{line_halts, line_of}
use Rattle.meshadapt.proofs.parts.begin_run.Goals as goal

pub returns-in_err-put_mesh : goal.returns-in_err-put_mesh
returns-in_err-put_mesh g c =
    let p = err_from_is_err_and c.from_residual-in_err-put_mesh.result c.from_residual-in_err-put_mesh.ensures.1 in
    let mesh = c.args.accepted.now.mesh in
    let is : c.batch.result.now ≡ set_of mesh = c.batch.ensures.value ∙ ap (λ (h : Holding). h.mesh) c.in_ok-mesh.ensures in
    let before = g.S.Sink.received c.args.out.now in
    let after = g.S.Sink.received c.put_mesh.new.out in
    rw (p.1, p.2)
    (line_halts (List Place) (Unit {0}) (mesh_line (set_of mesh) mesh.loose) before after c.in_err-put_mesh.field-0.0
    (line_of (List Place) (Err c.in_err-put_mesh.field-0.0) c.batch.result.now (set_of mesh) c.loose.result mesh.loose is c.loose.ensures before after c.in_err-put_mesh.ensures.line))

pub returns : goal.returns
returns g c =
    let mesh = c.args.accepted.now.mesh in
    let is : c.batch.result.now ≡ set_of mesh = c.batch.ensures.value ∙ ap (λ (h : Holding). h.mesh) c.in_ok-mesh.ensures in
    line_of (Unit {0}) (Ok tt) c.batch.result.now (set_of mesh) c.loose.result mesh.loose is c.loose.ensures (g.S.Sink.received c.args.out.now) (g.S.Sink.received c.put_mesh.new.out) c.in_ok-put_mesh.ensures.line

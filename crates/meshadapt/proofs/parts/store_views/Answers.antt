use Rattle.std.proofs.Common.{◌≤◌, List, arith, length, refl, subst}
use Rattle.std.specs.Prelude.{Ok, map}
use Rattle.std.proofs.lemmas.Result.{err_from_is_err_and}
use Rattle.meshadapt.specs.Acts.{Output}
use Rattle.meshadapt.specs.steps.Storing.{StoresAll, view_outputs}
use Rattle.meshadapt.proofs.Divided.{all_views, next_view, output_of, seen_of}
use Rattle.meshadapt.proofs.OneByOne.{next_broken, next_stored, none_next}
use Rattle.meshadapt.proofs.parts.store_views.Goals as goal

pub loop-number-preserved : goal.loop-number-preserved
loop-number-preserved g c =
    let out = c.args.out.now in
    let names = c.args.names.now in
    let parts = c.args.world.now.parts in
    let view = c.in_ok-view.view in
    let number = c.loop-number.number in
    next_stored (view_outputs out names (map seen_of parts)) number (output_of out names view) (next_view out names parts number view c.in_ok-view.ensures)
    (g.D.Depot.held c.args.depot.now) (g.D.Depot.held c.loop-number.depot) (g.D.Depot.held c.store_view.new.depot) c.loop-number.invariant.0 c.loop-number.invariant.1 (Unit {0}) tt c.in_ok-store_view.ensures

pub returns-in_err-store_view : goal.returns-in_err-store_view
returns-in_err-store_view g c =
    let p = err_from_is_err_and c.from_residual-in_err-store_view.result c.from_residual-in_err-store_view.ensures.1 in
    let out = c.args.out.now in
    let names = c.args.names.now in
    let parts = c.args.world.now.parts in
    let view = c.in_ok-view.view in
    let number = c.loop-number.number in
    rw (p.1, p.2)
    (next_broken (view_outputs out names (map seen_of parts)) number (output_of out names view) (next_view out names parts number view c.in_ok-view.ensures)
    (g.D.Depot.held c.args.depot.now) (g.D.Depot.held c.loop-number.depot) (g.D.Depot.held c.store_view.new.depot) c.loop-number.invariant.0 c.loop-number.invariant.1
    (Unit {0}) (Unit {0}) c.in_err-store_view.field-0.0 c.in_err-store_view.ensures)

pub loop-number-init : goal.loop-number-init
loop-number-init g c = (refl, refl)

pub returns-in_err-view : goal.returns-in_err-view
returns-in_err-view g c =
    let p = err_from_is_err_and c.from_residual.result c.from_residual.ensures.1 in
    rw (p.1, p.2)
    (none_next (Unit {0}) (view_outputs c.args.out.now c.args.names.now (map seen_of c.args.world.now.parts)) c.loop-number.number (g.D.Depot.held c.args.depot.now) (g.D.Depot.held c.loop-number.depot) c.loop-number.invariant.0)

pub returns : goal.returns
returns g c =
    let end = c.loop-number-test.false in
    let parts = c.args.world.now.parts in
    let past : length parts ≤ c.loop-number.number = omega (arith, end, c.requires) in
    subst (λ (outs : List Output). StoresAll {X = Unit {0}} (Ok tt) outs (g.D.Depot.held c.args.depot.now) (g.D.Depot.held c.loop-number.depot)) (all_views c.args.out.now c.args.names.now parts c.loop-number.number past) c.loop-number.invariant

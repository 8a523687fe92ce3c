use Rattle.std.proofs.Common.{rules, ◌≡◌, None, Some}
use Rattle.world_run.specs.steps.Beginning.{SaysAll, letters_next}
use Rattle.world_run.proofs.NextRuns.{over_alone, over_drawn, run_alone, run_drawn}
use Rattle.world_run.proofs.Begun.{run_tracks}
use Rattle.world_run.proofs.round.run_next.Goals as goal

pub returns-in-Some-clause-drawn : goal.returns-in-Some-clause-drawn
returns-in-Some-clause-drawn g c course truth default begin base held given =
    let begun = c.begin_all.new.parts in
    let says : SaysAll begun (Some c.in-Some.excess) = search rules in
    over_drawn c.args.parts.now begun begun c.in_ok-excess.ensures.begun c.in-Some.excess c.fault.result c.fault.ensures says course truth default begin base (g.C.Carrier.carried c.args.carrier.now) c.args.schedule.now

pub returns-in-Some-clause-alone : goal.returns-in-Some-clause-alone
returns-in-Some-clause-alone g c course truth default one begin =
    let begun = c.begin_all.new.parts in
    let says : SaysAll begun (Some c.in-Some.excess) = search rules in
    over_alone c.args.parts.now begun begun c.in_ok-excess.ensures.begun c.in-Some.excess c.fault.result c.fault.ensures says course truth default begin (g.C.Carrier.carried c.args.carrier.now)

pub returns-in-None-clause-drawn : goal.returns-in-None-clause-drawn
returns-in-None-clause-drawn g c course truth default begin =
    let old = c.args.parts.now in
    let begun = c.begin_all.new.parts in
    let says : SaysAll begun None = search rules in
    let sent : c.begin_all.new.out.items ≡ letters_next old = search rules in
    run_drawn old begun c.run.new.parts c.in_ok-excess.ensures.begun says (g.C.Carrier.carried c.args.carrier.now) (g.C.Carrier.carried c.run.new.carrier) c.run.result course truth default begin c.begin_all.new.out.items sent
    c.args.schedule.now (c.run.ensures.draws course truth default)

pub returns-in-None-clause-alone : goal.returns-in-None-clause-alone
returns-in-None-clause-alone g c course truth default one begin =
    let old = c.args.parts.now in
    let begun = c.begin_all.new.parts in
    let says : SaysAll begun None = search rules in
    run_alone old begun c.run.new.parts c.in_ok-excess.ensures.begun says (g.C.Carrier.carried c.args.carrier.now) (g.C.Carrier.carried c.run.new.carrier) c.run.result course truth default begin one c.run.ensures.rests

pub returns-in-None-clause-tracks : goal.returns-in-None-clause-tracks
returns-in-None-clause-tracks g c course =
    let sent : c.begin_all.new.out.items ≡ letters_next c.args.parts.now = search rules in
    run_tracks course c.args.parts.now c.begin_all.new.parts c.run.new.parts c.begin_all.new.out.items (g.C.Carrier.carried c.args.carrier.now) (g.C.Carrier.carried c.run.new.carrier) c.args.schedule.now c.run.result
    c.in_ok-excess.ensures.begun sent (c.run.ensures.tracks course)

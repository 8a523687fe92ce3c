use Rattle.meshadapt.proofs.PartRounds.{broke_after, came_after}
use Rattle.meshadapt.proofs.part_rounds.go_on.Goals as goal

pub returns-in-Ok : goal.returns-in-Ok
returns-in-Ok g c job inputs handout worlds round first may at come more =
    let e = c.in-Ok.ensures in
    came_after job inputs handout may worlds round c.args.schedule.now first (g.C.Carrier.carried c.args.carrier.now) (g.C.Carrier.carried c.run_round.new.carrier) come more
    c.args.world.now at c.run_round.new.self e.told e.drawn e.alone e.done c.run_round.new.schedule e.letters e.used e.unspent e.faults e.dry

pub returns-in-Err : goal.returns-in-Err
returns-in-Err g c job inputs handout worlds round first may at come more =
    let e = c.in-Err.ensures in
    broke_after job inputs handout may worlds round c.args.schedule.now first (g.C.Carrier.carried c.args.carrier.now) (g.C.Carrier.carried c.run_round.new.carrier) come more
    c.args.world.now at c.in-Err.fault e.told e.drawn e.alone e.cause

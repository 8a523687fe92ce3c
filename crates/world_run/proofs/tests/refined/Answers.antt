use Rattle.std.proofs.Common.{◌≡◌, ◌+◌, ◌≤◌, [], arith}
use Rattle.part_rules.specs.declared.course.Course.{Course}
use Rattle.world_run.proofs.DoneRounds.{may_go_on}
use Rattle.world_run.proofs.tests.refined.Goals as goal

pub run_round-requires : goal.run_round-requires
run_round-requires c =
    let course : Course = record { parts = 2; grid = 2; collapse = 0; swap = 0; field = record { default = 1; boxes = [] } } in
    let round = c.loop-round._round in
    let before = c.loop-round-test.true in
    let few = c.requires in
    let finer : round + 1 ≤ 2 = omega (arith, before, few) in
    record { may = may_go_on course (round + 1) c.loop-round.world c.loop-round.invariant.done finer c.loop-round.invariant.unspent }

pub loop-round-preserved : goal.loop-round-preserved
loop-round-preserved c =
    let course : Course = record { parts = 2; grid = 2; collapse = 0; swap = 0; field = record { default = 1; boxes = [] } } in
    record { done = c.in_ok-run_round.ensures.done course (c.loop-round._round + 1) c.loop-round.invariant.done; unspent = c.in_ok-run_round.ensures.unspent }

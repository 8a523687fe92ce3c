use Rattle.std.specs.Prelude.{IfSome}
use Rattle.meshadapt.specs.steps.Asking.{asked}
use Rattle.meshadapt.specs.steps.Fetching.{handout_of, inputs_over}
use Rattle.meshadapt.specs.steps.OverRounds.{IsWholeMesh, RanParts}
use Rattle.meshadapt.proofs.part_rounds.run_world.Given as goal

-- so many rounds were run, and what was put together last is the mesh of the parts
abbrev pub invariant-loop-done : goal.invariant-loop-done
invariant-loop-done g l =
    RanParts (asked l.job) (inputs_over l.accepted l.fn.course.field l.fn.handout) (handout_of l.accepted.mesh l.fn.handout) l.done l.world l.handout.schedule
    (g.C.Carrier.carried l.fn.carrier) (g.C.Carrier.carried l.carrier) (g.S.Sink.received l.fn.out) (g.S.Sink.received l.out)
    × IfSome l.last (λ whole. IsWholeMesh whole l.world)

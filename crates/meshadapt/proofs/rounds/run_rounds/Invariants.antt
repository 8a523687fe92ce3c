use Rattle.std.specs.Prelude.{◌≡◌}
use Rattle.msh_write.specs.Text.{nodes_of}
use Rattle.meshadapt.specs.steps.Running.{RanRounds}
use Rattle.meshadapt.proofs.rounds.run_rounds.Given as goal

-- the rounds so far were run, and the nodes are those of the mesh
abbrev pub invariant-loop-done : goal.invariant-loop-done
invariant-loop-done g l =
    RanRounds (record { field = l.field; collapses = l.job.collapses; swaps = l.job.swaps }) l.done l.fn.mesh.mesh l.mesh (g.S.Sink.received l.fn.out) (g.S.Sink.received l.out) × (l.nodes ≡ nodes_of l.mesh.mesh.tets)

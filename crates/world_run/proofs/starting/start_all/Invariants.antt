use Rattle.std.proofs.Common.{◌≡◌}
use Rattle.std.specs.Prelude.{map}
use Rattle.part_core.specs.Parts.{first_part}
use Rattle.part_phases.specs.Inboxes.{below}
use Rattle.part_store.specs.Labelled.{own_of}
use Rattle.world_run.specs.Meshes.{labelled_mesh}
use Rattle.world_run.proofs.starting.start_all.Given as goal

-- the parts so far
abbrev pub invariant-loop-number : goal.invariant-loop-number
invariant-loop-number l = l.parts.items ≡ map (λ p. first_part p l.course (own_of (labelled_mesh l.mesh l.labels) p) (labelled_mesh l.mesh l.labels).marks) (below l.number)

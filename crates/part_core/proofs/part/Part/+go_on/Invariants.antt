use Rattle.std.proofs.Common.{◌+◌, ◌-◌}
use Rattle.part_core.proofs.Going.{last_of}
use Rattle.part_core.proofs.part.Part.+go_on.Given as goal

abbrev pub decreases-go_on : goal.decreases-go_on
decreases-go_on l = (last_of l.self.now + 1) - l.self.now.standing.phase

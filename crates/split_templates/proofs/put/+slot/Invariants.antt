use Rattle.std.proofs.Common.{length}
use Rattle.split_templates.proofs.put.+slot.Given as goal

abbrev pub decreases-slot : goal.decreases-slot
decreases-slot g l = length l.items.now

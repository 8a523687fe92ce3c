-- The law of how many tetrahedra a pass leaves.
use Rattle.pass_counts.proofs.Fourfold.{passes_are_at_most_fourfold}
use Rattle.pass_counts.proofs.laws.passes_are_at_most_fourfold.Goals as goal

pub returns : goal.returns
returns c = passes_are_at_most_fourfold

use Rattle.plane_laws.proofs.Lines.{segment_has_two_parts}
use Rattle.plane_laws.proofs.laws.segment_has_two_parts.Goals as goal

pub returns : goal.returns
returns c = segment_has_two_parts

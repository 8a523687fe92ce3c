use Rattle.gather_laws.proofs.Next.{carried_right, labelled_after}
use Rattle.gather_laws.proofs.laws.passes_lead.Goals as goal

pub returns : goal.returns
returns c = λ parts kind field mesh right stay. (labelled_after kind field mesh parts right stay, carried_right kind field mesh parts right stay)

use Rattle.mesh_laws.proofs.FivePlaces.{five_places_cancel}
use Rattle.mesh_laws.proofs.laws.five_places_cancel.Goals as goal

pub returns : goal.returns
returns c = five_places_cancel

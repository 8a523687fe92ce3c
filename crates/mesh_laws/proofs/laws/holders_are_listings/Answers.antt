use Rattle.mesh_laws.proofs.Listings.{holders_are_listings}
use Rattle.mesh_laws.proofs.laws.holders_are_listings.Goals as goal

pub returns : goal.returns
returns c = holders_are_listings

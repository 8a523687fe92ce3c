use Rattle.part_store.proofs.Sieved.{bounded}
use Rattle.part_store.proofs.sieve.spot.Goals as goal

pub returns-clause-below : goal.returns-clause-below
returns-clause-below c = bounded _ c.args.count c.requires

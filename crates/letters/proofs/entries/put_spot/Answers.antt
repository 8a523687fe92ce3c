use Rattle.std.proofs.lemmas.Result.{on_ok_weaker}
use Rattle.letters.proofs.Fitting.{spot_fits}
use Rattle.letters.proofs.entries.put_spot.Goals as goal

pub returns-clause-fits : goal.returns-clause-fits
returns-clause-fits c = on_ok_weaker c.put_places.result (spot_fits c.args.at.now c.requires) c.put_places.ensures.fits

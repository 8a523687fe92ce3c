use Rattle.std.proofs.lemmas.Result.{on_ok_weaker}
use Rattle.letters.proofs.Fitting.{corners_fit}
use Rattle.letters.proofs.entries.put_corners.Goals as goal

pub returns-clause-fits : goal.returns-clause-fits
returns-clause-fits c = on_ok_weaker c.put_places.result (corners_fit c.args.corners.now c.requires.least c.requires.most c.requires.rises) c.put_places.ensures.fits

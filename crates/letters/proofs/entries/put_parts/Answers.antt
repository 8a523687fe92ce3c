use Rattle.std.proofs.lemmas.Result.{on_ok_weaker}
use Rattle.letters.proofs.Fitting.{parts_fit}
use Rattle.letters.proofs.entries.put_parts.Goals as goal

pub returns-clause-fits : goal.returns-clause-fits
returns-clause-fits c = on_ok_weaker c.put_entries.result (parts_fit c.args.parts.now c.requires.sharers c.requires.rises) c.put_entries.ensures.fits

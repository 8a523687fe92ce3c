use Rattle.meshadapt.proofs.FetchedFiles.{labels_fit}
use Rattle.meshadapt.proofs.fetching.labels_in.Goals as goal

pub returns-in-Ok-clause-fit : goal.returns-in-Ok-clause-fit
returns-in-Ok-clause-fit c = labels_fit c.args.tets c.args.parts c.args.bytes.now c.in-Ok.labels.items c.in-Ok.ensures

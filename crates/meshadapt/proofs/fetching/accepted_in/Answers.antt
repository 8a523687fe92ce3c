use Rattle.std.proofs.Common.{sym, subst}
use Rattle.msh_read.specs.Raw.{raw}
use Rattle.meshadapt.specs.steps.Fetching.{IsRunnable}
use Rattle.meshadapt.proofs.FetchedFiles.{accepted_is_runnable}
use Rattle.meshadapt.proofs.fetching.accepted_in.Goals as goal

pub returns-in-Ok-clause-fit : goal.returns-in-Ok-clause-fit
returns-in-Ok-clause-fit c =
    subst (IsRunnable c.in-Ok.accepted) (sym c.grid-grid.ensures.value) (accepted_is_runnable (raw c.args.mesh) c.in-Ok.accepted c.in-Ok.ensures.exact)

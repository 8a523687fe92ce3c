use Rattle.staged_meshes.proofs.StagesShared.{opened_is_shared}
use Rattle.staged_meshes.proofs.laws.opened_is_shared.Goals as goal

pub returns : goal.returns
returns c = opened_is_shared

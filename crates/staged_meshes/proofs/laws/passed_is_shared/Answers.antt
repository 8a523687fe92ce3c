use Rattle.staged_meshes.proofs.StagesShared.{passed_is_shared}
use Rattle.staged_meshes.proofs.laws.passed_is_shared.Goals as goal

pub returns : goal.returns
returns c = passed_is_shared

use Rattle.std.proofs.Common.{subst}
use Rattle.msh_read.specs.Raw.{raw}
use Rattle.mesh_check.specs.Answer.{Answers}
use Rattle.mesh_check.proofs.Bridge.{found-accepted}
use Rattle.mesh_check.proofs.acceptance.accept.Goals as goal

pub returns-clause-exact : goal.returns-clause-exact
returns-clause-exact c = subst (λ given. Answers (λ mesh. mesh) c.found.result given) (found-accepted (raw c.args.mesh.now) c.args.shift) c.found.ensures.value

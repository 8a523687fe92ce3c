use Rattle.view_laws.proofs.Unions.{union_is}
use Rattle.view_laws.proofs.laws.union_is_mesh.Goals as goal

pub returns : goal.returns
returns c = union_is

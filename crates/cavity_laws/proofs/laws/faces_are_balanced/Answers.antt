use Rattle.cavity_laws.proofs.Balance.{faces_are_balanced}
use Rattle.cavity_laws.proofs.laws.faces_are_balanced.Goals as goal

pub returns : goal.returns
returns c = faces_are_balanced

use Rattle.cavity_laws.proofs.Parity.{cavity_keeps_parity}
use Rattle.cavity_laws.proofs.laws.cavity_keeps_parity.Goals as goal

pub returns : goal.returns
returns c = cavity_keeps_parity

-- The law of what fills cavities.
use Rattle.cavity_fillings.proofs.Apart.{fillings_are_apart}
use Rattle.cavity_fillings.proofs.laws.fillings_are_apart.Goals as goal

pub returns : goal.returns
returns c = fillings_are_apart

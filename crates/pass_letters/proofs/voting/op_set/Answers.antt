use Rattle.cavity_rank.proofs.Ranked.{rank-IsAntisymmetric}
use Rattle.pass_letters.proofs.voting.op_set.Goals as goal

pub returns : goal.returns
returns c = c.gather.ensures.is rank-IsAntisymmetric

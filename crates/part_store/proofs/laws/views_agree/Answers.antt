use Rattle.part_store.proofs.Agreeing.{views_agree}
use Rattle.part_store.proofs.laws.views_agree.Goals as goal

pub returns : goal.returns
returns c = views_agree

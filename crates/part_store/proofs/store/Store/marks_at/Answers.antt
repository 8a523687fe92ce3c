use Rattle.part_store.proofs.Gathered.{marks_rise}
use Rattle.part_store.proofs.store.Store.marks_at.Goals as goal

pub returns-clause-rises : goal.returns-clause-rises
returns-clause-rises c = marks_rise (λ found. found.items) c.args.corner c.as_slice.result.now c.marks_at.result c.as_slice.ensures.rises c.marks_at.ensures

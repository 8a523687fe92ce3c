use Rattle.part_store.proofs.Gathered.{kept_marks_rise}
use Rattle.part_store.proofs.store.Store.marks_on.Goals as goal

pub from_vec-requires : goal.from_vec-requires
from_vec-requires c = kept_marks_rise c.args.tets.now c.as_slice.result.now c.in_ok-kept.kept.items c.as_slice.ensures.rises c.in_ok-kept.ensures

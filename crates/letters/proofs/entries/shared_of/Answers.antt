use Rattle.std.proofs.lemmas.Cmp.{nat_cmp_total}
use Rattle.letters.proofs.Orders.{sorted}
use Rattle.letters.proofs.entries.shared_of.Goals as goal

pub from_vec-requires : goal.from_vec-requires
from_vec-requires c = sorted nat_cmp_total c.args.parts.items c.requires.behind

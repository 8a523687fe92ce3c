use Rattle.std.proofs.Common.{w32}
use Rattle.std.specs.Prelude.{length, pos}
use Rattle.std.proofs.lemmas.Int.{to_z-of_z}
use Rattle.msh_write.proofs.Few.{few_labels, small_labels}
use Rattle.msh_write.proofs.part.count.Goals as goal

pub overflow_cast-result : goal.overflow_cast-result
overflow_cast-result c = few_labels c.args.parts.now c.requires (small_labels c.args.parts.now c.type_inv.parts)

pub returns : goal.returns
returns c = to_z-of_z w32 (pos (length c.args.parts.now)) (few_labels c.args.parts.now c.requires (small_labels c.args.parts.now c.type_inv.parts))

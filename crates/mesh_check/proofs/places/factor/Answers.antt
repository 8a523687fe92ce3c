use Rattle.std.proofs.Common.{◌^◌, w32, arith, ◌∙◌, ap, to_z}
use Rattle.std.proofs.lemmas.Int.{to_z_pos}
use Rattle.std.proofs.lemmas.Nat.{one_shl}
use Rattle.std.proofs.Math.Pow.{pow-lt}
use Rattle.mesh_check.proofs.places.factor.Goals as goal

pub returns : goal.returns
returns c = ap (to_z w32) (one_shl c.args.shift 32 (omega arith)) ∙ to_z_pos w32 (2 ^ c.args.shift) (pow-lt {j = 31} (omega arith))

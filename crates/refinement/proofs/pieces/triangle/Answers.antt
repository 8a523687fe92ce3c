use Rattle.std.proofs.Common.{◌≡◌, length, arith}
use Rattle.refinement.proofs.Rising.{rising_cell}
use Rattle.refinement.proofs.pieces.triangle.Goals as goal

pub new-requires : goal.new-requires
new-requires c =
    let count : length c.args.t ≡ 3 = omega arith in
    rising_cell 3 c.args.t count c.requires

use Rattle.std.proofs.Common.{◌≡◌, length, arith}
use Rattle.refinement.proofs.Rising.{rising_cell}
use Rattle.refinement.proofs.pieces.segment.Goals as goal

pub new-requires : goal.new-requires
new-requires c =
    let count : length c.args.s ≡ 2 = omega arith in
    rising_cell 2 c.args.s count c.requires

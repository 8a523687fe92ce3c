use Rattle.std.proofs.Common.{◌≡◌, ◌∙◌, length, arith}
use Rattle.ma_cells.proofs.Corners.{is_flat-four}
use Rattle.ma_cells.proofs.tet.is_flat.Goals as goal

pub returns : goal.returns
returns c =
    let four : length c.args.corners ≡ 4 = omega arith in
    c.coplanar.ensures ∙ is_flat-four c.args.corners _ _ _ _ four

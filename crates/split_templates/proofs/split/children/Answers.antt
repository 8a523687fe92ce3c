use Rattle.std.proofs.Common.{◌≡◌, ◌<◌, true, length, ap, ◌∙◌, arith}
use Rattle.std.specs.List.{list_all}
use Rattle.ma_cells.specs.Tetrahedron.{are_corners}
use Rattle.split_templates.proofs.Tetrahedra.{corners_at}
use Rattle.split_templates.proofs.split.children.Goals as goal

pub piece_of-requires : goal.piece_of-requires
piece_of-requires c =
    let cells = c.as_slice-cells.result.now in
    let within : c.loop-corners.corners-index < length cells = omega arith in
    let all : list_all are_corners cells ≡ true = ap (list_all are_corners) c.as_slice-cells.ensures.value ∙ c.pieces_of-pieces.ensures.corners in
    ap are_corners c.corners-item.is ∙ corners_at cells c.loop-corners.corners-index c.corners-item.result within all

use Rattle.ma_cells.proofs.Pieces.{pieces_are_corners}
use Rattle.ma_cover.proofs.laws.pieces_are_tetrahedra.Goals as goal

pub returns : goal.returns
returns c = pieces_are_corners

use Rattle.refined_views.proofs.PieceMarks.{pieces_lie_on_pieces}
use Rattle.refined_views.proofs.laws.pieces_lie_on_pieces.Goals as goal

pub returns : goal.returns
returns c = pieces_lie_on_pieces

use Rattle.ma_cover.proofs.OffFaces.{inside_is_off_faces}
use Rattle.ma_cover.proofs.laws.inside_is_off_faces.Goals as goal

pub returns : goal.returns
returns c = inside_is_off_faces

use Rattle.std.proofs.Common.{arith}
use Rattle.std.proofs.lemmas.Bool.{false≢true}
use Rattle.ma_cover.specs.OnFaces.{IsOffFacesOf}
use Rattle.ma_cover.proofs.ClosedFaces.{all_of_each, one_more}
use Rattle.ma_cover.proofs.locations.is_on_faces.Goals as goal

pub loop-tet-preserved : goal.loop-tet-preserved
loop-tet-preserved c =
    one_more (λ tet. IsOffFacesOf c.args.spot.now tet.corners) c.args.tets.now c.loop-tet.tet-index c.tet-item.result c.tet-item.is c.loop-tet-test.true
    (c.is_on_face_of.ensures.off c.if-is_on_face_of.false) c.loop-tet.invariant

pub returns : goal.returns
returns c = record {
  on = λ h. absurd (false≢true h);
  off = λ _. all_of_each (λ tet. IsOffFacesOf c.args.spot.now tet.corners) c.args.tets.now (λ k d below. c.loop-tet.invariant k d (omega arith));
}

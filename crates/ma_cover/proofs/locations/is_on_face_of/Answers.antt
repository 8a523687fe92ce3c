use Rattle.std.proofs.Common.{sym, subst, ◌∙◌}
use Rattle.ma_cover.specs.Located.{IsOnFaceOf}
use Rattle.ma_cover.specs.OnFaces.{IsOffFacesOf}
use Rattle.ma_cover.proofs.ClosedFaces.{off_by_test, on_by_test}
use Rattle.ma_cover.proofs.locations.is_on_face_of.Goals as goal

pub returns-clause-on : goal.returns-clause-on
returns-clause-on c =
    λ h. subst (IsOnFaceOf c.args.spot.now) c.corners.ensures.value
    (on_by_test c.args.spot.now c.corners.result c.corners.ensures.corners (sym c.is_on_face.ensures ∙ h))

pub returns-clause-off : goal.returns-clause-off
returns-clause-off c =
    λ h. subst (IsOffFacesOf c.args.spot.now) c.corners.ensures.value
    (off_by_test c.args.spot.now c.corners.result c.corners.ensures.corners (sym c.is_on_face.ensures ∙ h))

use Rattle.std.proofs.Common.{◌≡◌, ◌++◌, ap, subst, ◌∙◌}
use Rattle.std.specs.Prelude.{OnOk}
use Rattle.ma_cells.specs.Faces.{faces_of}
use Rattle.cavity_swap.proofs.FaceByFace.{cones_over, over_outer}
use Rattle.cavity_swap.proofs.filling.push_cones_of.Goals as goal

pub returns : goal.returns
returns c =
    subst (λ tets. OnOk c.push_cones.result (c.push_cones.new.tets.items ≡ c.args.tets.now.items ++ tets))
    (ap (cones_over c.args.cavity.now c.args.first.now c.args.v) c.faces.ensures.value ∙ over_outer c.args.cavity.now c.args.first.now c.args.v (faces_of c.args.tet.now.corners)) c.push_cones.ensures

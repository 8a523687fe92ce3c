use Rattle.std.proofs.Common.{◌≡◌, ◌++◌, ap, subst, ◌∙◌}
use Rattle.std.specs.Prelude.{OnOk}
use Rattle.std.specs.List.{flat_map}
use Rattle.ma_cells.specs.Faces.{faces_of}
use Rattle.cavity_swap.specs.Steps.{outer_at}
use Rattle.cavity_swap.proofs.ByFaces.{outer_among}
use Rattle.cavity_swap.proofs.outer.push_outer_of.Goals as goal

pub returns : goal.returns
returns c =
    let cavity = c.args.cavity.now in
    subst (λ outer. OnOk c.push_faces.result (c.push_faces.new.outer.items ≡ c.args.outer.now.items ++ outer))
    (ap (flat_map (outer_at cavity c.corners.result)) c.faces.ensures.value ∙ ap (λ corners. flat_map (outer_at cavity corners) (faces_of c.args.tet.now.corners)) c.corners.ensures.value ∙ outer_among cavity c.args.tet.now.corners (faces_of c.args.tet.now.corners)) c.push_faces.ensures

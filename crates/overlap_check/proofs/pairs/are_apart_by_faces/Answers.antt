use Rattle.std.proofs.Common.{ap, ◌∙◌}
use Rattle.std.specs.List.{list_any}
use Rattle.ma_geom.specs.Coordinates.{Coordinates}
use Rattle.overlap_check.specs.Forms.{normals_of}
use Rattle.overlap_check.specs.Overlap.{is_apart}
use Rattle.overlap_check.proofs.Anys.{among_first, among_rest}
use Rattle.overlap_check.proofs.pairs.are_apart_by_faces.Goals as goal

pub returns-then-are_apart_by : goal.returns-then-are_apart_by
returns-then-are_apart_by c =
    let a = c.args.a.now.corners in
    let b = c.args.b.now.corners in
    let parts = λ (n : Coordinates). is_apart n a b in
    among_first parts (normals_of a) (normals_of b) _ (c.are_apart_by.ensures ∙ ap (list_any parts) c.normals.ensures) c.if-are_apart_by.true

pub returns-else-are_apart_by : goal.returns-else-are_apart_by
returns-else-are_apart_by c =
    let a = c.args.a.now.corners in
    let b = c.args.b.now.corners in
    let parts = λ (n : Coordinates). is_apart n a b in
    among_rest parts (normals_of a) (normals_of b) _ _ (c.are_apart_by.ensures ∙ ap (list_any parts) c.normals.ensures) c.if-are_apart_by.false
    (c.are_apart_by-else-are_apart_by.ensures ∙ ap (list_any parts) c.normals-else-are_apart_by.ensures)

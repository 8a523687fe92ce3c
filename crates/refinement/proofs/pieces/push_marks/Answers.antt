use Rattle.std.proofs.Common.{◌++◌, ap, sym, ◌∙◌}
use Rattle.std.proofs.lemmas.Result.{on_ok_weaker}
use Rattle.refinement.proofs.Marked.{segments_are, triangles_are}
use Rattle.refinement.proofs.pieces.push_marks.Goals as goal

pub returns-in-Seg : goal.returns-in-Seg
returns-in-Seg c =
    on_ok_weaker c.push_segments.result
    (λ pushed. pushed ∙ ap (λ ms. c.args.pieces.now.items ++ ms) (segments_are c.args.field.now c.args.mark.now c.in-Seg.s (sym c.cell.ensures.value ∙ c.in-Seg.is)))
    c.push_segments.ensures

pub returns-in-Tri : goal.returns-in-Tri
returns-in-Tri c =
    on_ok_weaker c.push_triangles.result
    (λ pushed. pushed ∙ ap (λ ms. c.args.pieces.now.items ++ ms) (triangles_are c.args.field.now c.args.mark.now c.in-Tri.t (sym c.cell.ensures.value ∙ c.in-Tri.is) (sym c.is_straight.ensures ∙ c.if-not-is_straight.true)))
    c.push_triangles.ensures

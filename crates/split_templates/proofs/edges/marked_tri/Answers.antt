use Rattle.std.proofs.Common.{◌∙◌, ap}
use Rattle.ma_cells.specs.Faces.{edges_of}
use Rattle.split_templates.specs.Edges.{chosen, is_long_edge, mask_of}
use Rattle.split_templates.proofs.Masks.{chosen-mask_of, mask_of-map}
use Rattle.split_templates.proofs.edges.marked_tri.Goals as goal

pub returns-clause-long : goal.returns-clause-long
returns-clause-long c =
    let long = is_long_edge c.args.field.now in
    let edges = edges_of c.args.t in
    ap (λ mask. chosen mask edges) (c.bits_of.ensures.value ∙ ap (mask_of (λ b. b)) c.are_long_tri.ensures ∙ mask_of-map long edges) ∙ chosen-mask_of long edges

use Rattle.std.proofs.Common.{◌∷◌, [], ◌∙◌, ap}
use Rattle.ma_cells.specs.Faces.{edges_of}
use Rattle.split_templates.specs.Edges.{chosen, is_long_edge, mask_of}
use Rattle.split_templates.proofs.Masks.{chosen-mask_of, mask_of-map}
use Rattle.split_templates.proofs.edges.marked_between.Goals as goal

pub returns-clause-value : goal.returns-clause-value
returns-clause-value c =
    let long = is_long_edge c.args.field.now in
    let edges = edges_of (c.args.a.place ∷ c.args.b.place ∷ c.args.c.place ∷ c.args.d.place ∷ []) in
    c.bits_of.ensures.value ∙ ap (mask_of (λ b. b)) c.are_long.ensures ∙ mask_of-map long edges

pub returns-clause-long : goal.returns-clause-long
returns-clause-long c =
    let long = is_long_edge c.args.field.now in
    let edges = edges_of (c.args.a.place ∷ c.args.b.place ∷ c.args.c.place ∷ c.args.d.place ∷ []) in
    ap (λ mask. chosen mask edges) (returns-clause-value c) ∙ chosen-mask_of long edges

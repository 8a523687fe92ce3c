use Rattle.std.proofs.Common.{sym, ◌∙◌}
use Rattle.std.specs.List.{list_any}
use Rattle.ma_geom.specs.Volume.{cross}
use Rattle.overlap_check.specs.Forms.{steps_of}
use Rattle.overlap_check.specs.Overlap.{is_apart}
use Rattle.overlap_check.proofs.Anys.{list_any-products}
use Rattle.overlap_check.proofs.pairs.are_apart_by_edges.Goals as goal

pub returns : goal.returns
returns c =
    let a = c.args.a.now.corners in
    let b = c.args.b.now.corners in
    c.are_apart_by_products.ensures
    ∙ (λ i. list_any (λ u. list_any (λ v. is_apart (cross u v) a b) (c.steps-2.ensures i)) (c.steps.ensures i))
    ∙ sym (list_any-products (λ n. is_apart n a b) (steps_of a) (steps_of b))

use Rattle.std.proofs.Common.{◌≡◌, ◌∷◌, ◌∙◌, ◌-◌, ◌/◌, ap, sym, length, map, take, drop, arith}
use Rattle.ma_cells.specs.Ascending.{ascending_of, put}
use Rattle.split_templates.specs.Edges.{chosen, edge_cmp}
use Rattle.split_templates.specs.steps.Ranks.{ranked}
use Rattle.split_templates.proofs.Sets.{length-put}
use Rattle.split_templates.proofs.Cut.{head_and_rest}
use Rattle.split_templates.proofs.Masks.{chosen-odd}
use Rattle.split_templates.proofs.Ranked.{put-ranked}
use Rattle.split_templates.specs.contracts.edges.EdgeOrd.TheImpl as EdgeOrder
use Rattle.split_templates.proofs.edges.+in_order.Goals as goal

pub returns-then-mask-eq1-clause-value : goal.returns-then-mask-eq1-clause-value
returns-then-mask-eq1-clause-value t c =
    let rest = take (length c.args.edges.now - 1) (drop 1 c.args.edges.now) in
    let whole : c.args.edges.now ≡ c.first-item.result ∷ rest = head_and_rest c.args.edges.now c.first-item.result c.in-len1-up.len_at_least c.first-item.is in
    let marked = chosen (c.args.mask / 2) rest in
    c.put.ensures
    ∙ (λ i. put EdgeOrder.ghosts.cmp (c.new-then-mask-eq1.ensures i) (c.in_order-sorted.ensures.value i))
    ∙ put-ranked c.first-item.result (ascending_of edge_cmp marked)
    ∙ ap (λ es. map ranked (ascending_of edge_cmp es)) (sym (ap (chosen c.args.mask) whole ∙ chosen-odd c.args.mask c.first-item.result rest c.if-mask-eq1.true))

pub returns-then-mask-eq1-clause-bound : goal.returns-then-mask-eq1-clause-bound
returns-then-mask-eq1-clause-bound t c =
    let more = length-put EdgeOrder.ghosts.cmp c.new-then-mask-eq1.result c.in_order-sorted.result.items in
    rw c.put.ensures (omega (arith, c.in_order-sorted.ensures.bound))

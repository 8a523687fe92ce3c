use Rattle.std.proofs.Common.{◌≡◌, ◌∷◌, cond, nat_lt, Some, None, drop, ap, sym, ◌∙◌}
use Rattle.std.proofs.Math.Seq.{drop-cons}
use Rattle.ma_cells.specs.Worst.{worst}
use Rattle.cavity_swap.specs.Outer.{outer_of}
use Rattle.cavity_swap.specs.Steps.{passes_from}
use Rattle.cavity_swap.proofs.ByFaces.{passing, stopping}
use Rattle.cavity_swap.proofs.outer.quality_from.Goals as goal

pub returns-then-passes_from : goal.returns-then-passes_from
returns-then-passes_from c =
    let cavity = c.args.cavity.now in
    let front : cavity ≡ c.first-item.result ∷ drop 1 cavity = drop-cons cavity 0 c.first-item.result c.in-len1-up.len_at_least ∙ ap (λ tet. tet ∷ drop 1 cavity) (sym c.first-item.is) in
    let same : passes_from (worst cavity) c.first-item.result c.args.v (outer_of cavity) ≡ c.passes_from.result =
    ap (λ old. passes_from old c.first-item.result c.args.v (outer_of cavity)) (sym c.requires.old) ∙ ap (passes_from c.args.old c.first-item.result c.args.v) (sym c.requires.outer) ∙ sym c.passes_from.ensures in
    c.if_greater.ensures ∙ ap (λ old. cond (nat_lt old c.new_worst.result) (Some c.new_worst.result) None) c.requires.old
    ∙ ap (λ new. cond (nat_lt (worst cavity) new) (Some new) None) c.new_worst.ensures ∙ passing cavity c.first-item.result c.args.v front (same ∙ c.if-passes_from.true)

pub returns-else-passes_from : goal.returns-else-passes_from
returns-else-passes_from c =
    let cavity = c.args.cavity.now in
    let front : cavity ≡ c.first-item.result ∷ drop 1 cavity = drop-cons cavity 0 c.first-item.result c.in-len1-up.len_at_least ∙ ap (λ tet. tet ∷ drop 1 cavity) (sym c.first-item.is) in
    let same : passes_from (worst cavity) c.first-item.result c.args.v (outer_of cavity) ≡ c.passes_from.result =
    ap (λ old. passes_from old c.first-item.result c.args.v (outer_of cavity)) (sym c.requires.old) ∙ ap (passes_from c.args.old c.first-item.result c.args.v) (sym c.requires.outer) ∙ sym c.passes_from.ensures in
    stopping cavity c.first-item.result c.args.v front (same ∙ c.if-passes_from.false)

use Rattle.std.proofs.Common.{◌≡◌, ◌∷◌, drop, suc, add-one, ap, sym, ◌∙◌}
use Rattle.std.proofs.Math.Seq.{drop-cons}
use Rattle.cavity_collapse.specs.Steps.{least_with}
use Rattle.cavity_collapse.proofs.Worsts.{new_tets, next_worst, qualities}
use Rattle.cavity_collapse.proofs.filling.worst_if_any.Goals as goal

pub loop-tet-preserved : goal.loop-tet-preserved
loop-tet-preserved c =
    let star = c.args.star.now in
    let i = c.loop-tet.tet-index in
    let rest : drop i star ≡ c.tet-item.result ∷ drop (suc i) star = drop-cons star i c.tet-item.result c.loop-tet-test.true ∙ ap (λ t. t ∷ drop (suc i) star) (sym c.tet-item.is) in
    rw (c.worst_with-worst.ensures, c.moved_tet.ensures, add-one i)
    (next_worst c.args.a c.args.v c.loop-tet.worst c.tet-item.result (drop (suc i) star) ∙ ap (λ l. least_with c.loop-tet.worst (qualities (new_tets c.args.a c.args.v l))) (sym rest) ∙ c.loop-tet.invariant)

use Rattle.std.proofs.Common.{◌≡◌, ◌∷◌, drop, ap, sym, ◌∙◌}
use Rattle.std.specs.Option.{unwrap_or}
use Rattle.std.proofs.Math.Seq.{drop-cons}
use Rattle.cavity_swap.proofs.FaceByFace.{worst_is}
use Rattle.cavity_swap.proofs.filling.new_worst.Goals as goal

pub returns-in-len1-up : goal.returns-in-len1-up
returns-in-len1-up c =
    let cavity = c.args.cavity.now in
    let front : cavity ≡ c.first-item.result ∷ drop 1 cavity = drop-cons cavity 0 c.first-item.result c.in-len1-up.len_at_least ∙ ap (λ tet. tet ∷ drop 1 cavity) (sym c.first-item.is) in
    c.unwrap_or.ensures ∙ ap (λ o. unwrap_or o 0) c.worst_over.ensures ∙ worst_is cavity c.first-item.result c.args.v front

use Rattle.std.proofs.Common.{◌≡◌, ◌∷◌, drop, ap, sym, ◌∙◌}
use Rattle.std.proofs.Math.Seq.{drop-cons}
use Rattle.ma_cells.specs.Ascending.{ascending_of}
use Rattle.ma_cells.specs.Tetrahedron.{tet_cmp}
use Rattle.ma_cells.proofs.CellOrders.{tet_cmp-IsAntisymmetric}
use Rattle.cavity_swap.proofs.FaceByFace.{swapped_is}
use Rattle.cavity_swap.proofs.filling.fill.Goals as goal

pub returns-in_ok-tets-in-len1-up : goal.returns-in_ok-tets-in-len1-up
returns-in_ok-tets-in-len1-up c =
    let cavity = c.args.cavity.now in
    let front : cavity ≡ c.first-item.result ∷ drop 1 cavity = drop-cons cavity 0 c.first-item.result c.in-len1-up.len_at_least ∙ ap (λ tet. tet ∷ drop 1 cavity) (sym c.first-item.is) in
    c.gather.ensures.is tet_cmp-IsAntisymmetric ∙ ap (ascending_of tet_cmp) c.in_ok-tets-in-len1-up.ensures ∙ swapped_is cavity c.first-item.result c.args.v front

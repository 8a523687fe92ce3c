use Rattle.std.proofs.Common.{◌≡◌, ◌∷◌, ◌-◌, length, take, drop, ap, sym, ◌∙◌}
use Rattle.cavity_collapse.specs.Steps.{worst_with}
use Rattle.cavity_swap.specs.Steps.{worst_over_faces}
use Rattle.cavity_swap.proofs.FaceByFace.{front_is}
use Rattle.cavity_swap.proofs.filling.+worst_over_faces.Goals as goal

pub returns-in-len1-up : goal.returns-in-len1-up
returns-in-len1-up t c =
    let faces = c.args.faces.now in
    let rest = take (length faces - 1) (drop 1 faces) in
    let front : faces ≡ c.face-item.result ∷ rest = front_is c.face-item.result faces c.in-len1-up.len_at_least c.face-item.is in
    c.worst_over_faces.ensures ∙ ap (λ w. worst_over_faces c.args.cavity.now c.args.first.now c.args.v w rest) (c.quality_with-worst.ensures ∙ ap (worst_with c.args.worst) c.outer_cone.ensures)
    ∙ ap (worst_over_faces c.args.cavity.now c.args.first.now c.args.v c.args.worst) (sym front)

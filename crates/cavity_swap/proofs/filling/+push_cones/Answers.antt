use Rattle.std.proofs.Common.{◌≡◌, ◌∷◌, ◌++◌, ◌-◌, length, take, drop, ap, subst, sym, ◌∙◌, append_assoc}
use Rattle.std.specs.Prelude.{OnOk}
use Rattle.std.specs.Option.{option_to_list}
use Rattle.cavity_swap.specs.Steps.{outer_cone}
use Rattle.cavity_swap.proofs.FaceByFace.{cones_over, front_is}
use Rattle.cavity_swap.proofs.filling.+push_cones.Goals as goal

pub returns-in_ok-push_if_any-in-len1-up : goal.returns-in_ok-push_if_any-in-len1-up
returns-in_ok-push_if_any-in-len1-up t c =
    let faces = c.args.faces.now in
    let cones = cones_over c.args.cavity.now c.args.first.now c.args.v in
    let rest = take (length faces - 1) (drop 1 faces) in
    let front : faces ≡ c.face-item.result ∷ rest = front_is c.face-item.result faces c.in-len1-up.len_at_least c.face-item.is in
    let pushed = c.in_ok-push_if_any-in-len1-up.ensures ∙ ap (λ o. c.args.tets.now.items ++ option_to_list o) c.outer_cone.ensures in
    subst (λ tets. OnOk c.push_cones.result (c.push_cones.new.tets.items ≡ tets))
    (ap (λ tets. tets ++ cones rest) pushed ∙ append_assoc c.args.tets.now.items (option_to_list (outer_cone c.args.cavity.now c.args.first.now c.args.v c.face-item.result)) (cones rest)
    ∙ ap (λ faces. c.args.tets.now.items ++ cones faces) (sym front)) c.push_cones.ensures

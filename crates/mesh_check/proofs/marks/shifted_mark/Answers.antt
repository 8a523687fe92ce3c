use Rattle.std.proofs.Common.{rules, w32, FitsSigned, get_or, ◌∷◌, []}
use Rattle.std.proofs.lemmas.Int.{to_z-of_z}
use Rattle.mesh_check.proofs.Marking.{moved-from, pair_is, triple_is}
use Rattle.mesh_check.proofs.marks.shifted_mark.Goals as goal

pub returns-in_ok-corners-in-len2 : goal.returns-in_ok-corners-in-len2
returns-in_ok-corners-in-len2 c =
    let p : FitsSigned w32 c.args.mark.now.phys = search rules in
    let e : FitsSigned w32 c.args.mark.now.elem = search rules in
    let xs = c.as_slice.result.now in
    moved-from c.args.nodes.now c.args.shift c.args.mark.now xs (get_or xs 0 0 ∷ get_or xs 1 0 ∷ []) c.in_ok-corners-in-len2.corners _ _ c.mark_on-in-len2.result
    (pair_is xs c.in-len2.len_at_least c.in-len2.len_below) c.as_slice.ensures.value c.in_ok-corners-in-len2.ensures (to_z-of_z w32 _ p) (to_z-of_z w32 _ e) c.mark_on-in-len2.ensures

pub returns-in_ok-corners-in-len3 : goal.returns-in_ok-corners-in-len3
returns-in_ok-corners-in-len3 c =
    let p : FitsSigned w32 c.args.mark.now.phys = search rules in
    let e : FitsSigned w32 c.args.mark.now.elem = search rules in
    let xs = c.as_slice.result.now in
    moved-from c.args.nodes.now c.args.shift c.args.mark.now xs (get_or xs 0 0 ∷ get_or xs 1 0 ∷ get_or xs 2 0 ∷ []) c.in_ok-corners-in-len3.corners _ _ c.mark_on-in-len3.result
    (triple_is xs c.in-len3.len_at_least c.in-len3.len_below) c.as_slice.ensures.value c.in_ok-corners-in-len3.ensures (to_z-of_z w32 _ p) (to_z-of_z w32 _ e) c.mark_on-in-len3.ensures

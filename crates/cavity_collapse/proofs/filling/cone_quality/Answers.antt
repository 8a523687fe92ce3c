use Rattle.std.proofs.Common.{Some, get_or, ap, sym, ◌∙◌, arith}
use Rattle.cavity_collapse.proofs.Cones.{at_four, cone_from, no_cone_from}
use Rattle.cavity_collapse.proofs.Moving.{three}
use Rattle.cavity_collapse.proofs.filling.cone_quality.Goals as goal

pub returns-then-has : goal.returns-then-has
returns-then-has c = no_cone_from c.args.v c.args.face (omega arith) (sym c.has.ensures ∙ c.if-has.true)

pub quality-requires : goal.quality-requires
quality-requires c =
    let face = c.args.face in
    at_four c.args.v (get_or face 0 c.index-face-0.result) (get_or face 1 c.index-face-1.result) (get_or face 2 c.index-face-2.result) face (three face c.index-face-0.result c.index-face-1.result c.index-face-2.result (omega arith))
    (sym c.has.ensures ∙ c.if-has.false) c.requires

pub returns : goal.returns
returns c =
    let face = c.args.face in
    ap Some c.quality.ensures
    ∙ cone_from c.args.v (get_or face 0 c.index-face-0.result) (get_or face 1 c.index-face-1.result) (get_or face 2 c.index-face-2.result) face (three face c.index-face-0.result c.index-face-1.result c.index-face-2.result (omega arith))
    (sym c.has.ensures ∙ c.if-has.false) c.requires

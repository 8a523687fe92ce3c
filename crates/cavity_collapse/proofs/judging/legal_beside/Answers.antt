use Rattle.std.proofs.Common.{cond, None, Some, refl, sym, ap, ◌∙◌}
use Rattle.ma_cells.specs.Worst.{worst}
use Rattle.cavity_collapse.specs.Collapsing.{collapsed}
use Rattle.cavity_collapse.specs.Judging.{quality_is_kept}
use Rattle.cavity_collapse.proofs.AlongRims.{may_by_faces, seen_if_may}
use Rattle.cavity_collapse.proofs.Kept.{legal_by_turns}
use Rattle.cavity_collapse.proofs.judging.legal_beside.Goals as goal

pub kept_worst-requires-clause-seen : goal.kept_worst-requires-clause-seen
kept_worst-requires-clause-seen c =
    let may =
    may_by_faces c.args.field.now c.args.star.now c.args.marks.now c.args.a c.args.v c.args.faces.now c.args.rims.now c.may_go.result c.requires.faces.0 c.requires.rims c.may_go.ensures in
    seen_if_may c.args.field.now c.args.star.now c.args.marks.now c.args.a c.args.v c.may_go.result may c.if-may_go.true

pub returns-then-may_go : goal.returns-then-may_go
returns-then-may_go c =
    let star = c.args.star.now in
    ap (λ b. cond b c.kept_worst.result None) (sym c.if-may_go.true)
    ∙ legal_by_turns c.args.field.now star c.args.marks.now c.args.a c.args.v c.may_go.result c.kept_worst.result
    (may_by_faces c.args.field.now star c.args.marks.now c.args.a c.args.v c.args.faces.now c.args.rims.now c.may_go.result c.requires.faces.0 c.requires.rims c.may_go.ensures) c.kept_worst.ensures

pub returns-else-may_go : goal.returns-else-may_go
returns-else-may_go c =
    let star = c.args.star.now in
    let new = worst (collapsed c.args.a c.args.v star) in
    let found = cond (quality_is_kept (worst star) new) (Some new) None in
    ap (λ b. cond b found None) (sym c.if-may_go.false)
    ∙ legal_by_turns c.args.field.now star c.args.marks.now c.args.a c.args.v c.may_go.result found
    (may_by_faces c.args.field.now star c.args.marks.now c.args.a c.args.v c.args.faces.now c.args.rims.now c.may_go.result c.requires.faces.0 c.requires.rims c.may_go.ensures) refl

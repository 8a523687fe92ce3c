use Rattle.std.proofs.Common.{sym, ◌∙◌}
use Rattle.cavity_collapse.proofs.Across.{across_first, across_second, across_third, none_is}
use Rattle.cavity_collapse.proofs.stars.face_of.Goals as goal

pub returns-then-is_same-clause-some : goal.returns-then-is_same-clause-some
returns-then-is_same-clause-some c = across_first c.args.p c.args.q c.args.r c.args.s c.requires c.args.a (sym c.is_same.ensures ∙ c.if-is_same.true)

pub returns-then-is_same-2-clause-some : goal.returns-then-is_same-2-clause-some
returns-then-is_same-2-clause-some c = across_second c.args.p c.args.q c.args.r c.args.s c.requires c.args.a (sym c.is_same-else-is_same.ensures ∙ c.if-is_same-2.true)

pub returns-then-is_same-3-clause-some : goal.returns-then-is_same-3-clause-some
returns-then-is_same-3-clause-some c = across_third c.args.p c.args.q c.args.r c.args.s c.requires c.args.a (sym c.is_same-else-is_same-2.ensures ∙ c.if-is_same-3.true)

pub returns-else-is_same-4-clause-none : goal.returns-else-is_same-4-clause-none
returns-else-is_same-4-clause-none c =
    none_is c.args.p c.args.q c.args.r c.args.s c.args.a (sym c.is_same.ensures ∙ c.if-is_same.false) (sym c.is_same-else-is_same.ensures ∙ c.if-is_same-2.false) (sym c.is_same-else-is_same-2.ensures ∙ c.if-is_same-3.false) (sym c.is_same-else-is_same-3.ensures ∙ c.if-is_same-4.false)

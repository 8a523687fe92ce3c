use Rattle.std.proofs.Common.{◌∙◌, ap, arith, flat_map, subst, sym}
use Rattle.std.specs.FinMap.{IsAntisymmetric}
use Rattle.std.proofs.lemmas.List.{take_all}
use Rattle.ma_cells.specs.Ascending.{ascending_of}
use Rattle.msh_write.specs.steps.Holders.{holder_cmp, holders_by}
use Rattle.msh_write.proofs.Holding.{derived_holder_cmp, holder_cmp-IsAntisymmetric}
use Rattle.msh_write.proofs.holders.holders.Goals as goal

pub returns : goal.returns
returns c =
    c.gather.ensures.is (subst (λ R. IsAntisymmetric R) (sym derived_holder_cmp) holder_cmp-IsAntisymmetric)
    ∙ ap (λ R. ascending_of R c.loop-member.holders.items) derived_holder_cmp
    ∙ ap (ascending_of holder_cmp) (c.loop-member.invariant ∙ ap (flat_map (holders_by c.args.marked.now)) (take_all c.loop-member.member-index c.args.members.now (omega arith)))

use Rattle.std.proofs.Common.{Err, None, subst, sym}
use Rattle.std.specs.List.Sorted.{IsBinarySearchResult}
use Rattle.ma_cells.proofs.Searches.{searched_is}
use Rattle.msh_write.proofs.Holding.{derived_holder_cmp, holder_cmp_total, tied_holder}
use Rattle.msh_write.proofs.holders.first_holder.Goals as goal

pub returns-in-Ok-clause-found : goal.returns-in-Ok-clause-found
returns-in-Ok-clause-found c = (c.in-Ok.ensures.bound, λ d. tied_holder _ _ (c.in-Ok.ensures.ok d))

pub returns-in-Err-clause-none : goal.returns-in-Err-clause-none
returns-in-Err-clause-none c =
    sym (searched_is holder_cmp_total (c.args.cell, None) c.args.holders.now (Err c.in-Err.field-0) c.requires c.in-Err.ensures.bound
    (subst (λ R. IsBinarySearchResult (λ y. R y (c.args.cell, None)) c.args.holders.now (Err c.in-Err.field-0)) derived_holder_cmp c.in-Err.ensures.position))

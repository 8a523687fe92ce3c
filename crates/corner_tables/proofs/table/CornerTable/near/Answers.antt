use Rattle.std.proofs.Common.{sym, subst}
use Rattle.std.specs.List.Sorted.{IsStrictlySortedBy}
use Rattle.std.proofs.lemmas.List.Kept.{IsStrictlySortedBy-filter}
use Rattle.corner_tables.specs.Tables.{corner_cmp}
use Rattle.corner_tables.specs.steps.Near.{not_below}
use Rattle.corner_tables.proofs.table.CornerTable.near.Goals as goal

pub up_to_place-requires : goal.up_to_place-requires
up_to_place-requires c =
    subst (λ cs. IsStrictlySortedBy corner_cmp cs) (sym c.from_place.ensures) (IsStrictlySortedBy-filter corner_cmp (not_below c.args.place) c.as_slice.result.now c.as_slice.ensures.rises)

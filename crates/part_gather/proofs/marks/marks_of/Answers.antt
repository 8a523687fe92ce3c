use Rattle.std.proofs.Common.{sym, subst, ap, ◌∙◌, filter}
use Rattle.std.specs.List.Sorted.{IsStrictlySortedBy}
use Rattle.std.proofs.lemmas.List.Kept.{IsStrictlySortedBy-filter}
use Rattle.ma_cells.specs.Cells.{mark_cmp}
use Rattle.part_gather.proofs.OnCell.{not_above, not_below, on_cell}
use Rattle.part_gather.proofs.marks.marks_of.Goals as goal

pub up_to_cell-requires : goal.up_to_cell-requires
up_to_cell-requires c =
    subst (λ ms. IsStrictlySortedBy mark_cmp ms) (sym c.from_cell.ensures) (IsStrictlySortedBy-filter mark_cmp (not_below c.args.cell.now) c.args.marks.now c.requires)

pub returns : goal.returns
returns c = c.up_to_cell.ensures ∙ ap (filter (not_above c.args.cell.now)) c.from_cell.ensures ∙ on_cell c.args.cell.now c.args.marks.now

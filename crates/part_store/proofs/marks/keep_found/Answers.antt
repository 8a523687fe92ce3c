use Rattle.std.proofs.Common.{◌≡◌, ◌∙◌, true, rules}
use Rattle.std.proofs.lemmas.Fn.{filter_same}
use Rattle.ma_cells.specs.Ascending.{has}
use Rattle.ma_cells.specs.Cells.{CellMark, cell_cmp, is_cell}
use Rattle.part_store.proofs.marks.keep_found.Goals as goal

pub returns : goal.returns
returns c test found =
    filter_same _ (λ (mark : CellMark). test mark.cell) _ (λ mark b f' k.
    let told : b ≡ has cell_cmp mark.cell c.args.found.now = search rules in
    let real : is_cell mark.cell ≡ true = search rules in
    (told ∙ found mark.cell real, search rules)) c.args.marks.items c.retain.new.self.items c.retain.ensures.filtered

use Rattle.std.proofs.Common.{◌≡◌, ◌++◌, [], sym, ap, ◌∙◌, drop, map, drop_of_length-le}
use Rattle.std.proofs.lemmas.List.{append-nil}
use Rattle.ma_cells.specs.Ascending.{ascending_of}
use Rattle.ma_cells.specs.Cells.{corners_of}
use Rattle.corner_tables.specs.Tables.{corner_cmp, corners_from}
use Rattle.corner_tables.proofs.Tables.{corner_cmp-IsAntisymmetric}
use Rattle.corner_tables.proofs.table.CornerTable.of_marks.Goals as goal

pub returns : goal.returns
returns c =
    let over : drop c.loop-i.i c.args.marks.now ≡ [] = drop_of_length-le c.args.marks.now c.loop-i-test.false in
    c.gather.ensures.is corner_cmp-IsAntisymmetric
    ∙ ap (ascending_of corner_cmp) (sym (append-nil c.loop-i.corners.items) ∙ ap (λ marks. c.loop-i.corners.items ++ corners_from c.loop-i.i (map (λ mark. corners_of mark.cell) marks)) (sym over) ∙ c.loop-i.invariant)

use Rattle.std.proofs.Common.{◌≡◌, ◌++◌, IfOk, List, ap, drop_of_length-le, subst, sym, ◌∙◌}
use Rattle.std.specs.List.{flat_map}
use Rattle.std.proofs.lemmas.List.{append-nil}
use Rattle.ma_geom.specs.Coordinates.{Coordinates, place_cmp}
use Rattle.ma_cells.specs.Ascending.{ascending_of}
use Rattle.ma_cells.specs.Cells.{corners_of}
use Rattle.ma_cells.specs.declared.cell.Cell.{Cell}
use Rattle.part_store.proofs.marks.corners_of.Goals as goal

pub returns : goal.returns
returns c =
    subst (λ (places : List Coordinates). IfOk c.gather.result (λ set. set ≡ ascending_of place_cmp places))
    (sym (append-nil c.loop-cell.corners.items)
    ∙ ap (λ (cells : _). c.loop-cell.corners.items ++ flat_map (λ (cell : Cell). corners_of cell) cells) (sym (drop_of_length-le c.args.cells.now c.loop-cell-test.false))
    ∙ c.loop-cell.invariant) c.gather.ensures

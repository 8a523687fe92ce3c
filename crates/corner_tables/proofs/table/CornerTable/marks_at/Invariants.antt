use Rattle.std.proofs.Common.{◌≡◌, filter, map, take}
use Rattle.std.specs.Ordering.{nat_cmp}
use Rattle.ma_cells.specs.Ascending.{has}
use Rattle.ma_cells.specs.Cells.{corners_of}
use Rattle.ma_cells.specs.Faces.{holds_all}
use Rattle.corner_tables.specs.steps.Near.{picked}
use Rattle.corner_tables.specs.Tables.{positions_from}
use Rattle.corner_tables.proofs.table.CornerTable.marks_at.Given as goal

-- those at the corners so far that have all the places
abbrev pub invariant-loop-corner : goal.invariant-loop-corner
invariant-loop-corner l =
    l.into.items ≡ picked l.marks (filter (λ i. has nat_cmp i (positions_from 0 (λ mark. holds_all (corners_of mark.cell) l.at) l.marks)) (map (λ c. c.position) (take l.corner-index l.corners)))

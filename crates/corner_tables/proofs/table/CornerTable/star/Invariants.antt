use Rattle.std.proofs.Common.{◌≡◌, filter, map, take}
use Rattle.std.specs.Ordering.{nat_cmp}
use Rattle.ma_cells.specs.Ascending.{has}
use Rattle.ma_cells.specs.Faces.{holds_all}
use Rattle.corner_tables.specs.steps.Near.{picked}
use Rattle.corner_tables.specs.Tables.{positions_from}
use Rattle.corner_tables.proofs.table.CornerTable.star.Given as goal

-- those at the corners so far that have all the places
abbrev pub invariant-loop-corner : goal.invariant-loop-corner
invariant-loop-corner l =
    l.into.items ≡ picked l.tets (filter (λ i. has nat_cmp i (positions_from 0 (λ tet. holds_all tet.corners l.at) l.tets)) (map (λ c. c.position) (take l.corner-index l.corners)))

use Rattle.std.proofs.Common.{◌≡◌, filter, map, take}
use Rattle.std.specs.Ordering.{nat_cmp}
use Rattle.ma_cells.specs.Ascending.{has}
use Rattle.ma_cells.specs.Faces.{holds_all}
use Rattle.corner_tables.specs.Tables.{positions_from}
use Rattle.corner_tables.proofs.table.CornerTable.at.Given as goal

-- those of the corners so far whose tetrahedron has all the places
abbrev pub invariant-loop-corner : goal.invariant-loop-corner
invariant-loop-corner l =
    l.into.items ≡ filter (λ i. has nat_cmp i (positions_from 0 (λ tet. holds_all tet.corners l.at) l.tets)) (map (λ c. c.position) (take l.corner-index l.corners))

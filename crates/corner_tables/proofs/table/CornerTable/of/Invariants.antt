use Rattle.std.proofs.Common.{◌≡◌, ◌++◌, drop, map}
use Rattle.corner_tables.specs.Tables.{corners_from}
use Rattle.corner_tables.proofs.table.CornerTable.of.Given as goal

-- the corners so far, and those of the tetrahedra that are left
abbrev pub invariant-loop-i : goal.invariant-loop-i
invariant-loop-i l = l.corners.items ++ corners_from l.i (map (λ tet. tet.corners) (drop l.i l.tets)) ≡ corners_from 0 (map (λ tet. tet.corners) l.tets)

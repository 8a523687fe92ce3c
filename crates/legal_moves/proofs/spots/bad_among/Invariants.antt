use Rattle.std.proofs.Common.{◌≡◌, ◌++◌, true, drop, take}
use Rattle.ma_cells.specs.Tetrahedron.{are_tetrahedra}
use Rattle.legal_moves.specs.Around.{bad_among}
use Rattle.legal_moves.proofs.spots.bad_among.Given as goal

-- the bad ones so far, and those that are left
abbrev pub invariant-loop-tet : goal.invariant-loop-tet
invariant-loop-tet l = record {
  bad : l.bad.items ++ bad_among (drop l.tet-index l.tets) ≡ bad_among l.tets;
  solid : are_tetrahedra (take l.tet-index l.tets) ≡ true;
}

use Rattle.std.proofs.Common.{◌≡◌, true, All, flat_map, take}
use Rattle.ma_geom.specs.Coordinates.{place_cmp}
use Rattle.ma_cells.specs.Ascending.{are_ascending}
use Rattle.msh_write.proofs.nodes.nodes_of.Given as goal

abbrev pub invariant-loop-tet : goal.invariant-loop-tet
invariant-loop-tet l = record {
  nodes : l.corners.items ≡ flat_map (λ t. t.corners) (take l.tet-index l.tets);
  corners : All (λ t. are_ascending place_cmp t.corners ≡ true) (take l.tet-index l.tets);
}

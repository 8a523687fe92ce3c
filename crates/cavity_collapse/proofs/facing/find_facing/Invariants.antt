use Rattle.std.proofs.Common.{◌≡◌, ◌++◌, true, drop, map, take}
use Rattle.ma_cells.specs.Tetrahedron.{are_tetrahedra}
use Rattle.cavity_collapse.specs.Facing.{facing, facing_of}
use Rattle.cavity_collapse.proofs.facing.find_facing.Given as goal

-- the faces so far, and those of the tetrahedra that are left
abbrev pub invariant-loop-tet : goal.invariant-loop-tet
invariant-loop-tet l = record {
  faces : l.faces.items ++ map (facing l.a) (drop l.tet-index l.star) ≡ facing_of l.star l.a;
  solid : are_tetrahedra (take l.tet-index l.star) ≡ true;
}

use Rattle.std.proofs.Common.{◌≡◌, true, take}
use Rattle.ma_cells.specs.Tetrahedron.{are_tetrahedra}
use Rattle.one_mesh.proofs.store.copied.Given as goal

abbrev pub invariant-loop-tet : goal.invariant-loop-tet
invariant-loop-tet l = record {
  items : l.copies.items ≡ take l.tet-index l.tets;
  not_flat : are_tetrahedra l.copies.items ≡ true;
}

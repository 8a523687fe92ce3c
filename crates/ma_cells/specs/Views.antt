-- The order of tetrahedra with their labels.
use Rattle.std.specs.Prelude.{ℕ}
use Rattle.std.specs.declared.cmp.Ordering.{Ordering}
use Rattle.std.specs.Ordering.{nat_cmp, ordering_then}
use Rattle.ma_cells.specs.Tetrahedron.{Tetrahedron, tet_cmp}

-- by tetrahedron, then label
abbrev pub ghost_cmp : Tetrahedron × ℕ → Tetrahedron × ℕ → Ordering
ghost_cmp g h = ordering_then (tet_cmp g.0 h.0) (nat_cmp g.1 h.1)

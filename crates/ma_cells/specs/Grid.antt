-- Grids of places whose coordinates are multiples of a power of two.
use Rattle.std.specs.Prelude.{◌≡◌, ◌≤◌, true, ℕ, zero, suc, ◌%◌, ◌^◌, ◌==◌, ℤ, unsigned_abs, Bool, ◌&&◌, List, if◌then◌else◌}
use Rattle.std.specs.List.{list_all}
use Rattle.ma_geom.specs.Coordinates.{Coordinates}
use Rattle.ma_cells.specs.Cells.{CellMark, corners_of}
use Rattle.ma_cells.specs.Tetrahedron.{Tetrahedron}
use Rattle.ma_cells.specs.declared.batch.Batch.{Batch}

-- whether c is a multiple of 2^k
unfoldable pub is_multiple : ℕ → ℤ → Bool
is_multiple k c = unsigned_abs c % 2 ^ k == 0

-- whether all coordinates of a place are multiples of 2^k
abbrev pub is_on_grid : ℕ → Coordinates → Bool
is_on_grid k p = is_multiple k p.x && is_multiple k p.y && is_multiple k p.z

-- whether all corners of these tetrahedra are on the grid of 2^k
abbrev pub are_on_grid : ℕ → List Tetrahedron → Bool
are_on_grid k tets = list_all (λ tet. list_all (is_on_grid k) tet.corners) tets

-- the same of marks
abbrev pub marks_are_on_grid : ℕ → List CellMark → Bool
marks_are_on_grid k marks = list_all (λ mark. list_all (is_on_grid k) (corners_of mark.cell)) marks

-- the same of a mesh
abbrev pub mesh_is_on_grid : ℕ → Batch → Bool
mesh_is_on_grid k mesh = are_on_grid k mesh.tets && marks_are_on_grid k mesh.marks

-- the greatest number up to this one that passes a test, or 0
abbrev pub greatest : ℕ → (ℕ → Bool) → ℕ
greatest zero test = zero
greatest (suc n) test = if test (suc n) then suc n else greatest n test

-- that a number is the greatest up to `most` that passes a test
pub record IsGreatest (most : ℕ) (test : ℕ → Bool) (k : ℕ) : Type 0 where
  pub within : k ≤ most
  pub passes : test k ≡ true
  pub no_other : (n : ℕ) → n ≤ most → test n ≡ true → n ≤ k

-- the greatest k up to 30 for which all corners of the tetrahedra are on the grid of 2^k
unfoldable pub grid_of : List Tetrahedron → ℕ
grid_of tets = greatest 30 (λ k. are_on_grid k tets)

-- Cells, by their corners, once a vertex a is moved to v.
use Rattle.std.specs.Prelude.{ℕ, ◌≡◌, true, length, List, [], ◌∷◌, if◌then◌else◌}
use Rattle.std.specs.List.{AllByRecursion, flat_map}
use Rattle.ma_geom.specs.Coordinates.{Coordinates, place_cmp}
use Rattle.ma_cells.specs.Ascending.{are_ascending, are_distinct, ascending_of}
use Rattle.cavity_collapse.specs.Collapsing.{moved_corners}

-- that each has n corners, each corner below the next
abbrev pub AreCells : ℕ → List (List Coordinates) → Type 0
AreCells n cells = AllByRecursion (λ corners. (length corners ≡ n) × (are_ascending place_cmp corners ≡ true)) cells

-- the cell with v in the place of a, in ascending order. One that had both is gone
abbrev pub moved_cell : (a v : Coordinates) → List Coordinates → List (List Coordinates)
moved_cell a v corners = if are_distinct place_cmp (moved_corners a v corners) then ascending_of place_cmp (moved_corners a v corners) ∷ [] else []

-- what becomes of cells
abbrev pub moved_cells : (a v : Coordinates) → List (List Coordinates) → List (List Coordinates)
moved_cells a v cells = flat_map (moved_cell a v) cells

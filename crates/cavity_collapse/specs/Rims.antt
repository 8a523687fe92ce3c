-- Where the marked triangles at a vertex a have a rim, found once for all places that a may go to.
use Rattle.std.specs.Prelude.{List, [], ◌∷◌, ◌++◌, Option, Some, None, if◌then◌else◌}
use Rattle.std.specs.List.{flat_map}
use Rattle.ma_geom.specs.Coordinates.{Coordinates}
use Rattle.ma_cells.specs.Cells.{CellMark}
use Rattle.cavity_collapse.specs.Surfaces.{across, are_on_both_sides, wings}

-- the end x of the edge a x of a marked triangle with the third corner y, unless triangles of the same surface are on both sides
abbrev pub rim_at : List CellMark → (a : Coordinates) → CellMark → (x y : Coordinates) → List Coordinates
rim_at marks a m x y = if are_on_both_sides a x y (wings marks a x y m) then [] else x ∷ []

-- the same for both edges at a of a triangle, by their ends
abbrev pub rims_across : List CellMark → (a : Coordinates) → CellMark → Option (Coordinates × Coordinates) → List Coordinates
rims_across marks a m (Some ends) = rim_at marks a m ends.0 ends.1 ++ rim_at marks a m ends.1 ends.0
rims_across marks a m None = []

-- the other ends of the edges at a at which a marked surface has a rim
abbrev pub rims_of : List CellMark → (a : Coordinates) → List Coordinates
rims_of marks a = flat_map (λ m. rims_across marks a m (across a m.cell)) marks

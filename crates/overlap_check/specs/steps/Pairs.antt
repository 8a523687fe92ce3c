-- Steps of the code and no promise: tetrahedra by their places in a list, and the least pair from the least first place.
use Rattle.std.specs.Prelude.{ℕ, ◌≡◌, ◌+◌, Bool, true, not, ◌&&◌, ◌⊎◌, nat_lt, slice_index_or, length, List, [], ◌∷◌, Option, None}
use Rattle.std.specs.List.{position}
use Rattle.std.specs.Option.{option_map}
use Rattle.ma_geom.specs.Coordinates.{Coordinates}
use Rattle.ma_cells.specs.Meshes.{corner_sets}
use Rattle.ma_cells.specs.Tetrahedron.{Tetrahedron}
use Rattle.overlap_check.specs.Overlap.{are_separated, overlap}

abbrev pub corners_at : List Tetrahedron → ℕ → List Coordinates
corners_at tets i = slice_index_or (corner_sets tets) i []

-- whether the tetrahedron at i comes before that at j and overlaps it
unfoldable pub are_overlapping : List Tetrahedron → ℕ → ℕ → Bool
are_overlapping tets i j = nat_lt i j && (nat_lt j (length tets) && not (are_separated (corners_at tets i) (corners_at tets j)))

-- that the tetrahedron at this place overlaps a later one, unless it is the end of the list
abbrev pub IsStart : List Tetrahedron → ℕ → Type 0
IsStart tets k = (k ≡ length tets) ⊎ ((j : ℕ) × (are_overlapping tets k j ≡ true))

-- the tetrahedron in front, at the place `first`, with the first later one that it overlaps
abbrev pub pair_from : ℕ → List Tetrahedron → Option (ℕ × ℕ)
pair_from first [] = None
pair_from first (t ∷ ts) = option_map (λ k. (first, first + 1 + k)) (position (overlap t) ts)

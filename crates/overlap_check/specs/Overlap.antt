-- Which tetrahedra overlap.
use Rattle.std.specs.Prelude.{ℕ, suc, ℤ, Bool, not, ◌&&◌, ◌||◌, int_le, List, [], ◌∷◌, map, Option, None}
use Rattle.std.specs.List.{list_all, list_any, position}
use Rattle.std.specs.Option.{option_map, option_or}
use Rattle.ma_geom.specs.Coordinates.{Coordinates}
use Rattle.ma_geom.specs.Lines.{is_zero}
use Rattle.ma_geom.specs.Volume.{dot}
use Rattle.ma_cells.specs.Tetrahedron.{Tetrahedron}
use Rattle.overlap_check.specs.Forms.{forms}

-- whether no number of the first list is above one of the second
abbrev pub is_below : List ℤ → List ℤ → Bool
is_below vs ws = list_all (λ v. list_all (λ w. int_le v w) ws) vs

-- the same, either way round
abbrev pub are_apart : List ℤ → List ℤ → Bool
are_apart vs ws = is_below vs ws || is_below ws vs

-- whether a form that isn't zero has over the one a greatest value that is at most its least value over the other
abbrev pub is_apart : Coordinates → List Coordinates → List Coordinates → Bool
is_apart n a b = not (is_zero n) && are_apart (map (dot n) a) (map (dot n) b)

-- whether a form separates the two, which are given by their corners. They may touch
unfoldable pub are_separated : List Coordinates → List Coordinates → Bool
are_separated a b = list_any (λ n. is_apart n a b) (forms a b)

abbrev pub overlap : Tetrahedron → Tetrahedron → Bool
overlap t u = not (are_separated t.corners u.corners)

-- two places of a list, in a list with one more item in front
abbrev pub further : ℕ × ℕ → ℕ × ℕ
further pair = (suc pair.0, suc pair.1)

-- the lexicographically least pair of places, counted from 0, whose tetrahedra overlap: the first with the first later one that it overlaps, else the least pair of the others
abbrev pub first_overlap_of : List Tetrahedron → Option (ℕ × ℕ)
first_overlap_of [] = None
first_overlap_of (t ∷ ts) = option_or (option_map (λ j. (0, suc j)) (position (overlap t) ts)) (option_map further (first_overlap_of ts))

-- The least quality of tetrahedra.
use Rattle.std.specs.Prelude.{ℕ, List, [], ◌∷◌, map, min}
use Rattle.ma_geom.specs.Quality.{quality}
use Rattle.ma_cells.specs.Tetrahedron.{Tetrahedron}

-- the least of these numbers, zero where there is none
abbrev pub least : List ℕ → ℕ
least [] = 0
least (n ∷ []) = n
least (n ∷ m ∷ ns) = min n (least (m ∷ ns))

-- the least quality of these tetrahedra
unfoldable pub worst : List Tetrahedron → ℕ
worst tets = least (map (λ tet. quality tet.corners) tets)

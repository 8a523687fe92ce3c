-- Steps of the code: no public contract names them, and nothing here is a promise.
--     lesser_ghosts      the ghosts of parts with lesser numbers
use Rattle.std.specs.Prelude.{ℕ, nat_lt, List, filter, map}
use Rattle.ma_cells.specs.Tetrahedron.{Tetrahedron}
use Rattle.part_store.specs.Labelled.{label_of, tet_of}

abbrev pub lesser_ghosts : ℕ → List (Tetrahedron × ℕ) → List Tetrahedron
lesser_ghosts part ghosts = map tet_of (filter (λ ghost. nat_lt (label_of ghost) part) ghosts)

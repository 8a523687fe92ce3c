-- What the code asks of tetrahedra by their positions in a list. No public contract names these.
use Rattle.std.specs.Prelude.{ℕ, true, Bool, not, List, [], ◌∷◌, ◌++◌, slice_set, get_or, if◌then◌else◌}
use Rattle.std.specs.List.{list_all}
use Rattle.ma_cells.specs.Tetrahedron.{Tetrahedron}

-- whether nothing at these positions is taken
abbrev pub are_free : List Bool → List ℕ → Bool
are_free taken positions = list_all (λ i. not (get_or taken i true)) positions

-- what is taken once these positions are
abbrev pub taken_at : List ℕ → List Bool → List Bool
taken_at [] taken = taken
taken_at (i ∷ is) taken = taken_at is (slice_set taken i true)

-- the tetrahedra that are left by what is taken
abbrev pub left_by : List Bool → List Tetrahedron → List Tetrahedron
left_by [] tets = []
left_by (b ∷ taken) [] = []
left_by (b ∷ taken) (tet ∷ tets) = (if b then [] else tet ∷ []) ++ left_by taken tets

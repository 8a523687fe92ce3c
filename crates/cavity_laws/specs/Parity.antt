-- Which triangles an odd number of the cones of a cavity have as a face.
use Rattle.std.specs.Prelude.{pos, ◌≡◌, Bool, true, false, ◌||◌, if◌then◌else◌, List, [], ◌∷◌, map}
use Rattle.std.specs.List.{AllByRecursion, flat_map}
use Rattle.ma_geom.specs.Coordinates.{Coordinates, place_cmp}
use Rattle.ma_geom.specs.Lines.{is_flat}
use Rattle.ma_cells.specs.Ascending.{ascending_of, has}
use Rattle.ma_cells.specs.Faces.{faces_of}
use Rattle.mesh_laws.specs.Parity.{AreSameOddly}
use Rattle.cavity_laws.specs.Cavity.{Facet, balance, facets_of}

-- the faces of tetrahedra, the corners of each in ascending order. One that two of them have is listed twice
abbrev pub sorted_faces : List (List Coordinates) → List (List Coordinates)
sorted_faces tets = map (ascending_of place_cmp) (flat_map faces_of tets)

-- the cone from v over a facet, flat or not. None where the face is an inner one or has v as a corner
abbrev pub any_cone_of : Coordinates → (List Coordinates → Bool) → Facet → List (List Coordinates)
any_cone_of v inner x = if inner x.face || has place_cmp v x.face then [] else (v ∷ x.face) ∷ []

-- the cones of a cavity and with them those that are flat, over the faces in a plane with v that don't have v as a corner
abbrev pub any_cones : Coordinates → (List Coordinates → Bool) → List (List Coordinates) → List (List Coordinates)
any_cones v inner tets = flat_map (any_cone_of v inner) (flat_map facets_of tets)

-- where inner faces are balanced, the cones, the flat ones with them, and the tetrahedra have the same faces an odd number of times
abbrev pub CavityKeepsParity : Type 0
CavityKeepsParity = (v : Coordinates) (inner : List Coordinates → Bool) (tets : List (List Coordinates)) → AllByRecursion (λ corners. is_flat corners ≡ false) tets
    → ((face : List Coordinates) → inner face ≡ true → balance face (flat_map facets_of tets) ≡ pos 0)
    → AreSameOddly (sorted_faces (any_cones v inner tets)) (sorted_faces tets)

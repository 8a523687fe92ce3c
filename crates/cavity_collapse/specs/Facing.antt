-- What is around a vertex a, found once for all places that a may go to: the other corners, and the faces across from a.
use Rattle.std.specs.Prelude.{◌≡◌, ℕ, Bool, true, not, ◌||◌, nat_le, List, [], ◌∷◌, map, Option, Some, None, if◌then◌else◌}
use Rattle.std.specs.List.{flat_map, list_all}
use Rattle.std.specs.Option.{option_to_list}
use Rattle.ma_geom.specs.Coordinates.{Coordinates, place_cmp}
use Rattle.ma_geom.specs.Quality.{quality}
use Rattle.ma_geom.specs.Signs.{same_sign, side_of}
use Rattle.ma_geom.specs.declared.signs.Sign.TheVariants.{Zero}
use Rattle.ma_cells.specs.Ascending.{ascending_of, has}
use Rattle.ma_cells.specs.Stars.{besides}
use Rattle.ma_cells.specs.Tetrahedron.{Tetrahedron, is_flat}
use Rattle.cavity_collapse.specs.declared.facing.SidedFace.{SidedFace}

-- the other corners of the tetrahedra around some places
abbrev pub others_of : (at : List Coordinates) → List Tetrahedron → List Coordinates
others_of at star = ascending_of place_cmp (flat_map (λ tet. besides at tet.corners) star)

-- the face of a tetrahedron across from its corner a, and the side of the face on which a lies
abbrev pub facing : Coordinates → Tetrahedron → SidedFace
facing a tet = record { face = besides (a ∷ []) tet.corners; side = side_of (besides (a ∷ []) tet.corners) a }

-- the same of each tetrahedron around a
abbrev pub facing_of : List Tetrahedron → (a : Coordinates) → List SidedFace
facing_of star a = map (facing a) star

-- no side is zero
abbrev pub have_sides : List SidedFace → Bool
have_sides faces = list_all (λ one. not (same_sign one.side Zero)) faces

-- these are the faces across from a, and a lies in the plane of none
abbrev pub AreFacing : List Tetrahedron → (a : Coordinates) → List SidedFace → Type 0
AreFacing star a faces = (faces ≡ facing_of star a) × (have_sides faces ≡ true)

-- each face either has v, or v lies on its side
abbrev pub are_seen_from : Coordinates → List SidedFace → Bool
are_seen_from v faces = list_all (λ one. has place_cmp v one.face || same_sign (side_of one.face v) one.side) faces

-- the quality of the tetrahedron from v over a face, unless it is flat
abbrev pub cone_quality : Coordinates → List Coordinates → Option ℕ
cone_quality v face = if is_flat (ascending_of place_cmp (v ∷ face)) then None else Some (quality (ascending_of place_cmp (v ∷ face)))

-- the qualities of the tetrahedra from v over these faces
abbrev pub cone_qualities : Coordinates → List SidedFace → List ℕ
cone_qualities v faces = flat_map (λ one. option_to_list (cone_quality v one.face)) faces

-- a number, if it is at least that one
abbrev pub if_at_least : (floor n : ℕ) → Option ℕ
if_at_least floor n = if nat_le floor n then Some n else None

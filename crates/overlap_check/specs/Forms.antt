-- The linear forms that may separate two tetrahedra, which are given by their corners.
use Rattle.std.specs.Prelude.{pos, List, [], ◌∷◌, ◌++◌, map}
use Rattle.std.specs.List.{flat_map}
use Rattle.ma_geom.specs.Coordinates.{Coordinates}
use Rattle.ma_geom.specs.Lines.{normal}
use Rattle.ma_geom.specs.Volume.{cross, minus}
use Rattle.ma_cells.specs.Faces.{edges_of, faces_of}

abbrev pub zero_vector : Coordinates
zero_vector = record { x = pos 0; y = pos 0; z = pos 0 }

-- the three coordinates
abbrev pub x_axis : Coordinates
x_axis = record { x = pos 1; y = pos 0; z = pos 0 }

abbrev pub y_axis : Coordinates
y_axis = record { x = pos 0; y = pos 1; z = pos 0 }

abbrev pub z_axis : Coordinates
z_axis = record { x = pos 0; y = pos 0; z = pos 1 }

abbrev pub axes : List Coordinates
axes = x_axis ∷ y_axis ∷ z_axis ∷ []

-- a vector at right angles to a triangle
abbrev pub normal_of : List Coordinates → Coordinates
normal_of (a ∷ b ∷ c ∷ []) = normal a b c
normal_of _ = zero_vector

-- the vector along an edge
abbrev pub step_of : List Coordinates → Coordinates
step_of (a ∷ b ∷ []) = minus b a
step_of _ = zero_vector

abbrev pub normals_of : List Coordinates → List Coordinates
normals_of corners = map normal_of (faces_of corners)

abbrev pub steps_of : List Coordinates → List Coordinates
steps_of corners = map step_of (edges_of corners)

-- each vector of the one list times each of the other
abbrev pub products : List Coordinates → List Coordinates → List Coordinates
products us vs = flat_map (λ u. map (cross u) vs) us

-- the normals of the faces, and the cross products of an edge of the one with an edge of the other
abbrev pub slants : List Coordinates → List Coordinates → List Coordinates
slants a b = (normals_of a ++ normals_of b) ++ products (steps_of a) (steps_of b)

-- all 47: the coordinates and these
abbrev pub forms : List Coordinates → List Coordinates → List Coordinates
forms a b = axes ++ slants a b

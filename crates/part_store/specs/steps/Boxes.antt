-- Boxes around places, which the code asks before it looks anything up. No public contract names these.
use Rattle.std.specs.Prelude.{Bool, false, ◌&&◌, int_le, List, [], ◌∷◌}
use Rattle.std.specs.Int.{int_max, int_min}
use Rattle.std.specs.List.{list_all}
use Rattle.ma_geom.specs.Coordinates.{Coordinates}
use Rattle.ma_cells.specs.Tetrahedron.{Tetrahedron}
use Rattle.part_store.specs.declared.bounds.Bounds.{Bounds}
use Rattle.part_store.specs.declared.bounds.Bounds.TheVariants.{Nothing, Between}

-- whether no coordinate of the first place is above that of the second
abbrev pub is_under : Coordinates → Coordinates → Bool
is_under p q = int_le p.x q.x && (int_le p.y q.y && int_le p.z q.z)

-- the lesser of two places in each coordinate
abbrev pub lower : Coordinates → Coordinates → Coordinates
lower p q = record { x = int_min p.x q.x; y = int_min p.y q.y; z = int_min p.z q.z }

-- the greater of two places in each coordinate
abbrev pub upper : Coordinates → Coordinates → Coordinates
upper p q = record { x = int_max p.x q.x; y = int_max p.y q.y; z = int_max p.z q.z }

abbrev pub is_within : Bounds → Coordinates → Bool
is_within Nothing place = false
is_within (Between least most) place = is_under least place && is_under place most

abbrev pub are_within : Bounds → List Coordinates → Bool
are_within bounds places = list_all (is_within bounds) places

-- the box with one place more
abbrev pub with_place : Bounds → Coordinates → Bounds
with_place Nothing place = Between place place
with_place (Between least most) place = Between (lower least place) (upper most place)

abbrev pub with_all : Bounds → List Coordinates → Bounds
with_all bounds [] = bounds
with_all bounds (place ∷ places) = with_all (with_place bounds place) places

abbrev pub with_tets : Bounds → List Tetrahedron → Bounds
with_tets bounds [] = bounds
with_tets bounds (tet ∷ tets) = with_tets (with_all bounds tet.corners) tets

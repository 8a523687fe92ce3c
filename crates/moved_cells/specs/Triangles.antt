-- Triangles in whichever planes around a vertex a that is moved to v.
use Rattle.std.specs.Prelude.{◌↔◌, List, map}
use Rattle.std.specs.List.{flat_map}
use Rattle.std.specs.Option.{option_to_list}
use Rattle.ma_geom.specs.Coordinates.{Coordinates}
use Rattle.ma_geom.specs.Rational.{IsPoint, Rational}
use Rattle.ma_cover.specs.Classification.{AnyByRecursion, IsOnCell}
use Rattle.plane_laws.specs.Planes.{CanMoveInPlanes, Edge}
use Rattle.cavity_collapse.specs.Surfaces.{corners_across}
use Rattle.moved_cells.specs.Cells.{AreCells, moved_cells}

-- an edge by its ends
abbrev pub edge_of : Coordinates × Coordinates → Edge
edge_of ends = record { x = ends.0; y = ends.1 }

-- the edges across from a in the triangles at a
abbrev pub link_of : Coordinates → List (List Coordinates) → List Edge
link_of a triangles = flat_map (λ t. map edge_of (option_to_list (corners_across a t))) triangles

-- where a may go to v in the planes of its triangles, each point is on one of the triangles just if it is on one once a is at v
abbrev pub TrianglesKeepPoints : Type 0
TrianglesKeepPoints = (a v : Coordinates) (triangles : List (List Coordinates)) → AreCells 3 triangles → CanMoveInPlanes a v (link_of a triangles)
    → (p : Rational) → IsPoint p → AnyByRecursion (IsOnCell p) triangles ↔ AnyByRecursion (IsOnCell p) (moved_cells a v triangles)

-- Premises of the laws that are met: two segments on a line, and two triangles with an edge in common, of which the middle of a side goes to an end.
use Rattle.std.proofs.Common.{inl, inr, List, [], ◌∷◌, refl}
use Rattle.std.specs.Prelude.{◌↔◌, ℤ, pos}
use Rattle.ma_geom.specs.Coordinates.{Coordinates}
use Rattle.ma_geom.specs.Lines.{normal}
use Rattle.ma_geom.specs.Rational.{IsPoint, Rational}
use Rattle.ma_geom.specs.Volume.{vol6}
use Rattle.ma_cover.specs.Classification.{AnyByRecursion, IsOnCell}
use Rattle.plane_laws.specs.Planes.{CanMoveInPlanes}
use Rattle.moved_cells.specs.Triangles.{link_of}
use Rattle.moved_cells.proofs.Segments.{segments_keep_points}
use Rattle.moved_cells.proofs.Triangles.{triangles_keep_points}

abbrev at : ℤ → ℤ → Coordinates
at x z = record { x = x; y = pos 0; z = z }

abbrev o : Coordinates
o = at (pos 0) (pos 0)

abbrev z : Coordinates
z = at (pos 0) (pos 2)

abbrev m : Coordinates
m = at (pos 1) (pos 0)

abbrev x : Coordinates
x = at (pos 2) (pos 0)

abbrev segments : List (List Coordinates)
segments = (o ∷ m ∷ []) ∷ (m ∷ x ∷ []) ∷ []

on_segments : (p : Rational) → AnyByRecursion (IsOnCell p) segments ↔ AnyByRecursion (IsOnCell p) ((o ∷ x ∷ []) ∷ [])
unfolding normal
on_segments p = segments_keep_points m o segments ((refl, refl), ((refl, refl), tt)) (inr refl) p

abbrev triangles : List (List Coordinates)
triangles = (o ∷ z ∷ m ∷ []) ∷ (z ∷ m ∷ x ∷ []) ∷ []

can_move : CanMoveInPlanes m o (link_of m triangles)
unfolding normal vol6
can_move = record {
  planes = (refl, (refl, tt));
  bent = (refl, (refl, tt));
  edges = ((inl refl, inr refl), ((inr refl, inl refl), tt));
  turns = ((λ no _. absurd (no refl)), ((λ _ _. refl), tt));
}

on_triangles : (p : Rational) → IsPoint p → AnyByRecursion (IsOnCell p) triangles ↔ AnyByRecursion (IsOnCell p) ((o ∷ z ∷ x ∷ []) ∷ [])
on_triangles p is_point = triangles_keep_points m o triangles ((refl, refl), ((refl, refl), tt)) can_move p is_point

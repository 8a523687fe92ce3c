-- Premises of the laws that are met: a place between two, a vertex within a square that goes to a corner of it, and one on a crease that goes along it.
use Rattle.std.proofs.Common.{inl, inr, [], ◌∷◌, List, refl, arith}
use Rattle.std.specs.Prelude.{ℤ, pos, negsuc}
use Rattle.std.proofs.lemmas.Int.{ints}
use Rattle.ma_geom.specs.Coordinates.{Coordinates}
use Rattle.ma_geom.specs.Lines.{normal}
use Rattle.ma_geom.specs.Rational.{IsPoint, Rational}
use Rattle.ma_geom.specs.Volume.{vol6}
use Rattle.ma_cover.specs.Classification.{IsOnSegment}
use Rattle.ma_cover.specs.OnFaces.{IsOnTriangle}
use Rattle.plane_laws.specs.Planes.{CanMoveInPlane, CanMoveInPlanes, Edge, IsOnFan, link_without}
use Rattle.plane_laws.proofs.Fans.{plane_keeps_points}
use Rattle.plane_laws.proofs.Lines.{segment_has_two_parts}
use Rattle.plane_laws.proofs.Planes.{planes_keep_points}

abbrev at : ℤ → ℤ → ℤ → Coordinates
at x y z = record { x = x; y = y; z = z }

abbrev edge : Coordinates → Coordinates → Edge
edge x y = record { x = x; y = y }

abbrev o : Coordinates
o = at (pos 0) (pos 0) (pos 0)

abbrev east : Coordinates
east = at (pos 2) (pos 0) (pos 0)

abbrev north : Coordinates
north = at (pos 0) (pos 2) (pos 0)

abbrev west : Coordinates
west = at (negsuc 1) (pos 0) (pos 0)

abbrev south : Coordinates
south = at (pos 0) (negsuc 1) (pos 0)

abbrev top : Coordinates
top = at (pos 0) (pos 0) (pos 2)

-- halfway from o to west
abbrev p : Rational
p = record { x = negsuc 0; y = pos 0; z = pos 0; w = pos 1 }

p_is_point : IsPoint p
p_is_point = record { positive = omega (arith, ints) }

on_edge : IsOnTriangle o north west p
on_edge = record {
  i = pos 1;
  j = pos 0;
  k = pos 1;
  n = pos 2;
  first = omega (arith, ints);
  second = omega (arith, ints);
  third = omega (arith, ints);
  positive = omega (arith, ints);
  w = refl;
  x = refl;
  y = refl;
  z = refl;
}

-- ---- on a line
on_part : IsOnSegment o west p
on_part = record { i = pos 1; j = pos 1; n = pos 2; first = omega (arith, ints); second = omega (arith, ints); positive = omega (arith, ints); w = refl; x = refl; y = refl; z = refl }

pub on_whole : IsOnSegment east west p
unfolding normal
on_whole = (segment_has_two_parts east o west refl p).1 (inr on_part)

-- ---- in a plane
abbrev square : List Edge
square = edge east north ∷ edge north west ∷ edge west south ∷ edge south east ∷ []

can_move_in_plane : CanMoveInPlane (at (pos 0) (pos 0) (pos 1)) o east square
unfolding normal
can_move_in_plane = record {
  plane = refl;
  target = refl;
  corners = ((refl, refl), ((refl, refl), ((refl, refl), ((refl, refl), tt))));
  bent = (refl, (refl, (refl, (refl, tt))));
  edges = ((inl refl, inr refl), ((inr refl, inl refl), ((inl refl, inr refl), ((inr refl, inl refl), tt))));
  turns = ((λ no _. absurd (no refl)), ((λ _ _. refl), ((λ _ _. refl), ((λ _ no. absurd (no refl)), tt))));
}

pub still_on_square : IsOnFan east (link_without east square) p
still_on_square = (plane_keeps_points (at (pos 0) (pos 0) (pos 1)) o east square can_move_in_plane p p_is_point refl).0 (inr (inl on_edge))

-- ---- along a crease, with a rim in each of two planes
abbrev crease : List Edge
crease = edge east north ∷ edge north west ∷ edge east top ∷ edge top west ∷ []

can_move_in_planes : CanMoveInPlanes o east crease
unfolding normal vol6
can_move_in_planes = record {
  planes = (refl, (refl, (refl, (refl, tt))));
  bent = (refl, (refl, (refl, (refl, tt))));
  edges = ((inl refl, inr refl), ((inr refl, inl refl), ((inl refl, inr refl), ((inr refl, inl refl), tt))));
  turns = ((λ no _. absurd (no refl)), ((λ _ _. refl), ((λ no _. absurd (no refl)), ((λ _ _. refl), tt))));
}

pub still_on_crease : IsOnFan east (link_without east crease) p
still_on_crease = (planes_keep_points o east crease can_move_in_planes p p_is_point).0 (inr (inl on_edge))

-- The pieces of a tetrahedron are corners of tetrahedra.
use Rattle.std.proofs.Common.{◌≡◌, ℕ, zero, suc, ◌<◌, true, List, [], ◌∷◌, length, get_or, Some, refl, arith}
use Rattle.std.proofs.lemmas.Bool.{and_parts}
use Rattle.std.specs.Prelude.{ℤ}
use Rattle.std.specs.Cmp.Lexicographic.{slice_cmp}
use Rattle.std.specs.List.{AllByRecursion, list_all}
use Rattle.ma_geom.specs.Coordinates.{Coordinates, place_cmp}
use Rattle.ma_cells.specs.Ascending.{ascending_of}
use Rattle.ma_cells.specs.Tetrahedron.{are_corners, tetrahedron_of}
use Rattle.ma_cells.proofs.Corners.{ascending_is, corners_rise, corners_span}
use Rattle.split_templates.specs.Pieces.{bisected_along}
use Rattle.split_templates.proofs.Corners.{IsTetrahedron, tetrahedron_pieces}
use Rattle.split_templates.proofs.Shapes.{in_turn}
use Rattle.ma_cells.proofs.SetItems.{all-ascending_of}

all_corners : (pieces : List (List Coordinates)) → AllByRecursion IsTetrahedron pieces → list_all are_corners pieces ≡ true
all_corners [] h = refl
all_corners (t ∷ ts) h = rw (h.0) (all_corners ts h.1)

pub all_are_corners : (mask : ℕ) (corners : List Coordinates) → are_corners corners ≡ true
    → list_all are_corners (ascending_of (slice_cmp place_cmp) (bisected_along (in_turn mask corners) (corners ∷ []))) ≡ true
all_are_corners mask corners h =
    let pieces = bisected_along (in_turn mask corners) (corners ∷ []) in
    all_corners (ascending_of (slice_cmp place_cmp) pieces) (all-ascending_of (slice_cmp place_cmp) IsTetrahedron pieces (tetrahedron_pieces mask corners h))

-- corners are the corners of their tetrahedron
pub tetrahedron_is : (places : List Coordinates) (phys elem phys' elem' : ℤ) → phys' ≡ phys → elem' ≡ elem → are_corners places ≡ true
    → tetrahedron_of places phys' elem' ≡ Some (record { corners = places; phys = phys; elem = elem })
tetrahedron_is places phys elem phys' elem' p e h = rw (ascending_is places (corners_rise places h), corners_span places h, p, e) refl

pub corners_at : (pieces : List (List Coordinates)) (i : ℕ) (d : List Coordinates) → i < length pieces → list_all are_corners pieces ≡ true → are_corners (get_or pieces i d) ≡ true
corners_at [] i d within h = absurd (omega arith)
corners_at (t ∷ ts) zero d within h = (and_parts (are_corners t) (list_all are_corners ts) h).0
corners_at (t ∷ ts) (suc i) d within h = corners_at ts i d (omega arith) (and_parts (are_corners t) (list_all are_corners ts) h).1

-- What holds of all tetrahedra that are separated, which are given by their corners.
use Rattle.std.specs.Prelude.{◌≡◌, ◌≤◌, true, List, None}
use Rattle.std.specs.List.{AllPairs}
use Rattle.ma_geom.specs.Coordinates.{Coordinates}
use Rattle.ma_geom.specs.Rational.{Rational}
use Rattle.ma_cells.specs.Tetrahedron.{Tetrahedron, are_corners}
use Rattle.ma_cover.specs.Cover.{whole_cover}
use Rattle.ma_cover.specs.Inside.{is_inside}
use Rattle.ma_cover.specs.Sound.{LieOnBothSides}
use Rattle.overlap_check.specs.Overlap.{are_separated, first_overlap_of}

-- no point is within both
abbrev pub SeparatedShareNoPoint : Type 0
SeparatedShareNoPoint = (p : Rational) (a b : List Coordinates) → are_separated a b ≡ true → is_inside p a ≡ true → is_inside p b ≡ true → ⊥

-- where each tetrahedron of a list is separated from each later one, no point is within more than one
abbrev pub SeparatedCoverOnce : Type 0
SeparatedCoverOnce = (p : Rational) (tets : List Tetrahedron) → AllPairs (λ t u. are_separated t.corners u.corners ≡ true) tets → whole_cover p tets ≤ 1

-- the same of a list in which no two overlap
abbrev pub NoOverlapCoversOnce : Type 0
NoOverlapCoversOnce = (p : Rational) (tets : List Tetrahedron) → first_overlap_of tets ≡ None → whole_cover p tets ≤ 1

-- two that are separated lie on different sides of a face that they share
abbrev pub SeparatedLieOnBothSides : Type 0
SeparatedLieOnBothSides = (a b : List Coordinates) → are_corners a ≡ true → are_corners b ≡ true → are_separated a b ≡ true → LieOnBothSides a b

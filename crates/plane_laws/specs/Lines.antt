-- Segments on a line.
use Rattle.std.specs.Prelude.{◌≡◌, ◌⊎◌, ◌↔◌, true}
use Rattle.ma_geom.specs.Coordinates.{Coordinates}
use Rattle.ma_geom.specs.Lines.{between}
use Rattle.ma_geom.specs.Rational.{Rational}
use Rattle.ma_cover.specs.Classification.{IsOnSegment}

-- where a lies strictly between c and v, a point is on the segment from c to v just if it is on that from c to a or on that from a to v
abbrev pub SegmentHasTwoParts : Type 0
SegmentHasTwoParts = (c a v : Coordinates) → between c a v ≡ true → (p : Rational) → IsOnSegment c v p ↔ (IsOnSegment c a p ⊎ IsOnSegment a v p)

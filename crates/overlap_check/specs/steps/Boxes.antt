-- Steps of the code and no promise: boxes around tetrahedra.
use Rattle.std.specs.Prelude.{ℕ, ℤ, ◌≡◌, ◌<◌, Bool, true, ◌&&◌, ◌≤ℤ◌, int_le, int_lt, negsuc, slice_index_or, length, List, map}
use Rattle.std.specs.List.{list_all}
use Rattle.ma_geom.specs.Coordinates.{Coordinates}
use Rattle.ma_geom.specs.Volume.{dot}
use Rattle.ma_cells.specs.Tetrahedron.{Tetrahedron}
use Rattle.overlap_check.specs.Forms.{x_axis, y_axis, z_axis}
use Rattle.overlap_check.specs.declared.boxes.BoundingBox.{BoundingBox}
use Rattle.overlap_check.specs.declared.boxes.Span.{Span}
use Rattle.overlap_check.specs.steps.Pairs.{corners_at}

-- the least number that 32 bits store
abbrev pub least_stored : ℤ
least_stored = negsuc 2_147_483_647

abbrev pub is_within : Span → ℤ → Bool
is_within s v = int_le s.low v && int_le v s.high

-- whether two spans share more than an end
abbrev pub spans_meet : Span → Span → Bool
spans_meet s t = int_lt s.low t.high && int_lt t.low s.high

-- that the span has the values of the form at these places
pub record IsSpan (n : Coordinates) (places : List Coordinates) (s : Span) : Type 0 where
  pub all : list_all (is_within s) (map (dot n) places) ≡ true
  pub stored : least_stored ≤ℤ s.low

-- that the box is around the corners
pub record IsBox (corners : List Coordinates) (r : BoundingBox) : Type 0 where
  pub x : IsSpan x_axis corners r.x
  pub y : IsSpan y_axis corners r.y
  pub z : IsSpan z_axis corners r.z

abbrev pub boxes_meet : BoundingBox → BoundingBox → Bool
boxes_meet r s = spans_meet r.x s.x && (spans_meet r.y s.y && spans_meet r.z s.z)

-- that each tetrahedron has its box at its place
pub record AreBoxes (tets : List Tetrahedron) (boxes : List BoundingBox) : Type 0 where
  pub count : length boxes ≡ length tets
  pub each : (i : ℕ) (d : BoundingBox) → i < length tets → IsBox (corners_at tets i) (slice_index_or boxes i d)

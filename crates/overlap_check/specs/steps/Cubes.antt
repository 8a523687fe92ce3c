-- Steps of the code and no promise: a grid of cubes of the side 2^k, and which of them boxes touch.
use Rattle.std.specs.Prelude.{ℕ, ℤ, pos, true, false, ◌≡◌, ◌<◌, ◌≤◌, ◌-◌, ◌/◌, ◌^◌, ◌-ℤ◌, ◌⊎◌, max, unsigned_abs, slice_index_or, length, List}
use Rattle.std.specs.Int.{int_max}
use Rattle.std.specs.List.{Contains}
use Rattle.ma_cells.specs.Tetrahedron.{Tetrahedron}
use Rattle.overlap_check.specs.declared.boxes.BoundingBox.{BoundingBox}
use Rattle.overlap_check.specs.declared.boxes.Span.{Span}
use Rattle.overlap_check.specs.declared.cubes.Cube.{Cube}
use Rattle.overlap_check.specs.declared.cubes.Touch.{Touch}
use Rattle.overlap_check.specs.steps.Boxes.{least_stored}
use Rattle.overlap_check.specs.steps.Pairs.{are_overlapping}

-- how far a coordinate is above the least number that is stored
abbrev pub height : ℤ → ℕ
height v = unsigned_abs (v -ℤ least_stored)

-- the cubes along an axis that a span touches: from that of its least number to that of the last before its greatest, or the one cube of a span of one number
abbrev pub first_touched : ℕ → Span → ℕ
first_touched k s = height s.low / 2 ^ k

abbrev pub last_touched : ℕ → Span → ℕ
last_touched k s = max (height s.low) (height s.high - 1) / 2 ^ k

pub record IsTouched (k : ℕ) (s : Span) (n : ℕ) : Type 0 where
  pub low : first_touched k s ≤ n
  pub high : n ≤ last_touched k s

-- that the box touches the cube
pub record Touches (k : ℕ) (r : BoundingBox) (c : Cube) : Type 0 where
  pub x : IsTouched k r.x c.x
  pub y : IsTouched k r.y c.y
  pub z : IsTouched k r.z c.z

-- the cube that has the greater of the low ends of two spans, along an axis
abbrev pub meeting : ℕ → Span → Span → ℕ
meeting k s t = height (int_max s.low t.low) / 2 ^ k

-- the one cube in which a pair of boxes is looked at
abbrev pub home : ℕ → BoundingBox → BoundingBox → Cube
home k r s = record { x = meeting k r.x s.x; y = meeting k r.y s.y; z = meeting k r.z s.z }

-- that the new list has what the old one has, what is wanted, and nothing else
pub record Adds (old new : List Touch) (wanted : Touch → Type 0) : Type 0 where
  pub kept : (t : Touch) → Contains old t → Contains new t
  pub added : (t : Touch) → wanted t → Contains new t
  pub only : (t : Touch) → Contains new t → Contains old t ⊎ wanted t

-- that the touch is of a cube in the block from x, y and z to before x', y' and z', by this tetrahedron
pub record IsInBlock (x x' y y' z z' tet : ℕ) (t : Touch) : Type 0 where
  pub x_from : x ≤ t.cube.x
  pub x_before : t.cube.x < x'
  pub y_from : y ≤ t.cube.y
  pub y_before : t.cube.y < y'
  pub z_from : z ≤ t.cube.z
  pub z_before : t.cube.z < z'
  pub by : t.tet ≡ tet

-- that the touch is one of a box at a place before n
pub record IsTouchBefore (k n : ℕ) (boxes : List BoundingBox) (t : Touch) : Type 0 where
  pub before : t.tet < n
  pub touches : (d : BoundingBox) → Touches k (slice_index_or boxes t.tet d) t.cube

-- that touches of one cube stand together, and ascend by tetrahedra there
pub record AreInOrder (touches : List Touch) : Type 0 where
  pub together : (i j k : ℕ) (d : Touch) → i ≤ j → j ≤ k → k < length touches → (slice_index_or touches i d).cube ≡ (slice_index_or touches k d).cube → (slice_index_or touches j d).cube ≡ (slice_index_or touches i d).cube
  pub rising : (i j : ℕ) (d : Touch) → i ≤ j → j < length touches → (slice_index_or touches i d).cube ≡ (slice_index_or touches j d).cube → (slice_index_or touches i d).tet ≤ (slice_index_or touches j d).tet

-- what a definition names where a list has no box
abbrev pub no_box : BoundingBox
no_box = let none : Span = record { low = pos 0; high = pos 0 } in record { x = none; y = none; z = none }

abbrev pub home_of : ℕ → List BoundingBox → ℕ → ℕ → Cube
home_of k boxes i j = home k (slice_index_or boxes i no_box) (slice_index_or boxes j no_box)

-- what a definition names where a list has no touch
abbrev pub no_touch : Touch
no_touch = record { cube = record { x = 0; y = 0; z = 0 }; tet = 0 }

abbrev pub touch_at : List Touch → ℕ → Touch
touch_at touches i = slice_index_or touches i no_touch

-- that none of the first n tetrahedra overlaps that of the touch, as far as these are touches of its cube and it is their home
abbrev pub AreNoPartners : ℕ → List Tetrahedron → List BoundingBox → Touch → List Touch → ℕ → Type 0
AreNoPartners k tets boxes t later n =
    (m : ℕ) → m < n → ((l : ℕ) → l ≤ m → (touch_at later l).cube ≡ t.cube) → home_of k boxes t.tet (touch_at later m).tet ≡ t.cube
    → are_overlapping tets t.tet (touch_at later m).tet ≡ false

-- that p and q are the places of touches of one cube, as all between them, and that it is the home of the two, which overlap
pub record IsFoundAt (k : ℕ) (tets : List Tetrahedron) (boxes : List BoundingBox) (touches : List Touch) (p q : ℕ) : Type 0 where
  pub before : p < q
  pub within : q < length touches
  pub together : (l : ℕ) → p ≤ l → l ≤ q → (touch_at touches l).cube ≡ (touch_at touches p).cube
  pub at_home : home_of k boxes (touch_at touches p).tet (touch_at touches q).tet ≡ (touch_at touches p).cube
  pub overlap : are_overlapping tets (touch_at touches p).tet (touch_at touches q).tet ≡ true

-- that no pair begins before `least` that is found at one of the first n touches
abbrev pub AreNotBefore : ℕ → List Tetrahedron → List BoundingBox → List Touch → ℕ → ℕ → Type 0
AreNotBefore k tets boxes touches n least = (p q : ℕ) → p < n → IsFoundAt k tets boxes touches p q → least ≤ (touch_at touches p).tet

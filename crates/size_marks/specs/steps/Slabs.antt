-- Steps of the code: no public contract names them, and nothing here is a promise. Axes cut into
-- slabs, and rows of bits that tell which boxes meet a slab.
use Rattle.std.specs.Prelude.{Option, None, Some, [], ℕ, ◌≡◌, ◌+◌, ◌/◌, ◌%◌, ◌<◌, ◌≤◌, true, false, ℤ, ◌<ℤ◌, ◌≤ℤ◌, List, length, bit_and, slice_index_or}
use Rattle.std.specs.Int.{bit_at}
use Rattle.ma_geom.specs.Coordinates.{Coordinates}
use Rattle.size_marks.specs.declared.looking.BoxIndex.{BoxIndex}
use Rattle.size_marks.specs.declared.slabs.Axis.{Axis}
use Rattle.size_marks.specs.declared.slabs.Axis.TheVariants.{X, Y, Z}
use Rattle.size_marks.specs.Field.{BoxedSize, holds, is_in_extent, is_size, last_or, sizes_at}

abbrev pub coordinate : Axis → Coordinates → ℤ
coordinate X p = p.x
coordinate Y p = p.y
coordinate Z p = p.z

-- slab s has the coordinates from the cut before it on and below the cut behind it
pub record IsInSlab (cuts : List ℤ) (s : ℕ) (c : ℤ) : Type 0 where
  pub within : s ≤ length cuts
  pub before : (k : ℕ) → k + 1 ≡ s → slice_index_or cuts k c ≤ℤ c
  pub behind : s < length cuts → c <ℤ slice_index_or cuts s c

-- bit k of a row, which lies in words of 64 bits
abbrev pub IsMarked : List ℕ → ℕ → Type 0
IsMarked row k = bit_at (slice_index_or row (k / 64) 0) (k % 64) ≡ 1

-- box k is marked in the row if its extent has a coordinate of the slab
abbrev pub MarksBox : List BoxedSize → Axis → List ℤ → ℕ → List ℕ → ℕ → Type 0
MarksBox boxes axis cuts s row k = (d : BoxedSize) (c : ℤ) → IsInSlab cuts s c
    → is_in_extent (coordinate axis (slice_index_or boxes k d).low) (coordinate axis (slice_index_or boxes k d).high) c ≡ true → IsMarked row k

-- the first n boxes are
abbrev pub MarksFirst : List BoxedSize → Axis → List ℤ → ℕ → List ℕ → ℕ → Type 0
MarksFirst boxes axis cuts s row n = (k : ℕ) → k < n → MarksBox boxes axis cuts s row k

-- for each slab of the cuts a row that marks all boxes that meet it
pub record IsIndexAlong (boxes : List BoxedSize) (axis : Axis) (cuts : List ℤ) (rows : List (List ℕ)) : Type 0 where
  pub long : length rows ≡ length cuts + 1
  pub marks : (s : ℕ) (d : List ℕ) → s < length rows → MarksFirst boxes axis cuts s (slice_index_or rows s d) (length boxes)

-- the row is that of a slab with this coordinate
abbrev pub HasSlab : List ℤ → List (List ℕ) → ℤ → List ℕ → Type 0
HasSlab cuts rows c row = (s : ℕ) × (s < length rows) × IsInSlab cuts s c × (row ≡ slice_index_or rows s row)

-- the bits of a block of 64 boxes that are set in all three rows
abbrev pub common_word : List ℕ → List ℕ → List ℕ → ℕ → ℕ
common_word x y z block = bit_and (bit_and (slice_index_or x block 0) (slice_index_or y block 0)) (slice_index_or z block 0)

-- bit j of the mask is set where box j holds the place
abbrev pub MasksHolders : List BoxedSize → ℕ → Coordinates → Type 0
MasksHolders boxes mask p = (j : ℕ) (d : BoxedSize) → j < length boxes → holds (slice_index_or boxes j d) p ≡ true → bit_at mask j ≡ 1

-- the size of box n if there is one and it holds the place
abbrev pub IsSizeIfHolds : List BoxedSize → ℕ → Coordinates → Option ℕ → Type 0
IsSizeIfHolds boxes n p None = (d : BoxedSize) → n < length boxes → holds (slice_index_or boxes n d) p ≡ false
IsSizeIfHolds boxes n p (Some size) = (b : BoxedSize) × (n < length boxes) × (b ≡ slice_index_or boxes n b) × (holds b p ≡ true) × (size ≡ b.size) × (is_size size ≡ true)

-- the size for the place, whatever comes before these boxes, or that none of them holds it
abbrev pub DecidesSize : List BoxedSize → Coordinates → Option ℕ → Type 0
DecidesSize boxes p None = sizes_at boxes p ≡ []
DecidesSize boxes p (Some size) = ((d : ℕ) → last_or d (sizes_at boxes p) ≡ size) × (is_size size ≡ true)

-- an index of the boxes along each axis
pub record IsIndexed (boxes : List BoxedSize) (index : BoxIndex) : Type 0 where
  pub x : IsIndexAlong boxes X index.x.cuts.items index.x.rows.items
  pub y : IsIndexAlong boxes Y index.y.cuts.items index.y.rows.items
  pub z : IsIndexAlong boxes Z index.z.cuts.items index.z.rows.items

-- the index, if there is one, is one of the boxes
abbrev pub IsIndexOf : List BoxedSize → Option BoxIndex → Type 0
IsIndexOf boxes None = Unit {0}
IsIndexOf boxes (Some index) = IsIndexed boxes index

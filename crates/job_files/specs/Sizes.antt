-- The size file: 'default H', then lines 'box X0 Y0 Z0 X1 Y1 Z1 H'.
--     most_boxes       how many boxes a file may have
--     size_of          what a word says as a size, in the line of this number
--     coordinate_of    what a word says as a coordinate
--     default_of       what the first line says
--     box_of           what a line says as a box
--     further_of       what a line says that has so many before it, of those behind the first
--     field_of         what the file says
use Rattle.std.specs.Prelude.{ℕ, Bool, false, ◌&&◌, nat_le, if◌then◌else◌, codes, ℤ, pos, negsuc, unsigned_abs, List, [], ◌∷◌, Option, Some, None, Result, Ok, Err}
use Rattle.std.specs.List.{enumerate_from}
use Rattle.std.specs.Str.{bytes_eq}
use Rattle.ma_geom.specs.Coordinates.{Coordinates, limit}
use Rattle.ma_text.specs.Lines.{numbered_lines}
use Rattle.ma_text.specs.Numbers.{written}
use Rattle.ma_text.specs.Words.{words_of}
use Rattle.msh_read.specs.Trying.{◌>>=◌, ◌>>◌, check, each}
use Rattle.size_marks.specs.Field.{BoxedSize, Field, is_size}
use Rattle.job_files.specs.declared.fault.JobFault.{JobFault}
use Rattle.job_files.specs.declared.fault.JobFault.TheVariants.{BadLine, SizeOutOfRange, TooManyBoxes}
use Rattle.job_files.specs.Answer.{or_bad_line}

abbrev pub most_boxes : ℕ
most_boxes = 10000

-- a number of any size is no wrong word
abbrev pub size_written : ℕ → Option ℤ → Result ℕ JobFault
size_written line None = Err (BadLine line)
size_written line (Some (pos n)) = if is_size n then Ok n else Err (SizeOutOfRange line)
size_written line (Some (negsuc n)) = Err (SizeOutOfRange line)

unfoldable pub size_of : ℕ → List ℕ → Result ℕ JobFault
size_of line word = size_written line (written word)

abbrev pub coordinate_written : Option ℤ → Option ℤ
coordinate_written None = None
coordinate_written (Some c) = if nat_le (unsigned_abs c) limit then Some c else None

unfoldable pub coordinate_of : List ℕ → Option ℤ
coordinate_of word = coordinate_written (written word)

-- two words, and eight as a keyword, two corners and a size
abbrev pub two_of : List (List ℕ) → Option (List ℕ × List ℕ)
two_of (a ∷ b ∷ []) = Some (a, b)
two_of words = None

abbrev pub Corner : Type 0
Corner = List ℕ × List ℕ × List ℕ

abbrev pub eight_of : List (List ℕ) → Option (List ℕ × Corner × Corner × List ℕ)
eight_of (a ∷ b ∷ c ∷ d ∷ e ∷ f ∷ g ∷ h ∷ []) = Some (a, (b, c, d), (e, f, g), h)
eight_of words = None

unfoldable pub corner_of : ℕ → Corner → Result Coordinates JobFault
corner_of line words = do
  x ← or_bad_line line (coordinate_of words.0)
  y ← or_bad_line line (coordinate_of words.1)
  z ← or_bad_line line (coordinate_of words.2)
  Ok (record { x = x; y = y; z = z })

unfoldable pub default_of : ℕ → List ℕ → Result ℕ JobFault
default_of line bytes = do
  words ← or_bad_line line (two_of (words_of bytes))
  check (BadLine line) (bytes_eq words.0 (codes "default"))
  size_of line words.1

unfoldable pub box_of : ℕ → List ℕ → Result BoxedSize JobFault
box_of line bytes = do
  words ← or_bad_line line (eight_of (words_of bytes))
  check (BadLine line) (bytes_eq words.0 (codes "box"))
  low ← corner_of line words.1
  high ← corner_of line words.2
  size ← size_of line words.3
  Ok (record { low = low; high = high; size = size })

-- whether the first word is 'box'
abbrev pub begins_with_box : List (List ℕ) → Bool
begins_with_box [] = false
begins_with_box (word ∷ words) = bytes_eq word (codes "box")

-- the lines before it, if they have no fault, all have boxes
unfoldable pub further_of : ℕ × (ℕ × List ℕ) → Result BoxedSize JobFault
further_of entry =
    if nat_le most_boxes entry.0 && begins_with_box (words_of entry.1.1) then Err (TooManyBoxes entry.1.0)
    else box_of entry.1.0 entry.1.1

-- the default, and the boxes of all other lines
unfoldable pub field_behind : ℕ → List (ℕ × List ℕ) → Result Field JobFault
field_behind default others = do
  boxes ← each further_of (enumerate_from 0 others)
  Ok (record { default = default; boxes = boxes })

unfoldable pub field_in_lines : List (ℕ × List ℕ) → Result Field JobFault
field_in_lines [] = Err (BadLine 1)
field_in_lines (first ∷ others) = do
  default ← default_of first.0 first.1
  field_behind default others

unfoldable pub field_of : List ℕ → Result Field JobFault
field_of bytes = field_in_lines (numbered_lines bytes)

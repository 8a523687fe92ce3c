-- Lines of '$Nodes': 'NUMBER X Y Z'.
use Rattle.std.specs.Prelude.{ℕ, Bool, not, nat_le, if◌then◌else◌, ℤ, unsigned_abs, List, Result, Ok, Err}
use Rattle.std.specs.List.{list_any}
use Rattle.std.specs.Ordering.{int_eq}
use Rattle.ma_geom.specs.Coordinates.{Coordinates, limit}
use Rattle.ma_text.specs.declared.number.NumberFault.{NumberFault}
use Rattle.ma_text.specs.declared.number.NumberFault.TheVariants.{Empty, NotWhole as NoWhole, TooBig}
use Rattle.ma_text.specs.Numbers.{whole_of}
use Rattle.ma_text.specs.Words.{words_of}
use Rattle.msh_read.specs.declared.fault.MshKind.{MshKind}
use Rattle.msh_read.specs.declared.fault.MshKind.TheVariants.{BadLine, NodeTwice, NotWhole, OutOfRange}
use Rattle.msh_read.specs.Lines.{four_of, number_in_word, is_number}
use Rattle.msh_read.specs.Trying.{◌>>=◌, ◌>>◌, check, or_fault}

-- a coordinate is at most 2^30 in absolute value
abbrev pub coordinate_within : Result ℤ NumberFault → Result ℤ MshKind
coordinate_within (Ok value) = if nat_le (unsigned_abs value) limit then Ok value else Err OutOfRange
coordinate_within (Err TooBig) = Err OutOfRange
coordinate_within (Err NoWhole) = Err NotWhole
coordinate_within (Err Empty) = Err NotWhole

unfoldable pub coordinate_of : List ℕ → Result ℤ MshKind
coordinate_of word = coordinate_within (whole_of word)

unfoldable pub place_in_words : List ℕ → List ℕ → List ℕ → Result Coordinates MshKind
place_in_words first second third = do
  x ← coordinate_of first
  y ← coordinate_of second
  z ← coordinate_of third
  Ok (record { x = x; y = y; z = z })

-- whether the number is among those that were used before
abbrev pub is_used : List ℤ → ℤ → Bool
is_used used number = list_any (int_eq number) used

-- a node's number and its place
unfoldable pub node_of : List ℤ → List ℕ → Result (ℤ × Coordinates) MshKind
node_of used line = do
  words ← or_fault BadLine (four_of (words_of line))
  number ← number_in_word words.0
  check BadLine (is_number number)
  check NodeTwice (not (is_used used number))
  place ← place_in_words words.1 words.2 words.3
  Ok (number, place)

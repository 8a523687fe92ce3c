-- What lines say that stand in any section.
use Rattle.std.specs.Prelude.{ℕ, Bool, false, not, ◌==◌, ◌&&◌, nat_lt, nat_le, if◌then◌else◌, ℤ, pos, negsuc, codes, List, [], ◌∷◌, length, take, drop, Option, Some, None, Result, Ok, Err}
use Rattle.std.specs.Str.{bytes_eq}
use Rattle.ma_text.specs.Numbers.{digits_of}
use Rattle.ma_text.specs.Words.{words_of}
use Rattle.msh_read.specs.declared.fault.MshKind.{MshKind}
use Rattle.msh_read.specs.declared.fault.MshKind.TheVariants.{OtherVersion, Binary, BadLine}
use Rattle.msh_read.specs.Trying.{◌>>=◌, ◌>>◌, check, or_fault}

-- ---- words

-- the one word, the three or the four
abbrev pub one_of : List (List ℕ) → Option (List ℕ)
one_of (a ∷ []) = Some a
one_of words = None

abbrev pub three_of : List (List ℕ) → Option (List ℕ × List ℕ × List ℕ)
three_of (a ∷ b ∷ c ∷ []) = Some (a, b, c)
three_of words = None

abbrev pub four_of : List (List ℕ) → Option (List ℕ × List ℕ × List ℕ × List ℕ)
four_of (a ∷ b ∷ c ∷ d ∷ []) = Some (a, b, c, d)
four_of words = None

abbrev pub begins_with : List ℕ → List ℕ → Bool
begins_with front bytes = bytes_eq (take (length front) bytes) front

-- ---- numbers

-- what is read, or BadLine where it isn't read
abbrev pub or_bad_line : {A E : Type 0} → Result A E → Result A MshKind
or_bad_line (Ok x) = Ok x
or_bad_line (Err fault) = Err BadLine

-- the number that a word writes
unfoldable pub number_in_word : List ℕ → Result ℤ MshKind
number_in_word word = or_bad_line (digits_of word)

-- from -2^31 to 2^31 - 1
abbrev pub is_tag : ℤ → Bool
is_tag (pos n) = nat_lt n 2147483648
is_tag (negsuc n) = nat_lt n 2147483648

-- what a node or an element may have as its number
abbrev pub is_number : ℤ → Bool
is_number (pos n) = nat_le 1 n && nat_le n 2147483647
is_number (negsuc n) = false

-- a number that isn't negative
abbrev pub natural : ℤ → Option ℕ
natural (pos n) = Some n
natural (negsuc n) = None

-- ---- headers and ends

-- what stands behind the '$' (36) of a header's word
abbrev pub behind_dollar : List ℕ → Option (List ℕ)
behind_dollar [] = None
behind_dollar (first ∷ []) = None
behind_dollar (first ∷ second ∷ rest) =
    if first == 36 && not (begins_with (codes "End") (second ∷ rest)) then Some (second ∷ rest) else None

-- a header's name: the line '$NAME', where NAME doesn't begin with 'End'
unfoldable pub header_of : List ℕ → Result (List ℕ) MshKind
header_of line = do
  word ← or_fault BadLine (one_of (words_of line))
  or_fault BadLine (behind_dollar word)

-- whether a word is '$EndNAME'
abbrev pub is_end : List ℕ → Option (List ℕ) → Bool
is_end name None = false
is_end name (Some word) = begins_with (codes "$End") word && bytes_eq (drop 4 word) name

-- whether a line ends the section of this name
unfoldable pub closes : List ℕ → List ℕ → Bool
closes name line = is_end name (one_of (words_of line))

-- ---- the format, '2.2 0 8', and counts

unfoldable pub format_of : List ℕ → Result (Unit {0}) MshKind
format_of line = do
  words ← or_fault BadLine (three_of (words_of line))
  check OtherVersion (bytes_eq words.0 (codes "2.2"))
  check Binary (not (bytes_eq words.1 (codes "1")))
  check BadLine (bytes_eq words.1 (codes "0"))
  check BadLine (bytes_eq words.2 (codes "8"))

unfoldable pub count_of : List ℕ → Result ℕ MshKind
count_of line = do
  word ← or_fault BadLine (one_of (words_of line))
  number ← number_in_word word
  or_fault BadLine (natural number)

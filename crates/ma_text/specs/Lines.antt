-- The lines of a file, and their numbers.
use Rattle.std.specs.Prelude.{ℕ, ◌+◌, Bool, not, ◌==◌, ◌&&◌, if◌then◌else◌, List, [], ◌∷◌, length, filter}
use Rattle.std.specs.List.{enumerate_from, list_all, onto_first}
use Rattle.ma_text.specs.Blanks.{is_blank}

-- A line ends at a line feed, and a carriage return just before it belongs to the end. What stands behind the last line
-- feed is a line where there is anything.
unfoldable pub lines_of : List ℕ → List (List ℕ)
lines_of [] = []
lines_of (byte ∷ []) = if byte == 10 then [] ∷ [] else (byte ∷ []) ∷ []
lines_of (byte ∷ next ∷ bytes) =
    if byte == 10 then [] ∷ lines_of (next ∷ bytes)
    else (if byte == 13 && next == 10 then [] ∷ lines_of bytes
    else onto_first byte (lines_of (next ∷ bytes)))

-- nothing, or blanks alone
abbrev pub is_blank_line : List ℕ → Bool
is_blank_line line = list_all is_blank line

-- the lines with their numbers, without those that are blank
abbrev pub numbered : ℕ → List (List ℕ) → List (ℕ × List ℕ)
numbered first lines = filter (λ line. not (is_blank_line line.1)) (enumerate_from first lines)

-- the lines of a file that aren't blank, with their numbers from 1
abbrev pub numbered_lines : List ℕ → List (ℕ × List ℕ)
numbered_lines bytes = numbered 1 (lines_of bytes)

-- the number that the end of a file has
abbrev pub end_number : List ℕ → ℕ
end_number bytes = 1 + length (lines_of bytes)

-- what is still to be taken of a file's lines, and the number of its end
pub record LinesLeft : Type 0 where
  pub lines : List (ℕ × List ℕ)
  pub end : ℕ

-- bytes whose first line has the number
abbrev pub lines_left : ℕ → List ℕ → LinesLeft
lines_left first bytes = record { lines = numbered first (lines_of bytes); end = first + length (lines_of bytes) }

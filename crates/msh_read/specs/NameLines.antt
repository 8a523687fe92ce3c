-- Lines of '$PhysicalNames': 'DIMENSION NUMBER "TEXT"'.
use Rattle.std.specs.Prelude.{ℕ, ◌+◌, Bool, ◌==◌, ◌&&◌, nat_le, ℤ, List, take, drop, position, Option, Result, Ok}
use Rattle.std.specs.Option.{option_map}
use Rattle.ma_text.specs.Lines.{is_blank_line}
use Rattle.ma_text.specs.Words.{cut_word}
use Rattle.msh_read.specs.declared.fault.MshKind.{MshKind}
use Rattle.msh_read.specs.declared.fault.MshKind.TheVariants.{BadLine}
use Rattle.msh_read.specs.GroupNames.{GroupName}
use Rattle.msh_read.specs.Lines.{number_in_word, is_tag, natural}
use Rattle.msh_read.specs.Trying.{◌>>=◌, ◌>>◌, check, or_fault}

-- '"'
abbrev pub is_quote : ℕ → Bool
is_quote byte = byte == 34

-- what stands before a position, and what behind it
abbrev pub cut_around : List ℕ → ℕ → List ℕ × List ℕ
cut_around bytes index = (take index bytes, drop (index + 1) bytes)

-- what stands before the first '"', and what behind it
abbrev pub cut_at_quote : List ℕ → Option (List ℕ × List ℕ)
cut_at_quote bytes = option_map (cut_around bytes) (position is_quote bytes)

-- the text between two '"', where nothing but blanks stands before and behind them
unfoldable pub quoted_text : List ℕ → Result (List ℕ) MshKind
quoted_text bytes = do
  opened ← or_fault BadLine (cut_at_quote bytes)
  closed ← or_fault BadLine (cut_at_quote opened.1)
  check BadLine (is_blank_line opened.0 && is_blank_line closed.1)
  Ok closed.0

-- the first word as a number, and what stands behind it
unfoldable pub number_in_front : List ℕ → Result (ℤ × List ℕ) MshKind
number_in_front bytes = do
  cut ← or_fault BadLine (cut_word bytes)
  number ← number_in_word cut.0
  Ok (number, cut.1)

unfoldable pub name_of : List ℕ → Result GroupName MshKind
name_of line = do
  first ← number_in_front line
  second ← number_in_front first.1
  text ← quoted_text second.1
  dimension ← or_fault BadLine (natural first.0)
  check BadLine (nat_le dimension 3)
  check BadLine (is_tag second.0)
  Ok (record { dimension = dimension; number = second.0; text = text })

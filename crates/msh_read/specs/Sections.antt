-- A file's lines cut into sections.
use Rattle.std.specs.Prelude.{ℕ, Bool, true, false, if◌then◌else◌, List, [], ◌∷◌, Result, Ok, Err}
use Rattle.msh_read.specs.Lines.{closes, header_of}
use Rattle.msh_read.specs.declared.fault.MshKind.{MshKind}

-- a line that isn't blank, with its number
abbrev pub NumberedLine : Type 0
NumberedLine = ℕ × List ℕ

-- Where a section ends: the number of the line '$EndNAME', or, where there is no such line, that of the file's end.
pub record SectionEnd : Type 0 where
  pub at : ℕ
  pub is_written : Bool

-- A section: its header, the lines behind the header, and the end.
pub record Section : Type 0 where
  pub header : NumberedLine
  pub lines : List NumberedLine
  pub end : SectionEnd

-- What stands behind a header: the lines of its section, the end, and further sections.
pub record BehindHeader : Type 0 where
  pub lines : List NumberedLine
  pub end : SectionEnd
  pub others : List Section

-- whether a line ends the section with this name, if a header has given it one
abbrev pub ends_section : Result (List ℕ) MshKind → List ℕ → Bool
ends_section (Ok name) line = closes name line
ends_section (Err kind) line = false

abbrev mutual
  -- The sections of a file, or of what is behind a section's end, where the file's end has the number. The first line is
  -- a header, whatever it says, and its section goes to the first line that ends it.
  pub sections_of : ℕ → List NumberedLine → List Section
  sections_of end [] = []
  sections_of end (header ∷ lines) =
      let behind = behind_header end (header_of header.1) lines in
      record { header = header; lines = behind.lines; end = behind.end } ∷ behind.others

  pub behind_header : ℕ → Result (List ℕ) MshKind → List NumberedLine → BehindHeader
  behind_header end name [] = record { lines = []; end = record { at = end; is_written = false }; others = [] }
  behind_header end name (line ∷ lines) =
      if ends_section name line.1 then record { lines = []; end = record { at = line.0; is_written = true }; others = sections_of end lines }
      else (let behind = behind_header end name lines in record behind { lines = line ∷ behind.lines })

-- One line after the other.
use Rattle.std.proofs.Common.{◌≡◌, ℕ, ◌+◌, ◌<◌, ◌^◌, List, [], length, refl, ◌∙◌}
use Rattle.ma_text.specs.Lines.{LinesLeft, lines_of, numbered}
use Rattle.ma_text.proofs.LineCuts.{lines_of-nil}

-- What is still to be taken is what the bytes have, whose first line has the number.
pub record IsLeft (left : LinesLeft) (number : ℕ) (bytes : List ℕ) : Type 0 where
  pub lines : left.lines ≡ numbered number (lines_of bytes)
  pub end : left.end ≡ number + length (lines_of bytes)
  pub bound : number + length bytes < 2 ^ 64

-- nothing is left
pub is_over : (left : LinesLeft) (number : ℕ) (bytes : List ℕ) → bytes ≡ [] → IsLeft left number bytes → (left.lines ≡ []) × (numbered number (lines_of bytes) ≡ [])
is_over left number bytes none is =
    let empty : numbered number (lines_of bytes) ≡ [] = rw (none, lines_of-nil) refl in
    (is.lines ∙ empty, empty)

-- The picks by which letters are taken.
--     Picks          the picks, and how many of them were used
--     next_of        the next pick, and 0 where they have run out
--     after_pick     what a use leaves
use Rattle.std.specs.Prelude.{ℕ, ◌+◌, List, length, min, slice_index_or}

pub record Picks : Type 0 where
  pub picks : List ℕ
  pub next : ℕ

abbrev pub next_of : Picks → ℕ
next_of s = slice_index_or s.picks s.next 0

abbrev pub after_pick : Picks → Picks
after_pick s = record s { next = min (s.next + 1) (length s.picks) }

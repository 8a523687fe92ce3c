use Rattle.std.proofs.Common.{◌≡◌, ◌++◌, ℕ, filter}
use Rattle.std.specs.List.{flat_map}
use Rattle.ma_geom.specs.Coordinates.{place_cmp}
use Rattle.ma_cells.specs.Ascending.{has}
use Rattle.ma_cells.specs.Cells.{CellMark}
use Rattle.letters.specs.declared.letter.Post.{Post}
use Rattle.directory.specs.Posting.{least_corner}
use Rattle.directory.proofs.replies.marks_at.Given as goal

-- those so far, and those of the posts that are left
abbrev pub invariant-loop-post : goal.invariant-loop-post
invariant-loop-post l =
    l.marks.items ++ flat_map (λ (entry : ℕ × Post). filter (λ (mark : CellMark). has place_cmp (least_corner mark.cell) l.places) entry.1.marks) l.post-iterator
    ≡ flat_map (λ (entry : ℕ × Post). filter (λ (mark : CellMark). has place_cmp (least_corner mark.cell) l.places) entry.1.marks) l.posts.entries

-- Rows that mark boxes.
use Rattle.std.proofs.Common.{ℕ, ◌≡◌, ◌+◌, ◌<◌, true, List, length, get_or, ℤ, sym, subst, below_more}
use Rattle.std.proofs.lemmas.List.{get_or_read}
use Rattle.size_marks.specs.declared.slabs.Axis.{Axis}
use Rattle.size_marks.specs.Field.{BoxedSize, is_in_extent}
use Rattle.size_marks.specs.steps.Slabs.{coordinate, IsInSlab, IsMarked, MarksBox, MarksFirst}

-- where the next box is marked if it meets the slab, and no mark is lost, one more box is marked
pub marks_more : (boxes : List BoxedSize) (axis : Axis) (cuts : List ℤ) (s : ℕ) (row row' : List ℕ) (n : ℕ) (b : BoxedSize) → n < length boxes → b ≡ get_or boxes n b
    → MarksFirst boxes axis cuts s row n → ((i : ℕ) → IsMarked row i → IsMarked row' i)
    → ((c : ℤ) → IsInSlab cuts s c → is_in_extent (coordinate axis b.low) (coordinate axis b.high) c ≡ true → IsMarked row' n)
    → MarksFirst boxes axis cuts s row' (n + 1)
marks_more boxes axis cuts s row row' n b within is first kept here =
    below_more (MarksBox boxes axis cuts s row') n (λ k low d c in_slab met. kept k (first k low d c in_slab met))
    (λ d c in_slab met.
    let Meets : BoxedSize → Type 0 = λ a. is_in_extent (coordinate axis a.low) (coordinate axis a.high) c ≡ true in
    here c in_slab (subst Meets (sym (get_or_read boxes n b within is d)) met))

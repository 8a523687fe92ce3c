-- Edges of a cell, which are listed by their two ends: which are marked, and their order.
use Rattle.std.specs.Prelude.{ℕ, ◌+◌, ◌*◌, ◌/◌, ◌%◌, ◌==◌, ℤ, pos, Bool, false, List, [], ◌∷◌, if◌then◌else◌}
use Rattle.std.specs.declared.cmp.Ordering.{Ordering}
use Rattle.std.specs.Cmp.Lexicographic.{slice_cmp}
use Rattle.std.specs.Ordering.{int_cmp, ordering_then}
use Rattle.ma_geom.specs.Coordinates.{Coordinates, place_cmp}
use Rattle.ma_geom.specs.Lengths.{len2}
use Rattle.size_marks.specs.Field.{Field, is_long}

-- the squared length of an edge
abbrev pub edge_len2 : List Coordinates → ℤ
edge_len2 (a ∷ b ∷ []) = len2 a b
edge_len2 _ = pos 0

-- the longer edge first, and of two of one length the one with the lesser ends
abbrev pub edge_cmp : List Coordinates → List Coordinates → Ordering
edge_cmp e f = ordering_then (int_cmp (edge_len2 f) (edge_len2 e)) (slice_cmp place_cmp e f)

-- those items whose bit is set, where the lowest bit is the first item's
abbrev pub chosen : {X : Type 0} → ℕ → List X → List X
chosen mask [] = []
chosen mask (x ∷ xs) = if mask % 2 == 1 then x ∷ chosen (mask / 2) xs else chosen (mask / 2) xs

-- the bits by which those items are chosen that pass a test
abbrev pub mask_of : {X : Type 0} → (X → Bool) → List X → ℕ
mask_of test [] = 0
mask_of test (x ∷ xs) = (if test x then 1 else 0) + 2 * mask_of test xs

-- whether an edge is long
abbrev pub is_long_edge : Field → List Coordinates → Bool
is_long_edge field (a ∷ b ∷ []) = is_long field a b
is_long_edge field _ = false

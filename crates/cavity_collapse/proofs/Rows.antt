-- The definitions at values that were worked out by hand.
use Rattle.std.proofs.Common.{◌≡◌, ℕ, ◌==◌, pos, List, [], ◌∷◌, map, filter, refl}
use Rattle.std.specs.List.{count_by, flat_map}
use Rattle.ma_geom.specs.Coordinates.{Coordinates}
use Rattle.ma_geom.specs.Lengths.{len2}
use Rattle.ma_geom.specs.Lines.{normal}
use Rattle.ma_geom.specs.Quality.{longest2, quality_of, root}
use Rattle.ma_geom.specs.Volume.{vol6}
use Rattle.ma_cells.specs.Cells.{CellMark}
use Rattle.ma_cells.specs.Faces.{faces_of, holds_all}
use Rattle.ma_cells.specs.Tetrahedron.{Tetrahedron}
use Rattle.ma_cells.specs.Worst.{worst}
use Rattle.ma_cells.specs.declared.cell.Cell.TheVariants.{Point, Seg, Tri}
use Rattle.size_marks.specs.Field.{is_long, is_short}
use Rattle.cavity_rank.specs.declared.verdict.Verdict.{Verdict}
use Rattle.cavity_rank.specs.declared.verdict.Verdict.TheVariants.{Legal, Illegal}
use Rattle.cavity_collapse.specs.Collapsing.{collapsed, moved_marks}
use Rattle.cavity_collapse.specs.Judging.{judged_collapse}

abbrev at_ : ℕ → ℕ → ℕ → Coordinates
at_ x y z = record { x = pos x; y = pos y; z = pos z }

abbrev tet : Coordinates → Coordinates → Coordinates → Coordinates → Tetrahedron
tet a b c d = record { corners = a ∷ b ∷ c ∷ d ∷ []; phys = pos 0; elem = pos 1 }

-- the faces of one tetrahedron alone, marked as on reading
abbrev outer : List Tetrahedron → List CellMark
outer tets =
    flat_map (λ tet. map (λ face. record { cell = Tri face; phys = pos 0; elem = pos 0 }) (filter (λ face. count_by (λ (other : Tetrahedron). holds_all other.corners face) tets == 1) (faces_of tet.corners))) tets

abbrev judged : ℕ → List Tetrahedron → List CellMark → (a v : Coordinates) → Verdict
judged size star marks a v = judged_collapse (record { default = size; boxes = [] }) star marks a v

-- ---- two tetrahedra at the middle of an edge from o to x
abbrev o : Coordinates
o = at_ 0 0 0

abbrev z : Coordinates
z = at_ 0 0 8

abbrev y : Coordinates
y = at_ 0 8 0

abbrev u : Coordinates
u = at_ 4 0 0

abbrev x : Coordinates
x = at_ 8 0 0

abbrev star : List Tetrahedron
star = tet o z y u ∷ tet z y u x ∷ []

abbrev line : Coordinates → Coordinates → CellMark
line a b = record { cell = Seg (a ∷ b ∷ []); phys = pos 0; elem = pos 5 }

abbrev both_lines : List CellMark
both_lines = line o u ∷ line u x ∷ outer star

along_its_line : judged 64 star both_lines u o ≡ Legal 390451572
unfolding worst quality_of root longest2 vol6 len2 normal is_long is_short
along_its_line = refl

with_a_marked_point : judged 64 star (record { cell = Point u; phys = pos 0; elem = pos 7 } ∷ both_lines) u o ≡ Illegal 2
unfolding worst quality_of root longest2 vol6 len2 normal is_long is_short
with_a_marked_point = refl

with_one_line : judged 64 star (line o u ∷ outer star) u o ≡ Illegal 3
unfolding worst quality_of root longest2 vol6 len2 normal is_long is_short
with_one_line = refl

across_its_crease : judged 64 star (outer star) u y ≡ Illegal 4
unfolding worst quality_of root longest2 vol6 len2 normal is_long is_short
across_its_crease = refl

along_its_crease : judged 64 star (outer star) u x ≡ Legal 390451572
unfolding worst quality_of root longest2 vol6 len2 normal is_long is_short
along_its_crease = refl

of_an_edge_that_is_not_short : judged 4 star both_lines u o ≡ Illegal 1
unfolding worst quality_of root longest2 vol6 len2 normal is_long is_short
of_an_edge_that_is_not_short = refl

what_is_left : (collapsed u o star ≡ tet o z y x ∷ []) × (moved_marks u o (line o z ∷ line o u ∷ line u x ∷ []) ≡ line o z ∷ line o x ∷ [])
unfolding vol6
what_is_left = (refl, refl)

-- ---- rows that reach the later tests
abbrev rim : List Tetrahedron
rim =
    tet (at_ 0 0 0) (at_ 8 8 8) (at_ 16 8 8) (at_ 16 8 16) ∷ tet (at_ 0 0 0) (at_ 16 0 0) (at_ 16 8 8) (at_ 16 8 16)
    ∷ tet (at_ 8 8 8) (at_ 16 0 0) (at_ 16 8 8) (at_ 16 16 8) ∷ tet (at_ 8 8 8) (at_ 16 8 8) (at_ 16 8 16) (at_ 16 16 8) ∷ []

off_the_rim_of_a_plane : judged 32 rim (outer rim) (at_ 16 8 8) (at_ 16 0 0) ≡ Illegal 5
unfolding worst quality_of root longest2 vol6 len2 normal is_long is_short
off_the_rim_of_a_plane = refl

abbrev fold : List Tetrahedron
fold =
    tet (at_ 8 8 8) (at_ 8 16 8) (at_ 8 16 16) (at_ 16 16 16) ∷ tet (at_ 8 8 8) (at_ 8 16 16) (at_ 16 0 16) (at_ 16 16 16)
    ∷ tet (at_ 0 16 0) (at_ 8 8 8) (at_ 8 16 8) (at_ 8 16 16) ∷ []

over_a_marked_triangle : judged 32 fold (outer fold) (at_ 8 8 8) (at_ 0 16 0) ≡ Illegal 6
unfolding worst quality_of root longest2 vol6 len2 normal is_long is_short
over_a_marked_triangle = refl

abbrev hidden : List Tetrahedron
hidden =
    tet (at_ 0 0 8) (at_ 0 16 16) (at_ 8 0 0) (at_ 8 0 8) ∷ tet (at_ 0 0 8) (at_ 0 16 16) (at_ 8 0 8) (at_ 8 8 16)
    ∷ tet (at_ 0 16 16) (at_ 8 0 0) (at_ 8 0 8) (at_ 8 8 16) ∷ tet (at_ 8 0 0) (at_ 8 0 8) (at_ 8 8 16) (at_ 16 0 8) ∷ []

past_a_face : judged 32 hidden (outer hidden) (at_ 8 0 8) (at_ 16 0 8) ≡ Illegal 7
unfolding worst quality_of root longest2 vol6 len2 normal is_long is_short
past_a_face = refl

abbrev stretched : List Tetrahedron
stretched = tet (at_ 0 0 0) (at_ 0 0 8) (at_ 0 8 0) (at_ 4 0 0) ∷ tet (at_ 0 0 8) (at_ 0 8 0) (at_ 4 0 0) (at_ 64 0 0) ∷ []

to_a_long_edge : judged 16 stretched (outer stretched) (at_ 4 0 0) (at_ 0 0 0) ≡ Illegal 8
unfolding worst quality_of root longest2 vol6 len2 normal is_long is_short
to_a_long_edge = refl

abbrev needles : List Tetrahedron
needles = tet (at_ 0 0 0) (at_ 10 0 0) (at_ 10 0 2) (at_ 10 2 0) ∷ tet (at_ 10 0 0) (at_ 10 0 2) (at_ 10 2 0) (at_ 20 0 0) ∷ []

to_a_worse_needle : judged 10000 needles (outer needles) (at_ 10 0 0) (at_ 20 0 0) ≡ Illegal 9
unfolding worst quality_of root longest2 vol6 len2 normal is_long is_short
to_a_worse_needle = refl

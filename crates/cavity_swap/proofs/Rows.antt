-- The definitions at values that were worked out by hand.
use Rattle.std.proofs.Common.{◌≡◌, ℕ, pos, List, [], ◌∷◌, refl}
use Rattle.ma_geom.specs.Coordinates.{Coordinates}
use Rattle.ma_geom.specs.Lengths.{len2}
use Rattle.ma_geom.specs.Lines.{normal}
use Rattle.ma_geom.specs.Quality.{longest2, quality_of, root}
use Rattle.ma_geom.specs.Volume.{vol6}
use Rattle.ma_cells.specs.Ascending.{ascending_of}
use Rattle.ma_cells.specs.Cells.{CellMark}
use Rattle.ma_cells.specs.Tetrahedron.{Tetrahedron, tet_cmp}
use Rattle.ma_cells.specs.Worst.{worst}
use Rattle.ma_cells.specs.declared.cell.Cell.TheVariants.{Seg, Tri}
use Rattle.cavity_rank.specs.declared.verdict.Verdict.{Verdict}
use Rattle.cavity_rank.specs.declared.verdict.Verdict.TheVariants.{Legal, Illegal}
use Rattle.cavity_swap.specs.Judging.{judged_pair, judged_swap}
use Rattle.cavity_swap.specs.Rings.{IsRing, edges_across, in_order}
use Rattle.cavity_swap.specs.Swapping.{swapped}

abbrev at_ : ℕ → ℕ → ℕ → Coordinates
at_ x y z = record { x = pos x; y = pos y; z = pos z }

abbrev tet : Coordinates → Coordinates → Coordinates → Coordinates → Tetrahedron
tet a b c d = record { corners = a ∷ b ∷ c ∷ d ∷ []; phys = pos 0; elem = pos 1 }

-- the same in another region
abbrev other : Tetrahedron → Tetrahedron
other tet = record { corners = tet.corners; phys = pos 0; elem = pos 2 }

abbrev face : Coordinates → Coordinates → Coordinates → CellMark
face a b c = record { cell = Tri (a ∷ b ∷ c ∷ []); phys = pos 0; elem = pos 0 }

-- ---- three tetrahedra around the edge from o to b
abbrev o : Coordinates
o = at_ 0 0 0

abbrev t : Coordinates
t = at_ 0 8 8

abbrev s : Coordinates
s = at_ 8 0 8

abbrev r : Coordinates
r = at_ 8 8 0

abbrev b : Coordinates
b = at_ 8 8 8

abbrev around : List Tetrahedron
around = tet o t s b ∷ tet o t r b ∷ tet o s r b ∷ []

abbrev judged : List Tetrahedron → List CellMark → (p q v : Coordinates) → Verdict
judged star marks p q v = judged_swap (ascending_of tet_cmp star) marks (in_order p q) v

ring_of_three : IsRing (edges_across (in_order b o) around) (t ∷ s ∷ r ∷ [])
ring_of_three = refl

edge_to_its_face : judged around [] b o t ≡ Legal 390451572
unfolding worst quality_of root longest2 vol6 len2 normal
edge_to_its_face = refl

what_is_left : swapped t around ≡ tet o t s r ∷ tet t s r b ∷ []
unfolding vol6 normal
what_is_left = refl

-- a tetrahedron that is listed twice is one
twice_is_once : ascending_of tet_cmp (tet o s r b ∷ around) ≡ around
twice_is_once = refl

across_regions : judged (other (tet o t s b) ∷ tet o t r b ∷ tet o s r b ∷ []) [] o b t ≡ Illegal 1
across_regions = refl

at_a_marked_edge : judged around (record { cell = Seg (o ∷ b ∷ []); phys = pos 0; elem = pos 5 } ∷ []) o b t ≡ Illegal 2
at_a_marked_edge = refl

at_a_marked_face : judged around (face o t b ∷ []) o b t ≡ Illegal 2
at_a_marked_face = refl

-- but the outer faces may be marked
in_marked_faces : judged around (face o t s ∷ face t s b ∷ []) o b t ≡ Legal 390451572
unfolding worst quality_of root longest2 vol6 len2 normal
in_marked_faces = refl

past_a_side : judged_pair (tet o s r b ∷ tet o t r b ∷ []) [] s ≡ Illegal 3
unfolding worst quality_of root longest2 vol6 len2 normal
past_a_side = refl

-- ---- pairs
good_enough : judged_pair (tet o (at_ 0 0 16) (at_ 0 16 8) (at_ 16 8 0) ∷ tet (at_ 0 0 16) (at_ 0 16 8) (at_ 8 16 16) (at_ 16 8 0) ∷ []) [] o ≡ Illegal 4
unfolding worst quality_of root longest2 vol6 len2 normal
good_enough = refl

no_better : judged_pair (tet (at_ 8 0 24) (at_ 8 24 0) (at_ 16 8 8) (at_ 16 24 24) ∷ tet (at_ 8 24 0) (at_ 16 8 8) (at_ 16 24 0) (at_ 16 24 24) ∷ []) [] (at_ 8 0 24) ≡ Illegal 5
unfolding worst quality_of root longest2 vol6 len2 normal
no_better = refl

face_to_its_edge : judged_pair (tet (at_ 0 8 0) (at_ 16 0 8) (at_ 16 32 32) (at_ 24 32 0) ∷ tet (at_ 0 8 0) (at_ 16 32 8) (at_ 16 32 32) (at_ 24 32 0) ∷ []) [] (at_ 16 0 8) ≡ Legal 103079215
unfolding worst quality_of root longest2 vol6 len2 normal
face_to_its_edge = refl

-- ---- rings of four and five
abbrev four : List Tetrahedron
four =
    tet (at_ 0 8 8) (at_ 0 16 16) (at_ 8 0 0) (at_ 8 8 0) ∷ tet (at_ 0 8 8) (at_ 0 16 16) (at_ 8 0 0) (at_ 16 0 16)
    ∷ tet (at_ 0 16 16) (at_ 8 0 0) (at_ 8 8 0) (at_ 16 8 16) ∷ tet (at_ 0 16 16) (at_ 8 0 0) (at_ 16 0 16) (at_ 16 8 16) ∷ []

ring_of_four : IsRing (edges_across (in_order (at_ 0 16 16) (at_ 8 0 0)) four) (at_ 0 8 8 ∷ at_ 8 8 0 ∷ at_ 16 8 16 ∷ at_ 16 0 16 ∷ [])
ring_of_four = refl

four_from_the_first : judged four [] (at_ 0 16 16) (at_ 8 0 0) (at_ 0 8 8) ≡ Legal 97612893
unfolding worst quality_of root longest2 vol6 len2 normal
four_from_the_first = refl

four_from_the_second : judged four [] (at_ 0 16 16) (at_ 8 0 0) (at_ 8 8 0) ≡ Illegal 3
unfolding worst quality_of root longest2 vol6 len2 normal
four_from_the_second = refl

abbrev five : List Tetrahedron
five =
    tet (at_ 0 8 16) (at_ 0 16 0) (at_ 0 16 8) (at_ 16 16 0) ∷ tet (at_ 0 8 16) (at_ 0 16 0) (at_ 16 0 0) (at_ 16 16 0)
    ∷ tet (at_ 0 8 16) (at_ 0 16 8) (at_ 8 16 8) (at_ 16 16 0) ∷ tet (at_ 0 8 16) (at_ 8 16 8) (at_ 16 16 0) (at_ 16 16 8)
    ∷ tet (at_ 0 8 16) (at_ 16 0 0) (at_ 16 16 0) (at_ 16 16 8) ∷ []

ring_of_five : IsRing (edges_across (in_order (at_ 0 8 16) (at_ 16 16 0)) five) (at_ 0 16 0 ∷ at_ 0 16 8 ∷ at_ 8 16 8 ∷ at_ 16 16 8 ∷ at_ 16 0 0 ∷ [])
ring_of_five = refl

five_from_the_last : judged five [] (at_ 0 8 16) (at_ 16 16 0) (at_ 16 0 0) ≡ Legal 79536431
unfolding worst quality_of root longest2 vol6 len2 normal
five_from_the_last = refl

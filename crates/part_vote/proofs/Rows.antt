-- The definitions at values that were worked out by hand.
use Rattle.std.proofs.Common.{◌≡◌, ℕ, ◌==◌, pos, List, [], ◌∷◌, map, filter, Some, refl}
use Rattle.std.specs.List.{count_by, flat_map}
use Rattle.ma_geom.specs.Coordinates.{Coordinates}
use Rattle.ma_geom.specs.Lengths.{len2}
use Rattle.ma_geom.specs.Lines.{normal}
use Rattle.ma_geom.specs.Quality.{longest2, quality_of, root}
use Rattle.ma_geom.specs.Volume.{vol6}
use Rattle.ma_cells.specs.Ascending.{ascending_of}
use Rattle.ma_cells.specs.Cells.{CellMark, mark_cmp}
use Rattle.ma_cells.specs.Faces.{faces_of, holds_all}
use Rattle.ma_cells.specs.Tetrahedron.{Tetrahedron}
use Rattle.ma_cells.specs.Worst.{worst}
use Rattle.ma_cells.specs.declared.cell.Cell.TheVariants.{Seg, Tri}
use Rattle.size_marks.specs.Field.{Field, is_long, is_short}
use Rattle.cavity_rank.specs.Operations.{Operation}
use Rattle.cavity_rank.specs.declared.verdict.Kind.TheVariants.{Collapse}
use Rattle.part_store.specs.Labelled.{LabelledMesh, view_of}
use Rattle.part_vote.specs.Leading.{cavity_labels, leader}
use Rattle.part_vote.specs.OwedVotes.{owed_orders, owed_proposals, owed_votes}
use Rattle.part_vote.specs.Voting.{ballots, proposals, won}

-- ---- two tetrahedra at the middle u of a marked line from o to x: part 1 has that at o, part 0 that at x
abbrev at_ : ℕ → ℕ → ℕ → Coordinates
at_ x y z = record { x = pos x; y = pos y; z = pos z }

abbrev o : Coordinates
o = at_ 0 0 0

abbrev z : Coordinates
z = at_ 0 0 8

abbrev y : Coordinates
y = at_ 0 8 0

abbrev u : Coordinates
u = at_ 4 0 0

abbrev x : Coordinates
x = at_ 8 0 0

abbrev tet : Coordinates → Coordinates → Coordinates → Coordinates → Tetrahedron
tet a b c d = record { corners = a ∷ b ∷ c ∷ d ∷ []; phys = pos 0; elem = pos 1 }

abbrev star : List Tetrahedron
star = tet o z y u ∷ tet z y u x ∷ []

abbrev line : Coordinates → Coordinates → CellMark
line a b = record { cell = Seg (a ∷ b ∷ []); phys = pos 0; elem = pos 5 }

-- the faces of one tetrahedron alone, marked as on reading
abbrev outer : List CellMark
outer = flat_map (λ tet. map (λ face. record { cell = Tri face; phys = pos 0; elem = pos 0 }) (filter (λ face. count_by (λ (other : Tetrahedron). holds_all other.corners face) star == 1) (faces_of tet.corners))) star

abbrev mesh : LabelledMesh
mesh = record { tets = (tet o z y u, 1) ∷ (tet z y u x, 0) ∷ []; marks = ascending_of mark_cmp (line o u ∷ line u x ∷ outer) }

abbrev sizes : Field
sizes = record { default = 64; boxes = [] }

abbrev to : Coordinates → Operation
to v = record { at = u ∷ []; apex = v; worst = 390451572 }

-- part 0 leads, since it has the lesser label
labels_at_u : cavity_labels mesh.tets (to o) ≡ 0 ∷ 1 ∷ []
labels_at_u = refl

leader_at_u : leader mesh.tets (to o) ≡ Some 0
leader_at_u = refl

of_part_0 : proposals Collapse sizes (view_of mesh 0) ≡ to o ∷ to x ∷ []
unfolding worst quality_of root longest2 vol6 len2 normal is_long is_short
of_part_0 = refl

of_part_1 : proposals Collapse sizes (view_of mesh 1) ≡ []
unfolding worst quality_of root longest2 vol6 len2 normal is_long is_short
of_part_1 = refl

-- both vote for the first of the two
ballots_of_both : map (λ p. ballots (view_of mesh p) (to o ∷ to x ∷ [])) (0 ∷ 1 ∷ []) ≡ (to o ∷ []) ∷ (to o ∷ []) ∷ []
ballots_of_both = refl

-- with the vote of part 1, and with none
won_by_0 : won (view_of mesh 0) (to o ∷ to x ∷ []) (to o ∷ []) ((1, to o ∷ []) ∷ []) ≡ to o ∷ []
won_by_0 = refl

not_won_by_0 : won (view_of mesh 0) (to o ∷ to x ∷ []) (to o ∷ []) ((0, to o ∷ []) ∷ (1, to x ∷ []) ∷ []) ≡ []
not_won_by_0 = refl

-- what the mesh says that they owe each other
proposed_to_1 : owed_proposals Collapse sizes mesh 0 1 ≡ to o ∷ to x ∷ []
unfolding worst quality_of root longest2 vol6 len2 normal is_long is_short
proposed_to_1 = refl

voted_to_0 : owed_votes Collapse sizes mesh 1 0 ≡ to o ∷ []
unfolding worst quality_of root longest2 vol6 len2 normal is_long is_short
voted_to_0 = refl

ordered_of_1 : owed_orders Collapse sizes mesh 0 1 ≡ to o ∷ []
unfolding worst quality_of root longest2 vol6 len2 normal is_long is_short
ordered_of_1 = refl

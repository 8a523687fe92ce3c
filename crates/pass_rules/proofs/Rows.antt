-- The definitions at values that were worked out by hand.
use Rattle.std.proofs.Common.{◌≡◌, ℕ, ◌==◌, pos, true, false, List, [], ◌∷◌, map, filter, refl}
use Rattle.std.specs.List.{count_by, flat_map}
use Rattle.ma_geom.specs.Coordinates.{Coordinates}
use Rattle.ma_geom.specs.Lengths.{len2}
use Rattle.ma_geom.specs.Lines.{normal}
use Rattle.ma_geom.specs.Quality.{longest2, quality_of, root}
use Rattle.ma_geom.specs.Volume.{vol6}
use Rattle.ma_cells.specs.Ascending.{ascending_of}
use Rattle.ma_cells.specs.Cells.{mark_cmp}
use Rattle.ma_cells.specs.Faces.{faces_of, holds_all}
use Rattle.ma_cells.specs.Tetrahedron.{Tetrahedron}
use Rattle.ma_cells.specs.Worst.{worst}
use Rattle.ma_cells.specs.declared.batch.Batch.{Batch}
use Rattle.ma_cells.specs.declared.cell.Cell.TheVariants.{Tri}
use Rattle.size_marks.specs.Field.{Field, is_long, is_short}
use Rattle.cavity_rank.specs.Operations.{Operation}
use Rattle.cavity_rank.specs.declared.verdict.Kind.TheVariants.{Collapse, Swap}
use Rattle.pass_rules.specs.Choosing.{winners, wins}
use Rattle.pass_rules.specs.Moves.{legal_operations}
use Rattle.pass_rules.specs.Passes.{passed}

abbrev at_ : ℕ → ℕ → ℕ → Coordinates
at_ x y z = record { x = pos x; y = pos y; z = pos z }

abbrev along : ℕ → Coordinates
along x = at_ x 0 0

abbrev y : Coordinates
y = at_ 0 12 0

abbrev z : Coordinates
z = at_ 0 0 12

abbrev tet : Coordinates → Coordinates → Coordinates → Coordinates → Tetrahedron
tet a b c d = record { corners = a ∷ b ∷ c ∷ d ∷ []; phys = pos 0; elem = pos 1 }

abbrev collapse : (a v worst : ℕ) → Operation
collapse a v worst = record { at = along a ∷ []; apex = along v; worst = worst }

abbrev sizes : Field
sizes = record { default = 64; boxes = [] }

-- a mesh with the faces that one tetrahedron alone has marked, as on reading
abbrev mesh_of : List Tetrahedron → Batch
mesh_of tets = record {
  tets = tets;
  marks = ascending_of mark_cmp (flat_map (λ tet. map (λ face. record { cell = Tri face; phys = pos 0; elem = pos 0 }) (filter (λ face. count_by (λ (other : Tetrahedron). holds_all other.corners face) tets == 1) (faces_of tet.corners))) tets);
}

-- ---- three tetrahedra along a line, each with the same edge across
abbrev three : Batch
three = mesh_of (tet (along 0) z y (along 4) ∷ tet z y (along 4) (along 8) ∷ tet z y (along 8) (along 12) ∷ [])

abbrev two : Batch
two = mesh_of (tet (along 0) z y (along 8) ∷ tet z y (along 8) (along 12) ∷ [])

-- both inner vertices may go either way along the line, all with one quality, so that the places decide
of_three : legal_operations Collapse sizes three ≡ collapse 4 0 268435456 ∷ collapse 4 8 268435456 ∷ collapse 8 4 268435456 ∷ collapse 8 12 268435456 ∷ []
unfolding worst quality_of root longest2 vol6 len2 normal is_long is_short
of_three = refl

-- each of them has the middle tetrahedron in its cavity, so one alone wins
one_wins : winners (collapse 4 0 7 ∷ collapse 4 8 7 ∷ collapse 8 4 7 ∷ collapse 8 12 7 ∷ []) three.tets ≡ collapse 4 0 7 ∷ []
one_wins = refl

the_greater_quality_wins : winners (collapse 4 0 7 ∷ collapse 8 12 8 ∷ []) three.tets ≡ collapse 8 12 8 ∷ []
the_greater_quality_wins = refl

-- one that doesn't win keeps others from their tetrahedra
a_loser_is_in_the_way : map (wins (collapse 8 4 9 ∷ collapse 4 0 8 ∷ collapse 0 4 7 ∷ []) three.tets) (collapse 8 4 9 ∷ collapse 4 0 8 ∷ collapse 0 4 7 ∷ []) ≡ true ∷ false ∷ false ∷ []
a_loser_is_in_the_way = refl

after_a_pass : passed Collapse sizes three ≡ two
unfolding worst quality_of root longest2 vol6 len2 normal is_long is_short
after_a_pass = refl

after_two : passed Collapse sizes two ≡ mesh_of (tet (along 0) z y (along 12) ∷ [])
unfolding worst quality_of root longest2 vol6 len2 normal is_long is_short
after_two = refl

-- ---- three tetrahedra around an edge from one corner of a cube to the other
abbrev a : Coordinates
a = at_ 0 0 0

abbrev b : Coordinates
b = at_ 8 8 8

abbrev r : Coordinates
r = at_ 8 8 0

abbrev s : Coordinates
s = at_ 8 0 8

abbrev t : Coordinates
t = at_ 0 8 8

abbrev around : Batch
around = mesh_of (tet a t s b ∷ tet a t r b ∷ tet a s r b ∷ [])

abbrev fine : Field
fine = record { default = 16; boxes = [] }

abbrev swap : (v : Coordinates) → Operation
swap v = record { at = a ∷ b ∷ []; apex = v; worst = 390451572 }

-- the edge may be swapped to each corner of the ring, with one quality, and no face may
of_the_ring : legal_operations Swap fine around ≡ swap t ∷ swap s ∷ swap r ∷ []
unfolding worst quality_of root longest2 vol6 len2 normal
of_the_ring = refl

after_a_swap : passed Swap fine around ≡ mesh_of (tet a t s r ∷ tet t s r b ∷ [])
unfolding worst quality_of root longest2 vol6 len2 normal
after_a_swap = refl

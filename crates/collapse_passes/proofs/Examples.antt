-- A pass of collapses over a sound mesh: two tetrahedra at the middle of an edge, which goes to an end of it.
use Rattle.std.proofs.Common.{◌≡◌, ℕ, List, [], ◌∷◌, map, refl}
use Rattle.std.specs.Prelude.{pos}
use Rattle.ma_geom.specs.Coordinates.{Coordinates}
use Rattle.ma_geom.specs.Lengths.{len2}
use Rattle.ma_geom.specs.Lines.{normal}
use Rattle.ma_geom.specs.Quality.{longest2, quality_of, root}
use Rattle.ma_geom.specs.Volume.{vol6}
use Rattle.ma_cells.specs.Cells.{CellMark}
use Rattle.ma_cells.specs.Tetrahedron.{Tetrahedron}
use Rattle.ma_cells.specs.Worst.{worst}
use Rattle.ma_cells.specs.declared.batch.Batch.{Batch}
use Rattle.ma_cells.specs.declared.cell.Cell.TheVariants.{Tri}
use Rattle.mesh_laws.specs.Adapted.{IsAdapted, IsSoundMesh}
use Rattle.mesh_laws.proofs.Examples.{half_marks, halves, halves_are_sound, halves_not_flat}
use Rattle.mesh_laws.proofs.Sounds.{sound_as_sets}
use Rattle.size_marks.specs.Field.{Field, is_long, is_short}
use Rattle.cavity_rank.specs.declared.verdict.Kind.TheVariants.{Collapse}
use Rattle.pass_rules.specs.Passes.{chosen, passed}
use Rattle.collapse_passes.proofs.Adapts.{collapse_pass_adapts}

abbrev at : ℕ → ℕ → ℕ → Coordinates
at x y z = record { x = pos x; y = pos y; z = pos z }

abbrev o : Coordinates
o = at 0 0 0

abbrev z : Coordinates
z = at 0 0 2

abbrev y : Coordinates
y = at 0 2 0

abbrev m : Coordinates
m = at 1 0 0

abbrev x : Coordinates
x = at 2 0 0

abbrev tet : List Coordinates → Tetrahedron
tet corners = record { corners = corners; phys = pos 1; elem = pos 1 }

abbrev marks_on : List (List Coordinates) → List CellMark
marks_on faces = map (λ face. record { cell = Tri face; phys = pos 2; elem = pos 7 }) faces

-- all faces but that between the two are marked
abbrev mesh : Batch
mesh = record {
  tets = tet (o ∷ z ∷ y ∷ m ∷ []) ∷ tet (z ∷ y ∷ m ∷ x ∷ []) ∷ [];
  marks = marks_on ((o ∷ z ∷ y ∷ []) ∷ (o ∷ z ∷ m ∷ []) ∷ (o ∷ y ∷ m ∷ []) ∷ (z ∷ y ∷ x ∷ []) ∷ (z ∷ m ∷ x ∷ []) ∷ (y ∷ m ∷ x ∷ []) ∷ []);
}

sound : IsSoundMesh mesh
unfolding vol6
sound = record { tetrahedra = refl; cells = refl; sound = sound_as_sets halves half_marks halves_are_sound halves_not_flat }

abbrev field : Field
field = record { default = 64; boxes = [] }

pub is_adapted : IsAdapted mesh (passed Collapse field mesh)
is_adapted = collapse_pass_adapts field mesh sound refl

-- the middle goes to the lesser end
pub goes : chosen Collapse field mesh ≡ record { at = m ∷ []; apex = o; worst = 536870912 } ∷ []
unfolding worst quality_of root longest2 vol6 len2 normal is_long is_short
goes = refl

-- and leaves one tetrahedron, with its four faces marked
pub is_left : passed Collapse field mesh ≡ record {
  tets = tet (o ∷ z ∷ y ∷ x ∷ []) ∷ [];
  marks = marks_on ((o ∷ z ∷ y ∷ []) ∷ (o ∷ z ∷ x ∷ []) ∷ (o ∷ y ∷ x ∷ []) ∷ (z ∷ y ∷ x ∷ []) ∷ []);
}
unfolding worst quality_of root longest2 vol6 len2 normal is_long is_short
is_left = refl

-- Premises of the law that are met, and the marks of cavities at values that were worked out by hand.
use Rattle.std.proofs.Common.{◌≡◌, ℕ, List, [], ◌∷◌, map, refl}
use Rattle.std.specs.Prelude.{pos}
use Rattle.std.specs.List.{AllByRecursion}
use Rattle.ma_geom.specs.Coordinates.{Coordinates}
use Rattle.ma_geom.specs.Volume.{vol6}
use Rattle.ma_cells.specs.Cells.{CellMark}
use Rattle.ma_cells.specs.Tetrahedron.{Tetrahedron}
use Rattle.ma_cells.specs.declared.batch.Batch.{Batch}
use Rattle.ma_cells.specs.declared.cell.Cell.TheVariants.{Tri}
use Rattle.mesh_laws.specs.Adapted.{IsSoundMesh}
use Rattle.mesh_laws.proofs.Examples.{half_marks, halves, halves_are_sound, halves_not_flat}
use Rattle.mesh_laws.proofs.Sounds.{sound_as_sets}
use Rattle.size_marks.specs.Field.{Field}
use Rattle.cavity_rank.specs.Operations.{Operation}
use Rattle.cavity_rank.specs.declared.verdict.Kind.TheVariants.{Collapse}
use Rattle.pass_rules.specs.Passes.{chosen}
use Rattle.collapse_passes.proofs.Examples.{goes}
use Rattle.cavity_marks.specs.MarksLeft.{StayOnCells, marks_around, marks_left}
use Rattle.cavity_marks.proofs.Stays.{marks_stay_on_cells}

abbrev at : ℕ → ℕ → ℕ → Coordinates
at x y z = record { x = pos x; y = pos y; z = pos z }

abbrev o : Coordinates
o = at 0 0 0

abbrev z : Coordinates
z = at 0 0 2

abbrev y : Coordinates
y = at 0 2 0

abbrev m : Coordinates
m = at 1 0 0

abbrev x : Coordinates
x = at 2 0 0

abbrev tet : List Coordinates → Tetrahedron
tet corners = record { corners = corners; phys = pos 1; elem = pos 1 }

abbrev marks_on : List (List Coordinates) → List CellMark
marks_on faces = map (λ face. record { cell = Tri face; phys = pos 2; elem = pos 7 }) faces

-- two tetrahedra at the middle of an edge, with all faces marked but that between them
abbrev mesh : Batch
mesh = record {
  tets = tet (o ∷ z ∷ y ∷ m ∷ []) ∷ tet (z ∷ y ∷ m ∷ x ∷ []) ∷ [];
  marks = marks_on ((o ∷ z ∷ y ∷ []) ∷ (o ∷ z ∷ m ∷ []) ∷ (o ∷ y ∷ m ∷ []) ∷ (z ∷ y ∷ x ∷ []) ∷ (z ∷ m ∷ x ∷ []) ∷ (y ∷ m ∷ x ∷ []) ∷ []);
}

sound : IsSoundMesh mesh
unfolding vol6
sound = record { tetrahedra = refl; cells = refl; sound = sound_as_sets halves half_marks halves_are_sound halves_not_flat }

abbrev field : Field
field = record { default = 64; boxes = [] }

pub stay : AllByRecursion (StayOnCells mesh) (chosen Collapse field mesh)
stay = marks_stay_on_cells Collapse field mesh sound

abbrev middle : Operation
middle = record { at = m ∷ []; apex = o; worst = 536870912 }

-- the middle goes to the lesser end
pub is_chosen : chosen Collapse field mesh ≡ middle ∷ []
is_chosen = goes

-- two of the marks without it are kept, of the four with it two go along, and two fall away
pub are_left : marks_left mesh middle ≡ marks_on ((o ∷ z ∷ y ∷ []) ∷ (z ∷ y ∷ x ∷ []) ∷ (o ∷ z ∷ x ∷ []) ∷ (o ∷ y ∷ x ∷ []) ∷ [])
are_left = refl

-- an edge that one of the tetrahedra has: the other's marks on three faces aren't around it. A swap would leave those around it
abbrev edge : Operation
edge = record { at = o ∷ z ∷ []; apex = y; worst = 0 }

pub are_around : marks_around mesh edge ≡ marks_on ((o ∷ z ∷ y ∷ []) ∷ (o ∷ z ∷ m ∷ []) ∷ (o ∷ y ∷ m ∷ []) ∷ [])
are_around = refl

pub all_are_left : marks_left mesh edge ≡ marks_around mesh edge
all_are_left = refl

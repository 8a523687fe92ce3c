-- Premises of the law that are met, and what fills a cavity at values that were worked out by hand.
use Rattle.std.proofs.Common.{◌≡◌, ℕ, false, List, [], ◌∷◌, map, refl, ap}
use Rattle.std.specs.Prelude.{pos}
use Rattle.ma_geom.specs.Coordinates.{Coordinates}
use Rattle.ma_geom.specs.Volume.{vol6}
use Rattle.ma_cells.specs.Ascending.{has}
use Rattle.ma_cells.specs.Cells.{CellMark}
use Rattle.ma_cells.specs.Tetrahedron.{Tetrahedron, tet_cmp}
use Rattle.ma_cells.specs.declared.batch.Batch.{Batch}
use Rattle.ma_cells.specs.declared.cell.Cell.TheVariants.{Tri}
use Rattle.mesh_laws.specs.Adapted.{IsSoundMesh}
use Rattle.mesh_laws.proofs.Examples.{half_marks, halves, halves_are_sound, halves_not_flat}
use Rattle.mesh_laws.proofs.Sounds.{sound_as_sets}
use Rattle.size_marks.specs.Field.{Field}
use Rattle.cavity_rank.specs.Operations.{Operation, rank}
use Rattle.cavity_rank.specs.declared.verdict.Kind.TheVariants.{Collapse}
use Rattle.pass_rules.specs.Choosing.{is_in}
use Rattle.pass_rules.specs.Passes.{filling}
use Rattle.collapse_passes.proofs.Examples.{goes}
use Rattle.cavity_fillings.specs.Fillings.{FillsAlone}
use Rattle.cavity_fillings.proofs.Apart.{fillings_are_apart}

abbrev at : ℕ → ℕ → ℕ → Coordinates
at x y z = record { x = pos x; y = pos y; z = pos z }

abbrev o : Coordinates
o = at 0 0 0

abbrev z : Coordinates
z = at 0 0 2

abbrev y : Coordinates
y = at 0 2 0

abbrev m : Coordinates
m = at 1 0 0

abbrev x : Coordinates
x = at 2 0 0

abbrev tet : List Coordinates → Tetrahedron
tet corners = record { corners = corners; phys = pos 1; elem = pos 1 }

abbrev marks_on : List (List Coordinates) → List CellMark
marks_on faces = map (λ face. record { cell = Tri face; phys = pos 2; elem = pos 7 }) faces

-- two tetrahedra at the middle of an edge, with all faces marked but that between them
abbrev mesh : Batch
mesh = record {
  tets = tet (o ∷ z ∷ y ∷ m ∷ []) ∷ tet (z ∷ y ∷ m ∷ x ∷ []) ∷ [];
  marks = marks_on ((o ∷ z ∷ y ∷ []) ∷ (o ∷ z ∷ m ∷ []) ∷ (o ∷ y ∷ m ∷ []) ∷ (z ∷ y ∷ x ∷ []) ∷ (z ∷ m ∷ x ∷ []) ∷ (y ∷ m ∷ x ∷ []) ∷ []);
}

sound : IsSoundMesh mesh
unfolding vol6
sound = record { tetrahedra = refl; cells = refl; sound = sound_as_sets halves half_marks halves_are_sound halves_not_flat }

abbrev field : Field
field = record { default = 64; boxes = [] }

-- the middle goes to the lesser end
abbrev middle : Operation
middle = record { at = m ∷ []; apex = o; worst = 536870912 }

abbrev whole : Tetrahedron
whole = tet (o ∷ z ∷ y ∷ x ∷ [])

-- one tetrahedron fills its cavity, which the mesh does not have
pub fills : filling mesh.tets middle ≡ whole ∷ []
unfolding vol6
fills = refl

pub is_new : (has tet_cmp whole mesh.tets ≡ false) × (is_in middle whole ≡ false)
is_new = (refl, refl)

pub fills_alone : FillsAlone Collapse field mesh middle whole
unfolding vol6
fills_alone = fillings_are_apart Collapse field mesh sound middle whole (ap (has rank middle) goes) (ap (has tet_cmp whole) fills)

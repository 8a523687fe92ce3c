-- Premises of the laws that are met, and what a pass leaves of labels at values that were worked out by hand.
use Rattle.std.proofs.Common.{◌≡◌, ℕ, zero, suc, List, [], ◌∷◌, length, map, refl, arith}
use Rattle.std.specs.Prelude.{pos}
use Rattle.std.specs.List.Sorted.{IsStrictlySortedBy}
use Rattle.ma_geom.specs.Coordinates.{Coordinates}
use Rattle.ma_geom.specs.Lengths.{len2}
use Rattle.ma_geom.specs.Lines.{normal}
use Rattle.ma_geom.specs.Quality.{longest2, quality_of, root}
use Rattle.ma_geom.specs.Volume.{vol6}
use Rattle.ma_cells.specs.Cells.{CellMark}
use Rattle.ma_cells.specs.Grid.{is_multiple}
use Rattle.ma_cells.specs.Tetrahedron.{Tetrahedron}
use Rattle.ma_cells.specs.Worst.{worst}
use Rattle.ma_cells.specs.declared.cell.Cell.TheVariants.{Tri}
use Rattle.mesh_laws.specs.Adapted.{IsAdapted, IsSoundMesh}
use Rattle.mesh_laws.proofs.Examples.{half_marks, halves, halves_are_sound, halves_not_flat}
use Rattle.mesh_laws.proofs.Sounds.{sound_as_sets}
use Rattle.size_marks.specs.Field.{Field, is_long, is_short}
use Rattle.cavity_rank.specs.declared.verdict.Kind.TheVariants.{Collapse}
use Rattle.part_rules.specs.Owed.{IsLabelled}
use Rattle.part_rules.specs.declared.course.Course.{Course}
use Rattle.part_store.specs.Labelled.{LabelledMesh}
use Rattle.part_gather.specs.OwedGathering.{mesh_after}
use Rattle.view_laws.specs.Truths.{IsShared}
use Rattle.refined_views.specs.Refined.{without_labels}
use Rattle.staged_meshes.specs.Laws.{MarksStayUpTo, plan_of}
use Rattle.staged_meshes.specs.Staged.{carried_at, carried_behind, opened, passed_times, staged_in}
use Rattle.staged_meshes.proofs.OneLabel.{stages_are_as_many}
use Rattle.staged_meshes.proofs.OneStage.{stages_are_adapted}
use Rattle.staged_meshes.proofs.StagesShared.{opened_is_shared, passed_is_shared, sound_marks_stay}

abbrev at : ℕ → ℕ → ℕ → Coordinates
at x y z = record { x = pos x; y = pos y; z = pos z }

abbrev o : Coordinates
o = at 0 0 0

abbrev z : Coordinates
z = at 0 0 2

abbrev y : Coordinates
y = at 0 2 0

abbrev m : Coordinates
m = at 1 0 0

abbrev x : Coordinates
x = at 2 0 0

abbrev tet : List Coordinates → Tetrahedron
tet corners = record { corners = corners; phys = pos 1; elem = pos 1 }

abbrev marks_on : List (List Coordinates) → List CellMark
marks_on faces = map (λ face. record { cell = Tri face; phys = pos 2; elem = pos 7 }) faces

-- two tetrahedra at the middle of an edge, each of a part of its own, with all faces marked but that between them
abbrev mesh : LabelledMesh
mesh = record {
  tets = (tet (o ∷ z ∷ y ∷ m ∷ []), 0) ∷ (tet (z ∷ y ∷ m ∷ x ∷ []), 1) ∷ [];
  marks = marks_on ((o ∷ z ∷ y ∷ []) ∷ (o ∷ z ∷ m ∷ []) ∷ (o ∷ y ∷ m ∷ []) ∷ (z ∷ y ∷ x ∷ []) ∷ (z ∷ m ∷ x ∷ []) ∷ (y ∷ m ∷ x ∷ []) ∷ []);
}

sound : IsSoundMesh (without_labels mesh)
unfolding vol6
sound = record { tetrahedra = refl; cells = refl; sound = sound_as_sets halves half_marks halves_are_sound halves_not_flat }

right : IsLabelled 2 mesh
unfolding IsStrictlySortedBy
right = record {
  tets = ((refl, tt), (tt, tt));
  marks = ((refl, (refl, (refl, (refl, (refl, tt))))), ((refl, (refl, (refl, (refl, tt)))), ((refl, (refl, (refl, tt))), ((refl, (refl, tt)), ((refl, tt), (tt, tt))))));
  labels = (omega arith, (omega arith, tt));
  cells = (refl, (refl, (refl, (refl, (refl, (refl, tt))))));
  on_cells = (refl, (refl, (refl, (refl, (refl, (refl, tt))))));
}

abbrev field : Field
field = record { default = 64; boxes = [] }

abbrev course : Course
course = record { parts = 2; grid = 0; collapse = 1; swap = 1; field = field }

-- the parts share it at first, and behind a pass
pub shared : IsShared course (opened (plan_of course) mesh 0) (carried_at (plan_of course) mesh 0) 0
unfolding is_multiple
shared = opened_is_shared course mesh 0 (omega arith) (omega arith) right sound refl refl

pub passed_shared : IsShared course (passed_times (plan_of course) mesh 1) (carried_behind (plan_of course) mesh (carried_at (plan_of course) mesh 0) 1) 0
passed_shared = passed_is_shared course mesh (carried_at (plan_of course) mesh 0) 0 1 shared stay
  where
    stay : MarksStayUpTo (plan_of course) mesh 1
    stay zero within = sound_marks_stay (plan_of course) 0 mesh sound
    stay (suc before) within = absurd (omega (arith, within))

-- any later stage is adapted, and has no tetrahedron with two labels
pub adapted : (round passes : ℕ) → IsAdapted (without_labels mesh) (without_labels (staged_in (plan_of course) mesh (suc round) passes))
adapted round passes = stages_are_adapted (plan_of course) mesh round passes sound

pub as_many : (round passes : ℕ) → length (staged_in (plan_of course) mesh (suc round) passes).tets ≡ length (without_labels (staged_in (plan_of course) mesh (suc round) passes)).tets
as_many round passes = stages_are_as_many (plan_of course) mesh round passes sound refl

-- a pass of collapses takes the middle away, and the part with the lesser label fills the cavity of both
pub is_left : mesh_after Collapse field mesh ≡ record {
  tets = (tet (o ∷ z ∷ y ∷ x ∷ []), 0) ∷ [];
  marks = marks_on ((o ∷ z ∷ y ∷ []) ∷ (o ∷ z ∷ x ∷ []) ∷ (o ∷ y ∷ x ∷ []) ∷ (z ∷ y ∷ x ∷ []) ∷ []);
}
unfolding worst quality_of root longest2 vol6 len2 normal is_long is_short
is_left = refl

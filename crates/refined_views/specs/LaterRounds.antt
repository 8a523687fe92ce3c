-- Rounds that each part begins by refining its own of the mesh, but for the first.
use Rattle.std.specs.Prelude.{◌≡◌, ◌-◌, ◌*◌, ◌<◌, ◌≤◌, ℕ, zero, suc, true, List, [], length, map}
use Rattle.ma_cells.specs.Grid.{are_on_grid, marks_are_on_grid}
use Rattle.ma_cells.specs.Tetrahedron.{are_tetrahedra}
use Rattle.letters.specs.declared.letter.Body.{Body}
use Rattle.part_phases.specs.Inboxes.{below}
use Rattle.part_phases.specs.Standings.{Standing}
use Rattle.part_rules.specs.Ends.{most_tets}
use Rattle.part_rules.specs.Owed.{IsLabelled}
use Rattle.part_rules.specs.Rounds.{rules}
use Rattle.part_rules.specs.declared.course.Course.{Course}
use Rattle.part_store.specs.Labelled.{LabelledMesh, tet_of, view_of}
use Rattle.part_store.specs.Stores.{StoreState, view_in}
use Rattle.phase_laws.specs.Drawing.{Drawing, all_begun, part_at, turns}
use Rattle.view_laws.specs.Views.{first_standing}
use Rattle.refined_views.specs.Refined.{refined_labelled}
use Rattle.refined_views.specs.Repeated.{refined_times}

-- the end of a round of these parts, in which letters are drawn by these picks until each part could get all of its letters
abbrev pub round_of : Course → ℕ → List ℕ → List (Standing StoreState Body) → Drawing StoreState Body
round_of course round picks parts = turns (rules course) (course.parts * (3 * (course.parts - 1))) picks (all_begun (rules course) round parts)

-- the end of this round of the parts that start with their tetrahedra of a mesh, where each round has picks of its own
abbrev pub after_round : Course → LabelledMesh → (ℕ → List ℕ) → ℕ → Drawing StoreState Body
after_round course mesh picks zero = round_of course 0 (picks 0) (map (first_standing mesh) (below course.parts))
after_round course mesh picks (suc round) = round_of course (suc round) (picks (suc round)) (after_round course mesh picks round).parts

-- that these are all parts of a course, each with its view of a mesh
pub record HaveViews (course : Course) (mesh : LabelledMesh) (default : Standing StoreState Body) (parts : List (Standing StoreState Body)) : Type 0 where
  pub all : length parts ≡ course.parts
  pub numbers : (q : ℕ) → q < course.parts → (part_at default parts q).me ≡ q
  pub views : (q : ℕ) → q < course.parts → view_in (part_at default parts q).holds ≡ view_of mesh q

-- that no letter of a round waits, and that each part is done with it and has its view of a mesh
pub record EndsInViews (course : Course) (mesh : LabelledMesh) (default : Standing StoreState Body) (end : Drawing StoreState Body) : Type 0 where
  pub none_waits : end.waiting ≡ []
  pub done : (q : ℕ) → q < course.parts → (part_at default end.parts q).phase ≡ 3
  pub have_views : HaveViews course mesh default end.parts

-- Whatever is drawn: a later round, before which the parts have their views of a mesh, ends with their views of the refined mesh
abbrev pub RefiningRoundEndsInViews : Type 0
RefiningRoundEndsInViews = (course : Course) (mesh : LabelledMesh) (round : ℕ) → round < course.grid → 1 ≤ course.parts → IsLabelled course.parts mesh → are_tetrahedra (map tet_of mesh.tets) ≡ true
    → are_on_grid (course.grid - round) (map tet_of mesh.tets) ≡ true → marks_are_on_grid (course.grid - round) mesh.marks ≡ true
    → length (refined_labelled course.field mesh).tets ≤ most_tets
    → (default : Standing StoreState Body) (parts : List (Standing StoreState Body)) → HaveViews course mesh default parts
    → (picks : List ℕ) → EndsInViews course (refined_labelled course.field mesh) default (round_of course (suc round) picks parts)

-- Whatever is drawn: each round ends with the parts' views of the mesh that is refined once for each round up to it but the first
abbrev pub RoundsEndInViews : Type 0
RoundsEndInViews = (course : Course) (mesh : LabelledMesh) (rounds : ℕ) → rounds ≤ course.grid → 1 ≤ course.parts → IsLabelled course.parts mesh → are_tetrahedra (map tet_of mesh.tets) ≡ true
    → are_on_grid course.grid (map tet_of mesh.tets) ≡ true → marks_are_on_grid course.grid mesh.marks ≡ true
    → ((round : ℕ) → round ≤ rounds → length (refined_times round course.field mesh).tets ≤ most_tets)
    → (default : Standing StoreState Body) (picks : ℕ → List ℕ) → EndsInViews course (refined_times rounds course.field mesh) default (after_round course mesh picks rounds)

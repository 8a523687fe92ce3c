-- What parts see at the end of each round with passes, whatever the order in which letters come.
use Rattle.std.specs.Prelude.{◌≡◌, ◌≤◌, ◌<◌, ◌+◌, ◌-◌, ◌*◌, ℕ, zero, suc, true, List, [], length, map}
use Rattle.ma_cells.specs.Grid.{are_on_grid, marks_are_on_grid}
use Rattle.mesh_laws.specs.Adapted.{IsSoundMesh}
use Rattle.letters.specs.declared.letter.Body.{Body}
use Rattle.one_mesh.specs.Adaptation.{last_stage}
use Rattle.part_phases.specs.Inboxes.{below}
use Rattle.part_phases.specs.Standings.{Standing}
use Rattle.part_rules.specs.Ends.{most_tets}
use Rattle.part_rules.specs.Owed.{IsLabelled}
use Rattle.part_rules.specs.declared.course.Course.{Course}
use Rattle.part_store.specs.Labelled.{LabelledMesh, own_of, tet_of, view_of}
use Rattle.part_store.specs.Stores.{StoreState, started, view_in}
use Rattle.phase_laws.specs.Drawing.{Drawing, all_begun, part_at, turns}
use Rattle.refined_views.specs.Refined.{without_labels}
use Rattle.round_rules.specs.Rounds.{rules}
use Rattle.round_rules.specs.Stages.{last_phase, passes_in}
use Rattle.staged_meshes.specs.Laws.{plan_of}
use Rattle.staged_meshes.specs.Staged.{adapted_times, staged_in}

-- part q as it starts, with its tetrahedra of a mesh and the marks on their cells
abbrev pub first_standing : LabelledMesh → ℕ → Standing StoreState Body
first_standing mesh q = record { me = q; round = 0; phase = 3; holds = started q (own_of mesh q) mesh.marks; now = []; early = []; kept = [] }

-- how many letters a round has: one in each phase from each part to each other
abbrev pub letters_in : Course → ℕ → ℕ
letters_in course round = course.parts * ((last_phase (passes_in course round) + 1) * (course.parts - 1))

-- the end of a round of these parts, in which letters are drawn by these picks until each part could get all of its letters
abbrev pub round_of : Course → ℕ → List ℕ → List (Standing StoreState Body) → Drawing StoreState Body
round_of course round picks parts = turns (rules course) (letters_in course round) picks (all_begun (rules course) round parts)

-- the end of this round of the parts that start with their tetrahedra of a mesh, where each round has picks of its own
abbrev pub after_round : Course → LabelledMesh → (ℕ → List ℕ) → ℕ → Drawing StoreState Body
after_round course mesh picks zero = round_of course 0 (picks 0) (map (first_standing mesh) (below course.parts))
after_round course mesh picks (suc round) = round_of course (suc round) (picks (suc round)) (after_round course mesh picks round).parts

-- that these are all parts of a course, each with its view of a mesh
pub record HaveViews (course : Course) (mesh : LabelledMesh) (default : Standing StoreState Body) (parts : List (Standing StoreState Body)) : Type 0 where
  pub all : length parts ≡ course.parts
  pub numbers : (q : ℕ) → q < course.parts → (part_at default parts q).me ≡ q
  pub views : (q : ℕ) → q < course.parts → view_in (part_at default parts q).holds ≡ view_of mesh q

-- that no letter of a round waits, and that each part is done with it and has its view of a mesh
pub record EndsInViews (course : Course) (round : ℕ) (mesh : LabelledMesh) (default : Standing StoreState Body) (end : Drawing StoreState Body) : Type 0 where
  pub none_waits : end.waiting ≡ []
  pub done : (q : ℕ) → q < course.parts → (part_at default end.parts q).phase ≡ last_phase (passes_in course round) + 1
  pub have_views : HaveViews course mesh default end.parts

-- that in each of the rounds up to one, at each stage, there are not too many tetrahedra
abbrev pub StagesStayWithin : Course → LabelledMesh → ℕ → Type 0
StagesStayWithin course mesh rounds = (length mesh.tets ≤ most_tets)
    × ((round passes : ℕ) → round < rounds → passes ≤ last_stage (plan_of course) → length (staged_in (plan_of course) mesh (suc round) passes).tets ≤ most_tets)

-- Whatever is drawn: where parts start with their tetrahedra of a sound mesh, each round ends with their views of the mesh that is adapted once for each round up to it but the first
abbrev pub RoundsEndInViews : Type 0
RoundsEndInViews = (course : Course) (mesh : LabelledMesh) (rounds : ℕ) → rounds ≤ course.grid → 1 ≤ course.parts → IsLabelled course.parts mesh → IsSoundMesh (without_labels mesh)
    → are_on_grid course.grid (map tet_of mesh.tets) ≡ true → marks_are_on_grid course.grid mesh.marks ≡ true → StagesStayWithin course mesh rounds
    → (default : Standing StoreState Body) (picks : ℕ → List ℕ) → EndsInViews course rounds (adapted_times (plan_of course) mesh rounds) default (after_round course mesh picks rounds)

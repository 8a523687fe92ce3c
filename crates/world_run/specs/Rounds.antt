-- Where a run stands between two rounds.
use Rattle.std.specs.Prelude.{◌≡◌, ◌+◌, ◌*◌, ◌<◌, ◌≤◌, ℕ, true, false, List, length, map, slice_get, Some}
use Rattle.std.specs.List.{AllByRecursion}
use Rattle.ma_cells.specs.Grid.{are_on_grid, marks_are_on_grid}
use Rattle.ma_cells.specs.Tetrahedron.{are_tetrahedra}
use Rattle.mesh_laws.specs.Adapted.{IsSoundMesh}
use Rattle.part_core.specs.Parts.{PartState}
use Rattle.part_rules.specs.Ends.{most_tets}
use Rattle.part_rules.specs.Owed.{IsLabelled}
use Rattle.part_rules.specs.declared.course.Course.{Course}
use Rattle.part_store.specs.Labelled.{LabelledMesh, tet_of, view_of}
use Rattle.refined_views.specs.Refined.{without_labels}
use Rattle.staged_meshes.specs.Laws.{plan_of}
use Rattle.staged_meshes.specs.Staged.{adapted_times}
use Rattle.world_run.specs.Replay.{is_done}
use Rattle.world_run.specs.Told.{WorldState}
use Rattle.world_run.specs.Views.{seen_at}

-- that a part of a course has done so many rounds, and no other is begun
pub record HasDone (course : Course) (rounds number : ℕ) (part : PartState) : Type 0 where
  pub course_is : part.course ≡ course
  pub number_is : part.standing.me ≡ number
  pub begun : part.begun ≡ rounds
  pub done : is_done part ≡ true
  pub unspent : part.spent ≡ false

-- that these are all parts of a course, in the order of their numbers, and each has done so many rounds
pub record AreDone (course : Course) (rounds : ℕ) (parts : List PartState) : Type 0 where
  pub all : length parts ≡ course.parts
  pub each : (number : ℕ) → number < course.parts → (part : PartState) × (slice_get parts number ≡ Some part) × HasDone course rounds number part

-- that a world can run another round: it isn't spent, and its parts have done fewer rounds past the first than the grid can be halved
pub record MayGoOn (world : WorldState) : Type 0 where
  pub unspent : world.spent ≡ false
  pub finer : AllByRecursion (λ part. part.begun ≤ part.course.grid) world.parts

-- that the parts stand between two rounds of a course, and the world has taken no more letters than 64 parts can get in so many rounds
pub record AreBetween (world : WorldState) : Type 0 where
  pub course : Course
  pub rounds : ℕ
  pub some : 1 ≤ course.parts
  pub parts : course.parts ≤ 64
  pub grid : course.grid ≤ 30
  pub collapses : course.collapse ≤ 16
  pub swaps : course.swap ≤ 16
  pub upto : rounds ≤ course.grid + 1
  pub done : AreDone course rounds world.parts
  pub letters : world.letters ≤ rounds * (64 * (227 * 63))

-- that a labelled mesh is one that all parts of a course can share from round 0 on: none of its tetrahedra is flat, and it is on the grid
pub record IsWhole (course : Course) (mesh : LabelledMesh) : Type 0 where
  pub some : 1 ≤ course.parts
  pub labelled : IsLabelled course.parts mesh
  pub solid : are_tetrahedra (map tet_of mesh.tets) ≡ true
  pub tets : are_on_grid course.grid (map tet_of mesh.tets) ≡ true
  pub marks : marks_are_on_grid course.grid mesh.marks ≡ true

-- that the mesh without its labels is sound, and has as many tetrahedra: none of them has two labels
pub record IsOnce (mesh : LabelledMesh) : Type 0 where
  pub sound : IsSoundMesh (without_labels mesh)
  pub as_many : length mesh.tets ≡ length (without_labels mesh).tets

-- that each part sees what is its own of the mesh, and what lies beside it
abbrev pub SeeMesh : LabelledMesh → List PartState → Type 0
SeeMesh mesh parts = (number : ℕ) → number < length parts → seen_at parts number ≡ Some (view_of mesh number)

-- that the parts have come to the end of a round, and see the mesh that was adapted once for each round up to it but the first
pub record HaveAdapted (course : Course) (mesh : LabelledMesh) (round : ℕ) (parts : List PartState) : Type 0 where
  pub done : AreDone course (round + 1) parts
  pub few : length (adapted_times (plan_of course) mesh round).tets ≤ most_tets
  pub see : SeeMesh (adapted_times (plan_of course) mesh round) parts

-- What holds of a labelled mesh that is adapted round by round, and that without its labels it is the mesh which is adapted in one piece.
use Rattle.std.specs.Prelude.{◌≡◌, ◌≤◌, ◌<◌, ℕ, suc, true, List, length, map}
use Rattle.ma_cells.specs.Cells.{CellMark}
use Rattle.ma_cells.specs.Grid.{are_on_grid, marks_are_on_grid}
use Rattle.ma_cells.specs.Tetrahedron.{are_tetrahedra}
use Rattle.mesh_laws.specs.Adapted.{IsAdapted, IsSoundMesh}
use Rattle.one_mesh.specs.Adaptation.{Plan, adapted, kind_of_pass, staged}
use Rattle.part_gather.specs.OwedGathering.{MarksStay}
use Rattle.part_rules.specs.Owed.{IsLabelled}
use Rattle.part_rules.specs.declared.course.Course.{Course}
use Rattle.part_store.specs.Labelled.{LabelledMesh, tet_of}
use Rattle.refined_views.specs.Refined.{without_labels}
use Rattle.staged_meshes.specs.Staged.{adapted_times, carried_at, carried_behind, opened, passed_times, staged_in}
use Rattle.view_laws.specs.Truths.{IsShared}

-- what the parts of a course have in common with a mesh in one piece
abbrev pub plan_of : Course → Plan
plan_of course = record { field = course.field; collapses = course.collapse; swaps = course.swap }

-- ---- without labels
-- without its labels, each stage of a later round is that of the mesh in one piece
abbrev pub StagesAreOne : Type 0
StagesAreOne = (plan : Plan) (mesh : LabelledMesh) (round passes : ℕ)
    → without_labels (staged_in plan mesh (suc round) passes) ≡ staged plan passes (adapted plan round (without_labels mesh))

-- and so is what any number of rounds leaves
abbrev pub RoundsAreOne : Type 0
RoundsAreOne = (plan : Plan) (mesh : LabelledMesh) (rounds : ℕ) → without_labels (adapted_times plan mesh rounds) ≡ adapted plan rounds (without_labels mesh)

-- it is adapted, if the mesh is sound: sound at each stage, with the same cover and classification
abbrev pub StagesAreAdapted : Type 0
StagesAreAdapted = (plan : Plan) (mesh : LabelledMesh) (round passes : ℕ) → IsSoundMesh (without_labels mesh)
    → IsAdapted (without_labels mesh) (without_labels (staged_in plan mesh (suc round) passes))

abbrev pub RoundsAreAdapted : Type 0
RoundsAreAdapted = (plan : Plan) (mesh : LabelledMesh) (rounds : ℕ) → IsSoundMesh (without_labels mesh) → IsAdapted (without_labels mesh) (without_labels (adapted_times plan mesh rounds))

-- and has as many tetrahedra at each stage as without its labels, if the mesh is sound and has: no tetrahedron comes to have two labels
abbrev pub StagesAreAsMany : Type 0
StagesAreAsMany = (plan : Plan) (mesh : LabelledMesh) (round passes : ℕ) → IsSoundMesh (without_labels mesh) → length mesh.tets ≡ length (without_labels mesh).tets
    → length (staged_in plan mesh (suc round) passes).tets ≡ length (without_labels (staged_in plan mesh (suc round) passes)).tets

-- ---- passes
-- in a pass over a sound mesh, the marks of each chosen cavity stay on cells
abbrev pub SoundMarksStay : Type 0
SoundMarksStay = (plan : Plan) (before : ℕ) (mesh : LabelledMesh) → IsSoundMesh (without_labels mesh) → MarksStay (kind_of_pass plan before) plan.field mesh

-- that they do in each of the first passes over a mesh
abbrev pub MarksStayUpTo : Plan → LabelledMesh → ℕ → Type 0
MarksStayUpTo plan mesh passes = (before : ℕ) → before < passes → MarksStay (kind_of_pass plan before) plan.field (passed_times plan mesh before)

-- then a mesh that parts share in a round is shared behind these passes
abbrev pub PassedIsShared : Type 0
PassedIsShared = (course : Course) (mesh : LabelledMesh) (carried : ℕ → List CellMark) (round passes : ℕ) → IsShared course mesh carried round → MarksStayUpTo (plan_of course) mesh passes
    → IsShared course (passed_times (plan_of course) mesh passes) (carried_behind (plan_of course) mesh carried passes) round

-- no tetrahedron is flat behind passes
abbrev pub PassedIsNotFlat : Type 0
PassedIsNotFlat = (plan : Plan) (mesh : LabelledMesh) (passes : ℕ) → are_tetrahedra (map tet_of mesh.tets) ≡ true → are_tetrahedra (map tet_of (passed_times plan mesh passes).tets) ≡ true

-- ---- rounds
-- parts that share a sound mesh in round 0 share, in each round as long as the grid can be halved, what its letters begin with
abbrev pub OpenedIsShared : Type 0
OpenedIsShared = (course : Course) (mesh : LabelledMesh) (round : ℕ) → round ≤ course.grid → 1 ≤ course.parts → IsLabelled course.parts mesh → IsSoundMesh (without_labels mesh)
    → are_on_grid course.grid (map tet_of mesh.tets) ≡ true → marks_are_on_grid course.grid mesh.marks ≡ true
    → IsShared course (opened (plan_of course) mesh round) (carried_at (plan_of course) mesh round) round

-- and in all passes of a later round the marks of chosen cavities stay on cells
abbrev pub OpenedMarksStay : Type 0
OpenedMarksStay = (plan : Plan) (mesh : LabelledMesh) (round passes : ℕ) → IsSoundMesh (without_labels mesh) → MarksStayUpTo plan (opened plan mesh (suc round)) passes

-- A labelled mesh that is adapted round by round: each round refines it, and then has passes.
use Rattle.std.specs.Prelude.{ℕ, zero, suc, List}
use Rattle.ma_cells.specs.Cells.{CellMark}
use Rattle.one_mesh.specs.Adaptation.{Plan, kind_of_pass, last_stage}
use Rattle.part_gather.specs.OwedGathering.{carried_after, mesh_after}
use Rattle.part_store.specs.Labelled.{LabelledMesh, marks_on, own_of}
use Rattle.refined_views.specs.Refined.{carried_pieces, refined_labelled}

-- a labelled mesh behind so many passes of a round
abbrev pub passed_times : Plan → LabelledMesh → ℕ → LabelledMesh
passed_times plan mesh zero = mesh
passed_times plan mesh (suc before) = mesh_after (kind_of_pass plan before) plan.field (passed_times plan mesh before)

-- what the parts then carry of its marks, by what they carried before the passes
abbrev pub carried_behind : Plan → LabelledMesh → (ℕ → List CellMark) → ℕ → ℕ → List CellMark
carried_behind plan mesh carried zero = carried
carried_behind plan mesh carried (suc before) = carried_after (kind_of_pass plan before) plan.field (passed_times plan mesh before)

-- a labelled mesh after so many rounds
abbrev pub adapted_times : Plan → LabelledMesh → ℕ → LabelledMesh
adapted_times plan mesh zero = mesh
adapted_times plan mesh (suc round) = passed_times plan (refined_labelled plan.field (adapted_times plan mesh round)) (last_stage plan)

-- with what the letters of a round begin: with the mesh itself in round 0, and in a later round with what refining leaves
abbrev pub opened : Plan → LabelledMesh → ℕ → LabelledMesh
opened plan mesh zero = mesh
opened plan mesh (suc round) = refined_labelled plan.field (adapted_times plan mesh round)

-- what the parts then carry of its marks: those on cells of their tetrahedra, and in a later round the pieces of such marks
abbrev pub carried_at : Plan → LabelledMesh → ℕ → ℕ → List CellMark
carried_at plan mesh zero part = marks_on (own_of mesh part) mesh.marks
carried_at plan mesh (suc round) part = carried_pieces plan.field (adapted_times plan mesh round) part

-- the labelled mesh in a round, behind so many of its passes
abbrev pub staged_in : Plan → LabelledMesh → ℕ → ℕ → LabelledMesh
staged_in plan mesh round passes = passed_times plan (opened plan mesh round) passes

-- A labelled mesh that is refined any number of times.
use Rattle.std.specs.Prelude.{◌≡◌, ◌≤◌, ℕ, zero, suc, true, List, length, map}
use Rattle.std.specs.Fn.{iterate}
use Rattle.ma_cells.specs.Cells.{CellMark}
use Rattle.ma_cells.specs.Grid.{are_on_grid, marks_are_on_grid}
use Rattle.ma_cells.specs.Tetrahedron.{are_tetrahedra}
use Rattle.mesh_laws.specs.Adapted.{IsAdapted, IsSoundMesh}
use Rattle.size_marks.specs.Field.{Field}
use Rattle.refinement.specs.Refinement.{refine}
use Rattle.part_rules.specs.Owed.{IsLabelled}
use Rattle.part_rules.specs.declared.course.Course.{Course}
use Rattle.part_store.specs.Labelled.{LabelledMesh, marks_on, own_of, tet_of}
use Rattle.view_laws.specs.Truths.{IsShared}
use Rattle.refined_views.specs.Refined.{carried_pieces, refined_labelled, without_labels}

-- a labelled mesh that is refined so many times
abbrev pub refined_times : ℕ → Field → LabelledMesh → LabelledMesh
refined_times zero field mesh = mesh
refined_times (suc n) field mesh = refined_labelled field (refined_times n field mesh)

-- what a part carries of it: the marks on cells of its tetrahedra at first, and then the pieces of such marks
abbrev pub carried_after : ℕ → Field → LabelledMesh → ℕ → List CellMark
carried_after zero field mesh part = marks_on (own_of mesh part) mesh.marks
carried_after (suc n) field mesh part = carried_pieces field (refined_times n field mesh) part

-- without its labels it is the mesh without labels, refined as often
abbrev pub RefinedTimesIsRefinement : Type 0
RefinedTimesIsRefinement = (field : Field) (mesh : LabelledMesh) (n : ℕ) → without_labels (refined_times n field mesh) ≡ iterate (refine field) n (without_labels mesh)

-- and adapted, if the mesh is sound: sound, with the same cover and classification
abbrev pub RefinedTimesIsAdapted : Type 0
RefinedTimesIsAdapted = (field : Field) (mesh : LabelledMesh) (n : ℕ) → IsSoundMesh (without_labels mesh) → IsAdapted (without_labels mesh) (without_labels (refined_times n field mesh))

-- and it has as many tetrahedra as without its labels, if the mesh is sound and has: no tetrahedron comes to have two labels
abbrev pub RefinedTimesIsAsMany : Type 0
RefinedTimesIsAsMany = (field : Field) (mesh : LabelledMesh) (n : ℕ) → IsSoundMesh (without_labels mesh) → length mesh.tets ≡ length (without_labels mesh).tets
    → length (refined_times n field mesh).tets ≡ length (without_labels (refined_times n field mesh)).tets

-- parts that share a mesh in round 0 share the mesh that is refined once for each later round, as long as the grid can be halved
abbrev pub RefinedTimesIsShared : Type 0
RefinedTimesIsShared = (field : Field) (course : Course) (mesh : LabelledMesh) (round : ℕ) → round ≤ course.grid → 1 ≤ course.parts → IsLabelled course.parts mesh
    → are_tetrahedra (map tet_of mesh.tets) ≡ true → are_on_grid course.grid (map tet_of mesh.tets) ≡ true → marks_are_on_grid course.grid mesh.marks ≡ true
    → IsShared course (refined_times round field mesh) (carried_after round field mesh) round

-- What holds of a refined labelled mesh, and of parts that refine their own of it by themselves.
use Rattle.std.specs.Prelude.{◌≡◌, ◌*◌, ◌≤◌, ◌<◌, ℕ, suc, true, List, [], ◌∷◌, length, map}
use Rattle.std.specs.List.{list_all}
use Rattle.ma_geom.specs.Coordinates.{Coordinates}
use Rattle.ma_cells.specs.Cells.{CellMark, is_cell}
use Rattle.ma_cells.specs.Grid.{are_on_grid, marks_are_on_grid}
use Rattle.ma_cells.specs.Incidence.{is_on}
use Rattle.ma_cells.specs.Tetrahedron.{Tetrahedron, are_corners, are_tetrahedra}
use Rattle.ma_cells.specs.declared.cell.Cell.{Cell}
use Rattle.size_marks.specs.Field.{Field}
use Rattle.refinement.specs.Refinement.{refine, refined_cell, refined_tet}
use Rattle.part_rules.specs.Begins.{refined_store}
use Rattle.part_rules.specs.Owed.{AreCarried, IsLabelled, holding}
use Rattle.part_rules.specs.declared.course.Course.{Course}
use Rattle.part_store.specs.Labelled.{LabelledMesh, tet_of, view_of}
use Rattle.part_store.specs.Stores.{StoreState, view_in}
use Rattle.view_laws.specs.Truths.{IsShared}
use Rattle.refined_views.specs.Refined.{carried_pieces, refined_labelled, without_labels}

-- the pieces of a cell are cells of the pieces of each tetrahedron that has the cell
abbrev pub PiecesLieOnPieces : Type 0
PiecesLieOnPieces = (field : Field) (tet : Tetrahedron) (cell : Cell) → are_corners tet.corners ≡ true → is_cell cell ≡ true → is_on (tet ∷ []) cell ≡ true
    → list_all (is_on (refined_tet field tet)) (refined_cell field cell) ≡ true

-- refining and taking the labels off may be done in either order
abbrev pub RefinedIsRefinement : Type 0
RefinedIsRefinement = (field : Field) (mesh : LabelledMesh) → without_labels (refined_labelled field mesh) ≡ refine field (without_labels mesh)

-- a refined labelled mesh has no flat tetrahedron
abbrev pub RefinedIsNotFlat : Type 0
RefinedIsNotFlat = (field : Field) (mesh : LabelledMesh) → are_tetrahedra (map tet_of mesh.tets) ≡ true → are_tetrahedra (map tet_of (refined_labelled field mesh).tets) ≡ true

-- it has at most eight times as many tetrahedra as the labelled mesh
abbrev pub RefinedIsAtMostEightfold : Type 0
RefinedIsAtMostEightfold = (field : Field) (mesh : LabelledMesh) → are_tetrahedra (map tet_of mesh.tets) ≡ true → length (refined_labelled field mesh).tets ≤ 8 * length mesh.tets

-- a labelled mesh, none of whose tetrahedra is flat, is labelled by as many parts once it is refined
abbrev pub RefinedIsLabelled : Type 0
RefinedIsLabelled = (field : Field) (parts : ℕ) (mesh : LabelledMesh) → IsLabelled parts mesh → are_tetrahedra (map tet_of mesh.tets) ≡ true → IsLabelled parts (refined_labelled field mesh)

-- a labelled mesh on the grid of 2^(k+1) is on that of 2^k once it is refined
abbrev pub RefinedHalvesTheGrid : Type 0
RefinedHalvesTheGrid = (k : ℕ) (field : Field) (mesh : LabelledMesh) → are_on_grid (suc k) (map tet_of mesh.tets) ≡ true → marks_are_on_grid (suc k) mesh.marks ≡ true
    → (are_on_grid k (map tet_of (refined_labelled field mesh).tets) ≡ true) × (marks_are_on_grid k (refined_labelled field mesh).marks ≡ true)

-- the pieces of the marks on cells of each part's own tetrahedra are together the marks of the refined mesh, each on a cell of the part's own pieces
abbrev pub RefinedMarksAreCarried : Type 0
RefinedMarksAreCarried = (field : Field) (parts : ℕ) (mesh : LabelledMesh) → IsLabelled parts mesh → are_tetrahedra (map tet_of mesh.tets) ≡ true
    → AreCarried parts (refined_labelled field mesh) (carried_pieces field mesh)

-- a part that had its view of the mesh, and refined by itself, holds what the refined mesh says of the beginning of a round
abbrev pub RefinedStores : Type 0
RefinedStores = (field : Field) (parts : ℕ) (home : Coordinates → ℕ) (mesh : LabelledMesh) (p : ℕ) (s : StoreState) → IsLabelled parts mesh → are_tetrahedra (map tet_of mesh.tets) ≡ true
    → view_in s ≡ view_of mesh p → refined_store field s ≡ holding parts home (refined_labelled field mesh) (carried_pieces field mesh) 0 p

-- a mesh that the parts share in a round is shared in the next one once it is refined, if the grid can still be halved
abbrev pub RefinedIsShared : Type 0
RefinedIsShared = (field : Field) (course : Course) (mesh : LabelledMesh) (carried : ℕ → List CellMark) (round : ℕ) → round < course.grid
    → IsShared course mesh carried round → are_tetrahedra (map tet_of mesh.tets) ≡ true → IsShared course (refined_labelled field mesh) (carried_pieces field mesh) (suc round)

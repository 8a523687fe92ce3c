-- What parts see at the end of a round, whatever the order in which letters come, and that this together is the mesh.
use Rattle.std.specs.Prelude.{◌≡◌, ◌-◌, ◌*◌, ◌<◌, ◌≤◌, ℕ, Bool, true, false, ◌&&◌, ◌==◌, List, [], map, length, filter, Option, Some, None}
use Rattle.std.specs.List.{flat_map}
use Rattle.ma_cells.specs.Ascending.{ascending_of}
use Rattle.ma_cells.specs.Cells.{CellMark, mark_cmp}
use Rattle.ma_cells.specs.Grid.{are_on_grid, marks_are_on_grid}
use Rattle.ma_cells.specs.Incidence.{is_on}
use Rattle.ma_cells.specs.Views.{ghost_cmp}
use Rattle.ma_cells.specs.declared.view.View.{View}
use Rattle.letters.specs.declared.letter.Body.{Body}
use Rattle.part_phases.specs.Inboxes.{below}
use Rattle.part_phases.specs.Standings.{Standing}
use Rattle.part_rules.specs.Ends.{most_tets}
use Rattle.part_rules.specs.Owed.{IsLabelled}
use Rattle.part_rules.specs.Rounds.{rules}
use Rattle.part_rules.specs.declared.course.Course.{Course}
use Rattle.part_store.specs.Agreement.{owner_of}
use Rattle.part_store.specs.Labelled.{LabelledMesh, labelled, own_of, tet_of, view_of}
use Rattle.part_store.specs.Stores.{StoreState, started, view_in}
use Rattle.phase_laws.specs.Drawing.{Drawing, all_begun, part_at, turns}

-- part q as it starts, with its tetrahedra of a mesh and the marks on their cells
abbrev pub first_standing : LabelledMesh → ℕ → Standing StoreState Body
first_standing mesh q = record { me = q; round = 0; phase = 3; holds = started q (own_of mesh q) mesh.marks; now = []; early = []; kept = [] }

-- Whatever is drawn: once each part could get all its letters, none waits, each part is done, and what it has is its view of the mesh
abbrev pub FirstRoundEndsInViews : Type 0
FirstRoundEndsInViews = (course : Course) (mesh : LabelledMesh) → 1 ≤ course.parts → IsLabelled course.parts mesh → length mesh.tets ≤ most_tets
    → are_on_grid course.grid (map tet_of mesh.tets) ≡ true → marks_are_on_grid course.grid mesh.marks ≡ true
    → (default : Standing StoreState Body) (n : ℕ) (picks : List ℕ) → course.parts * (3 * (course.parts - 1)) ≤ n
    → let end : Drawing StoreState Body = turns (rules course) n picks (all_begun (rules course) 0 (map (first_standing mesh) (below course.parts))) in
    (end.waiting ≡ []) × ((q : ℕ) → q < course.parts → ((part_at default end.parts q).phase ≡ 3) × (view_in (part_at default end.parts q).holds ≡ view_of mesh q))

-- whether a part is the owner
abbrev pub is_part : ℕ → Option ℕ → Bool
is_part p None = false
is_part p (Some q) = q == p

-- the marks in a view on cells of the part's own tetrahedra that it owns
abbrev pub owned_marks : View → List CellMark
owned_marks view = filter (λ mark. is_on view.own mark.cell && is_part view.part (owner_of view mark.cell)) view.marks

-- all own tetrahedra of views, with the labels of their parts, and the marks that the parts own
abbrev pub union_of : List View → LabelledMesh
union_of views = record { tets = ascending_of ghost_cmp (flat_map (λ view. labelled view.part view.own) views); marks = ascending_of mark_cmp (flat_map owned_marks views) }

-- the views of all parts together are the mesh
abbrev pub UnionIsMesh : Type 0
UnionIsMesh = (parts : ℕ) (mesh : LabelledMesh) → IsLabelled parts mesh → union_of (map (view_of mesh) (below parts)) ≡ mesh

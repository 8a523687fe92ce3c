-- What a labelled mesh has, item by item: marks, places, and cells of tetrahedra.
use Rattle.std.proofs.Common.{◌≡◌, ℕ, ◌<◌, inl, true, List, [], ◌∷◌, refl}
use Rattle.std.specs.List.{flat_map}
use Rattle.std.proofs.lemmas.Bool.{false≢true}
use Rattle.ma_geom.specs.Coordinates.{Coordinates, place_cmp}
use Rattle.ma_geom.proofs.PlaceOrder.{place_cmp-IsAntisymmetric, place_cmp_total}
use Rattle.ma_cells.specs.Ascending.{has}
use Rattle.ma_cells.specs.Cells.{CellMark, corners_of, is_cell, mark_cmp}
use Rattle.ma_cells.specs.Faces.{holds_all}
use Rattle.ma_cells.specs.Incidence.{is_on}
use Rattle.ma_cells.specs.Tetrahedron.{Tetrahedron}
use Rattle.ma_cells.specs.declared.cell.Cell.{Cell}
use Rattle.ma_cells.specs.declared.cell.Cell.TheVariants.{Point, Seg, Tri}
use Rattle.ma_cells.proofs.CellOrders.{mark_cmp_total, mark_cmp-IsAntisymmetric}
use Rattle.ma_cells.proofs.Passing.{all_pass}
use Rattle.directory.specs.Posting.{least_corner}
use Rattle.part_rules.specs.Owed.{AreCarried, IsLabelled}
use Rattle.part_store.specs.Labelled.{LabelledMesh, corner_set, own_of, touches}
use Rattle.part_store.proofs.Members.{In, all-in, any-in, from-any, in-flat_map, from-flat_map, in-has, from-has, in-ascending_of, from-ascending_of}

-- ---- places and marks
pub in-places : (places : List Coordinates) (x : Coordinates) → In x places → has place_cmp x places ≡ true
in-places = in-has place_cmp_total place_cmp-IsAntisymmetric

pub from-places : (places : List Coordinates) (x : Coordinates) → has place_cmp x places ≡ true → In x places
from-places = from-has place_cmp_total place_cmp-IsAntisymmetric

pub in-marks : (marks : List CellMark) (m : CellMark) → In m marks → has mark_cmp m marks ≡ true
in-marks = in-has mark_cmp_total mark_cmp-IsAntisymmetric

pub from-marks : (marks : List CellMark) (m : CellMark) → has mark_cmp m marks ≡ true → In m marks
from-marks = from-has mark_cmp_total mark_cmp-IsAntisymmetric

-- ---- corners
pub in-corners : (tets : List Tetrahedron) (t : Tetrahedron) (x : Coordinates) → In t tets → In x t.corners → In x (corner_set tets)
in-corners tets t x h k = in-ascending_of place_cmp_total place_cmp-IsAntisymmetric (flat_map (λ tet. tet.corners) tets) x (in-flat_map (λ tet. tet.corners) tets t x h k)

pub from-corners : (tets : List Tetrahedron) (x : Coordinates) → In x (corner_set tets) → (t : Tetrahedron) × In t tets × In x t.corners
from-corners tets x h = from-flat_map (λ tet. tet.corners) tets x (from-ascending_of place_cmp_total place_cmp-IsAntisymmetric (flat_map (λ tet. tet.corners) tets) x h)

pub touches-from : (corners : List Coordinates) (t : Tetrahedron) (x : Coordinates) → In x t.corners → In x corners → touches corners t ≡ true
touches-from corners t x h k = any-in (λ y. has place_cmp y corners) t.corners x h (in-places corners x k)

pub from-touches : (corners : List Coordinates) (t : Tetrahedron) → touches corners t ≡ true → (x : Coordinates) × In x t.corners × In x corners
from-touches corners t h = let r = from-any (λ y. has place_cmp y corners) t.corners h in (r.0, r.1, from-places corners r.0 r.2)

-- ---- cells
in-cell : (cell : Cell) → is_cell cell ≡ true → In (least_corner cell) (corners_of cell)
in-cell (Point p) h = inl refl
in-cell (Seg []) h = absurd (false≢true h)
in-cell (Seg (a ∷ s)) h = inl refl
in-cell (Tri []) h = absurd (false≢true h)
in-cell (Tri (a ∷ s)) h = inl refl

-- a tetrahedron with a cell has its least corner
least-held : (cell : Cell) (t : Tetrahedron) → is_cell cell ≡ true → holds_all t.corners (corners_of cell) ≡ true → In (least_corner cell) t.corners
least-held cell t right h =
    from-places t.corners (least_corner cell) (all-in (λ x. has place_cmp x t.corners ≡ true) (corners_of cell) (least_corner cell) (all_pass (λ x. has place_cmp x t.corners) (corners_of cell) h) (in-cell cell right))

pub on-from : (tets : List Tetrahedron) (t : Tetrahedron) (cell : Cell) → In t tets → holds_all t.corners (corners_of cell) ≡ true → is_on tets cell ≡ true
on-from tets t cell h k = any-in (λ tet. holds_all tet.corners (corners_of cell)) tets t h k

pub from-on : (tets : List Tetrahedron) (cell : Cell) → is_on tets cell ≡ true → (t : Tetrahedron) × In t tets × (holds_all t.corners (corners_of cell) ≡ true)
from-on tets cell h = from-any (λ tet. holds_all tet.corners (corners_of cell)) tets h

-- more tetrahedra have more cells
pub on-more : (some more : List Tetrahedron) (cell : Cell) → ((t : Tetrahedron) → In t some → In t more) → is_on some cell ≡ true → is_on more cell ≡ true
on-more some more cell within h = let r = from-on some cell h in on-from more r.0 cell (within r.0 r.1) r.2

pub least-corner-on : (tets : List Tetrahedron) (cell : Cell) → is_cell cell ≡ true → is_on tets cell ≡ true → In (least_corner cell) (corner_set tets)
least-corner-on tets cell right h = let r = from-on tets cell h in in-corners tets r.0 (least_corner cell) r.1 (least-held cell r.0 right r.2)

-- ---- labels, and what is carried
module _ (parts : ℕ) (mesh : LabelledMesh) where
  pub label-below : IsLabelled parts mesh → (e : Tetrahedron × ℕ) → In e mesh.tets → e.1 < parts
  label-below right e h = all-in {X = Tetrahedron × ℕ} (λ e. e.1 < parts) mesh.tets e right.labels h

  pub is-cell : IsLabelled parts mesh → (m : CellMark) → In m mesh.marks → is_cell m.cell ≡ true
  is-cell right m h = all-in (λ m. is_cell m.cell ≡ true) mesh.marks m right.cells h

  module _ (carried : ℕ → List CellMark) (known : AreCarried parts mesh carried) where
    -- what is carried is in the mesh, on a cell of an own tetrahedron
    pub carried-right : (p : ℕ) (m : CellMark) → p < parts → In m (carried p) → In m mesh.marks × (is_on (own_of mesh p) m.cell ≡ true)
    carried-right p m within h =
        let r = all-in (λ m. (has mark_cmp m mesh.marks ≡ true) × (is_on (own_of mesh p) m.cell ≡ true)) (carried p) m (known.right p within) h in
        (from-marks mesh.marks m r.0, r.1)

    pub carried-all : (m : CellMark) → In m mesh.marks → (p : ℕ) × (p < parts) × In m (carried p)
    carried-all m h =
        let r = all-in (λ m. (p : ℕ) × (p < parts) × (has mark_cmp m (carried p) ≡ true)) mesh.marks m known.all h in
        (r.0, r.1, from-marks (carried r.0) m r.2)

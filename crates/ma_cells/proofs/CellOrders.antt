-- The orders are total, and only equal tetrahedra tie, only equal marks, and only equal ghosts.
use Rattle.std.proofs.Common.{◌≡◌, ℕ, refl, ap, subst}
use Rattle.std.specs.declared.cmp.Ordering.{Ordering}
use Rattle.std.specs.declared.cmp.Ordering.TheVariants.{Less, Equal, Greater}
use Rattle.std.specs.Cmp.{IsTotalOrder, int_cmp_total, nat_cmp_total}
use Rattle.std.specs.Cmp.Lexicographic.{slice_cmp, lists_total}
use Rattle.std.specs.FinMap.{IsAntisymmetric, nat_cmp-IsAntisymmetric, int_cmp-IsAntisymmetric, slice_cmp-IsAntisymmetric}
use Rattle.std.specs.Ordering.{int_cmp, nat_cmp, ordering_then}
use Rattle.std.proofs.lemmas.Cmp.{on_total, then_total}
use Rattle.ma_geom.specs.Coordinates.{place_cmp}
use Rattle.ma_geom.proofs.PlaceOrder.{both_tie, place_cmp-IsAntisymmetric, place_cmp_total}
use Rattle.ma_cells.specs.Cells.{CellMark, cell_cmp, corners_of, mark_cmp}
use Rattle.ma_cells.specs.Tetrahedron.{Tetrahedron, tet_cmp}
use Rattle.ma_cells.specs.Views.{ghost_cmp}
use Rattle.ma_cells.specs.contracts.cell.CellOrd.TheImpl as CellOrder
use Rattle.ma_cells.specs.contracts.cell.MarkOrd.TheImpl as MarkOrder
use Rattle.ma_cells.specs.declared.cell.Cell.{Cell}
use Rattle.ma_cells.specs.declared.cell.Cell.TheVariants.{Point, Seg, Tri}

pub tet_cmp_total : IsTotalOrder tet_cmp
tet_cmp_total =
    then_total (on_total (λ (t : Tetrahedron). t.corners) (lists_total place_cmp_total)) (then_total (on_total (λ (t : Tetrahedron). t.phys) int_cmp_total) (on_total (λ (t : Tetrahedron). t.elem) int_cmp_total))

pub tet_cmp-IsAntisymmetric : IsAntisymmetric tet_cmp
tet_cmp-IsAntisymmetric t u e =
    let first = both_tie (slice_cmp place_cmp t.corners u.corners) _ e in
    let second = both_tie (int_cmp t.phys u.phys) _ first.1 in
    let corners = slice_cmp-IsAntisymmetric place_cmp-IsAntisymmetric t.corners u.corners first.0 in
    let physes = int_cmp-IsAntisymmetric t.phys u.phys second.0 in
    let elems = int_cmp-IsAntisymmetric t.elem u.elem second.1 in
    λ i. record { corners = corners i; phys = physes i; elem = elems i }

pub cell_cmp-IsAntisymmetric : IsAntisymmetric cell_cmp
cell_cmp-IsAntisymmetric (Point p) (Point q) e = ap Point (place_cmp-IsAntisymmetric p q e)
cell_cmp-IsAntisymmetric (Point p) (Seg t) e = absurd (cc)
cell_cmp-IsAntisymmetric (Point p) (Tri t) e = absurd (cc)
cell_cmp-IsAntisymmetric (Seg s) (Point q) e = absurd (cc)
cell_cmp-IsAntisymmetric (Seg s) (Seg t) e = ap Seg (slice_cmp-IsAntisymmetric place_cmp-IsAntisymmetric s t e)
cell_cmp-IsAntisymmetric (Seg s) (Tri t) e = absurd (cc)
cell_cmp-IsAntisymmetric (Tri s) (Point q) e = absurd (cc)
cell_cmp-IsAntisymmetric (Tri s) (Seg t) e = absurd (cc)
cell_cmp-IsAntisymmetric (Tri s) (Tri t) e = ap Tri (slice_cmp-IsAntisymmetric place_cmp-IsAntisymmetric s t e)

pub mark_cmp-IsAntisymmetric : IsAntisymmetric mark_cmp
mark_cmp-IsAntisymmetric m n e =
    let first = both_tie (cell_cmp m.cell n.cell) _ e in
    let second = both_tie (int_cmp m.phys n.phys) _ first.1 in
    let cells = cell_cmp-IsAntisymmetric m.cell n.cell first.0 in
    let physes = int_cmp-IsAntisymmetric m.phys n.phys second.0 in
    let elems = int_cmp-IsAntisymmetric m.elem n.elem second.1 in
    λ i. record { cell = cells i; phys = physes i; elem = elems i }

-- cells by dimension, and then by corners
abbrev dimension : Cell → ℕ
dimension (Point p) = 0
dimension (Seg s) = 1
dimension (Tri t) = 2

abbrev by_dimension : Cell → Cell → Ordering
by_dimension c d = ordering_then (nat_cmp (dimension c) (dimension d)) (slice_cmp place_cmp (corners_of c) (corners_of d))

then-equal : (o : Ordering) → ordering_then o Equal ≡ o
then-equal Less = refl
then-equal Equal = refl
then-equal Greater = refl

is_by_dimension : (c d : Cell) → by_dimension c d ≡ cell_cmp c d
is_by_dimension (Point p) (Point q) = then-equal (place_cmp p q)
is_by_dimension (Point p) (Seg t) = refl
is_by_dimension (Point p) (Tri t) = refl
is_by_dimension (Seg s) (Point q) = refl
is_by_dimension (Seg s) (Seg t) = refl
is_by_dimension (Seg s) (Tri t) = refl
is_by_dimension (Tri s) (Point q) = refl
is_by_dimension (Tri s) (Seg t) = refl
is_by_dimension (Tri s) (Tri t) = refl

pub cell_cmp_total : IsTotalOrder cell_cmp
cell_cmp_total =
    let same : by_dimension ≡ cell_cmp = λ i c d. is_by_dimension c d i in
    subst (λ R. IsTotalOrder R) same (then_total (on_total dimension nat_cmp_total) (on_total corners_of (lists_total place_cmp_total)))

pub mark_cmp_total : IsTotalOrder mark_cmp
mark_cmp_total =
    then_total (on_total (λ (m : CellMark). m.cell) cell_cmp_total) (then_total (on_total (λ (m : CellMark). m.phys) int_cmp_total) (on_total (λ (m : CellMark). m.elem) int_cmp_total))

pub ghost_cmp_total : IsTotalOrder ghost_cmp
ghost_cmp_total =
    then_total (on_total (λ (g : Tetrahedron × ℕ). g.0) tet_cmp_total) (on_total (λ (g : Tetrahedron × ℕ). g.1) nat_cmp_total)

pub ghost_cmp-IsAntisymmetric : IsAntisymmetric ghost_cmp
ghost_cmp-IsAntisymmetric g h e =
    let both = both_tie (tet_cmp g.0 h.0) _ e in
    let tets = tet_cmp-IsAntisymmetric g.0 h.0 both.0 in
    let labels = nat_cmp-IsAntisymmetric g.1 h.1 both.1 in
    λ i. (tets i, labels i)

-- the derived order of cells is theirs
pub derived_cell_cmp : (c d : Cell) → CellOrder.ghosts.cmp c d ≡ cell_cmp c d
derived_cell_cmp (Point p) (Point q) = refl
derived_cell_cmp (Point p) (Seg t) = refl
derived_cell_cmp (Point p) (Tri t) = refl
derived_cell_cmp (Seg s) (Point q) = refl
derived_cell_cmp (Seg s) (Seg t) = refl
derived_cell_cmp (Seg s) (Tri t) = refl
derived_cell_cmp (Tri s) (Point q) = refl
derived_cell_cmp (Tri s) (Seg t) = refl
derived_cell_cmp (Tri s) (Tri t) = refl

pub derived_mark_cmp : MarkOrder.ghosts.cmp ≡ mark_cmp
derived_mark_cmp = λ i m n. ordering_then (derived_cell_cmp m.cell n.cell i) (ordering_then (int_cmp m.phys n.phys) (int_cmp m.elem n.elem))

-- the same of the orders as functions
pub derived_cells : CellOrder.ghosts.cmp ≡ cell_cmp
derived_cells = λ i c d. derived_cell_cmp c d i

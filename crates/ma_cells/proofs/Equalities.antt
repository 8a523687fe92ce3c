-- The code finds tetrahedra, cells and marks equal just where contracts do.
use Rattle.std.proofs.Common.{◌≡◌, true, ap, subst, ◌∙◌}
use Rattle.std.specs.declared.cmp.Ordering.{Ordering}
use Rattle.std.specs.Cmp.{IsTotalOrder, Equal-is, tied_itself}
use Rattle.std.specs.FinMap.{IsAntisymmetric}
use Rattle.std.specs.Ordering.{eq_by_cmp, is_eq}
use Rattle.ma_cells.specs.Cells.{CellMark, mark_cmp}
use Rattle.ma_cells.specs.Tetrahedron.{Tetrahedron, tet_cmp}
use Rattle.ma_cells.specs.contracts.cell.CellOrd.TheImpl.Laws as CellLaws
use Rattle.ma_cells.specs.contracts.cell.CellPartialEq.TheImpl as CellEquality
use Rattle.ma_cells.specs.contracts.cell.MarkOrd.TheImpl.Laws as MarkLaws
use Rattle.ma_cells.specs.contracts.cell.MarkPartialEq.TheImpl as MarkEquality
use Rattle.ma_cells.specs.contracts.tet.TetOrd.TheImpl.Laws as TetLaws
use Rattle.ma_cells.specs.contracts.tet.TetPartialEq.TheImpl as TetEquality
use Rattle.ma_cells.specs.declared.cell.Cell.{Cell}
use Rattle.ma_cells.specs.Cells.{cell_cmp}
use Rattle.ma_cells.proofs.CellOrders.{cell_cmp-IsAntisymmetric, cell_cmp_total, derived_cell_cmp, derived_mark_cmp, mark_cmp-IsAntisymmetric, mark_cmp_total, tet_cmp-IsAntisymmetric, tet_cmp_total}

-- what ties is equal, and the other way round
tied_is_equal : {K : Type 0} {R : K → K → Ordering} → IsTotalOrder R → IsAntisymmetric R → (x y : K) → (eq_by_cmp R x y ≡ true → x ≡ y) × (x ≡ y → eq_by_cmp R x y ≡ true)
tied_is_equal {R = R} o exact x y =
    (λ tied. exact x y ((Equal-is (R x y)).0 tied), λ same. subst (λ z. eq_by_cmp R x z ≡ true) same (ap is_eq (tied_itself o x)))

pub tet_eq-is : (t u : Tetrahedron) → (TetEquality.ghosts.eq t u ≡ true → t ≡ u) × (t ≡ u → TetEquality.ghosts.eq t u ≡ true)
tet_eq-is t u =
    let same : TetEquality.ghosts.eq t u ≡ eq_by_cmp tet_cmp t u = TetLaws.matches_eq-law t u in
    rw same (tied_is_equal tet_cmp_total tet_cmp-IsAntisymmetric t u)

pub cell_eq-is : (c d : Cell) → (CellEquality.ghosts.eq c d ≡ true → c ≡ d) × (c ≡ d → CellEquality.ghosts.eq c d ≡ true)
cell_eq-is c d =
    let same : CellEquality.ghosts.eq c d ≡ eq_by_cmp cell_cmp c d = CellLaws.matches_eq-law c d ∙ ap is_eq (derived_cell_cmp c d) in
    rw same (tied_is_equal cell_cmp_total cell_cmp-IsAntisymmetric c d)

pub mark_eq-is : (m n : CellMark) → (MarkEquality.ghosts.eq m n ≡ true → m ≡ n) × (m ≡ n → MarkEquality.ghosts.eq m n ≡ true)
mark_eq-is m n =
    let same : MarkEquality.ghosts.eq m n ≡ eq_by_cmp mark_cmp m n = MarkLaws.matches_eq-law m n ∙ ap (λ R. eq_by_cmp R m n) derived_mark_cmp in
    rw same (tied_is_equal mark_cmp_total mark_cmp-IsAntisymmetric m n)

-- Sets by the orders of the code, which are those of the definitions.
use Rattle.std.proofs.Common.{◌≡◌, Bool, not, IfOk, List, [], ◌∷◌, filter, sym, ap, subst, ◌∙◌}
use Rattle.std.specs.Prelude.{Result}
use Rattle.std.specs.FinMap.{IsAntisymmetric}
use Rattle.std.specs.List.Sorted.{IsStrictlySortedBy}
use Rattle.std.specs.declared.cmp.Ordering.{Ordering}
use Rattle.std.proofs.lemmas.Result.{IfOk-weaker}
use Rattle.std.proofs.lemmas.List.Kept.{IsStrictlySortedBy-filter}
use Rattle.ma_geom.specs.Coordinates.{Coordinates}
use Rattle.ma_cells.specs.Ascending.{ascending_of, has}
use Rattle.ma_cells.specs.Cells.{CellMark, cell_cmp, corners_of, mark_cmp}
use Rattle.ma_cells.specs.Faces.{holds_all}
use Rattle.ma_cells.specs.Incidence.{is_on}
use Rattle.ma_cells.specs.Stars.{marks_at}
use Rattle.ma_cells.specs.Tetrahedron.{Tetrahedron, tet_cmp}
use Rattle.ma_cells.specs.declared.cell.Cell.{Cell}
use Rattle.ma_cells.specs.contracts.cell.CellOrd.TheImpl as CellOrder
use Rattle.ma_cells.specs.contracts.cell.MarkOrd.TheImpl as MarkOrder
use Rattle.ma_cells.proofs.Ascents.{has-ascending_of}
use Rattle.ma_cells.proofs.CellOrders.{cell_cmp-IsAntisymmetric, derived_cells, derived_mark_cmp, mark_cmp-IsAntisymmetric, tet_cmp_total}
use Rattle.part_store.specs.Labelled.{marks_on}

pub cells_gathered : (cells set : List Cell) → (IsAntisymmetric CellOrder.ghosts.cmp → set ≡ ascending_of CellOrder.ghosts.cmp cells) → set ≡ ascending_of cell_cmp cells
cells_gathered cells set is = is (subst (λ R. IsAntisymmetric R) (sym derived_cells) cell_cmp-IsAntisymmetric) ∙ ap (λ R. ascending_of R cells) derived_cells

pub marks_gathered : (marks set : List CellMark) → (IsAntisymmetric MarkOrder.ghosts.cmp → set ≡ ascending_of MarkOrder.ghosts.cmp marks) → set ≡ ascending_of mark_cmp marks
marks_gathered marks set is = is (subst (λ R. IsAntisymmetric R) (sym derived_mark_cmp) mark_cmp-IsAntisymmetric) ∙ ap (λ R. ascending_of R marks) derived_mark_cmp

-- what is no member of a set of tetrahedra is none of the list
pub without_set : (own ended copied set : List Tetrahedron) → copied ≡ ended → set ≡ ascending_of tet_cmp copied → filter (λ tet. not (has tet_cmp tet set)) own ≡ filter (λ tet. not (has tet_cmp tet ended)) own
without_set own ended copied set same is =
    ap (λ (f : Tetrahedron → Bool). filter (λ tet. not (f tet)) own) (λ i tet. (ap (has tet_cmp tet) is ∙ has-ascending_of tet_cmp_total tet copied ∙ ap (has tet_cmp tet) same) i)

-- those marks of a set that have a place ascend
pub marks_rise : {X E : Type 0} (items : X → List CellMark) (place : Coordinates) (marks : List CellMark) (result : Result X E) → IsStrictlySortedBy MarkOrder.ghosts.cmp marks
    → IfOk result (λ found. items found ≡ marks_at (place ∷ []) marks) → IfOk result (λ found. IsStrictlySortedBy mark_cmp (items found))
marks_rise items place marks result rises =
    IfOk-weaker result (λ found. items found ≡ marks_at (place ∷ []) marks) (λ found. IsStrictlySortedBy mark_cmp (items found))
    (λ found is. subst (λ ms. IsStrictlySortedBy mark_cmp ms) (sym is)
    (IsStrictlySortedBy-filter mark_cmp (λ (mark : CellMark). holds_all (corners_of mark.cell) (place ∷ [])) marks (subst (λ (R : CellMark → CellMark → Ordering). IsStrictlySortedBy R marks) derived_mark_cmp rises)))

-- those marks of a set that are on cells of tetrahedra ascend
pub kept_marks_rise : (tets : List Tetrahedron) (marks kept : List CellMark) → IsStrictlySortedBy MarkOrder.ghosts.cmp marks → kept ≡ marks_on tets marks → IsStrictlySortedBy MarkOrder.ghosts.cmp kept
kept_marks_rise tets marks kept rises is =
    subst (λ ms. IsStrictlySortedBy MarkOrder.ghosts.cmp ms) (sym is) (IsStrictlySortedBy-filter MarkOrder.ghosts.cmp (λ (mark : CellMark). is_on tets mark.cell) marks rises)

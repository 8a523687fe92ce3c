-- The marks on cells of tetrahedra, cell by cell.
use Rattle.std.proofs.Common.{◌≡◌, ℕ, ◌+◌, ◌<◌, Bool, true, false, ◌||◌, List, ◌∷◌, ◌++◌, drop, get_or, length, refl, sym, ap, subst, ◌∙◌}
use Rattle.std.specs.Cmp.{tied_itself}
use Rattle.std.specs.FinMap.{IsAntisymmetric}
use Rattle.std.specs.List.{AllByRecursion, flat_map}
use Rattle.std.specs.List.Sorted.{IsStrictlySortedBy}
use Rattle.std.specs.Ordering.{eq_by_cmp, is_eq}
use Rattle.std.proofs.lemmas.List.{drop_more}
use Rattle.std.proofs.lemmas.List.Folds.{list_any-append}
use Rattle.std.proofs.lemmas.List.Kept.{IsStrictlySortedBy-filter}
use Rattle.ma_cells.specs.Ascending.{ascending_of, has}
use Rattle.ma_cells.specs.Cells.{CellMark, cell_cmp, corners_of, is_cell, mark_cmp}
use Rattle.ma_cells.specs.Faces.{holds_all}
use Rattle.ma_cells.specs.Incidence.{is_on}
use Rattle.ma_cells.specs.Tetrahedron.{Tetrahedron}
use Rattle.ma_cells.specs.declared.cell.Cell.{Cell}
use Rattle.ma_cells.specs.contracts.cell.CellOrd.TheImpl as CellOrder
use Rattle.ma_cells.specs.contracts.cell.MarkOrd.TheImpl as MarkOrder
use Rattle.ma_cells.proofs.Ascents.{has-ascending_of}
use Rattle.ma_cells.proofs.CellOrders.{cell_cmp-IsAntisymmetric, cell_cmp_total, derived_cells, derived_mark_cmp, mark_cmp-IsAntisymmetric, mark_cmp_total}
use Rattle.ma_cells.proofs.Members.{tied_is}
use Rattle.part_store.specs.Agreement.{marks_of}
use Rattle.part_store.specs.Labelled.{marks_on}
use Rattle.part_store.proofs.Members.{In, all-in, from-filter, from-flat_map, from-has, in-filter, in-flat_map, in-has, is_made}

-- ---- sets by the orders of the code, which are those of the definitions
pub cells_gathered : (cells set : List Cell) → (IsAntisymmetric CellOrder.ghosts.cmp → set ≡ ascending_of CellOrder.ghosts.cmp cells) → set ≡ ascending_of cell_cmp cells
cells_gathered cells set is = is (subst (λ R. IsAntisymmetric R) (sym derived_cells) cell_cmp-IsAntisymmetric) ∙ ap (λ R. ascending_of R cells) derived_cells

pub marks_gathered : (marks set : List CellMark) → (IsAntisymmetric MarkOrder.ghosts.cmp → set ≡ ascending_of MarkOrder.ghosts.cmp marks) → set ≡ ascending_of mark_cmp marks
marks_gathered marks set is = is (subst (λ R. IsAntisymmetric R) (sym derived_mark_cmp) mark_cmp-IsAntisymmetric) ∙ ap (λ R. ascending_of R marks) derived_mark_cmp

-- ---- one more tetrahedron whose cells are listed
pub listed_next : (listed own more : List Cell) (tets : List Tetrahedron) (i : ℕ) (tet : Tetrahedron) (all : Bool) (cell : Cell) → i < length tets → tet ≡ get_or tets i tet
    → more ≡ listed ++ own → has cell_cmp cell own ≡ holds_all tet.corners (corners_of cell)
    → (has cell_cmp cell listed || is_on (drop i tets) cell) ≡ all → (has cell_cmp cell more || is_on (drop (i + 1) tets) cell) ≡ all
listed_next listed own more tets i tet all cell within at pushed held before =
    ap (λ b. b || is_on (drop (i + 1) tets) cell) (ap (has cell_cmp cell) pushed ∙ list_any-append (eq_by_cmp cell_cmp cell) listed own ∙ ap (λ b. has cell_cmp cell listed || b) held)
    ∙ regroup (has cell_cmp cell listed) (holds_all tet.corners (corners_of cell)) (is_on (drop (i + 1) tets) cell)
    ∙ ap (λ rest. has cell_cmp cell listed || is_on rest cell) (sym (drop_more tets i tet within ∙ ap (λ t. t ∷ drop (i + 1) tets) (sym at)))
    ∙ before
  where
    regroup : (f h r : Bool) → ((f || h) || r) ≡ (f || (h || r))
    regroup true h r = refl
    regroup false h r = refl

-- ---- the marks on the cells of tetrahedra are those on the tetrahedra
module _ (tets : List Tetrahedron) (marks : List CellMark) (listed cells : List Cell) (are : AllByRecursion (λ (m : CellMark). is_cell m.cell ≡ true) marks)
    (set : cells ≡ ascending_of cell_cmp listed) (each : (cell : Cell) → is_cell cell ≡ true → has cell_cmp cell listed ≡ is_on tets cell) where
  abbrev found : List CellMark
  found = flat_map (λ (cell : Cell). marks_of cell marks) cells

  has_cell : (m : CellMark) → In m marks → has cell_cmp m.cell cells ≡ is_on tets m.cell
  has_cell m there = ap (has cell_cmp m.cell) set ∙ has-ascending_of cell_cmp_total m.cell listed ∙ each m.cell (all-in (λ (n : CellMark). is_cell n.cell ≡ true) marks m are there)

  on_them : (m : CellMark) → In m found → In m (marks_on tets marks)
  on_them m there =
      let from = from-flat_map (λ (cell : Cell). marks_of cell marks) cells m there in
      let kept = from-filter (λ (n : CellMark). eq_by_cmp cell_cmp n.cell from.0) marks m from.2 in
      let same : m.cell ≡ from.0 = tied_is cell_cmp-IsAntisymmetric m.cell from.0 kept.1 in
      let known : has cell_cmp m.cell cells ≡ true = ap (λ c. has cell_cmp c cells) same ∙ in-has cell_cmp_total cell_cmp-IsAntisymmetric cells from.0 from.1 in
      in-filter (λ (n : CellMark). is_on tets n.cell) marks m kept.0 (sym (has_cell m kept.0) ∙ known)

  among_them : (m : CellMark) → In m (marks_on tets marks) → In m found
  among_them m there =
      let kept = from-filter (λ (n : CellMark). is_on tets n.cell) marks m there in
      let known : In m.cell cells = from-has cell_cmp_total cell_cmp-IsAntisymmetric cells m.cell (has_cell m kept.0 ∙ kept.1) in
      in-flat_map (λ (cell : Cell). marks_of cell marks) cells m.cell m known
      (in-filter (λ (n : CellMark). eq_by_cmp cell_cmp n.cell m.cell) marks m kept.0 (ap is_eq (tied_itself cell_cmp_total m.cell)))

  pub found_is : IsStrictlySortedBy mark_cmp marks → ascending_of mark_cmp found ≡ marks_on tets marks
  found_is rises =
      is_made mark_cmp_total mark_cmp-IsAntisymmetric found (marks_on tets marks) (IsStrictlySortedBy-filter mark_cmp (λ (m : CellMark). is_on tets m.cell) marks rises) on_them among_them

-- by the order of the code
pub rises_here : (marks : List CellMark) → IsStrictlySortedBy MarkOrder.ghosts.cmp marks → IsStrictlySortedBy mark_cmp marks
rises_here marks = subst (λ (R : CellMark → CellMark → _). IsStrictlySortedBy R marks) derived_mark_cmp

-- The pieces of marks: cells that lie on pieces of tetrahedra.
use Rattle.std.proofs.Common.{◌≡◌, inl, inr, true, List, [], ◌∷◌, sym, subst}
use Rattle.std.specs.List.{AllByRecursion, flat_map}
use Rattle.ma_cells.specs.Ascending.{ascending_of}
use Rattle.ma_cells.specs.Cells.{CellMark, is_cell, mark_cmp}
use Rattle.ma_cells.specs.Incidence.{is_on}
use Rattle.ma_cells.specs.Tetrahedron.{Tetrahedron, tet_cmp}
use Rattle.ma_cells.specs.declared.cell.Cell.{Cell}
use Rattle.ma_cells.proofs.CellOrders.{mark_cmp_total, mark_cmp-IsAntisymmetric, tet_cmp_total, tet_cmp-IsAntisymmetric}
use Rattle.ma_cells.proofs.Passing.{all_weaker, test_all}
use Rattle.size_marks.specs.Field.{Field}
use Rattle.refinement.specs.Refinement.{refined_cell, refined_mark, refined_tet}
use Rattle.refinement.proofs.Covered.{IsNotFlat}
use Rattle.refine_marks.proofs.CellsKept.{pieces_are_cells}
use Rattle.refine_laws.proofs.OnPieces.{cell_pieces_on}
use Rattle.part_store.proofs.Members.{In, all-in, from-map, in-flat_map, from-flat_map, in-ascending_of, from-ascending_of}
use Rattle.view_laws.proofs.MeshItems.{on-more}
use Rattle.refined_views.specs.Laws.{PiecesLieOnPieces}

module _ (field : Field) where
  -- the tetrahedra of a refined mesh
  abbrev pub pieces : List Tetrahedron → List Tetrahedron
  pieces tets = ascending_of tet_cmp (flat_map (refined_tet field) tets)

  pub in-pieces : (tets : List Tetrahedron) (t u : Tetrahedron) → In t tets → In u (refined_tet field t) → In u (pieces tets)
  in-pieces tets t u h k = in-ascending_of tet_cmp_total tet_cmp-IsAntisymmetric (flat_map (refined_tet field) tets) u (in-flat_map (refined_tet field) tets t u h k)

  pub from-pieces : (tets : List Tetrahedron) (u : Tetrahedron) → In u (pieces tets) → (t : Tetrahedron) × In t tets × In u (refined_tet field t)
  from-pieces tets u h = from-flat_map (refined_tet field) tets u (from-ascending_of tet_cmp_total tet_cmp-IsAntisymmetric (flat_map (refined_tet field) tets) u h)

  -- its marks
  abbrev pub mark_pieces : List CellMark → List CellMark
  mark_pieces marks = ascending_of mark_cmp (flat_map (refined_mark field) marks)

  pub in-mark_pieces : (marks : List CellMark) (m n : CellMark) → In m marks → In n (refined_mark field m) → In n (mark_pieces marks)
  in-mark_pieces marks m n h k = in-ascending_of mark_cmp_total mark_cmp-IsAntisymmetric (flat_map (refined_mark field) marks) n (in-flat_map (refined_mark field) marks m n h k)

  pub from-mark_pieces : (marks : List CellMark) (n : CellMark) → In n (mark_pieces marks) → (m : CellMark) × In m marks × In n (refined_mark field m)
  from-mark_pieces marks n h = from-flat_map (refined_mark field) marks n (from-ascending_of mark_cmp_total mark_cmp-IsAntisymmetric (flat_map (refined_mark field) marks) n h)

  -- what holds of the pieces of a mark's cell holds of the cells of its pieces
  of_piece : (P : Cell → Type 0) (m n : CellMark) → AllByRecursion P (refined_cell field m.cell) → In n (refined_mark field m) → P n.cell
  of_piece P m n all h =
      let c = from-map (λ cell. record m { cell = cell }) (refined_cell field m.cell) n h in
      subst (λ (z : CellMark). P z.cell) (sym c.2) (all-in P (refined_cell field m.cell) c.0 all c.1)

  pub piece-is-cell : (m n : CellMark) → is_cell m.cell ≡ true → In n (refined_mark field m) → is_cell n.cell ≡ true
  piece-is-cell m n is h = of_piece (λ cell. is_cell cell ≡ true) m n (pieces_are_cells field m.cell is) h

  pub piece-on : (tets : List Tetrahedron) (m n : CellMark) → AllByRecursion IsNotFlat tets → is_cell m.cell ≡ true → is_on tets m.cell ≡ true → In n (refined_mark field m) → is_on (pieces tets) n.cell ≡ true
  piece-on tets m n are is on h = of_piece (λ cell. is_on (pieces tets) cell ≡ true) m n (cell_pieces_on field tets are m.cell is on) h

pub pieces_lie_on_pieces : PiecesLieOnPieces
pieces_lie_on_pieces field tet cell are is on =
    test_all (is_on (refined_tet field tet)) (refined_cell field cell)
    (all_weaker (λ piece. is_on (pieces field (tet ∷ [])) piece ≡ true) (λ piece. is_on (refined_tet field tet) piece ≡ true)
    (λ piece h. on-more (pieces field (tet ∷ [])) (refined_tet field tet) piece its_own h) (refined_cell field cell) (cell_pieces_on field (tet ∷ []) (are, tt) cell is on))
  where
    its_own : (u : Tetrahedron) → In u (pieces field (tet ∷ [])) → In u (refined_tet field tet)
    its_own u h = let t = from-pieces field (tet ∷ []) u h in elim t.1 [ inl e ↦ subst (λ s. In u (refined_tet field s)) e t.2 | inr k ↦ absurd k ]

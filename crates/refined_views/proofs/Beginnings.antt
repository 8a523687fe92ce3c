-- Parts that have refined by themselves hold what the refined mesh says of the beginning of a round.
use Rattle.std.proofs.Common.{◌≡◌, ℕ, zero, ◌<◌, Bool, true, [], sym, ap, subst, ◌∙◌}
use Rattle.std.specs.Prelude.{map}
use Rattle.std.specs.List.{flat_map}
use Rattle.ma_geom.specs.Coordinates.{Coordinates}
use Rattle.ma_cells.specs.Ascending.{ascending_of, has}
use Rattle.ma_cells.specs.Cells.{CellMark, mark_cmp}
use Rattle.ma_cells.specs.Incidence.{is_on}
use Rattle.ma_cells.specs.Tetrahedron.{are_tetrahedra, tet_cmp}
use Rattle.ma_cells.specs.declared.batch.Batch.{Batch}
use Rattle.ma_cells.specs.declared.view.View.{View}
use Rattle.ma_cells.proofs.Ascents.{sorted-ascending_of}
use Rattle.ma_cells.proofs.CellOrders.{mark_cmp_total, mark_cmp-IsAntisymmetric, tet_cmp_total, tet_cmp-IsAntisymmetric}
use Rattle.size_marks.specs.Field.{Field}
use Rattle.refinement.specs.Refinement.{refine, refined_mark, refined_tet}
use Rattle.ghost_layer.specs.GhostRule.{batch_of}
use Rattle.part_rules.specs.Begins.{refined_store}
use Rattle.part_rules.specs.Owed.{AreCarried, IsLabelled, holding}
use Rattle.part_store.specs.Labelled.{LabelledMesh, ghosts_of, marks_on, own_of, seen_by, tet_of, view_of}
use Rattle.part_store.specs.Stores.{StoreState, started, view_in}
use Rattle.part_store.proofs.Agreeing.{in-own}
use Rattle.part_store.proofs.Members.{In, all-in, all-from_in, in-append_left, in-filter, from-filter, filter-all, filter-filter, from-map, is_made}
use Rattle.view_laws.proofs.MeshItems.{from-on, in-marks, is-cell, label-below, on-from, on-more}
use Rattle.refined_views.specs.Laws.{RefinedMarksAreCarried, RefinedStores}
use Rattle.refined_views.specs.Refined.{carried_pieces, refined_labelled}
use Rattle.refined_views.proofs.PieceMarks.{from-mark_pieces, in-mark_pieces, piece-on, pieces}
use Rattle.refined_views.proofs.RefinedItems.{own_is}
use Rattle.refined_views.proofs.RefinedMesh.{own_not_flat}

module _ (field : Field) (parts : ℕ) (mesh : LabelledMesh) (right : IsLabelled parts mesh) (solid : are_tetrahedra (map tet_of mesh.tets) ≡ true) where
  abbrev new : LabelledMesh
  new = refined_labelled field mesh

  abbrev on_own : ℕ → CellMark → Bool
  on_own p m = is_on (own_of mesh p) m.cell

  -- ---- marks
  -- what a part carries comes from a mark of the mesh, and lies on a piece of its tetrahedra
  from-carried : (p : ℕ) (n : CellMark) → In n (carried_pieces field mesh p) → In n new.marks × (is_on (pieces field (own_of mesh p)) n.cell ≡ true)
  from-carried p n h =
      let m = from-mark_pieces field (marks_on (own_of mesh p) mesh.marks) n h in
      let kept = from-filter (on_own p) mesh.marks m.0 m.1 in
      (in-mark_pieces field mesh.marks m.0 n kept.0 m.2, piece-on field (own_of mesh p) m.0 n (own_not_flat mesh solid p) (is-cell parts mesh right m.0 kept.0) kept.1 m.2)

  -- a mark of the mesh stands on a cell of some part's tetrahedra
  a_part : (m : CellMark) → In m mesh.marks → (p : ℕ) × (p < parts) × (on_own p m ≡ true)
  a_part m h =
      let t = from-on (map tet_of mesh.tets) m.cell (all-in (λ mark. is_on (map tet_of mesh.tets) mark.cell ≡ true) mesh.marks m right.on_cells h) in
      let e = from-map tet_of mesh.tets t.0 t.1 in
      let p = e.0.1 in
      let own = in-own mesh p t.0 (subst (λ z. In z mesh.tets) (λ i. (sym e.2 i, p)) e.1) in
      (p, label-below parts mesh right e.0 e.1, on-from (own_of mesh p) t.0 m.cell own t.2)

  pub marks_are_carried : AreCarried parts new (carried_pieces field mesh)
  marks_are_carried = record {
    right = λ p within. all-from_in (λ n. (has mark_cmp n new.marks ≡ true) × (is_on (own_of new p) n.cell ≡ true)) (carried_pieces field mesh p) (λ n h.
        let there = from-carried p n h in
        (in-marks new.marks n there.0, subst (λ ts. is_on ts n.cell ≡ true) (sym (own_is field mesh p)) there.1));
    all = all-from_in (λ n. (p : ℕ) × (p < parts) × (has mark_cmp n (carried_pieces field mesh p) ≡ true)) new.marks (λ n h.
        let m = from-mark_pieces field mesh.marks n h in
        let p = a_part m.0 m.1 in
        let own = in-filter (on_own p.0) mesh.marks m.0 m.1 p.2 in
        (p.0, p.1, in-marks (carried_pieces field mesh p.0) n (in-mark_pieces field (marks_on (own_of mesh p.0) mesh.marks) m.0 n own m.2)));
  }

  -- ---- stores
  module _ (home : Coordinates → ℕ) (p : ℕ) where
    abbrev own_batch : Batch
    own_batch = batch_of (own_of mesh p) mesh.marks

    -- the marks on own cells are among those that a part sees
    same_batch : (s : StoreState) → view_in s ≡ view_of mesh p → batch_of s.own s.marks ≡ own_batch
    same_batch s is =
        let own : s.own ≡ own_of mesh p = ap (λ (v : View). v.own) is in
        let marks : s.marks ≡ marks_on (seen_by mesh p) mesh.marks = ap (λ (v : View). v.marks) is in
        (λ i. batch_of (own i) (marks i))
        ∙ ap (λ ms. record { tets = own_of mesh p; marks = ms })
        (filter-filter (λ m. is_on (seen_by mesh p) m.cell) (on_own p) mesh.marks
        (λ m _ h. on-more (own_of mesh p) (seen_by mesh p) m.cell (λ t k. in-append_left (own_of mesh p) (map tet_of (ghosts_of mesh p)) t k) h))

    started_is : started p (refine field own_batch).tets (refine field own_batch).marks ≡ holding parts home new (carried_pieces field mesh) zero p
    started_is =
        let own = pieces field (own_of mesh p) in
        let kept = carried_pieces field mesh p in
        let tets : ascending_of tet_cmp own ≡ own_of new p =
        is_made tet_cmp_total tet_cmp-IsAntisymmetric own own (sorted-ascending_of tet_cmp_total (flat_map (refined_tet field) (own_of mesh p))) (λ t h. h) (λ t h. h) ∙ sym (own_is field mesh p) in
        let marks : ascending_of mark_cmp (marks_on own kept) ≡ kept =
        ap (ascending_of mark_cmp) (filter-all (λ m. is_on own m.cell) kept (λ n h. (from-carried p n h).1))
        ∙ is_made mark_cmp_total mark_cmp-IsAntisymmetric kept kept (sorted-ascending_of mark_cmp_total (flat_map (refined_mark field) (marks_on (own_of mesh p) mesh.marks))) (λ m h. h) (λ m h. h) in
        λ i. record { part = p; own = tets i; ghosts = []; marks = marks i; shared = [] }

    pub store_is : (s : StoreState) → view_in s ≡ view_of mesh p → refined_store field s ≡ holding parts home new (carried_pieces field mesh) zero p
    store_is s is =
        let number : s.part ≡ p = ap (λ (v : View). v.part) is in
        let same = same_batch s is in
        (λ i. started (number i) (refine field (same i)).tets (refine field (same i)).marks) ∙ started_is

pub refined_marks_are_carried : RefinedMarksAreCarried
refined_marks_are_carried field parts mesh right solid = marks_are_carried field parts mesh right solid

pub refined_stores : RefinedStores
refined_stores field parts home mesh p s right solid is = store_is field parts mesh right solid home p s is

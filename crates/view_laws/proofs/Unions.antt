-- The views of all parts together are the mesh.
use Rattle.std.proofs.Common.{◌≡◌, ℕ, ◌<◌, inl, Bool, true, ◌&&◌, List, [], ◌∷◌, Some, refl, sym, ap, subst, ◌∙◌}
use Rattle.std.specs.Prelude.{map}
use Rattle.std.specs.List.{flat_map}
use Rattle.std.specs.Cmp.{nat_cmp_total}
use Rattle.std.specs.FinMap.{nat_cmp-IsAntisymmetric}
use Rattle.std.proofs.lemmas.Bool.{and_from, eq-eqb}
use Rattle.ma_cells.specs.Cells.{CellMark, corners_of, is_cell}
use Rattle.ma_cells.specs.Faces.{holds_all}
use Rattle.ma_cells.specs.Incidence.{is_on}
use Rattle.ma_cells.specs.Tetrahedron.{Tetrahedron}
use Rattle.ma_cells.specs.declared.cell.Cell.{Cell}
use Rattle.ma_cells.specs.declared.view.View.{View}
use Rattle.ma_cells.proofs.CellOrders.{ghost_cmp_total, ghost_cmp-IsAntisymmetric, mark_cmp_total, mark_cmp-IsAntisymmetric}
use Rattle.part_phases.specs.Inboxes.{below}
use Rattle.part_rules.specs.Owed.{IsLabelled}
use Rattle.part_store.specs.Agreement.{around, first_of, owner_of, residents}
use Rattle.part_store.specs.Labelled.{LabelledMesh, ghosts_of, label_of, labelled, own_of, seen_by, tet_of, view_of}
use Rattle.part_store.proofs.Agreeing.{from-own, in-own, residents_known}
use Rattle.part_store.proofs.Members.{In, all-in, in-filter, from-filter, in-map, from-map, in-flat_map, from-flat_map, in-append_left, in-ascending_of, from-ascending_of, is_made}
use Rattle.view_laws.specs.Views.{is_part, owned_marks, union_of}
use Rattle.view_laws.proofs.MeshItems.{from-on, is-cell, label-below, on-from, on-more}
use Rattle.view_laws.proofs.Numbered.{in-below}

-- ---- owners
abbrev has_cell : Cell → Tetrahedron × ℕ → Bool
has_cell cell e = holds_all (tet_of e).corners (corners_of cell)

first-in : (ns : List ℕ) (n : ℕ) → In n ns → (o : ℕ) × (first_of ns ≡ Some o) × In o ns
first-in [] n h = absurd h
first-in (o ∷ ns) n h = (o, refl, inl refl)

-- a resident of a cell has a tetrahedron that has the cell
resident-has : (mesh : LabelledMesh) (cell : Cell) (o : ℕ) → In o (residents cell mesh.tets) → (e : Tetrahedron × ℕ) × In e mesh.tets × (has_cell cell e ≡ true) × (e.1 ≡ o)
resident-has mesh cell o h =
    let all = around (corners_of cell) mesh.tets in
    let e = from-map label_of all o (from-ascending_of nat_cmp_total nat_cmp-IsAntisymmetric (map label_of all) o h) in
    let kept = from-filter (has_cell cell) mesh.tets e.0 e.1 in
    (e.0, kept.0, kept.1, sym e.2)

-- a cell of the mesh has an owner, which has a tetrahedron with it
owner-holds : (mesh : LabelledMesh) (cell : Cell) → is_on (map tet_of mesh.tets) cell ≡ true
    → (o : ℕ) × (first_of (residents cell mesh.tets) ≡ Some o) × ((e : Tetrahedron × ℕ) × In e mesh.tets × (has_cell cell e ≡ true) × (e.1 ≡ o))
owner-holds mesh cell on =
    let t = from-on (map tet_of mesh.tets) cell on in
    let e = from-map tet_of mesh.tets t.0 t.1 in
    let held : has_cell cell e.0 ≡ true = subst (λ (z : Tetrahedron). holds_all z.corners (corners_of cell) ≡ true) e.2 t.2 in
    let all = around (corners_of cell) mesh.tets in
    let there = in-ascending_of nat_cmp_total nat_cmp-IsAntisymmetric (map label_of all) (label_of e.0) (in-map label_of all e.0 (in-filter (has_cell cell) mesh.tets e.0 e.1 held)) in
    let first = first-in (residents cell mesh.tets) (label_of e.0) there in
    (first.0, first.1, resident-has mesh cell first.0 first.2)

-- ---- the union
module _ (parts : ℕ) (mesh : LabelledMesh) (right : IsLabelled parts mesh) where
  abbrev views : List View
  views = map (view_of mesh) (below parts)

  abbrev own_labelled : View → List (Tetrahedron × ℕ)
  own_labelled view = labelled view.part view.own

  abbrev is_owned : View → CellMark → Bool
  is_owned view mark = is_on view.own mark.cell && is_part view.part (owner_of view mark.cell)

  view-in : (p : ℕ) → p < parts → In (view_of mesh p) views
  view-in p h = in-map (view_of mesh) (below parts) p (in-below parts p h)

  tets-from : (e : Tetrahedron × ℕ) → In e (flat_map own_labelled views) → In e mesh.tets
  tets-from e h =
      let v = from-flat_map own_labelled views e h in
      let p = from-map (view_of mesh) (below parts) v.0 v.1 in
      let among : In e (labelled p.0 (own_of mesh p.0)) = subst (λ (z : View). In e (own_labelled z)) p.2 v.2 in
      let t = from-map (λ tet. (tet, p.0)) (own_of mesh p.0) e among in
      subst (λ z. In z mesh.tets) (sym t.2) (from-own mesh p.0 t.0 t.1)

  tets-in : (e : Tetrahedron × ℕ) → In e mesh.tets → In e (flat_map own_labelled views)
  tets-in e h = in-flat_map own_labelled views (view_of mesh e.1) e (view-in e.1 (label-below parts mesh right e h)) (in-map (λ tet. (tet, e.1)) (own_of mesh e.1) e.0 (in-own mesh e.1 e.0 h))

  marks-from : (m : CellMark) → In m (flat_map owned_marks views) → In m mesh.marks
  marks-from m h =
      let v = from-flat_map owned_marks views m h in
      let p = from-map (view_of mesh) (below parts) v.0 v.1 in
      let view = view_of mesh p.0 in
      let owned : In m (owned_marks view) = subst (λ (z : View). In m (owned_marks z)) p.2 v.2 in
      let kept = from-filter (is_owned view) view.marks m owned in
      (from-filter (λ m. is_on (seen_by mesh p.0) m.cell) mesh.marks m kept.0).0

  marks-in : (m : CellMark) → In m mesh.marks → In m (flat_map owned_marks views)
  marks-in m h =
      let cell = m.cell in
      let real : is_cell cell ≡ true = is-cell parts mesh right m h in
      let owner = owner-holds mesh cell (all-in (λ m. is_on (map tet_of mesh.tets) m.cell ≡ true) mesh.marks m right.on_cells h) in
      let o = owner.0 in
      let e = owner.2.0 in
      let below_o : o < parts = subst (λ z. z < parts) owner.2.3 (label-below parts mesh right e owner.2.1) in
      let its : In (e.0, o) mesh.tets = subst (λ z. In z mesh.tets) (λ i. (e.0, owner.2.3 i)) owner.2.1 in
      let on : is_on (own_of mesh o) cell ≡ true = on-from (own_of mesh o) e.0 cell (in-own mesh o e.0 its) owner.2.2 in
      let view = view_of mesh o in
      let seen : In m view.marks = in-filter (λ m. is_on (seen_by mesh o) m.cell) mesh.marks m h (on-more (own_of mesh o) (seen_by mesh o) cell (λ t k. in-append_left (own_of mesh o) (map tet_of (ghosts_of mesh o)) t k) on) in
      let owns : is_part o (owner_of view cell) ≡ true = ap (λ ns. is_part o (first_of ns)) (residents_known mesh o cell real on) ∙ ap (is_part o) owner.1 ∙ eq-eqb o o refl in
      in-flat_map owned_marks views view m (view-in o below_o) (in-filter (is_owned view) view.marks m seen (and_from (is_on view.own cell) (is_part o (owner_of view cell)) on owns))

  pub union_is : union_of (map (view_of mesh) (below parts)) ≡ mesh
  union_is =
      let tets = is_made ghost_cmp_total ghost_cmp-IsAntisymmetric (flat_map own_labelled views) mesh.tets right.tets tets-from tets-in in
      let marks = is_made mark_cmp_total mark_cmp-IsAntisymmetric (flat_map owned_marks views) mesh.marks right.marks marks-from marks-in in
      λ i. record { tets = tets i; marks = marks i }

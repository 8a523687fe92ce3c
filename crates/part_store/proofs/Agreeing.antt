-- What parts see of one labelled mesh is in agreement.
use Rattle.std.proofs.Common.{◌≡◌, ℕ, inl, inr, Bool, true, false, not, List, [], ◌∷◌, filter, refl, sym, ap, subst, ◌∙◌, eqb-true}
use Rattle.std.specs.Prelude.{map}
use Rattle.std.specs.List.{flat_map}
use Rattle.std.specs.Ordering.{eq_by_cmp}
use Rattle.std.specs.Cmp.{Equal-is, nat_cmp_total}
use Rattle.std.specs.FinMap.{nat_cmp-IsAntisymmetric}
use Rattle.std.proofs.lemmas.Bool.{false≢true, and_from, eq-eqb, not_from_false}
use Rattle.ma_geom.specs.Coordinates.{Coordinates, place_cmp}
use Rattle.ma_geom.proofs.PlaceOrder.{place_cmp-IsAntisymmetric, place_cmp_total}
use Rattle.ma_cells.specs.Ascending.{has}
use Rattle.ma_cells.specs.Cells.{cell_cmp, corners_of, is_cell}
use Rattle.ma_cells.specs.Faces.{holds_all}
use Rattle.ma_cells.specs.Incidence.{is_on}
use Rattle.ma_cells.specs.Tetrahedron.{Tetrahedron}
use Rattle.ma_cells.specs.declared.cell.Cell.{Cell}
use Rattle.ma_cells.specs.declared.cell.Cell.TheVariants.{Point, Seg, Tri}
use Rattle.ma_cells.proofs.CellOrders.{cell_cmp-IsAntisymmetric}
use Rattle.ma_cells.proofs.Passing.{all_pass}
use Rattle.part_store.specs.Labelled.{LabelledMesh, corner_set, ghosts_of, has_label, is_ghost, label_of, labelled, own_of, seen_by, tet_of, touches, view_of}
use Rattle.part_store.specs.Agreement.{Agree, all_in, around, first_of, marks_of, residents, residents_of, sees}
use Rattle.part_store.proofs.Members.{In, all-in, any-in, from-any, in-filter, from-filter, filter-filter, in-map, from-map, in-flat_map, in-append_left, in-append_right, from-append, in-has, from-has, in-ascending_of, same_made}

-- ---- marks
-- a view that has a cell has the marks of the mesh on it
marks_seen : (mesh : LabelledMesh) (p : ℕ) (cell : Cell) → sees (view_of mesh p) cell ≡ true → marks_of cell (view_of mesh p).marks ≡ marks_of cell mesh.marks
marks_seen mesh p cell h =
    filter-filter (λ m. is_on (seen_by mesh p) m.cell) (λ m. eq_by_cmp cell_cmp m.cell cell) mesh.marks
    (λ m _ e. ap (is_on (seen_by mesh p)) (cell_cmp-IsAntisymmetric m.cell cell ((Equal-is (cell_cmp m.cell cell)).0 e)) ∙ h)

-- ---- tetrahedra
pub in-own : (mesh : LabelledMesh) (p : ℕ) (t : Tetrahedron) → In (t, p) mesh.tets → In t (own_of mesh p)
in-own mesh p t h = in-map tet_of (filter (has_label p) mesh.tets) (t, p) (in-filter (has_label p) mesh.tets (t, p) h (eq-eqb p p refl))

pub from-own : (mesh : LabelledMesh) (p : ℕ) (t : Tetrahedron) → In t (own_of mesh p) → In (t, p) mesh.tets
from-own mesh p t h =
    let r = from-map tet_of (filter (has_label p) mesh.tets) t h in
    let there = from-filter (has_label p) mesh.tets r.0 r.1 in
    let label : r.0.1 ≡ p = eqb-true r.0.1 p there.1 in
    subst (λ e. In e mesh.tets) (λ i. (sym r.2 i, label i)) there.0

-- a cell has a corner
a_corner : (cell : Cell) → is_cell cell ≡ true → (x : Coordinates) × In x (corners_of cell)
a_corner (Point p) h = (p, inl refl)
a_corner (Seg []) h = absurd (false≢true h)
a_corner (Seg (a ∷ s)) h = (a, inl refl)
a_corner (Tri []) h = absurd (false≢true h)
a_corner (Tri (a ∷ s)) h = (a, inl refl)

-- which each tetrahedron that has the cell has
held : (cell : Cell) (t : Tetrahedron) (x : Coordinates) → In x (corners_of cell) → holds_all t.corners (corners_of cell) ≡ true → In x t.corners
held cell t x within h =
    from-has place_cmp_total place_cmp-IsAntisymmetric t.corners x (all-in (λ y. has place_cmp y t.corners ≡ true) (corners_of cell) x (all_pass (λ y. has place_cmp y t.corners) (corners_of cell) h) within)

corner-on : (tets : List Tetrahedron) (cell : Cell) (x : Coordinates) → In x (corners_of cell) → is_on tets cell ≡ true → In x (corner_set tets)
corner-on tets cell x within h =
    let r = from-any (λ tet. holds_all tet.corners (corners_of cell)) tets h in
    in-ascending_of place_cmp_total place_cmp-IsAntisymmetric (flat_map (λ tet. tet.corners) tets) x (in-flat_map (λ tet. tet.corners) tets r.0 x r.1 (held cell r.0 x within r.2))

abbrev has_cell : Cell → Tetrahedron × ℕ → Bool
has_cell cell e = holds_all (tet_of e).corners (corners_of cell)

-- what a view lists is in the mesh
pub listed-from : (mesh : LabelledMesh) (p : ℕ) (e : Tetrahedron × ℕ) → In e (all_in (view_of mesh p)) → In e mesh.tets
listed-from mesh p e h = elim (from-append (labelled p (own_of mesh p)) (ghosts_of mesh p) e h) [
  | inl a ↦ let t = from-map (λ tet. (tet, p)) (own_of mesh p) e a in subst (λ z. In z mesh.tets) (sym t.2) (from-own mesh p t.0 t.1)
  | inr b ↦ (from-filter (is_ghost mesh p) mesh.tets e b).0
]

own-listed : (mesh : LabelledMesh) (p : ℕ) (t : Tetrahedron) → In (t, p) mesh.tets → In (t, p) (labelled p (own_of mesh p))
own-listed mesh p t h = in-map (λ tet. (tet, p)) (own_of mesh p) t (in-own mesh p t h)

-- each tetrahedron that has a cell of an own one is listed
pub in-listed : (mesh : LabelledMesh) (p : ℕ) (cell : Cell) (e : Tetrahedron × ℕ) → is_cell cell ≡ true → is_on (own_of mesh p) cell ≡ true → In e mesh.tets → has_cell cell e ≡ true → In e (all_in (view_of mesh p))
in-listed mesh p cell e right on there whole =
    elim (has_label p e) as (λ b. has_label p e ≡ b → In e (all_in (view_of mesh p))) [
      | true ↦ λ g.
          let label : e.1 ≡ p = eqb-true e.1 p g in
          let same : e ≡ (e.0, p) = λ i. (e.0, label i) in
          in-append_left (labelled p (own_of mesh p)) (ghosts_of mesh p) e (subst (λ z. In z (labelled p (own_of mesh p))) (sym same) (own-listed mesh p e.0 (subst (λ z. In z mesh.tets) same there)))
      | false ↦ λ g.
          let x = a_corner cell right in
          let near : touches (corner_set (own_of mesh p)) e.0 ≡ true
          = any-in (λ y. has place_cmp y (corner_set (own_of mesh p))) e.0.corners x.0 (held cell e.0 x.0 x.1 whole) (in-has place_cmp_total place_cmp-IsAntisymmetric (corner_set (own_of mesh p)) x.0 (corner-on (own_of mesh p) cell x.0 x.1 on)) in
          in-append_right (labelled p (own_of mesh p)) (ghosts_of mesh p) e (in-filter (is_ghost mesh p) mesh.tets e there (and_from (not (has_label p e)) (touches (corner_set (own_of mesh p)) e.0) (not_from_false (has_label p e) g) near))
    ] refl

-- a part knows all residents of the cells of its own tetrahedra
pub residents_known : (mesh : LabelledMesh) (p : ℕ) (cell : Cell) → is_cell cell ≡ true → is_on (own_of mesh p) cell ≡ true → residents_of (view_of mesh p) cell ≡ residents cell mesh.tets
residents_known mesh p cell right on =
    let listed = all_in (view_of mesh p) in
    let here = around (corners_of cell) listed in
    let there = around (corners_of cell) mesh.tets in
    same_made nat_cmp_total nat_cmp-IsAntisymmetric (map label_of here) (map label_of there)
    (λ r h.
    let e = from-map label_of here r h in
    let kept = from-filter (has_cell cell) listed e.0 e.1 in
    subst (λ z. In z (map label_of there)) (sym e.2) (in-map label_of there e.0 (in-filter (has_cell cell) mesh.tets e.0 (listed-from mesh p e.0 kept.0) kept.1)))
    (λ r h.
    let e = from-map label_of there r h in
    let kept = from-filter (has_cell cell) mesh.tets e.0 e.1 in
    subst (λ z. In z (map label_of here)) (sym e.2) (in-map label_of here e.0 (in-filter (has_cell cell) listed e.0 (in-listed mesh p cell e.0 right on kept.0 kept.1) kept.1)))

pub views_agree : (mesh : LabelledMesh) (p q : ℕ) → Agree (view_of mesh p) (view_of mesh q)
views_agree mesh p q =
    let same = λ (cell : Cell) (right : is_cell cell ≡ true) (here : is_on (own_of mesh p) cell ≡ true) (there : is_on (own_of mesh q) cell ≡ true).
    residents_known mesh p cell right here ∙ sym (residents_known mesh q cell right there) in
    record {
      marks = λ cell here there. marks_seen mesh p cell here ∙ sym (marks_seen mesh q cell there);
      residents = same;
      owner = λ cell right here there. ap first_of (same cell right here there);
    }

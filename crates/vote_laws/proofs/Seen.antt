-- What a part sees of a cavity in which it has a tetrahedron: all of it, and all marks at the places that are taken away.
use Rattle.std.proofs.Common.{◌≡◌, ℕ, inl, inr, Bool, true, false, List, [], ◌∷◌, refl, sym, ap, subst}
use Rattle.std.specs.Prelude.{◌==◌, map}
use Rattle.std.specs.Option.{option_map_or}
use Rattle.std.specs.Cmp.{nat_cmp_total}
use Rattle.std.specs.Ordering.{nat_cmp}
use Rattle.std.specs.FinMap.{nat_cmp-IsAntisymmetric}
use Rattle.std.proofs.lemmas.List.Kept.{IsStrictlySortedBy-filter}
use Rattle.ma_geom.specs.Coordinates.{Coordinates, place_cmp}
use Rattle.ma_geom.proofs.PlaceOrder.{place_cmp-IsAntisymmetric, place_cmp_total}
use Rattle.ma_cells.specs.Ascending.{has}
use Rattle.ma_cells.specs.Cells.{CellMark, corners_of}
use Rattle.ma_cells.specs.Faces.{holds_all}
use Rattle.ma_cells.specs.Incidence.{is_on}
use Rattle.ma_cells.specs.Stars.{marks_at, star_of}
use Rattle.ma_cells.specs.Tetrahedron.{Tetrahedron, tet_cmp}
use Rattle.ma_cells.specs.declared.cell.Cell.TheVariants.{Point}
use Rattle.ma_cells.proofs.Ascents.{sorted-ascending_of}
use Rattle.ma_cells.proofs.CellOrders.{tet_cmp_total, tet_cmp-IsAntisymmetric}
use Rattle.ma_cells.proofs.Passing.{all_pass, test_all}
use Rattle.size_marks.specs.Field.{Field}
use Rattle.cavity_rank.specs.Operations.{Operation}
use Rattle.part_store.specs.Agreement.{all_in, around, first_of}
use Rattle.part_store.specs.Labelled.{LabelledMesh, ghosts_of, label_of, labelled, own_of, seen_by, tet_of, view_of}
use Rattle.part_store.proofs.Agreeing.{in-own, in-listed, listed-from}
use Rattle.part_store.proofs.Members.{In, all-in, any-in, from-any, in-filter, from-filter, filter-filter, in-map, from-map, in-append_left, in-append_right, from-append, from-has, in-ascending_of, from-ascending_of, same_made, same_set}
use Rattle.pass_rules.specs.Choosing.{is_in}
use Rattle.pass_rules.specs.Moves.{legal_from, operations_from, quality_at}
use Rattle.part_vote.specs.Leading.{cavity_labels, leads, reaches, without_labels}
use Rattle.part_vote.specs.Voting.{mesh_in}

-- what has some places as corners has each of them
one-held : (corners places : List Coordinates) (x : Coordinates) → holds_all corners places ≡ true → In x places → has place_cmp x corners ≡ true
one-held corners places x h k = all-in (λ y. has place_cmp y corners ≡ true) places x (all_pass (λ y. has place_cmp y corners) places h) k

pub held : (corners places : List Coordinates) (x : Coordinates) → holds_all corners places ≡ true → In x places → In x corners
held corners places x h k = from-has place_cmp_total place_cmp-IsAntisymmetric corners x (one-held corners places x h k)

alone-held : (corners places : List Coordinates) (x : Coordinates) → holds_all corners places ≡ true → In x places → holds_all corners (x ∷ []) ≡ true
alone-held corners places x h k = test_all (λ y. has place_cmp y corners) (x ∷ []) (one-held corners places x h k, tt)

-- the tetrahedra of a mesh without labels
pub in-all : (mesh : LabelledMesh) (e : Tetrahedron × ℕ) → In e mesh.tets → In e.0 (without_labels mesh).tets
in-all mesh e h = in-ascending_of tet_cmp_total tet_cmp-IsAntisymmetric (map tet_of mesh.tets) e.0 (in-map tet_of mesh.tets e h)

pub from-all : (mesh : LabelledMesh) (t : Tetrahedron) → In t (without_labels mesh).tets → (r : ℕ) × In (t, r) mesh.tets
from-all mesh t h =
    let e = from-map tet_of mesh.tets t (from-ascending_of tet_cmp_total tet_cmp-IsAntisymmetric (map tet_of mesh.tets) t h) in
    (e.0.1, subst (λ z. In z mesh.tets) (λ i. (sym e.2 i, e.0.1)) e.1)

module _ (mesh : LabelledMesh) (p : ℕ) where
  abbrev pub listed : List (Tetrahedron × ℕ)
  listed = all_in (view_of mesh p)

  abbrev pub seen : LabelledMesh
  seen = mesh_in (view_of mesh p)

  seen-listed : (e : Tetrahedron × ℕ) → In e listed → In e.0 (seen_by mesh p)
  seen-listed e h = elim (from-append (labelled p (own_of mesh p)) (ghosts_of mesh p) e h) [
    | inl own ↦
        let t = from-map (λ tet. (tet, p)) (own_of mesh p) e own in
        in-append_left (own_of mesh p) (map tet_of (ghosts_of mesh p)) e.0 (subst (λ z. In z (own_of mesh p)) (ap tet_of (sym t.2)) t.1)
    | inr ghost ↦ in-append_right (own_of mesh p) (map tet_of (ghosts_of mesh p)) e.0 (in-map tet_of (ghosts_of mesh p) e ghost)
  ]

  -- with an own tetrahedron that has a place x
  module _ (t : Tetrahedron) (x : Coordinates) (own : In (t, p) mesh.tets) (corner : holds_all t.corners (x ∷ []) ≡ true) where
    near : (e : Tetrahedron × ℕ) → In e mesh.tets → holds_all e.0.corners (x ∷ []) ≡ true → In e listed
    near e there has_it = in-listed mesh p (Point x) e refl (any-in (λ tet. holds_all tet.corners (x ∷ [])) (own_of mesh p) t (in-own mesh p t own) corner) there has_it

  -- with an own tetrahedron in the cavity, and a place that is taken away
  module _ (at : List Coordinates) (t : Tetrahedron) (x : Coordinates) (own : In (t, p) mesh.tets) (inside : holds_all t.corners at ≡ true) (among : In x at) where
    abbrev has_all : Tetrahedron → Bool
    has_all u = holds_all u.corners at

    pub there_too : (e : Tetrahedron × ℕ) → In e mesh.tets → has_all e.0 ≡ true → In e listed
    there_too e there around = near t x own (alone-held t.corners at x inside among) e there (alone-held e.0.corners at x around among)

    star_same : star_of at (without_labels seen).tets ≡ star_of at (without_labels mesh).tets
    star_same =
        let here = (without_labels seen).tets in
        let all = (without_labels mesh).tets in
        same_set tet_cmp_total tet_cmp-IsAntisymmetric (star_of at here) (star_of at all)
        (IsStrictlySortedBy-filter tet_cmp has_all here (sorted-ascending_of tet_cmp_total (map tet_of listed)))
        (IsStrictlySortedBy-filter tet_cmp has_all all (sorted-ascending_of tet_cmp_total (map tet_of mesh.tets)))
        (λ u h. let kept = from-filter has_all here u h in let r = from-all seen u kept.0 in in-filter has_all all u (in-all mesh (u, r.0) (listed-from mesh p (u, r.0) r.1)) kept.1)
        (λ u h. let kept = from-filter has_all all u h in let r = from-all mesh u kept.0 in in-filter has_all here u (in-all seen (u, r.0) (there_too (u, r.0) r.1 kept.1)) kept.1)

    marks_same : ((m : CellMark) → In m mesh.marks → is_on (map tet_of mesh.tets) m.cell ≡ true) → marks_at at seen.marks ≡ marks_at at mesh.marks
    marks_same on_cells =
        filter-filter (λ m. is_on (seen_by mesh p) m.cell) (λ m. holds_all (corners_of m.cell) at) mesh.marks (λ m there around.
        let u = from-any (λ tet. holds_all tet.corners (corners_of m.cell)) (map tet_of mesh.tets) (on_cells m there) in
        let g = from-map tet_of mesh.tets u.0 u.1 in
        let r : In (u.0, g.0.1) mesh.tets = subst (λ z. In z mesh.tets) (λ i. (sym g.2 i, g.0.1)) g.1 in
        let has_it : holds_all u.0.corners (x ∷ []) ≡ true = alone-held u.0.corners (corners_of m.cell) x u.2 (held (corners_of m.cell) at x around among) in
        any-in (λ tet. holds_all tet.corners (corners_of m.cell)) (seen_by mesh p) u.0 (seen-listed (u.0, g.0.1) (near t x own (alone-held t.corners at x inside among) (u.0, g.0.1) r has_it)) u.2)

    -- and so what is legal at these places
    pub legal_same : ((m : CellMark) → In m mesh.marks → is_on (map tet_of mesh.tets) m.cell ≡ true) → (field : Field) (v : Coordinates) → legal_from field (without_labels seen) at v ≡ legal_from field (without_labels mesh) at v
    legal_same on_cells field v = λ i. operations_from at v (quality_at field (star_same i) (marks_same on_cells i) at v)

  -- and the labels of the cavity
  module _ (op : Operation) (t : Tetrahedron) (x : Coordinates) (own : In (t, p) mesh.tets) (inside : is_in op t ≡ true) (among : In x op.at) where
    pub labels_same : cavity_labels listed op ≡ cavity_labels mesh.tets op
    labels_same =
        let here = around op.at listed in
        let all = around op.at mesh.tets in
        let inside_it = λ (entry : Tetrahedron × ℕ). is_in op entry.0 in
        same_made nat_cmp_total nat_cmp-IsAntisymmetric (map label_of here) (map label_of all)
        (λ r h.
        let e = from-map label_of here r h in
        let kept = from-filter inside_it listed e.0 e.1 in
        subst (λ z. In z (map label_of all)) (sym e.2) (in-map label_of all e.0 (in-filter inside_it mesh.tets e.0 (listed-from mesh p e.0 kept.0) kept.1)))
        (λ r h.
        let e = from-map label_of all r h in
        let kept = from-filter inside_it mesh.tets e.0 e.1 in
        subst (λ z. In z (map label_of here)) (sym e.2) (in-map label_of here e.0 (in-filter inside_it listed e.0 (there_too op.at t x own inside among e.0 kept.0 kept.1) kept.1)))

    pub reaches_same : (q : ℕ) → reaches listed q op ≡ reaches mesh.tets q op
    reaches_same q = ap (has nat_cmp q) labels_same

    pub leads_same : (q : ℕ) → leads listed q op ≡ leads mesh.tets q op
    leads_same q = ap (λ labels. option_map_or (λ label. label == q) (first_of labels) false) labels_same

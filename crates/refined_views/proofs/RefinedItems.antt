-- What a refined labelled mesh has, item by item, and what each part has of it.
use Rattle.std.proofs.Common.{◌≡◌, ℕ, List, [], ◌∷◌, filter, refl, sym, ap, subst, ◌∙◌, eqb-true}
use Rattle.std.specs.Prelude.{map}
use Rattle.std.specs.List.{flat_map}
use Rattle.std.specs.List.Sorted.{IsStrictlySortedBy}
use Rattle.std.specs.Ordering.{nat_cmp, ordering_then}
use Rattle.std.specs.declared.cmp.Ordering.TheVariants.{Less}
use Rattle.std.proofs.lemmas.Bool.{eq-eqb}
use Rattle.std.proofs.lemmas.List.Kept.{IsStrictlySortedBy-filter}
use Rattle.ma_cells.specs.Tetrahedron.{Tetrahedron, tet_cmp}
use Rattle.ma_cells.specs.Views.{ghost_cmp}
use Rattle.ma_cells.proofs.Ascents.{sorted-ascending_of}
use Rattle.ma_cells.proofs.CellOrders.{ghost_cmp_total, ghost_cmp-IsAntisymmetric, tet_cmp_total}
use Rattle.ma_cells.proofs.Passing.{all-map}
use Rattle.size_marks.specs.Field.{Field}
use Rattle.refinement.specs.Refinement.{refined_tet}
use Rattle.part_store.specs.Labelled.{LabelledMesh, has_label, labelled, own_of, tet_of}
use Rattle.part_store.proofs.Agreeing.{from-own, in-own}
use Rattle.part_store.proofs.Members.{In, in-filter, from-filter, in-map, from-map, in-flat_map, from-flat_map, in-ascending_of, from-ascending_of, same_set}
use Rattle.refined_views.specs.Refined.{refined_entry, refined_labelled}
use Rattle.refined_views.proofs.PieceMarks.{from-pieces, in-pieces, pieces}

-- ---- tetrahedra with one label
-- they ascend as they do without it
sorted-labelled : (p : ℕ) (ts : List Tetrahedron) → IsStrictlySortedBy tet_cmp ts → IsStrictlySortedBy ghost_cmp (labelled p ts)
unfolding IsStrictlySortedBy
sorted-labelled p [] s = tt
sorted-labelled p (t ∷ ts) s =
    (all-map (λ u. tet_cmp t u ≡ Less) (λ e. ghost_cmp (t, p) e ≡ Less) (λ u. (u, p)) (λ u less. ap (λ o. ordering_then o (nat_cmp p p)) less) ts s.0, sorted-labelled p ts s.1)

pub without-label : (p : ℕ) (ts : List Tetrahedron) → map tet_of (labelled p ts) ≡ ts
without-label p [] = refl
without-label p (t ∷ ts) = ap (λ r. t ∷ r) (without-label p ts)

module _ (field : Field) (mesh : LabelledMesh) where
  abbrev new : LabelledMesh
  new = refined_labelled field mesh

  -- ---- tetrahedra
  in-refined : (t u : Tetrahedron) (p : ℕ) → In (t, p) mesh.tets → In u (refined_tet field t) → In (u, p) new.tets
  in-refined t u p h k =
      in-ascending_of ghost_cmp_total ghost_cmp-IsAntisymmetric (flat_map (refined_entry field) mesh.tets) (u, p)
      (in-flat_map (refined_entry field) mesh.tets (t, p) (u, p) h (in-map (λ tet. (tet, p)) (refined_tet field t) u k))

  pub from-refined : (e : Tetrahedron × ℕ) → In e new.tets → (t : Tetrahedron) × In (t, e.1) mesh.tets × In e.0 (refined_tet field t)
  from-refined e h =
      let f = from-flat_map (refined_entry field) mesh.tets e (from-ascending_of ghost_cmp_total ghost_cmp-IsAntisymmetric (flat_map (refined_entry field) mesh.tets) e h) in
      let u = from-map (λ tet. (tet, f.0.1)) (refined_tet field f.0.0) e f.2 in
      let label : f.0.1 ≡ e.1 = ap (λ z. z.1) (sym u.2) in
      (f.0.0, subst (λ p. In (f.0.0, p) mesh.tets) label f.1, subst (λ z. In z (refined_tet field f.0.0)) (ap (λ z. z.0) (sym u.2)) u.1)

  -- without their labels
  pub in-all : (u : Tetrahedron) → In u (pieces field (map tet_of mesh.tets)) → In u (map tet_of new.tets)
  in-all u h =
      let t = from-pieces field (map tet_of mesh.tets) u h in
      let e = from-map tet_of mesh.tets t.0 t.1 in
      in-map tet_of new.tets (u, e.0.1) (in-refined e.0.0 u e.0.1 e.1 (subst (λ z. In u (refined_tet field z)) e.2 t.2))

  pub from-all : (u : Tetrahedron) → In u (map tet_of new.tets) → In u (pieces field (map tet_of mesh.tets))
  from-all u h =
      let e = from-map tet_of new.tets u h in
      let t = from-refined e.0 e.1 in
      in-pieces field (map tet_of mesh.tets) t.0 u (in-map tet_of mesh.tets (t.0, e.0.1) t.1) (subst (λ z. In z (refined_tet field t.0)) (sym e.2) t.2)

  -- ---- of one part
  module _ (p : ℕ) where
    abbrev own_pieces : List Tetrahedron
    own_pieces = pieces field (own_of mesh p)

    own-there : (e : Tetrahedron × ℕ) → In e (filter (has_label p) new.tets) → In e (labelled p own_pieces)
    own-there e h =
        let kept = from-filter (has_label p) new.tets e h in
        let label : e.1 ≡ p = eqb-true e.1 p kept.1 in
        let t = from-refined e kept.0 in
        let own = in-own mesh p t.0 (subst (λ q. In (t.0, q) mesh.tets) label t.1) in
        subst (λ q. In (e.0, q) (labelled p own_pieces)) (sym label) (in-map (λ tet. (tet, p)) own_pieces e.0 (in-pieces field (own_of mesh p) t.0 e.0 own t.2))

    own-back : (e : Tetrahedron × ℕ) → In e (labelled p own_pieces) → In e (filter (has_label p) new.tets)
    own-back e h =
        let u = from-map (λ tet. (tet, p)) own_pieces e h in
        let t = from-pieces field (own_of mesh p) u.0 u.1 in
        subst (λ z. In z (filter (has_label p) new.tets)) (sym u.2) (in-filter (has_label p) new.tets (u.0, p) (in-refined t.0 u.0 p (from-own mesh p t.0 t.1) t.2) (eq-eqb p p refl))

    -- a part's tetrahedra of the refined mesh are the pieces of its tetrahedra
    pub own_is : own_of new p ≡ pieces field (own_of mesh p)
    own_is =
        let listed = flat_map (refined_entry field) mesh.tets in
        let own = flat_map (refined_tet field) (own_of mesh p) in
        ap (map tet_of) (same_set ghost_cmp_total ghost_cmp-IsAntisymmetric (filter (has_label p) new.tets) (labelled p own_pieces)
        (IsStrictlySortedBy-filter ghost_cmp (has_label p) new.tets (sorted-ascending_of ghost_cmp_total listed))
        (sorted-labelled p own_pieces (sorted-ascending_of tet_cmp_total own)) own-there own-back)
        ∙ without-label p own_pieces

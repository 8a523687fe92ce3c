-- Which tetrahedra the mesh after a pass has, with their labels and without.
use Rattle.std.proofs.Common.{◌≡◌, ℕ, ◌⊎◌, inl, inr, Bool, false, not, List, [], ◌∷◌, ◌++◌, refl, sym, ap, subst, ◌∙◌, eqb-true}
use Rattle.std.specs.Prelude.{filter, map}
use Rattle.std.specs.List.{AllByRecursion, flat_map}
use Rattle.std.specs.List.Sorted.{IsStrictlySortedBy}
use Rattle.std.specs.Ordering.{nat_cmp, ordering_then}
use Rattle.std.specs.Cmp.{nat_cmp_total, tied_itself}
use Rattle.std.specs.declared.cmp.Ordering.{Ordering}
use Rattle.std.specs.declared.cmp.Ordering.TheVariants.{Less, Equal, Greater}
use Rattle.std.proofs.lemmas.Bool.{not-true, not_from_false}
use Rattle.std.proofs.lemmas.List.Kept.{IsStrictlySortedBy-filter}
use Rattle.ma_cells.specs.Ascending.{ascending_of}
use Rattle.ma_cells.specs.Tetrahedron.{Tetrahedron, tet_cmp}
use Rattle.ma_cells.specs.Views.{ghost_cmp}
use Rattle.ma_cells.proofs.Ascents.{sorted-ascending_of}
use Rattle.ma_cells.proofs.CellOrders.{ghost_cmp_total, ghost_cmp-IsAntisymmetric, tet_cmp_total, tet_cmp-IsAntisymmetric}
use Rattle.size_marks.specs.Field.{Field}
use Rattle.cavity_rank.specs.Operations.{Operation}
use Rattle.cavity_rank.specs.declared.verdict.Kind.{Kind}
use Rattle.part_store.specs.Labelled.{LabelledMesh, has_label, own_of, tet_of}
use Rattle.part_store.proofs.Members.{In, all-from_in, in-filter, from-filter, in-map, from-map, in-flat_map, from-flat_map, in-append_left, in-append_right, from-append, in-ascending_of, from-ascending_of, same_made}
use Rattle.pass_rules.specs.Choosing.{is_taken}
use Rattle.pass_rules.specs.Passes.{filling, passed}
use Rattle.part_vote.specs.Leading.{leads, without_labels}
use Rattle.part_vote.specs.OwedVotes.{chosen_in}
use Rattle.part_gather.specs.OwedGathering.{labelled_filling, led_by, mesh_after}
use Rattle.vote_laws.proofs.Seen.{from-all, in-all}
use Rattle.gather_laws.proofs.Filled.{from-labelled, in-labelled, led_by_some}

-- ---- the tetrahedra of one part ascend
then-equal : (a b : Ordering) → b ≡ Equal → ordering_then a b ≡ Less → a ≡ Less
then-equal Less b e h = refl
then-equal Equal b e h = absurd (cc)
then-equal Greater b e h = h

sorted-tets : (p : ℕ) (es : List (Tetrahedron × ℕ)) → IsStrictlySortedBy ghost_cmp es → AllByRecursion {X = Tetrahedron × ℕ} (λ e. e.1 ≡ p) es → IsStrictlySortedBy tet_cmp (map tet_of es)
unfolding IsStrictlySortedBy
sorted-tets p [] s a = tt
sorted-tets p (e ∷ es) s a = (below_all es s.0 a.1, sorted-tets p es s.1 a.1)
  where
    below_all : (fs : List (Tetrahedron × ℕ)) → AllByRecursion (λ f. ghost_cmp e f ≡ Less) fs → AllByRecursion {X = Tetrahedron × ℕ} (λ f. f.1 ≡ p) fs → AllByRecursion (λ t. tet_cmp e.0 t ≡ Less) (map tet_of fs)
    below_all [] b l = tt
    below_all (f ∷ fs) b l = (then-equal (tet_cmp e.0 f.0) (nat_cmp e.1 f.1) (ap (λ x. nat_cmp x f.1) (a.0 ∙ sym l.0) ∙ tied_itself nat_cmp_total f.1) b.0, below_all fs b.1 l.1)

sorted-own : (mesh : LabelledMesh) (p : ℕ) → IsStrictlySortedBy ghost_cmp mesh.tets → IsStrictlySortedBy tet_cmp (own_of mesh p)
sorted-own mesh p s =
    sorted-tets p (filter (has_label p) mesh.tets) (IsStrictlySortedBy-filter ghost_cmp (has_label p) mesh.tets s)
    (all-from_in {X = Tetrahedron × ℕ} (λ e. e.1 ≡ p) (filter (has_label p) mesh.tets) (λ e h. eqb-true e.1 p (from-filter (has_label p) mesh.tets e h).1))

module _ (kind : Kind) (field : Field) (mesh : LabelledMesh) where
  abbrev ops : List Operation
  ops = chosen_in kind field mesh

  abbrev pub after : LabelledMesh
  after = mesh_after kind field mesh

  abbrev all : List Tetrahedron
  all = (without_labels mesh).tets

  abbrev stays : Tetrahedron × ℕ → Bool
  stays entry = not (is_taken ops entry.0)

  abbrev kept : List (Tetrahedron × ℕ)
  kept = filter stays mesh.tets

  abbrev new : List (Tetrahedron × ℕ)
  new = flat_map (labelled_filling mesh) ops

  pub sorted-after : (p : ℕ) → IsStrictlySortedBy tet_cmp (own_of after p)
  sorted-after p = sorted-own after p (sorted-ascending_of ghost_cmp_total (kept ++ new))

  -- a tetrahedron with its label is in no chosen cavity, or fills one that its part leads
  abbrev IsKept : Tetrahedron → ℕ → Type 0
  IsKept t r = In (t, r) mesh.tets × (is_taken ops t ≡ false)

  abbrev IsNew : Tetrahedron → ℕ → Type 0
  IsNew t r = (op : Operation) × In op (led_by kind field mesh r) × In t (filling all op)

  pub in-kept : (t : Tetrahedron) (r : ℕ) → In (t, r) mesh.tets → is_taken ops t ≡ false → In {X = Tetrahedron × ℕ} (t, r) after.tets
  in-kept t r h untaken =
      in-ascending_of ghost_cmp_total ghost_cmp-IsAntisymmetric (kept ++ new) (t, r) (in-append_left kept new (t, r) (in-filter stays mesh.tets (t, r) h (not_from_false (is_taken ops t) untaken)))

  pub in-new : (t : Tetrahedron) (r : ℕ) (op : Operation) → In op (led_by kind field mesh r) → In t (filling all op) → In {X = Tetrahedron × ℕ} (t, r) after.tets
  in-new t r op h k =
      let chosen = from-filter (leads mesh.tets r) ops op h in
      in-ascending_of ghost_cmp_total ghost_cmp-IsAntisymmetric (kept ++ new) (t, r)
      (in-append_right kept new (t, r) (in-flat_map (labelled_filling mesh) ops op (t, r) chosen.0 (in-labelled mesh op t r chosen.1 k)))

  pub from-after : (t : Tetrahedron) (r : ℕ) → In {X = Tetrahedron × ℕ} (t, r) after.tets → IsKept t r ⊎ IsNew t r
  from-after t r h = elim (from-append kept new (t, r) (from-ascending_of ghost_cmp_total ghost_cmp-IsAntisymmetric (kept ++ new) (t, r) h)) [
    | inl a ↦ let k = from-filter stays mesh.tets (t, r) a in inl (k.0, not-true (is_taken ops t) k.1)
    | inr b ↦
        let o = from-flat_map (labelled_filling mesh) ops (t, r) b in
        let k = from-labelled mesh o.0 t r o.2 in
        inr (o.0, in-filter (leads mesh.tets r) ops o.0 o.1 k.0, k.1)
  ]

  -- without labels they are what the pass leaves
  pub unlabelled : without_labels after ≡ passed kind field (without_labels mesh)
  unlabelled =
      let stay : Tetrahedron → Bool = λ tet. not (is_taken ops tet) in
      let stayed = filter stay all in
      let filled = flat_map (filling all) ops in
      let tets : ascending_of tet_cmp (map tet_of after.tets) ≡ ascending_of tet_cmp (stayed ++ filled) =
      same_made tet_cmp_total tet_cmp-IsAntisymmetric (map tet_of after.tets) (stayed ++ filled)
      (λ t h.
      let e = from-map tet_of after.tets t h in
      subst (λ z. In z (stayed ++ filled)) (sym e.2) (elim (from-after e.0.0 e.0.1 e.1) [
        | inl a ↦ in-append_left stayed filled e.0.0 (in-filter stay all e.0.0 (in-all mesh e.0 a.0) (not_from_false (is_taken ops e.0.0) a.1))
        | inr b ↦ in-append_right stayed filled e.0.0 (in-flat_map (filling all) ops b.0 e.0.0 (from-filter (leads mesh.tets e.0.1) ops b.0 b.1).0 b.2)
      ]))
      (λ t h. elim (from-append stayed filled t h) [
        | inl a ↦
            let k = from-filter stay all t a in
            let r = from-all mesh t k.0 in
            in-map tet_of after.tets (t, r.0) (in-kept t r.0 r.1 (not-true (is_taken ops t) k.1))
        | inr b ↦
            let o = from-flat_map (filling all) ops t b in
            let q = led_by_some kind field mesh o.0 o.1 in
            in-map tet_of after.tets (t, q.0) (in-new t q.0 o.0 (in-filter (leads mesh.tets q.0) ops o.0 o.1 q.1) o.2)
      ]) in
      λ i. record { tets = tets i; marks = after.marks }

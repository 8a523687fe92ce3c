-- What all deliveries leave to a part: its tetrahedra of the mesh after the pass, and the marks that are carried of it.
use Rattle.std.proofs.Common.{◌≡◌, ◌≢◌, ℕ, ◌<◌, inl, inr, Bool, true, not, List, [], ◌∷◌, ◌++◌, sym, ap, subst, ◌∙◌, eqb-true}
use Rattle.std.specs.Prelude.{◌==◌, filter, map, if◌then◌else◌}
use Rattle.std.specs.List.{flat_map}
use Rattle.std.proofs.lemmas.Bool.{cases_Bool, false≢true, eqb-false, false_from_ne_true, ne_eqb, not-true, not_from_false}
use Rattle.std.proofs.lemmas.List.Kept.{IsStrictlySortedBy-filter}
use Rattle.ma_geom.specs.Coordinates.{Coordinates}
use Rattle.ma_cells.specs.Ascending.{ascending_of, has}
use Rattle.ma_cells.specs.Cells.{CellMark, mark_cmp}
use Rattle.ma_cells.specs.Faces.{holds_all}
use Rattle.ma_cells.specs.Incidence.{is_on}
use Rattle.ma_cells.specs.Tetrahedron.{Tetrahedron, tet_cmp}
use Rattle.ma_cells.specs.declared.batch.Batch.{Batch}
use Rattle.ma_cells.proofs.Ascents.{sorted-ascending_of}
use Rattle.ma_cells.proofs.CellOrders.{mark_cmp_total, mark_cmp-IsAntisymmetric, tet_cmp_total, tet_cmp-IsAntisymmetric}
use Rattle.size_marks.specs.Field.{Field}
use Rattle.cavity_rank.specs.Operations.{Operation}
use Rattle.cavity_rank.specs.declared.verdict.Kind.{Kind}
use Rattle.part_phases.specs.Inboxes.{Inbox}
use Rattle.part_rules.specs.Owed.{IsLabelled, holding}
use Rattle.part_store.specs.Labelled.{LabelledMesh, ghosts_of, marks_on, own_of, seen_by, tet_of, view_of}
use Rattle.part_store.specs.Stores.{StoreState, view_in}
use Rattle.part_store.proofs.Agreeing.{from-own, in-own}
use Rattle.part_store.proofs.Members.{In, any-in, from-any, in-filter, from-filter, in-map, from-map, in-flat_map, from-flat_map, in-append_left, in-append_right, from-append, in-has, from-has, in-ascending_of, from-ascending_of, same_set, same_made, is_made}
use Rattle.pass_rules.specs.Choosing.{is_in, is_taken}
use Rattle.pass_rules.specs.Passes.{changed_by, filling, filling_at}
use Rattle.part_vote.specs.Leading.{leads, without_labels}
use Rattle.part_vote.specs.OwedVotes.{chosen_in, owed_orders}
use Rattle.part_gather.specs.Gathering.{cavity, marks_by, marks_with, tets_with}
use Rattle.part_gather.specs.Ordered.{after_orders, batches_of_others, given_away, ordered_by, ordered_by_others}
use Rattle.part_gather.specs.OwedGathering.{carried_after, led_by, mesh_after, owed_deliveries, owed_tets}
use Rattle.view_laws.proofs.MeshItems.{from-on, label-below, on-from, on-more}
use Rattle.view_laws.proofs.Numbered.{in-gathered, from-gathered}
use Rattle.vote_laws.proofs.Leads.{from-labels, leads-in}
use Rattle.vote_laws.proofs.Seen.{from-all, in-all}
use Rattle.gather_laws.specs.Gathered.{deliveries_for, orders_for}
use Rattle.gather_laws.proofs.Filled.{led_by_some}
use Rattle.gather_laws.proofs.Delivering.{from-orders, from-ordered, in-orders, in-ordered, store_of}
use Rattle.gather_laws.proofs.After.{from-after, in-kept, in-new, sorted-after}

module _ (parts : ℕ) (kind : Kind) (field : Field) (mesh : LabelledMesh) (right : IsLabelled parts mesh) (p : ℕ) (within : p < parts) where
  abbrev ops : List Operation
  ops = chosen_in kind field mesh

  abbrev led : List Operation
  led = led_by kind field mesh p

  abbrev all : List Tetrahedron
  all = (without_labels mesh).tets

  abbrev own : List Tetrahedron
  own = own_of mesh p

  abbrev own_after : List Tetrahedron
  own_after = own_of (mesh_after kind field mesh) p

  abbrev store : StoreState
  store = store_of (view_of mesh p)

  abbrev orders : Inbox (List Operation)
  orders = orders_for parts kind field mesh p

  abbrev batches : Inbox Batch
  batches = deliveries_for parts kind field mesh p

  below : (t : Tetrahedron) (r : ℕ) → In (t, r) mesh.tets → r < parts
  below t r h = label-below parts mesh right (t, r) h

  -- ---- it ordered of itself all that it leads
  abbrev mine : List Operation
  mine = ordered_by orders p

  from-mine : (op : Operation) → In op mine → In op led
  from-mine op h = from-orders parts kind field mesh p p op (from-ordered parts (λ r. owed_orders kind field mesh r p) p op h)

  in-mine : (op : Operation) → In op led → In op mine
  in-mine op h =
      let t = from-labels mesh.tets op p (leads-in mesh.tets op p (from-filter (leads mesh.tets p) ops op h).1) in
      in-ordered parts (λ r. owed_orders kind field mesh r p) p op within (in-orders parts kind field mesh p p op t.0 h t.1 t.2)

  led-chosen : (r : ℕ) (op : Operation) → In op (led_by kind field mesh r) → In op ops
  led-chosen r op h = (from-filter (leads mesh.tets r) ops op h).0

  -- ---- what came
  abbrev got : List Batch
  got = batches_of_others batches p

  abbrev of_other : ℕ × Batch → Bool
  of_other batch = not (batch.0 == p)

  abbrev sent : ℕ → Batch
  sent r = record { tets = owed_tets kind field mesh r p; marks = marks_on (owed_tets kind field mesh r p) mesh.marks }

  sent-other : (r : ℕ) → r ≢ p → owed_deliveries kind field mesh r p ≡ sent r
  sent-other r differ = ap (λ b. if b then record { tets = []; marks = [] } else sent r) (ne_eqb p r (λ same. differ (sym same)))

  from-got : (b : Batch) → In b got → (r : ℕ) × (b ≡ sent r)
  from-got b h =
      let e = from-map (λ batch. batch.1) (filter of_other batches) b h in
      let k = from-filter of_other batches e.0 e.1 in
      let from = from-gathered (λ r. owed_deliveries kind field mesh r p) parts e.0 k.0 in
      (e.0.0, e.2 ∙ from.1 ∙ sent-other e.0.0 (eqb-false e.0.0 p (not-true (e.0.0 == p) k.1)))

  in-got : (r : ℕ) → r < parts → r ≢ p → In (sent r) got
  in-got r below_r differ =
      let batch : ℕ × Batch = (r, owed_deliveries kind field mesh r p) in
      subst (λ b. In b got) (sent-other r differ)
      (in-map (λ batch. batch.1) (filter of_other batches) batch
      (in-filter of_other batches batch (in-gathered (λ r. owed_deliveries kind field mesh r p) parts r below_r) (not_from_false (r == p) (ne_eqb r p differ))))

  abbrev tets_of : Batch → List Tetrahedron
  tets_of batch = batch.tets

  abbrev marks_of : Batch → List CellMark
  marks_of batch = batch.marks

  abbrev there : List Tetrahedron
  there = tets_with store got

  from-owed : (r : ℕ) (t : Tetrahedron) → In t (owed_tets kind field mesh r p) → In t all
  from-owed r t h = in-all mesh (t, r) (from-own mesh r t (from-filter (is_taken led) (own_of mesh r) t h).0)

  in-owed : (r : ℕ) (op : Operation) (t : Tetrahedron) → In op led → In (t, r) mesh.tets → is_in op t ≡ true → In t (owed_tets kind field mesh r p)
  in-owed r op t h its inside = in-filter (is_taken led) (own_of mesh r) t (in-own mesh r t its) (any-in (λ o. is_in o t) led op h inside)

  came-from : (t : Tetrahedron) → In t there → In t all
  came-from t h = elim (from-append own (flat_map tets_of got) t (from-ascending_of tet_cmp_total tet_cmp-IsAntisymmetric (own ++ flat_map tets_of got) t h)) [
    | inl a ↦ in-all mesh (t, p) (from-own mesh p t a)
    | inr b ↦
        let e = from-flat_map tets_of got t b in
        let from = from-got e.0 e.1 in
        from-owed from.0 t (subst (λ (b : Batch). In t b.tets) from.1 e.2)
  ]

  -- each tetrahedron of a cavity that it leads is there
  is-there : (op : Operation) (t : Tetrahedron) → In op led → In t all → is_in op t ≡ true → In t there
  is-there op t h k inside =
      let r = from-all mesh t k in
      in-ascending_of tet_cmp_total tet_cmp-IsAntisymmetric (own ++ flat_map tets_of got) t (elim (cases_Bool (r.0 == p)) [
        | inl e ↦ in-append_left own (flat_map tets_of got) t (in-own mesh p t (subst (λ z. In {X = Tetrahedron × ℕ} (t, z) mesh.tets) (eqb-true r.0 p e) r.1))
        | inr e ↦ in-append_right own (flat_map tets_of got) t (in-flat_map tets_of got (sent r.0) t (in-got r.0 (below t r.0 r.1) (eqb-false r.0 p e)) (in-owed r.0 op t h r.1 inside))
      ])

  abbrev takes : Operation → Tetrahedron → Bool
  takes op tet = holds_all tet.corners op.at

  cavity_whole : (op : Operation) → In op led → cavity there op ≡ cavity all op
  cavity_whole op h =
      same_set tet_cmp_total tet_cmp-IsAntisymmetric (cavity there op) (cavity all op)
      (IsStrictlySortedBy-filter tet_cmp (takes op) there (sorted-ascending_of tet_cmp_total (own ++ flat_map tets_of got)))
      (IsStrictlySortedBy-filter tet_cmp (takes op) all (sorted-ascending_of tet_cmp_total (map tet_of mesh.tets)))
      (λ t j. let k = from-filter (takes op) there t j in in-filter (takes op) all t (came-from t k.0) k.1)
      (λ t j. let k = from-filter (takes op) all t j in in-filter (takes op) there t (is-there op t h k.0 k.1) k.1)

  filling_whole : (op : Operation) → In op led → filling there op ≡ filling all op
  filling_whole op h = ap (filling_at op.at op.apex) (cavity_whole op h)

  -- ---- own tetrahedra that end
  abbrev of_others : List Operation
  of_others = ordered_by_others orders p

  abbrev given : List Tetrahedron
  given = given_away store orders

  abbrev cavities : List Tetrahedron
  cavities = flat_map (cavity there) mine

  abbrev ended : List Tetrahedron
  ended = given ++ cavities

  abbrev from_other : ℕ × List Operation → Bool
  from_other order = not (order.0 == p)

  from-others : (op : Operation) → In op of_others → In op ops
  from-others op h =
      let e = from-flat_map (λ order. order.1) (filter from_other orders) op h in
      let k = from-filter from_other orders e.0 e.1 in
      let g = from-gathered (λ r. owed_orders kind field mesh r p) parts e.0 k.0 in
      led-chosen e.0.0 op (from-orders parts kind field mesh e.0.0 p op (subst (λ z. In op z) g.1 e.2))

  in-others : (r : ℕ) (op : Operation) (t : Tetrahedron) → r < parts → r ≢ p → In op (led_by kind field mesh r) → In (t, p) mesh.tets → is_in op t ≡ true → In op of_others
  in-others r op t below_r differ h its inside =
      let order : ℕ × List Operation = (r, owed_orders kind field mesh r p) in
      in-flat_map (λ order. order.1) (filter from_other orders) order op
      (in-filter from_other orders order (in-gathered (λ r. owed_orders kind field mesh r p) parts r below_r) (not_from_false (r == p) (ne_eqb r p differ)))
      (in-orders parts kind field mesh r p op t h its inside)

  from-ended : (t : Tetrahedron) → In t ended → is_taken ops t ≡ true
  from-ended t h = elim (from-append given cavities t h) [
    | inl a ↦
        let o = from-any (λ op. is_in op t) of_others (from-filter (is_taken of_others) own t a).1 in
        any-in (λ op. is_in op t) ops o.0 (from-others o.0 o.1) o.2
    | inr b ↦
        let o = from-flat_map (cavity there) mine t b in
        any-in (λ op. is_in op t) ops o.0 (led-chosen p o.0 (from-mine o.0 o.1)) (from-filter (takes o.0) there t o.2).1
  ]

  in-ended : (t : Tetrahedron) → In (t, p) mesh.tets → is_taken ops t ≡ true → In t ended
  in-ended t its taken =
      let o = from-any (λ op. is_in op t) ops taken in
      let q = led_by_some kind field mesh o.0 o.1 in
      let leading : In o.0 (led_by kind field mesh q.0) = in-filter (leads mesh.tets q.0) ops o.0 o.1 q.1 in
      elim (cases_Bool (q.0 == p)) [
        | inl e ↦
            let h : In o.0 led = subst (λ z. In o.0 (led_by kind field mesh z)) (eqb-true q.0 p e) leading in
            in-append_right given cavities t (in-flat_map (cavity there) mine o.0 t (in-mine o.0 h) (in-filter (takes o.0) there t (is-there o.0 t h (in-all mesh (t, p) its) o.2) o.2))
        | inr e ↦
            let u = from-labels mesh.tets o.0 q.0 (leads-in mesh.tets o.0 q.0 q.1) in
            in-append_left given cavities t
            (in-filter (is_taken of_others) own t (in-own mesh p t its) (any-in (λ op. is_in op t) of_others o.0 (in-others q.0 o.0 t (below u.0 q.0 u.1) (eqb-false q.0 p e) leading its o.2) o.2))
      ]

  abbrev remains : Tetrahedron → Bool
  remains t = not (has tet_cmp t ended)

  abbrev left : List Tetrahedron
  left = filter remains own

  abbrev fills : List Tetrahedron
  fills = flat_map (filling there) mine

  own_is : ascending_of tet_cmp (left ++ ascending_of tet_cmp fills) ≡ own_after
  own_is =
      is_made tet_cmp_total tet_cmp-IsAntisymmetric (left ++ ascending_of tet_cmp fills) own_after (sorted-after kind field mesh p)
      (λ t h. in-own (mesh_after kind field mesh) p t (elim (from-append left (ascending_of tet_cmp fills) t h) [
        | inl a ↦
            let k = from-filter remains own t a in
            let its = from-own mesh p t k.0 in
            in-kept kind field mesh t p its (false_from_ne_true (is_taken ops t) (λ taken.
            false≢true (sym (not-true (has tet_cmp t ended) k.1) ∙ in-has tet_cmp_total tet_cmp-IsAntisymmetric ended t (in-ended t its taken))))
        | inr b ↦
            let o = from-flat_map (filling there) mine t (from-ascending_of tet_cmp_total tet_cmp-IsAntisymmetric fills t b) in
            let h = from-mine o.0 o.1 in
            in-new kind field mesh t p o.0 h (subst (λ tets. In t tets) (filling_whole o.0 h) o.2)
      ]))
      (λ t h. elim (from-after kind field mesh t p (from-own (mesh_after kind field mesh) p t h)) [
        | inl a ↦
            in-append_left left (ascending_of tet_cmp fills) t (in-filter remains own t (in-own mesh p t a.0)
            (not_from_false (has tet_cmp t ended) (false_from_ne_true (has tet_cmp t ended) (λ e. false≢true (sym a.1 ∙ from-ended t (from-has tet_cmp_total tet_cmp-IsAntisymmetric ended t e))))))
        | inr b ↦
            in-append_right left (ascending_of tet_cmp fills) t (in-ascending_of tet_cmp_total tet_cmp-IsAntisymmetric fills t
            (in-flat_map (filling there) mine b.0 t (in-mine b.0 b.1) (subst (λ tets. In t tets) (sym (filling_whole b.0 b.1)) b.2)))
      ])

  -- ---- marks
  abbrev had : List CellMark
  had = marks_on own store.marks

  abbrev came : List CellMark
  came = flat_map marks_of got

  abbrev known : List CellMark
  known = marks_with store got

  from-had : (m : CellMark) → In m had → In m mesh.marks × (is_on own m.cell ≡ true)
  from-had m h =
      let k = from-filter (λ m. is_on own m.cell) store.marks m h in
      ((from-filter (λ m. is_on (seen_by mesh p) m.cell) mesh.marks m k.0).0, k.1)

  in-had : (m : CellMark) → In m mesh.marks → is_on own m.cell ≡ true → In m had
  in-had m h on =
      in-filter (λ m. is_on own m.cell) store.marks m (in-filter (λ m. is_on (seen_by mesh p) m.cell) mesh.marks m h (on-more own (seen_by mesh p) m.cell (λ t k. in-append_left own (map tet_of (ghosts_of mesh p)) t k) on)) on

  from-known : (m : CellMark) → In m known → In m mesh.marks
  from-known m h = elim (from-append had came m (from-ascending_of mark_cmp_total mark_cmp-IsAntisymmetric (had ++ came) m h)) [
    | inl a ↦ (from-had m a).0
    | inr b ↦
        let e = from-flat_map marks_of got m b in
        let from = from-got e.0 e.1 in
        (from-filter (λ m. is_on (owed_tets kind field mesh from.0 p) m.cell) mesh.marks m (subst (λ (b : Batch). In m b.marks) from.1 e.2)).0
  ]

  -- each mark on a cavity that it leads is known
  in-known : (op : Operation) (m : CellMark) → In op led → In m mesh.marks → is_on (cavity all op) m.cell ≡ true → In m known
  in-known op m h k on =
      let t = from-on (cavity all op) m.cell on in
      let inside = from-filter (takes op) all t.0 t.1 in
      let r = from-all mesh t.0 inside.0 in
      in-ascending_of mark_cmp_total mark_cmp-IsAntisymmetric (had ++ came) m (elim (cases_Bool (r.0 == p)) [
        | inl e ↦
            let its : In t.0 own = in-own mesh p t.0 (subst (λ z. In {X = Tetrahedron × ℕ} (t.0, z) mesh.tets) (eqb-true r.0 p e) r.1) in
            in-append_left had came m (in-had m k (on-from own t.0 m.cell its t.2))
        | inr e ↦
            let owed = owed_tets kind field mesh r.0 p in
            in-append_right had came m (in-flat_map marks_of got (sent r.0) m (in-got r.0 (below t.0 r.0 r.1) (eqb-false r.0 p e))
            (in-filter (λ m. is_on owed m.cell) mesh.marks m k (on-from owed t.0 m.cell (in-owed r.0 op t.0 h r.1 inside.1) t.2)))
      ])

  abbrev told : List CellMark
  told = flat_map (marks_by there known) mine

  abbrev made : List CellMark
  made = flat_map (marks_by all mesh.marks) led

  told-made : (m : CellMark) → In m told → In m made
  told-made m h =
      let o = from-flat_map (marks_by there known) mine m h in
      let its = from-mine o.0 o.1 in
      let n = from-flat_map (changed_by (o.0 ∷ [])) (marks_on (cavity there o.0) known) m o.2 in
      let k = from-filter (λ m. is_on (cavity there o.0) m.cell) known n.0 n.1 in
      in-flat_map (marks_by all mesh.marks) led o.0 m its
      (in-flat_map (changed_by (o.0 ∷ [])) (marks_on (cavity all o.0) mesh.marks) n.0 m
      (in-filter (λ m. is_on (cavity all o.0) m.cell) mesh.marks n.0 (from-known n.0 k.0) (ap (λ tets. is_on tets n.0.cell) (sym (cavity_whole o.0 its)) ∙ k.1)) n.2)

  made-told : (m : CellMark) → In m made → In m told
  made-told m h =
      let o = from-flat_map (marks_by all mesh.marks) led m h in
      let n = from-flat_map (changed_by (o.0 ∷ [])) (marks_on (cavity all o.0) mesh.marks) m o.2 in
      let k = from-filter (λ m. is_on (cavity all o.0) m.cell) mesh.marks n.0 n.1 in
      in-flat_map (marks_by there known) mine o.0 m (in-mine o.0 o.1)
      (in-flat_map (changed_by (o.0 ∷ [])) (marks_on (cavity there o.0) known) n.0 m
      (in-filter (λ m. is_on (cavity there o.0) m.cell) known n.0 (in-known o.0 n.0 o.1 k.0 k.1) (ap (λ tets. is_on tets n.0.cell) (cavity_whole o.0 o.1) ∙ k.1)) n.2)

  abbrev on_after : CellMark → Bool
  on_after m = is_on own_after m.cell

  abbrev stood : List CellMark
  stood = marks_on own mesh.marks

  marks_are : ascending_of mark_cmp (marks_on own_after (had ++ ascending_of mark_cmp told)) ≡ carried_after kind field mesh p
  marks_are =
      let held = had ++ ascending_of mark_cmp told in
      same_made mark_cmp_total mark_cmp-IsAntisymmetric (marks_on own_after held) (marks_on own_after (stood ++ made))
      (λ m h.
      let k = from-filter on_after held m h in
      in-filter on_after (stood ++ made) m (elim (from-append had (ascending_of mark_cmp told) m k.0) [
        | inl a ↦ let of = from-had m a in in-append_left stood made m (in-filter (λ m. is_on own m.cell) mesh.marks m of.0 of.1)
        | inr b ↦ in-append_right stood made m (told-made m (from-ascending_of mark_cmp_total mark_cmp-IsAntisymmetric told m b))
      ]) k.1)
      (λ m h.
      let k = from-filter on_after (stood ++ made) m h in
      in-filter on_after held m (elim (from-append stood made m k.0) [
        | inl a ↦ let of = from-filter (λ m. is_on own m.cell) mesh.marks m a in in-append_left had (ascending_of mark_cmp told) m (in-had m of.0 of.1)
        | inr b ↦ in-append_right had (ascending_of mark_cmp told) m (in-ascending_of mark_cmp_total mark_cmp-IsAntisymmetric told m (made-told m b))
      ]) k.1)

  -- ---- all of it
  abbrev holds : List Tetrahedron → List CellMark → StoreState
  holds tets marks = record { part = p; own = tets; ghosts = []; marks = marks; shared = [] }

  pub after_orders_are : (home : Coordinates → ℕ) (s : StoreState) → view_in s ≡ view_of mesh p
      → after_orders s orders batches ≡ holding parts home (mesh_after kind field mesh) (carried_after kind field mesh) 0 p
  after_orders_are home s seen =
      ap (λ view. after_orders (store_of view) orders batches) seen
      ∙ ap (λ tets. holds tets (ascending_of mark_cmp (marks_on tets (had ++ ascending_of mark_cmp told)))) own_is
      ∙ ap (holds own_after) marks_are

-- What parts show to each other is what the mesh says, and leaves to each its view.
use Rattle.std.proofs.Common.{◌≡◌, ◌≢◌, ℕ, ◌<◌, inl, inr, Bool, true, false, cond, not, ◌&&◌, nat_le, List, [], ◌∷◌, ◌++◌, filter, length, refl, sym, ap, subst, ◌∙◌, eqb-true}
use Rattle.std.specs.Prelude.{map, ◌==◌}
use Rattle.std.specs.List.{list_any}
use Rattle.std.specs.Ordering.{eq_by_cmp, is_eq}
use Rattle.std.specs.Cmp.{both_ways, Equal-is, tied_itself}
use Rattle.std.proofs.lemmas.Bool.{and_from, and_parts, eq-eqb, eqb-false, le-leb, ne_eqb, not-true, not_from_false}
use Rattle.std.proofs.lemmas.List.Kept.{IsStrictlySortedBy-filter}
use Rattle.ma_geom.specs.Coordinates.{Coordinates, place_cmp}
use Rattle.ma_geom.proofs.PlaceOrder.{place_cmp-IsAntisymmetric, place_cmp_total}
use Rattle.ma_cells.specs.Ascending.{ascending_of, has}
use Rattle.ma_cells.specs.Cells.{CellMark, mark_cmp}
use Rattle.ma_cells.specs.Incidence.{is_on}
use Rattle.ma_cells.specs.Tetrahedron.{Tetrahedron}
use Rattle.ma_cells.specs.Views.{ghost_cmp}
use Rattle.ma_cells.specs.declared.batch.Batch.{Batch}
use Rattle.ma_cells.proofs.CellOrders.{ghost_cmp_total, ghost_cmp-IsAntisymmetric, mark_cmp_total, mark_cmp-IsAntisymmetric}
use Rattle.letters.specs.Sharing.{SharedPlace}
use Rattle.ghost_layer.specs.GhostRule.{batch_of, bordering, is_shared_with, near}
use Rattle.part_phases.specs.Inboxes.{Inbox, below, gathered}
use Rattle.part_rules.specs.Ends.{after_ghosts}
use Rattle.part_rules.specs.Owed.{IsLabelled, corners_at, holding, labels_at, owed_ghosts, owed_reply, shared_in}
use Rattle.part_rules.specs.Rounds.{shown_to}
use Rattle.part_store.specs.Labelled.{LabelledMesh, ghosts_of, is_ghost, marks_on, own_of, seen_by, tet_of, touches}
use Rattle.part_store.specs.Stores.{marks_got, tets_got}
use Rattle.part_store.proofs.Agreeing.{from-own, in-own}
use Rattle.part_store.proofs.Members.{In, any-in, from-any, in-filter, from-filter, filter-agree, filter-filter, in-map, from-map, in-flat_map, from-flat_map, in-append_left, in-append_right, from-append, is_made}
use Rattle.view_laws.proofs.MeshItems.{from-on, from-places, from-touches, in-corners, in-places, label-below, on-from, on-more, touches-from}
use Rattle.view_laws.proofs.Numbered.{from-gathered, in-below, in-gathered, two_items}

module _ (parts : ℕ) (home : Coordinates → ℕ) (homes : (x : Coordinates) → home x < parts) (mesh : LabelledMesh) (right : IsLabelled parts mesh) (carried : ℕ → List CellMark) where
  abbrev shared_at : Coordinates → SharedPlace
  shared_at x = record { place = x; parts = labels_at parts mesh x }

  abbrev is_shared : Coordinates → Bool
  is_shared x = nat_le 2 (length (labels_at parts mesh x))

  abbrev at_home : ℕ → Coordinates → Bool
  at_home h x = home x == h

  -- the corners of a part that have a home
  abbrev corners_to : ℕ → ℕ → List Coordinates
  corners_to h p = filter (at_home h) (corners_at mesh p)

  abbrev shared_from : ℕ → ℕ → List SharedPlace
  shared_from p h = (owed_reply parts home mesh carried h p).shared

  -- whether a shared place is this one, with q among its parts
  abbrev gives : ℕ → Coordinates → SharedPlace → Bool
  gives q x s = eq_by_cmp place_cmp x s.place && list_any (λ part. part == q) s.parts

  -- ---- what the shared places say
  in-labels : (x : Coordinates) (q : ℕ) → q < parts → In x (corners_at mesh q) → In q (labels_at parts mesh x)
  in-labels x q within h = in-filter (λ p. has place_cmp x (corners_at mesh p)) (below parts) q (in-below parts q within) (in-places (corners_at mesh q) x h)

  from-labels : (x : Coordinates) (q : ℕ) → In q (labels_at parts mesh x) → In x (corners_at mesh q)
  from-labels x q h = from-places (corners_at mesh q) x (from-filter (λ p. has place_cmp x (corners_at mesh p)) (below parts) q h).1

  -- a place that is shared with q is a corner of q
  from-shared : (p q : ℕ) (x : Coordinates) → is_shared_with (shared_in parts home mesh carried p) q x ≡ true → In x (corners_at mesh q)
  from-shared p q x h =
      let e = from-any (gives q x) (shared_in parts home mesh carried p) h in
      let both = and_parts (eq_by_cmp place_cmp x e.0.place) (list_any (λ r. r == q) e.0.parts) e.2 in
      let at = from-flat_map (shared_from p) (below parts) e.0 e.1 in
      let y = from-map shared_at (filter is_shared (corners_to at.0 p)) e.0 at.2 in
      let same : x ≡ y.0 = place_cmp-IsAntisymmetric x e.0.place ((Equal-is (place_cmp x e.0.place)).0 both.0) ∙ ap (λ z. z.place) y.2 in
      let r = from-any (λ r. r == q) e.0.parts both.1 in
      let named : In q (labels_at parts mesh y.0) = subst (λ l. In q l) (ap (λ z. z.parts) y.2) (subst (λ z. In z e.0.parts) (eqb-true r.0 q r.2) r.1) in
      subst (λ z. In z (corners_at mesh q)) (sym same) (from-labels y.0 q named)

  -- a corner of p and of q is shared with q
  in-shared : (p q : ℕ) (x : Coordinates) → p < parts → q < parts → p ≢ q → In x (corners_at mesh p) → In x (corners_at mesh q) → is_shared_with (shared_in parts home mesh carried p) q x ≡ true
  in-shared p q x below_p below_q differ own other =
      let labels = labels_at parts mesh x in
      let h = home x in
      let many : is_shared x ≡ true = le-leb 2 (length labels) (two_items labels p q (in-labels x p below_p own) (in-labels x q below_q other) differ) in
      let placed = in-filter (at_home h) (corners_at mesh p) x own (eq-eqb h h refl) in
      let listed = in-map shared_at (filter is_shared (corners_to h p)) x (in-filter is_shared (corners_to h p) x placed many) in
      any-in (gives q x) (shared_in parts home mesh carried p) (shared_at x)
      (in-flat_map (shared_from p) (below parts) h (shared_at x) (in-below parts h (homes x)) listed)
      (and_from (eq_by_cmp place_cmp x x) (list_any (λ r. r == q) labels) (ap is_eq (tied_itself place_cmp_total x)) (any-in (λ r. r == q) labels q (in-labels x q below_q other) (eq-eqb q q refl)))

  -- so a tetrahedron borders q just where it touches it
  shared-touches : (p q : ℕ) (t : Tetrahedron) → p < parts → q < parts → p ≢ q → In t (own_of mesh p)
      → list_any (is_shared_with (shared_in parts home mesh carried p) q) t.corners ≡ touches (corners_at mesh q) t
  shared-touches p q t below_p below_q differ own =
      let is_given : Coordinates → Bool = is_shared_with (shared_in parts home mesh carried p) q in
      both_ways (list_any is_given t.corners) (touches (corners_at mesh q) t)
      (λ h. let r = from-any is_given t.corners h in touches-from (corners_at mesh q) t r.0 r.1 (from-shared p q r.0 r.2))
      (λ h. let r = from-touches (corners_at mesh q) t h in any-in is_given t.corners r.0 r.1 (in-shared p q r.0 below_p below_q differ (in-corners (own_of mesh p) t r.0 own r.1) r.2))

  -- ---- what is sent
  abbrev touching : ℕ → ℕ → List Tetrahedron
  touching p q = filter (touches (corners_at mesh q)) (own_of mesh p)

  for_other : (p q : ℕ) → p < parts → q < parts → p ≢ q → batch_of (bordering (holding parts home mesh carried 2 p) q) (marks_on (own_of mesh p) mesh.marks) ≡ batch_of (touching p q) mesh.marks
  for_other p q below_p below_q differ =
      let own = own_of mesh p in
      let given = touching p q in
      let tets : bordering (holding parts home mesh carried 2 p) q ≡ given =
      filter-agree (λ t. list_any (is_shared_with (shared_in parts home mesh carried p) q) t.corners) (touches (corners_at mesh q)) own (λ t h. shared-touches p q t below_p below_q differ h) in
      let marks : marks_on given (marks_on own mesh.marks) ≡ marks_on given mesh.marks =
      filter-filter (λ m. is_on own m.cell) (λ m. is_on given m.cell) mesh.marks
      (λ m _ h. on-more given own m.cell (λ t k. (from-filter (touches (corners_at mesh q)) own t k).0) h) in
      ap (λ l. batch_of l (marks_on own mesh.marks)) tets ∙ ap (λ (ms : List CellMark). let b : Batch = record { tets = given; marks = ms } in b) marks

  pub ghosts_are : (p q : ℕ) → p < parts → q < parts → shown_to (holding parts home mesh carried 2 p) q ≡ owed_ghosts parts home mesh carried p q
  ghosts_are p q below_p below_q =
      elim (q == p) as (λ b. (q == p) ≡ b → cond b (batch_of [] []) (batch_of (bordering (holding parts home mesh carried 2 p) q) (marks_on (own_of mesh p) mesh.marks))
      ≡ cond b (batch_of [] []) (batch_of (touching p q) mesh.marks)) [
        | true ↦ λ e. refl
        | false ↦ λ e. for_other p q below_p below_q (λ same. eqb-false q p e (sym same))
      ] refl

  -- ---- what is got
  owed-other : (r p : ℕ) → r ≢ p → owed_ghosts parts home mesh carried r p ≡ batch_of (touching r p) mesh.marks
  owed-other r p differ = ap (λ b. cond b (batch_of [] []) (batch_of (touching r p) mesh.marks)) (ne_eqb p r (λ same. differ (sym same)))

  abbrev batches_to : ℕ → Inbox Batch
  batches_to p = gathered parts (λ r. owed_ghosts parts home mesh carried r p)

  module _ (p : ℕ) (within : p < parts) where
    abbrev is_from_other : ℕ × Batch → Bool
    is_from_other e = not (e.0 == p)

    abbrev own : List Tetrahedron
    own = own_of mesh p

    abbrev corners : List Coordinates
    corners = corners_at mesh p

    abbrev sent : Inbox Batch
    sent = filter is_from_other (batches_to p)

    -- of what was sent the tetrahedra that touch own ones
    abbrev got : Inbox Batch
    got = map (near corners) sent

    abbrev labelled_in : ℕ × Batch → List (Tetrahedron × ℕ)
    labelled_in e = map (λ tet. (tet, e.0)) e.1.tets

    abbrev came : List (Tetrahedron × ℕ)
    came = tets_got got

    from-sent : (e : ℕ × Batch) → In e sent → (e.0 < parts) × (e.0 ≢ p) × (e.1 ≡ batch_of (touching e.0 p) mesh.marks)
    from-sent e h =
        let kept = from-filter is_from_other (batches_to p) e h in
        let from = from-gathered (λ r. owed_ghosts parts home mesh carried r p) parts e kept.0 in
        let differ : e.0 ≢ p = eqb-false e.0 p (not-true (e.0 == p) kept.1) in
        (from.0, differ, from.1 ∙ owed-other e.0 p differ)

    in-sent : (r : ℕ) → r < parts → r ≢ p → In (r, owed_ghosts parts home mesh carried r p) sent
    in-sent r below_r differ =
        in-filter is_from_other (batches_to p) (r, owed_ghosts parts home mesh carried r p) (in-gathered (λ r. owed_ghosts parts home mesh carried r p) parts r below_r) (not_from_false (r == p) (ne_eqb r p differ))

    in-got : (r : ℕ) → r < parts → r ≢ p → In (near corners (r, owed_ghosts parts home mesh carried r p)) got
    in-got r below_r differ = in-map (near corners) sent (r, owed_ghosts parts home mesh carried r p) (in-sent r below_r differ)

    from-came : (g : Tetrahedron × ℕ) → In g came → In g (ghosts_of mesh p)
    from-came g h =
        let n = from-flat_map labelled_in got g h in
        let e = from-map (near corners) sent n.0 n.1 in
        let from = from-sent e.0 e.1 in
        let among : In g (labelled_in (near corners e.0)) = subst (λ z. In g (labelled_in z)) e.2 n.2 in
        let t = from-map (λ tet. (tet, e.0.0)) (filter (touches corners) e.0.1.tets) g among in
        let there = from-filter (touches corners) e.0.1.tets t.0 t.1 in
        let shown : In t.0 (touching e.0.0 p) = subst (λ (b : Batch). In t.0 b.tets) from.2 there.0 in
        let listed = from-own mesh e.0.0 t.0 (from-filter (touches corners) (own_of mesh e.0.0) t.0 shown).0 in
        subst (λ z. In z (ghosts_of mesh p)) (sym t.2)
        (in-filter (is_ghost mesh p) mesh.tets (t.0, e.0.0) listed (and_from (not (e.0.0 == p)) (touches corners t.0) (not_from_false (e.0.0 == p) (ne_eqb e.0.0 p from.1)) there.1))

    -- a ghost is of another part, which shows it
    of-other : (g : Tetrahedron × ℕ) → In g (ghosts_of mesh p) → (g.1 < parts) × (g.1 ≢ p) × In g.0 (touching g.1 p) × (touches corners g.0 ≡ true)
    of-other g h =
        let kept = from-filter (is_ghost mesh p) mesh.tets g h in
        let both = and_parts (not (g.1 == p)) (touches corners g.0) kept.1 in
        (label-below parts mesh right g kept.0, eqb-false g.1 p (not-true (g.1 == p) both.0), in-filter (touches corners) (own_of mesh g.1) g.0 (in-own mesh g.1 g.0 kept.0) both.1, both.1)

    in-came : (g : Tetrahedron × ℕ) → In g (ghosts_of mesh p) → In g came
    in-came g h =
        let o = of-other g h in
        let b = owed_ghosts parts home mesh carried g.1 p in
        let listed : In g.0 b.tets = subst (λ (b : Batch). In g.0 b.tets) (sym (owed-other g.1 p o.1)) o.2 in
        in-flat_map labelled_in got (near corners (g.1, b)) g (in-got g.1 o.0 o.1)
        (in-map (λ tet. (tet, g.1)) (filter (touches corners) b.tets) g.0 (in-filter (touches corners) b.tets g.0 listed o.3))

    ghosts_set : ascending_of ghost_cmp came ≡ ghosts_of mesh p
    ghosts_set = is_made ghost_cmp_total ghost_cmp-IsAntisymmetric came (ghosts_of mesh p) (IsStrictlySortedBy-filter ghost_cmp (is_ghost mesh p) mesh.tets right.tets) from-came in-came

    -- what is seen, as it came and as it is
    abbrev near_by : List Tetrahedron
    near_by = own ++ map tet_of came

    seen-from : (t : Tetrahedron) → In t near_by → In t (seen_by mesh p)
    seen-from t h = elim (from-append own (map tet_of came) t h) [
      | inl a ↦ in-append_left own (map tet_of (ghosts_of mesh p)) t a
      | inr b ↦
          let g = from-map tet_of came t b in
          in-append_right own (map tet_of (ghosts_of mesh p)) t (subst (λ z. In z (map tet_of (ghosts_of mesh p))) (sym g.2) (in-map tet_of (ghosts_of mesh p) g.0 (from-came g.0 g.1)))
    ]

    abbrev on_own : CellMark → Bool
    on_own m = is_on own m.cell

    abbrev on_near : CellMark → Bool
    on_near m = is_on near_by m.cell

    abbrev on_seen : CellMark → Bool
    on_seen m = is_on (seen_by mesh p) m.cell

    abbrev marks_had : List CellMark
    marks_had = marks_on own (marks_on own mesh.marks)

    abbrev marks_came : List CellMark
    marks_came = marks_on near_by (marks_got got)

    abbrev marks_in : ℕ × Batch → List CellMark
    marks_in e = e.1.marks

    from-marks_got : (m : CellMark) → In m (marks_got got) → In m mesh.marks
    from-marks_got m h =
        let n = from-flat_map marks_in got m h in
        let e = from-map (near corners) sent n.0 n.1 in
        let from = from-sent e.0 e.1 in
        let among : In m e.0.1.marks = subst (λ z. In m (marks_in z)) e.2 n.2 in
        (from-filter (λ m. is_on (touching e.0.0 p) m.cell) mesh.marks m (subst (λ (b : Batch). In m b.marks) from.2 among)).0

    from-all : (m : CellMark) → In m (marks_had ++ marks_came) → In m (marks_on (seen_by mesh p) mesh.marks)
    from-all m h = elim (from-append marks_had marks_came m h) [
      | inl a ↦
          let kept = from-filter on_own (marks_on own mesh.marks) m a in
          in-filter on_seen mesh.marks m (from-filter on_own mesh.marks m kept.0).0 (on-more own (seen_by mesh p) m.cell (λ t k. in-append_left own (map tet_of (ghosts_of mesh p)) t k) kept.1)
      | inr b ↦
          let kept = from-filter on_near (marks_got got) m b in
          in-filter on_seen mesh.marks m (from-marks_got m kept.0) (on-more near_by (seen_by mesh p) m.cell seen-from kept.1)
    ]

    only : (t : Tetrahedron) (ts : List Tetrahedron) → In t ts → (u : Tetrahedron) → In u (t ∷ []) → In u ts
    only t ts h u k = elim k [ inl e ↦ subst (λ z. In z ts) (sym e) h | inr none ↦ absurd none ]

    -- a mark on a ghost came with it
    with_ghost : (g : Tetrahedron × ℕ) (m : CellMark) → In g (ghosts_of mesh p) → In m mesh.marks → is_on (g.0 ∷ []) m.cell ≡ true → In m marks_came
    with_ghost g m there marked on =
        let o = of-other g there in
        let b = owed_ghosts parts home mesh carried g.1 p in
        let on_shown : is_on (touching g.1 p) m.cell ≡ true = on-more (g.0 ∷ []) (touching g.1 p) m.cell (only g.0 (touching g.1 p) o.2) on in
        let listed : In m b.marks = subst (λ (b : Batch). In m b.marks) (sym (owed-other g.1 p o.1)) (in-filter (λ m. is_on (touching g.1 p) m.cell) mesh.marks m marked on_shown) in
        in-filter on_near (marks_got got) m (in-flat_map marks_in got (near corners (g.1, b)) m (in-got g.1 o.0 o.1) listed)
        (on-more (g.0 ∷ []) near_by m.cell (only g.0 near_by (in-append_right own (map tet_of came) g.0 (in-map tet_of came g (in-came g there)))) on)

    in-all : (m : CellMark) → In m (marks_on (seen_by mesh p) mesh.marks) → In m (marks_had ++ marks_came)
    in-all m h =
        let kept = from-filter on_seen mesh.marks m h in
        let t = from-on (seen_by mesh p) m.cell kept.1 in
        elim (from-append own (map tet_of (ghosts_of mesh p)) t.0 t.1) [
          | inl a ↦
              let on : on_own m ≡ true = on-from own t.0 m.cell a t.2 in
              in-append_left marks_had marks_came m (in-filter on_own (marks_on own mesh.marks) m (in-filter on_own mesh.marks m kept.0 on) on)
          | inr b ↦
              let g = from-map tet_of (ghosts_of mesh p) t.0 b in
              in-append_right marks_had marks_came m (with_ghost g.0 m g.1 kept.0 (on-from (g.0.0 ∷ []) t.0 m.cell (inl g.2) t.2))
        ]

    marks_set : ascending_of mark_cmp (marks_had ++ marks_came) ≡ marks_on (seen_by mesh p) mesh.marks
    marks_set =
        is_made mark_cmp_total mark_cmp-IsAntisymmetric (marks_had ++ marks_came) (marks_on (seen_by mesh p) mesh.marks) (IsStrictlySortedBy-filter mark_cmp on_seen mesh.marks right.marks) from-all in-all

    pub after_ghosts_are : after_ghosts (holding parts home mesh carried 2 p) (batches_to p) ≡ holding parts home mesh carried 3 p
    after_ghosts_are = λ i. record { part = p; own = own; ghosts = ghosts_set i; marks = marks_set i; shared = shared_in parts home mesh carried p }

-- The mesh after a pass is a labelled mesh, and its marks are those that the parts carry.
use Rattle.std.proofs.Common.{◌≡◌, ℕ, ◌<◌, inl, inr, Bool, true, false, cond, not, List, [], ◌∷◌, ◌++◌, Some, None, refl, sym, ap, subst, ◌∙◌}
use Rattle.std.specs.Prelude.{IfSome, filter, map}
use Rattle.std.specs.List.{AllByRecursion, flat_map}
use Rattle.std.specs.Option.{option_map, option_to_list}
use Rattle.std.proofs.lemmas.Bool.{cases_Bool, false≢true, false_from_ne_true}
use Rattle.ma_geom.specs.Coordinates.{Coordinates, place_cmp}
use Rattle.ma_cells.specs.Ascending.{has}
use Rattle.ma_cells.specs.Cells.{CellMark, cell_of, corners_of, is_cell, mark_on}
use Rattle.ma_cells.specs.Faces.{holds_all}
use Rattle.ma_cells.specs.Incidence.{is_on}
use Rattle.ma_cells.specs.Tetrahedron.{Tetrahedron}
use Rattle.ma_cells.specs.declared.cell.Cell.{Cell}
use Rattle.ma_cells.proofs.Ascents.{sorted-ascending_of}
use Rattle.ma_cells.proofs.CellOrders.{ghost_cmp_total, mark_cmp_total, mark_cmp-IsAntisymmetric}
use Rattle.ma_cells.proofs.Cornered.{is_cell-of}
use Rattle.size_marks.specs.Field.{Field}
use Rattle.cavity_rank.specs.Operations.{Operation}
use Rattle.cavity_rank.specs.declared.verdict.Kind.{Kind}
use Rattle.cavity_collapse.specs.Collapsing.{moved_corners, moved_mark}
use Rattle.part_rules.specs.Owed.{AreCarried, IsLabelled}
use Rattle.part_store.specs.Labelled.{LabelledMesh, marks_on, own_of, tet_of}
use Rattle.part_store.proofs.Agreeing.{from-own, in-own}
use Rattle.part_store.proofs.Members.{In, all-in, all-from_in, any-in, from-any, in-filter, from-filter, in-map, from-map, in-flat_map, from-flat_map, in-append_left, in-append_right, from-append, in-ascending_of, from-ascending_of}
use Rattle.pass_rules.specs.Choosing.{is_in, is_taken}
use Rattle.pass_rules.specs.Passes.{changed_at, changed_by, filling}
use Rattle.part_vote.specs.Leading.{leads, without_labels}
use Rattle.part_vote.specs.OwedVotes.{chosen_in}
use Rattle.part_gather.specs.Gathering.{cavity, marks_by}
use Rattle.part_gather.specs.OwedGathering.{MarksStay, carried_after, labelled_filling, led_by, mesh_after}
use Rattle.view_laws.proofs.MeshItems.{from-on, in-marks, is-cell, label-below, on-from, on-more}
use Rattle.vote_laws.proofs.Leads.{from-labels, leads-in}
use Rattle.vote_laws.proofs.Seen.{held, in-all}
use Rattle.gather_laws.proofs.Filled.{apart, from-loses, held-one, led_by_some, loses, loses-from, none_left}
use Rattle.gather_laws.proofs.After.{from-after, in-kept, in-new}

-- ---- how a mark changes
abbrev loses_of : CellMark → Operation → Bool
loses_of m op = loses op.at (corners_of m.cell)

other-stays : (at : List Coordinates) (v : Coordinates) (m : CellMark) (others : List CellMark) → loses at (corners_of m.cell) ≡ false → changed_at at v m others ≡ others
other-stays [] v m others h = refl
other-stays (a ∷ []) v m others h = ap (λ b. cond b (moved_mark a v m) others) h
other-stays (a ∷ b ∷ at) v m others h = refl

lost-changes : (at : List Coordinates) (v : Coordinates) (m : CellMark) (others : List CellMark) → loses at (corners_of m.cell) ≡ true → changed_at at v m others ≡ changed_at at v m (m ∷ [])
lost-changes [] v m others h = absurd (false≢true h)
lost-changes (a ∷ []) v m others h = ap (λ b. cond b (moved_mark a v m) others) h ∙ sym (ap (λ b. cond b (moved_mark a v m) (m ∷ [])) h)
lost-changes (a ∷ b ∷ at) v m others h = absurd (false≢true h)

-- where no operation takes a corner away, it stays
unchanged : (ops : List Operation) (m : CellMark) → ((o : Operation) → In o ops → loses_of m o ≡ false) → changed_by ops m ≡ m ∷ []
unchanged [] m h = refl
unchanged (o ∷ ops) m h = other-stays o.at o.apex m (changed_by ops m) (h o (inl refl)) ∙ unchanged ops m (λ z k. h z (inr k))

-- where one alone does, that one tells
first-changes : (ops : List Operation) (op : Operation) (m : CellMark) → In op ops → loses_of m op ≡ true → ((o : Operation) → In o ops → loses_of m o ≡ true → o ≡ op) → changed_by ops m ≡ changed_by (op ∷ []) m
first-changes [] op m h e only = absurd h
first-changes (o ∷ ops) op m h e only = elim (cases_Bool (loses_of m o)) [
  | inl f ↦ lost-changes o.at o.apex m (changed_by ops m) f ∙ ap (λ (z : Operation). changed_at z.at z.apex m (m ∷ [])) (only o (inl refl) f)
  | inr f ↦ other-stays o.at o.apex m (changed_by ops m) f ∙ elim h [
    | inl same ↦ absurd (false≢true (sym f ∙ ap (loses_of m) (sym same) ∙ e))
    | inr k ↦ first-changes ops op m k e (λ z j g. only z (inr j) g)
  ]
]

-- what a cell of a tetrahedron loses, the tetrahedron loses
loses-more : (at : List Coordinates) (t : Tetrahedron) (cell : Cell) → holds_all t.corners (corners_of cell) ≡ true → loses at t.corners ≡ false → loses at (corners_of cell) ≡ false
loses-more at t cell on none =
    false_from_ne_true (loses at (corners_of cell)) (λ lost.
    let a = from-loses at (corners_of cell) lost in
    false≢true (sym none ∙ loses-from at t.corners a.0 a.1 (held t.corners (corners_of cell) a.0 on a.2)))

-- ---- cells
moved-cell : (places : List Coordinates) (m n : CellMark) → In n (option_to_list (mark_on places m.phys m.elem)) → is_cell n.cell ≡ true
moved-cell places m n h =
    let make : Cell → CellMark = λ cell. record { cell = cell; phys = m.phys; elem = m.elem } in
    elim (cell_of places) as (λ o. IfSome o (λ cell. is_cell cell ≡ true) → In n (option_to_list (option_map make o)) → is_cell n.cell ≡ true) [
      | None ↦ λ _ j. absurd j
      | (Some cell) ↦ λ right j. elim j [ inl e ↦ ap (λ (z : CellMark). is_cell z.cell) e ∙ right | inr none ↦ absurd none ]
    ] (is_cell-of places) h

cell-at : (at : List Coordinates) (v : Coordinates) (m n : CellMark) (others : List CellMark) → (In n others → is_cell n.cell ≡ true) → In n (changed_at at v m others) → is_cell n.cell ≡ true
cell-at [] v m n others rest h = rest h
cell-at (a ∷ []) v m n others rest h =
    elim (has place_cmp a (corners_of m.cell)) as (λ b. In n (cond b (moved_mark a v m) others) → is_cell n.cell ≡ true) [
      | true ↦ λ j. moved-cell (moved_corners a v (corners_of m.cell)) m n j
      | false ↦ rest
    ] h
cell-at (a ∷ b ∷ at) v m n others rest h = rest h

changed-cell : (ops : List Operation) (m n : CellMark) → is_cell m.cell ≡ true → In n (changed_by ops m) → is_cell n.cell ≡ true
changed-cell [] m n right h = elim h [ inl e ↦ ap (λ (z : CellMark). is_cell z.cell) e ∙ right | inr none ↦ absurd none ]
changed-cell (o ∷ ops) m n right h = cell-at o.at o.apex m n (changed_by ops m) (changed-cell ops m n right) h

module _ (kind : Kind) (field : Field) (mesh : LabelledMesh) where
  abbrev ops : List Operation
  ops = chosen_in kind field mesh

  abbrev all : List Tetrahedron
  all = (without_labels mesh).tets

  abbrev after : LabelledMesh
  after = mesh_after kind field mesh

  abbrev led : ℕ → List Operation
  led = led_by kind field mesh

  -- ---- a mark of a chosen cavity is changed by the operation of that cavity alone
  only-one : (op o : Operation) (t : Tetrahedron) (m : CellMark) → In op ops → In o ops → In t all → is_in op t ≡ true → holds_all t.corners (corners_of m.cell) ≡ true → loses_of m o ≡ true → o ≡ op
  only-one op o t m a b there inside on e =
      let r = from-loses o.at (corners_of m.cell) e in
      apart kind field mesh o op t b a there (held-one o.at t.corners r.0 r.1 (held t.corners (corners_of m.cell) r.0 on r.2)) inside

  changed-alone : (op : Operation) (t : Tetrahedron) (m : CellMark) → In op ops → In t all → is_in op t ≡ true → holds_all t.corners (corners_of m.cell) ≡ true → changed_by ops m ≡ changed_by (op ∷ []) m
  changed-alone op t m h there inside on = elim (cases_Bool (loses_of m op)) [
    | inl e ↦ first-changes ops op m h e (λ o k f. only-one op o t m h k there inside on f)
    | inr e ↦
        unchanged ops m (λ o k. false_from_ne_true (loses_of m o) (λ f. false≢true (sym e ∙ ap (loses_of m) (sym (only-one op o t m h k there inside on f)) ∙ f)))
        ∙ sym (other-stays op.at op.apex m (m ∷ []) e)
  ]

  -- a mark of a tetrahedron in no chosen cavity stays
  untaken-stays : (t : Tetrahedron) (m : CellMark) → is_taken ops t ≡ false → holds_all t.corners (corners_of m.cell) ≡ true → changed_by ops m ≡ m ∷ []
  untaken-stays t m untaken on =
      unchanged ops m (λ o k. false_from_ne_true (loses_of m o) (λ f.
      let r = from-loses o.at (corners_of m.cell) f in
      false≢true (sym untaken ∙ any-in (λ op. is_in op t) ops o k (held-one o.at t.corners r.0 r.1 (held t.corners (corners_of m.cell) r.0 on r.2)))))

  abbrev changed : List CellMark
  changed = flat_map (changed_by ops) mesh.marks

  from-changed : (n : CellMark) → In n after.marks → (m : CellMark) × In m mesh.marks × In n (changed_by ops m)
  from-changed n h = from-flat_map (changed_by ops) mesh.marks n (from-ascending_of mark_cmp_total mark_cmp-IsAntisymmetric changed n h)

  abbrev made : ℕ → List CellMark
  made p = flat_map (marks_by all mesh.marks) (led p)

  abbrev stood : ℕ → List CellMark
  stood p = marks_on (own_of mesh p) mesh.marks

  abbrev on_own : ℕ → CellMark → Bool
  on_own p m = is_on (own_of after p) m.cell

  in-carried : (p : ℕ) (m : CellMark) → In m (stood p ++ made p) → is_on (own_of after p) m.cell ≡ true → In m (carried_after kind field mesh p)
  in-carried p m h on = in-ascending_of mark_cmp_total mark_cmp-IsAntisymmetric (marks_on (own_of after p) (stood p ++ made p)) m (in-filter (on_own p) (stood p ++ made p) m h on)

  -- what is carried is a mark of the mesh afterwards
  from-carried : (p : ℕ) (m : CellMark) → In m (carried_after kind field mesh p) → In m after.marks × (is_on (own_of after p) m.cell ≡ true)
  from-carried p m h =
      let k = from-filter (on_own p) (stood p ++ made p) m (from-ascending_of mark_cmp_total mark_cmp-IsAntisymmetric (marks_on (own_of after p) (stood p ++ made p)) m h) in (
        in-ascending_of mark_cmp_total mark_cmp-IsAntisymmetric changed m (elim (from-append (stood p) (made p) m k.0) [
          | inl a ↦
              let t = from-on (own_of after p) m.cell k.1 in
              let stays = unchanged ops m (λ o j. loses-more o.at t.0 m.cell t.2 (none_left kind field mesh t.0 p o (from-own after p t.0 t.1) j)) in
              in-flat_map (changed_by ops) mesh.marks m m (from-filter (λ m. is_on (own_of mesh p) m.cell) mesh.marks m a).0 (subst (λ l. In m l) (sym stays) (inl refl))
          | inr b ↦
              let o = from-flat_map (marks_by all mesh.marks) (led p) m b in
              let n = from-flat_map (changed_by (o.0 ∷ [])) (marks_on (cavity all o.0) mesh.marks) m o.2 in
              let s = from-filter (λ m. is_on (cavity all o.0) m.cell) mesh.marks n.0 n.1 in
              let t = from-on (cavity all o.0) n.0.cell s.1 in
              let c = from-filter (λ (tet : Tetrahedron). holds_all tet.corners o.0.at) all t.0 t.1 in
              let chosen = (from-filter (leads mesh.tets p) ops o.0 o.1).0 in
              in-flat_map (changed_by ops) mesh.marks n.0 m s.0 (subst (λ l. In m l) (sym (changed-alone o.0 t.0 n.0 chosen c.0 c.1 t.2)) n.2)
        ]),
        k.1,
      )

  module _ (parts : ℕ) (right : IsLabelled parts mesh) (stay : MarksStay kind field mesh) where
    below : (t : Tetrahedron) (r : ℕ) → In (t, r) mesh.tets → r < parts
    below t r h = label-below parts mesh right (t, r) h

    -- a part leads an operation only where it has a tetrahedron
    leader-below : (op : Operation) (r : ℕ) → leads mesh.tets r op ≡ true → r < parts
    leader-below op r led = let t = from-labels mesh.tets op r (leads-in mesh.tets op r led) in below t.0 r t.1

    on-new : (op : Operation) (n : CellMark) → In op ops → In n (marks_by all mesh.marks op) → is_on (filling all op) n.cell ≡ true
    on-new op n h k =
        all-in (λ m. is_on (filling all op) m.cell ≡ true) (marks_by all mesh.marks op) n (all-in (λ op. AllByRecursion (λ m. is_on (filling all op) m.cell ≡ true) (marks_by all mesh.marks op)) ops op stay h) k

    abbrev IsFound : CellMark → Type 0
    IsFound n = (p : ℕ) × (p < parts) × In n (carried_after kind field mesh p)

    -- a mark of a chosen cavity is carried by the part that leads it
    found-filled : (op : Operation) (m n : CellMark) (t : Tetrahedron) → In op ops → In m mesh.marks → In n (changed_by ops m) → In t all → is_in op t ≡ true → holds_all t.corners (corners_of m.cell) ≡ true → IsFound n
    found-filled op m n t h k made_of there inside on =
        let q = led_by_some kind field mesh op h in
        let p : ℕ = q.0 in
        let leading : In op (led p) = in-filter (leads mesh.tets p) ops op h q.1 in
        let on_cavity : is_on (cavity all op) m.cell ≡ true = on-from (cavity all op) t m.cell (in-filter (λ (tet : Tetrahedron). holds_all tet.corners op.at) all t there inside) on in
        let by : In n (marks_by all mesh.marks op) = in-flat_map (changed_by (op ∷ [])) (marks_on (cavity all op) mesh.marks) m n
        (in-filter (λ m. is_on (cavity all op) m.cell) mesh.marks m k on_cavity) (subst (λ l. In n l) (changed-alone op t m h there inside on) made_of) in
        let u = from-on (filling all op) n.cell (on-new op n h by) in
        let own = in-own after p u.0 (in-new kind field mesh u.0 p op leading u.1) in
        (p, leader-below op p q.1, in-carried p n (in-append_right (stood p) (made p) n (in-flat_map (marks_by all mesh.marks) (led p) op n leading by)) (on-from (own_of after p) u.0 n.cell own u.2))

    -- and a mark of another tetrahedron by its part
    found-kept : (m n : CellMark) (t : Tetrahedron) (r : ℕ) → In m mesh.marks → In n (changed_by ops m) → In (t, r) mesh.tets → is_taken ops t ≡ false → holds_all t.corners (corners_of m.cell) ≡ true → IsFound n
    found-kept m n t r k made_of there untaken on =
        let only : In n (m ∷ []) = subst (λ l. In n l) (untaken-stays t m untaken on) made_of in
        let same : n ≡ m = elim only [ inl g ↦ g | inr none ↦ absurd none ] in
        let was : In m (stood r) = in-filter (λ m. is_on (own_of mesh r) m.cell) mesh.marks m k (on-from (own_of mesh r) t m.cell (in-own mesh r t there) on) in
        let own = in-own after r t (in-kept kind field mesh t r there untaken) in
        (r, below t r there, subst (λ z. In z (carried_after kind field mesh r)) (sym same) (in-carried r m (in-append_left (stood r) (made r) m was) (on-from (own_of after r) t m.cell own on)))

    -- each mark afterwards is carried by some part
    found : (n : CellMark) → In n after.marks → IsFound n
    found n h =
        let m = from-changed n h in
        let t = from-on (map tet_of mesh.tets) m.0.cell (all-in (λ m. is_on (map tet_of mesh.tets) m.cell ≡ true) mesh.marks m.0 right.on_cells m.1) in
        let e = from-map tet_of mesh.tets t.0 t.1 in
        let there : In {X = Tetrahedron × ℕ} (t.0, e.0.1) mesh.tets = subst (λ z. In z mesh.tets) (λ i. (sym e.2 i, e.0.1)) e.1 in
        elim (cases_Bool (is_taken ops t.0)) [
          | inl taken ↦ let o = from-any (λ op. is_in op t.0) ops taken in found-filled o.0 m.0 n t.0 o.1 m.1 m.2 (in-all mesh (t.0, e.0.1) there) o.2 t.2
          | inr untaken ↦ found-kept m.0 n t.0 e.0.1 m.1 m.2 there untaken t.2
        ]

    pub carried_right : AreCarried parts after (carried_after kind field mesh)
    carried_right = record {
      right = λ p within. all-from_in _ (carried_after kind field mesh p) (λ m h. let k = from-carried p m h in (in-marks after.marks m k.0, k.1));
      all = all-from_in _ after.marks (λ n h. let k = found n h in (k.0, k.1, in-marks (carried_after kind field mesh k.0) n k.2));
    }

    label-after : (t : Tetrahedron) (r : ℕ) → In {X = Tetrahedron × ℕ} (t, r) after.tets → r < parts
    label-after t r h = elim (from-after kind field mesh t r h) [
      | inl a ↦ below t r a.0
      | inr b ↦ leader-below b.0 r (from-filter (leads mesh.tets r) ops b.0 b.1).1
    ]

    cell-after : (n : CellMark) → In n after.marks → is_cell n.cell ≡ true
    cell-after n h = let m = from-changed n h in changed-cell ops m.0 n (is-cell parts mesh right m.0 m.1) m.2

    on-after : (n : CellMark) → In n after.marks → is_on (map tet_of after.tets) n.cell ≡ true
    on-after n h =
        let k = found n h in
        on-more (own_of after k.0) (map tet_of after.tets) n.cell (λ t own. in-map tet_of after.tets (t, k.0) (from-own after k.0 t own)) (from-carried k.0 n k.2).1

    pub labelled_after : IsLabelled parts after
    labelled_after = record {
      tets = sorted-ascending_of ghost_cmp_total (filter (λ (entry : Tetrahedron × ℕ). not (is_taken ops entry.0)) mesh.tets ++ flat_map (labelled_filling mesh) ops);
      marks = sorted-ascending_of mark_cmp_total changed;
      labels = all-from_in {X = Tetrahedron × ℕ} (λ e. e.1 < parts) after.tets (λ e h. label-after e.0 e.1 h);
      cells = all-from_in (λ n. is_cell n.cell ≡ true) after.marks cell-after;
      on_cells = all-from_in (λ n. is_on (map tet_of after.tets) n.cell ≡ true) after.marks on-after;
    }

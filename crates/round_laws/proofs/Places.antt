-- All places in the letters of a pass are on the grid that its mesh is on.
use Rattle.std.proofs.Common.{◌≡◌, ℕ, inl, inr, true, false, cond, List, [], ◌∷◌, ◌++◌, filter, Some, None, sym, ap, subst, ◌∙◌, refl}
use Rattle.std.specs.Prelude.{map, not, ◌==◌}
use Rattle.std.specs.List.{list_all}
use Rattle.ma_geom.specs.Coordinates.{Coordinates, place_cmp}
use Rattle.ma_cells.specs.Ascending.{has}
use Rattle.ma_cells.specs.Cells.{CellMark, corners_of}
use Rattle.ma_cells.specs.Grid.{are_on_grid, is_on_grid, marks_are_on_grid}
use Rattle.ma_cells.specs.Incidence.{is_on}
use Rattle.ma_cells.specs.Tetrahedron.{Tetrahedron}
use Rattle.ma_cells.proofs.Passing.{all_pass}
use Rattle.size_marks.specs.Field.{Field}
use Rattle.cavity_rank.specs.Operations.{Operation}
use Rattle.cavity_rank.specs.declared.verdict.Kind.{Kind}
use Rattle.letters.specs.declared.letter.Body.TheVariants as bodies
use Rattle.part_rules.specs.Bodies.{first_off, mark_places, operation_places, places_of, tet_places}
use Rattle.part_store.specs.Labelled.{LabelledMesh, marks_on, own_of, tet_of}
use Rattle.part_store.proofs.Agreeing.{from-own}
use Rattle.part_store.proofs.Members.{In, all-in, from-filter, in-map, from-flat_map, from-append}
use Rattle.pass_rules.specs.Choosing.{is_taken, wins}
use Rattle.part_vote.specs.Leading.{leads, legal_in, reaches, without_labels}
use Rattle.part_vote.specs.OwedVotes.{chosen_in, owed_orders, owed_proposals, owed_votes}
use Rattle.part_gather.specs.OwedGathering.{led_by, owed_deliveries, owed_tets}
use Rattle.vote_laws.proofs.Legal.{from-legal, spot-held}
use Rattle.vote_laws.proofs.Seen.{from-all, held}

none-off : (k : ℕ) (places : List Coordinates) → ((x : Coordinates) → In x places → is_on_grid k x ≡ true) → first_off k places ≡ None
none-off k [] on = refl
none-off k (p ∷ places) on = ap (λ b. cond b (first_off k places) (Some p)) (on p (inl refl)) ∙ none-off k places (λ x h. on x (inr h))

module _ (k : ℕ) (mesh : LabelledMesh) (tets_on : are_on_grid k (map tet_of mesh.tets) ≡ true) (marks_on_it : marks_are_on_grid k mesh.marks ≡ true) where
  -- ---- of the mesh
  corner-on : (p : ℕ) (t : Tetrahedron) (x : Coordinates) → In (t, p) mesh.tets → In x t.corners → is_on_grid k x ≡ true
  corner-on p t x there corner =
      let tets = map tet_of mesh.tets in
      let listed : In t tets = in-map tet_of mesh.tets (t, p) there in
      let all : list_all (is_on_grid k) t.corners ≡ true = all-in (λ tet. list_all (is_on_grid k) tet.corners ≡ true) tets t (all_pass (λ tet. list_all (is_on_grid k) tet.corners) tets tets_on) listed in
      all-in (λ y. is_on_grid k y ≡ true) t.corners x (all_pass (is_on_grid k) t.corners all) corner

  mark-on : (m : CellMark) (x : Coordinates) → In m mesh.marks → In x (corners_of m.cell) → is_on_grid k x ≡ true
  mark-on m x listed corner =
      let all : list_all (is_on_grid k) (corners_of m.cell) ≡ true =
      all-in (λ m. list_all (is_on_grid k) (corners_of m.cell) ≡ true) mesh.marks m (all_pass (λ m. list_all (is_on_grid k) (corners_of m.cell)) mesh.marks marks_on_it) listed in
      all-in (λ y. is_on_grid k y ≡ true) (corners_of m.cell) x (all_pass (is_on_grid k) (corners_of m.cell) all) corner

  module _ (kind : Kind) (field : Field) where
    -- ---- of operations
    operation-on : (op : Operation) (x : Coordinates) → In op (legal_in kind field mesh) → In x (op.at ++ op.apex ∷ []) → is_on_grid k x ≡ true
    operation-on op x legal among =
        let f = from-legal kind field (without_labels mesh) op legal in
        let r = from-all mesh f.0 f.1 in
        let apex = (from-filter (λ p. not (has place_cmp p op.at)) f.0.corners op.apex f.3).0 in
        corner-on r.0 f.0 x r.1 (elim (from-append op.at (op.apex ∷ []) x among) [
          | inl a ↦ held f.0.corners op.at x (spot-held kind f.0.corners op.at f.2).0 a
          | inr b ↦ elim b [ inl e ↦ subst (λ z. In z f.0.corners) (sym e) apex | inr none ↦ absurd none ]
        ])

    operations-on : (ops : List Operation) → ((op : Operation) → In op ops → In op (legal_in kind field mesh)) → (x : Coordinates) → In x (operation_places ops) → is_on_grid k x ≡ true
    operations-on ops legal x h = let op = from-flat_map (λ op. op.at ++ op.apex ∷ []) ops x h in operation-on op.0 x (legal op.0 op.1) op.2

    proposed-legal : (p q : ℕ) (op : Operation) → In op (owed_proposals kind field mesh p q) → In op (legal_in kind field mesh)
    proposed-legal p q op h = (from-filter (leads mesh.tets p) (legal_in kind field mesh) op (from-filter (reaches mesh.tets q) (filter (leads mesh.tets p) (legal_in kind field mesh)) op h).0).0

    pub proposals_right : (p q : ℕ) → first_off k (places_of (bodies.Propose (owed_proposals kind field mesh p q))) ≡ None
    proposals_right p q = none-off k _ (operations-on (owed_proposals kind field mesh p q) (proposed-legal p q))

    pub votes_right : (p q : ℕ) → first_off k (places_of (bodies.Vote (owed_votes kind field mesh p q))) ≡ None
    votes_right p q =
        none-off k _ (operations-on (owed_votes kind field mesh p q) (λ op h. proposed-legal q p op (from-filter (wins (legal_in kind field mesh) (own_of mesh p)) (owed_proposals kind field mesh q p) op h).0))

    pub orders_right : (p q : ℕ) → first_off k (places_of (bodies.Order (owed_orders kind field mesh p q))) ≡ None
    orders_right p q = none-off k _ (operations-on (owed_orders kind field mesh p q) (λ op h.
        let led = (from-filter (reaches mesh.tets q) (filter (leads mesh.tets p) (chosen_in kind field mesh)) op h).0 in
        let chosen = (from-filter (leads mesh.tets p) (chosen_in kind field mesh) op led).0 in
        (from-filter (wins (legal_in kind field mesh) (without_labels mesh).tets) (legal_in kind field mesh) op chosen).0))

    -- ---- of deliveries
    delivered-on : (p q : ℕ) (x : Coordinates) → In x (tet_places (owed_tets kind field mesh p q) ++ mark_places (marks_on (owed_tets kind field mesh p q) mesh.marks)) → is_on_grid k x ≡ true
    delivered-on p q x h =
        let tets = owed_tets kind field mesh p q in
        elim (from-append (tet_places tets) (mark_places (marks_on tets mesh.marks)) x h) [
          | inl a ↦
              let t = from-flat_map (λ tet. tet.corners) tets x a in
              corner-on p t.0 x (from-own mesh p t.0 (from-filter (is_taken (led_by kind field mesh q)) (own_of mesh p) t.0 t.1).0) t.2
          | inr b ↦
              let m = from-flat_map (λ mark. corners_of mark.cell) (marks_on tets mesh.marks) x b in
              mark-on m.0 x (from-filter (λ m. is_on tets m.cell) mesh.marks m.0 m.1).0 m.2
        ]

    pub deliveries_right : (p q : ℕ) → first_off k (places_of (bodies.Deliver (owed_deliveries kind field mesh p q))) ≡ None
    deliveries_right p q =
        let tets = owed_tets kind field mesh p q in
        elim (q == p) as (λ b. first_off k (places_of (bodies.Deliver (cond b (record { tets = []; marks = [] }) (record { tets = tets; marks = marks_on tets mesh.marks })))) ≡ None) [
          | true ↦ refl
          | false ↦ none-off k _ (delivered-on p q)
        ]

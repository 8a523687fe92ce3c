-- All places in the letters of a round are on the grid that its mesh is on.
use Rattle.std.proofs.Common.{◌≡◌, ℕ, zero, suc, ◌<◌, inl, inr, true, false, cond, ◌&&◌, nat_le, List, [], ◌∷◌, filter, Some, None, length, sym, ap, subst, ◌∙◌, refl}
use Rattle.std.specs.Prelude.{map, ◌==◌}
use Rattle.std.specs.List.{list_all}
use Rattle.ma_geom.specs.Coordinates.{Coordinates, place_cmp}
use Rattle.ma_cells.specs.Ascending.{has}
use Rattle.ma_cells.specs.Cells.{CellMark, corners_of}
use Rattle.ma_cells.specs.Grid.{are_on_grid, is_on_grid, marks_are_on_grid}
use Rattle.ma_cells.specs.Incidence.{is_on}
use Rattle.ma_cells.specs.Tetrahedron.{Tetrahedron}
use Rattle.ma_cells.proofs.Passing.{all_pass}
use Rattle.letters.specs.Sharing.{SharedPlace}
use Rattle.letters.specs.declared.letter.Body.TheVariants as bodies
use Rattle.directory.specs.Posting.{least_corner}
use Rattle.ghost_layer.specs.GhostRule.{batch_of}
use Rattle.part_rules.specs.Bodies.{first_off, mark_places, places_of, tet_places}
use Rattle.part_rules.specs.Owed.{AreCarried, corners_at, labels_at, owed, owed_ghosts, owed_post, owed_reply}
use Rattle.part_store.specs.Labelled.{LabelledMesh, marks_on, own_of, tet_of, touches}
use Rattle.part_store.proofs.Agreeing.{from-own}
use Rattle.part_store.proofs.Members.{In, all-in, from-filter, in-map, from-map, from-flat_map, from-append}
use Rattle.view_laws.proofs.MeshItems.{carried-right, from-corners}

none-off : (k : ℕ) (places : List Coordinates) → ((x : Coordinates) → In x places → is_on_grid k x ≡ true) → first_off k places ≡ None
none-off k [] on = refl
none-off k (p ∷ places) on = ap (λ b. cond b (first_off k places) (Some p)) (on p (inl refl)) ∙ none-off k places (λ x h. on x (inr h))

module _ (parts : ℕ) (home : Coordinates → ℕ) (mesh : LabelledMesh) (carried : ℕ → List CellMark) (known : AreCarried parts mesh carried)
    (k : ℕ) (tets_on : are_on_grid k (map tet_of mesh.tets) ≡ true) (marks_on_it : marks_are_on_grid k mesh.marks ≡ true) where
  -- ---- of the mesh
  corner-on : (p : ℕ) (t : Tetrahedron) (x : Coordinates) → In t (own_of mesh p) → In x t.corners → is_on_grid k x ≡ true
  corner-on p t x own corner =
      let tets = map tet_of mesh.tets in
      let listed : In t tets = in-map tet_of mesh.tets (t, p) (from-own mesh p t own) in
      let all : list_all (is_on_grid k) t.corners ≡ true = all-in (λ tet. list_all (is_on_grid k) tet.corners ≡ true) tets t (all_pass (λ tet. list_all (is_on_grid k) tet.corners) tets tets_on) listed in
      all-in (λ y. is_on_grid k y ≡ true) t.corners x (all_pass (is_on_grid k) t.corners all) corner

  mark-on : (m : CellMark) (x : Coordinates) → In m mesh.marks → In x (corners_of m.cell) → is_on_grid k x ≡ true
  mark-on m x listed corner =
      let all : list_all (is_on_grid k) (corners_of m.cell) ≡ true =
      all-in (λ m. list_all (is_on_grid k) (corners_of m.cell) ≡ true) mesh.marks m (all_pass (λ m. list_all (is_on_grid k) (corners_of m.cell)) mesh.marks marks_on_it) listed in
      all-in (λ y. is_on_grid k y ≡ true) (corners_of m.cell) x (all_pass (is_on_grid k) (corners_of m.cell) all) corner

  -- ---- of what a part has
  corners-on : (p : ℕ) (x : Coordinates) → In x (corners_at mesh p) → is_on_grid k x ≡ true
  corners-on p x h = let t = from-corners (own_of mesh p) x h in corner-on p t.0 x t.1 t.2

  tets-on : (p : ℕ) (tets : List Tetrahedron) → ((t : Tetrahedron) → In t tets → In t (own_of mesh p)) → (x : Coordinates) → In x (tet_places tets) → is_on_grid k x ≡ true
  tets-on p tets own x h = let t = from-flat_map (λ tet. tet.corners) tets x h in corner-on p t.0 x (own t.0 t.1) t.2

  marks-on : (marks : List CellMark) → ((m : CellMark) → In m marks → In m mesh.marks) → (x : Coordinates) → In x (mark_places marks) → is_on_grid k x ≡ true
  marks-on marks listed x h = let m = from-flat_map (λ mark. corners_of mark.cell) marks x h in mark-on m.0 x (listed m.0 m.1) m.2

  -- ---- of letters
  post-on : (p q : ℕ) → p < parts → (x : Coordinates) → In x (places_of (bodies.Post (owed_post parts home mesh carried p q))) → is_on_grid k x ≡ true
  post-on p q within x h =
      let post = owed_post parts home mesh carried p q in
      elim (from-append post.places (mark_places post.marks) x h) [
        | inl a ↦ corners-on p x (from-filter (λ y. home y == q) (corners_at mesh p) x a).0
        | inr b ↦ marks-on post.marks (λ m there. (carried-right parts mesh carried known p m within (from-filter (λ m. home (least_corner m.cell) == q) (carried p) m there).0).0) x b
      ]

  reply-on : (p q : ℕ) (x : Coordinates) → In x (places_of (bodies.Reply (owed_reply parts home mesh carried p q))) → is_on_grid k x ≡ true
  reply-on p q x h =
      let reply = owed_reply parts home mesh carried p q in
      elim (from-append (map (λ s. s.place) reply.shared) (mark_places reply.marks) x h) [
        | inl a ↦
            let who = labels_at parts mesh in
            let places = filter (λ y. home y == p) (corners_at mesh q) in
            let many = λ (y : Coordinates). nat_le 2 (length (who y)) in
            let s = from-map (λ (s : SharedPlace). s.place) reply.shared x a in
            let y = from-map (λ y. let s : SharedPlace = record { place = y; parts = who y } in s) (filter many places) s.0 s.1 in
            let there = from-filter (λ y. home y == p) (corners_at mesh q) y.0 (from-filter many places y.0 y.1).0 in
            subst (λ z. is_on_grid k z ≡ true) (sym (s.2 ∙ ap (λ z. z.place) y.2)) (corners-on q y.0 there.0)
        | inr b ↦ marks-on reply.marks (λ m there. (from-filter (λ m. (home (least_corner m.cell) == p) && has place_cmp (least_corner m.cell) (corners_at mesh q)) mesh.marks m there).0) x b
      ]

  batch-on : (p : ℕ) (tets : List Tetrahedron) → ((t : Tetrahedron) → In t tets → In t (own_of mesh p)) → (x : Coordinates) → In x (places_of (bodies.Ghosts (batch_of tets mesh.marks))) → is_on_grid k x ≡ true
  batch-on p tets own x h = elim (from-append (tet_places tets) (mark_places (marks_on tets mesh.marks)) x h) [
    | inl a ↦ tets-on p tets own x a
    | inr b ↦ marks-on (marks_on tets mesh.marks) (λ m there. (from-filter (λ m. is_on tets m.cell) mesh.marks m there).0) x b
  ]

  ghosts-on : (p q : ℕ) (x : Coordinates) → In x (places_of (bodies.Ghosts (owed_ghosts parts home mesh carried p q))) → is_on_grid k x ≡ true
  ghosts-on p q x =
      let shown = filter (touches (corners_at mesh q)) (own_of mesh p) in
      elim (q == p) as (λ b. In x (places_of (bodies.Ghosts (cond b (batch_of [] []) (batch_of shown mesh.marks)))) → is_on_grid k x ≡ true) [
        | true ↦ λ h. absurd h
        | false ↦ λ h. batch-on p shown (λ t there. (from-filter (touches (corners_at mesh q)) (own_of mesh p) t there).0) x h
      ]

  pub none_wrong : (n p q : ℕ) → p < parts → first_off k (places_of (owed parts home mesh carried n p q)) ≡ None
  none_wrong zero p q within = none-off k _ (post-on p q within)
  none_wrong (suc zero) p q within = none-off k _ (reply-on p q)
  none_wrong (suc (suc n)) p q within = none-off k _ (ghosts-on p q)

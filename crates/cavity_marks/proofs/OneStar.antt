-- The star of a vertex as a mesh of its own, with a further mark on each face without the vertex. So each face that one of its tetrahedra alone has is marked, and it is sound.
-- The tests of a collapse look at the star and at the marks with the vertex, and find there what they find in the mesh.
use Rattle.std.proofs.Common.{◌≡◌, ◌≤◌, ℕ, Bool, true, false, not, ◌&&◌, ◌||◌, List, [], ◌∷◌, ◌++◌, filter, refl, sym, ap, ap₂, subst, ◌∙◌, arith}
use Rattle.std.specs.Prelude.{ℤ, pos, map}
use Rattle.std.specs.List.{AllByRecursion, count_by, flat_map, list_any}
use Rattle.std.proofs.lemmas.Bool.{and_parts, not-true, or_right}
use Rattle.std.proofs.lemmas.List.{append-nil}
use Rattle.std.proofs.lemmas.List.Elements.{filter-append}
use Rattle.std.proofs.lemmas.List.Folds.{list_any-append}
use Rattle.std.proofs.lemmas.Map.Views.{any-filter_same}
use Rattle.ma_geom.specs.Coordinates.{Coordinates, place_cmp}
use Rattle.ma_geom.specs.Rational.{Rational}
use Rattle.ma_geom.proofs.PlaceOrder.{place_cmp-IsAntisymmetric}
use Rattle.ma_cells.specs.Ascending.{has}
use Rattle.ma_cells.specs.Cells.{CellMark, corners_of, is_cell}
use Rattle.ma_cells.specs.Faces.{faces_of, holds_all}
use Rattle.ma_cells.specs.Incidence.{is_marked, is_on}
use Rattle.ma_cells.specs.Stars.{marks_at, star_of}
use Rattle.ma_cells.specs.Tetrahedron.{Tetrahedron, are_corners, is_flat}
use Rattle.ma_cells.specs.declared.batch.Batch.{Batch}
use Rattle.ma_cells.specs.declared.cell.Cell.TheVariants.{Tri}
use Rattle.ma_cells.proofs.Choices.{all-append}
use Rattle.ma_cells.proofs.Members.{all-at, any-at, at_member, has-filter}
use Rattle.ma_cells.proofs.Passing.{all-filter, all-flat_map, all-map, all_pass, all_weaker, any-map, test_all}
use Rattle.ma_cover.specs.Cover.{whole_cover}
use Rattle.ma_cover.specs.Inside.{is_inside}
use Rattle.ma_cover.specs.Sound.{holders}
use Rattle.mesh_laws.specs.Adapted.{IsSoundMesh}
use Rattle.mesh_laws.specs.Parity.{is_odd}
use Rattle.mesh_laws.specs.Points.{NoneIsFlat}
use Rattle.mesh_laws.specs.Sounds.{OddAreMarked}
use Rattle.mesh_laws.proofs.Listings.{exact, same, same_is, same_itself}
use Rattle.mesh_laws.proofs.Lists.{all_items, all_two, count-alike, count-more}
use Rattle.mesh_laws.proofs.Oddly.{odd_is, odd_some}
use Rattle.mesh_laws.proofs.Sounds.{conforming_odd_are_marked, odd_marked_is_sound, sound_covers_once, tetrahedra_not_flat}
use Rattle.collapse_laws.proofs.Cover.{has_face}
use Rattle.collapse_laws.proofs.Filling.{and_true, count-filter, face_corner, filter_passes, is_of}
use Rattle.collapse_passes.proofs.Each.{any-flat_map, filter_none}
use Rattle.cavity_marks.proofs.Found.{IsFace, each_is_found, faces_are, filter_after, filter_all}

module _ (a : Coordinates) (mesh : Batch) (sound : IsSoundMesh mesh) where
  -- ---- the mesh
  abbrev at : Tetrahedron → Bool
  at tet = holds_all tet.corners (a ∷ [])

  abbrev pub star : List Tetrahedron
  star = star_of (a ∷ []) mesh.tets

  -- the marks on its cells
  abbrev pub around : List CellMark
  around = filter (λ mark. is_on star mark.cell) mesh.marks

  abbrev across : Tetrahedron → List (List Coordinates)
  across tet = filter (λ face. not (has place_cmp a face)) (faces_of tet.corners)

  abbrev further : List Coordinates → CellMark
  further face = record { cell = Tri face; phys = pos 0; elem = pos 0 }

  -- the marks on faces without the vertex
  abbrev pub rim : List CellMark
  rim = flat_map (λ tet. map further (across tet)) star

  abbrev pub alone : Batch
  alone = record { tets = star; marks = around ++ rim }

  -- ---- its tetrahedra
  -- what is so of each
  record IsOne (tet : Tetrahedron) : Type 0 where
    proper : are_corners tet.corners ≡ true
    vertex : at tet ≡ true
    found : (test : Tetrahedron → Bool) → test tet ≡ true → list_any test star ≡ true

  each : AllByRecursion IsOne star
  each =
      all_two (λ tet. are_corners tet.corners ≡ true) (λ tet. (at tet ≡ true) × ((test : Tetrahedron → Bool) → test tet ≡ true → list_any test star ≡ true)) IsOne
      (λ tet s t. record { proper = s; vertex = t.0; found = t.1 }) star
      (all-filter (λ tet. are_corners tet.corners ≡ true) at mesh.tets (all_pass (λ tet. are_corners tet.corners) mesh.tets sound.tetrahedra))
      (all_two (λ tet. at tet ≡ true) (λ tet. (test : Tetrahedron → Bool) → test tet ≡ true → list_any test star ≡ true)
      (λ tet. (at tet ≡ true) × ((test : Tetrahedron → Bool) → test tet ≡ true → list_any test star ≡ true)) (λ tet s t. (s, t)) star (filter_passes at mesh.tets) (each_is_found star))

  pub star_again : star_of (a ∷ []) star ≡ star
  star_again = filter_all at star (filter_passes at mesh.tets)

  pub none_else : filter (λ tet. not (at tet)) star ≡ []
  none_else = filter_none (λ tet. not (at tet)) star (all_weaker (λ tet. at tet ≡ true) (λ tet. not (at tet) ≡ false) (λ tet e. ap not e) star (filter_passes at mesh.tets))

  solid : NoneIsFlat star
  solid = all-filter (λ tet. is_flat tet.corners ≡ false) at mesh.tets (tetrahedra_not_flat mesh.tets sound.tetrahedra)

  -- no point is within two
  once : (p : Rational) → whole_cover p star ≤ 1
  once p =
      let inside : Tetrahedron → Bool = λ tet. true && is_inside p tet.corners in
      fewer (whole_cover p star) (count_by (λ tet. at tet && inside tet) mesh.tets) (whole_cover p mesh.tets) (count-filter at inside mesh.tets)
      (count-more (λ tet. at tet && inside tet) inside mesh.tets (all_items (λ tet. (at tet && inside tet) ≡ true → inside tet ≡ true) (λ tet h. (and_parts (at tet) (inside tet) h).1) mesh.tets))
      (sound_covers_once mesh.tets mesh.marks sound.sound (tetrahedra_not_flat mesh.tets sound.tetrahedra) p)
    where
      fewer : (l m n : ℕ) → l ≡ m → m ≤ n → n ≤ 1 → l ≤ 1
      fewer l m n e f g = omega arith

  -- ---- the further marks
  record IsFurther (mark : CellMark) : Type 0 where
    cell : is_cell mark.cell ≡ true
    off : holds_all (corners_of mark.cell) (a ∷ []) ≡ false
    on : is_on star mark.cell ≡ true

  each_further : AllByRecursion IsFurther rim
  each_further =
      all-flat_map IsOne IsFurther (λ tet. map further (across tet))
      (λ tet is. all-map (λ face. IsFace tet.corners face × (not (has place_cmp a face) ≡ true)) IsFurther further
      (λ face h. record { cell = h.0.cell; off = and_true (has place_cmp a face) ∙ not-true (has place_cmp a face) h.1; on = is.found (λ t. holds_all t.corners face) h.0.within }) (across tet)
      (all_two (IsFace tet.corners) (λ face. not (has place_cmp a face) ≡ true) (λ face. IsFace tet.corners face × (not (has place_cmp a face) ≡ true)) (λ face s t. (s, t)) (across tet)
      (all-filter (IsFace tet.corners) (λ face. not (has place_cmp a face)) (faces_of tet.corners) (faces_are tet.corners is.proper)) (filter_passes (λ face. not (has place_cmp a face)) (faces_of tet.corners))))
      star each

  -- ---- odd faces are marked
  module _ (phys elem : ℤ) (face : List Coordinates) where
    abbrev has_it : Tetrahedron → Bool
    has_it tet = is_of phys elem tet && has_face face tet

    abbrev is_it : CellMark → Bool
    is_it mark = same (corners_of mark.cell) face

    -- a face with the vertex is as odd in the whole mesh
    as_many : has place_cmp a face ≡ true → holders phys elem face star ≡ holders phys elem face mesh.tets
    as_many held =
        count-filter at has_it mesh.tets
        ∙ count-alike (λ tet. at tet && has_it tet) has_it mesh.tets
        (all_weaker (λ tet. is_flat tet.corners ≡ false) (λ tet. (at tet && has_it tet) ≡ has_it tet)
        (λ tet s. by (at tet) (has_it tet) (λ e. and_true (has place_cmp a tet.corners) ∙ face_corner a tet.corners face s (and_parts (is_of phys elem tet) (has_face face tet) e).1 held))
        mesh.tets (tetrahedra_not_flat mesh.tets sound.tetrahedra))
      where
        by : (s t : Bool) → (t ≡ true → s ≡ true) → (s && t) ≡ t
        by true t h = refl
        by false true h = h refl
        by false false h = refl

    marked : (tet : Tetrahedron) → IsOne tet → has_face face tet ≡ true → is_odd (holders phys elem face star) ≡ true → (b : Bool) → has place_cmp a face ≡ b → is_marked (around ++ rim) face ≡ true
    marked tet is there odd true held =
        let on : list_any (λ t. holds_all t.corners face) star ≡ true = is.found (λ t. holds_all t.corners face) (all-at exact (IsFace tet.corners) face (faces_of tet.corners) (faces_are tet.corners is.proper) there).within in
        list_any-append is_it around rim
        ∙ ap (λ b. b || list_any is_it rim)
        (any-filter_same is_it (λ mark. is_on star mark.cell) true (λ mark e. subst (λ l. list_any (λ (t : Tetrahedron). holds_all t.corners l) star ≡ true) (sym (same_is (corners_of mark.cell) face e)) on) mesh.marks
        ∙ conforming_odd_are_marked mesh.tets mesh.marks sound.sound.conforming phys elem face (sym (ap is_odd (as_many held)) ∙ odd))
    marked tet is there odd false off =
        list_any-append is_it around rim
        ∙ or_right (list_any is_it around) (list_any is_it rim)
        (any-flat_map is_it (λ t. map further (across t)) star
        ∙ is.found (λ t. list_any is_it (map further (across t)))
        (any-map is_it further (across tet)
        ∙ any-at exact (λ f. same f face) face (across tet)
        (has-filter exact (λ f. not (has place_cmp a f)) face (faces_of tet.corners) ∙ ap₂ (λ s t. s && not t) there off) (same_itself face)))

  odd_marked : OddAreMarked star (around ++ rim)
  odd_marked phys elem face odd =
      let one = odd_some (has_it phys elem face) IsOne star each (sym (odd_is (has_it phys elem face) star) ∙ odd) in
      marked phys elem face one.0 one.2 (and_parts (is_of phys elem one.0) (has_face face one.0) one.1).1 odd (has place_cmp a face) refl

  -- ---- it is sound
  pub alone_is_sound : IsSoundMesh alone
  alone_is_sound = record {
    tetrahedra = test_all (λ tet. are_corners tet.corners) star (all_weaker IsOne (λ tet. are_corners tet.corners ≡ true) (λ tet is. is.proper) star each);
    cells = test_all (λ mark. is_cell mark.cell) (around ++ rim)
        (all-append (λ mark. is_cell mark.cell ≡ true) around rim (all-filter (λ mark. is_cell mark.cell ≡ true) (λ mark. is_on star mark.cell) mesh.marks (all_pass (λ mark. is_cell mark.cell) mesh.marks sound.cells))
        (all_weaker IsFurther (λ mark. is_cell mark.cell ≡ true) (λ mark is. is.cell) rim each_further));
    sound = odd_marked_is_sound star (around ++ rim) solid (λ p _. once p) odd_marked (test_all (λ mark. is_on star mark.cell) (around ++ rim)
        (all-append (λ mark. is_on star mark.cell ≡ true) around rim (filter_passes (λ mark. is_on star mark.cell) mesh.marks)
        (all_weaker IsFurther (λ mark. is_on star mark.cell ≡ true) (λ mark is. is.on) rim each_further)));
  }

  -- ---- and has the marks at the vertex
  -- those are on its cells
  at_is_around : (mark : CellMark) → is_on mesh.tets mark.cell ≡ true → holds_all (corners_of mark.cell) (a ∷ []) ≡ true → is_on star mark.cell ≡ true
  at_is_around mark on held =
      let l = corners_of mark.cell in
      any-filter_same (λ (tet : Tetrahedron). holds_all tet.corners l) at true
      (λ tet within. and_true (has place_cmp a tet.corners) ∙ at_member place_cmp-IsAntisymmetric (λ p. has place_cmp p tet.corners) a l within (sym (and_true (has place_cmp a l)) ∙ held)) mesh.tets
      ∙ on

  pub same_marks : marks_at (a ∷ []) (around ++ rim) ≡ marks_at (a ∷ []) mesh.marks
  same_marks =
      let held = λ (mark : CellMark). holds_all (corners_of mark.cell) (a ∷ []) in
      filter-append held around rim
      ∙ ap₂ (λ k l. k ++ l)
      (filter_after held (λ mark. is_on star mark.cell) mesh.marks
      (all_weaker (λ mark. is_on mesh.tets mark.cell ≡ true) (λ mark. held mark ≡ true → is_on star mark.cell ≡ true) at_is_around mesh.marks (all_pass (λ mark. is_on mesh.tets mark.cell) mesh.marks sound.sound.conforming.on_cells)))
      (filter_none held rim (all_weaker IsFurther (λ mark. held mark ≡ false) (λ mark is. is.off) rim each_further))
      ∙ append-nil (marks_at (a ∷ []) mesh.marks)

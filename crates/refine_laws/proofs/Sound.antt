-- Refinement keeps a mesh sound.
use Rattle.std.proofs.Common.{◌≡◌, inl, inr, Bool, true, false, cond, ◌&&◌, List, [], ◌∷◌, length, refl, sym, ap, subst, ◌∙◌, arith}
use Rattle.std.specs.Prelude.{ℤ, map}
use Rattle.std.specs.FinMap.{slice_cmp-IsAntisymmetric}
use Rattle.std.specs.List.{AllByRecursion, flat_map}
use Rattle.std.specs.Ordering.{int_eq}
use Rattle.std.proofs.lemmas.Bool.{false≢true}
use Rattle.ma_geom.specs.Coordinates.{Coordinates}
use Rattle.ma_geom.proofs.PlaceOrder.{place_cmp-IsAntisymmetric}
use Rattle.ma_cells.specs.Ascending.{ascending_of}
use Rattle.ma_cells.specs.Cells.{CellMark, corners_of, is_cell, mark_cmp}
use Rattle.ma_cells.specs.Faces.{faces_of}
use Rattle.ma_cells.specs.Incidence.{is_marked, is_on}
use Rattle.ma_cells.specs.declared.batch.Batch.{Batch}
use Rattle.ma_cells.specs.declared.cell.Cell.{Cell}
use Rattle.ma_cells.specs.declared.cell.Cell.TheVariants.{Point, Seg, Tri}
use Rattle.ma_cells.proofs.CellOrders.{mark_cmp-IsAntisymmetric}
use Rattle.ma_cells.proofs.Corners.{corners_span}
use Rattle.ma_cells.proofs.Passing.{all-flat_map, all-map, all_pass, test_all}
use Rattle.ma_cells.proofs.SetItems.{all-ascending_of}
use Rattle.ma_cover.specs.Classification.{AnyByRecursion}
use Rattle.ma_cover.proofs.Anys.{any-ascending_of, any-flat_map, any-map, any_and_all, any_pass, any_weaker, test_any}
use Rattle.mesh_laws.specs.Adapted.{IsSoundMesh}
use Rattle.mesh_laws.specs.Covers.{CoverTheSame}
use Rattle.mesh_laws.specs.Parity.{region_faces}
use Rattle.mesh_laws.specs.Sounds.{AreOnCells, OddAreMarked}
use Rattle.mesh_laws.proofs.Adapted.{sound_not_flat}
use Rattle.mesh_laws.proofs.Listings.{same, same_is, same_itself}
use Rattle.mesh_laws.proofs.Oddly.{odd_of, odd_one, xor}
use Rattle.mesh_laws.proofs.Sounds.{conforming_odd_are_marked, same_cover_stays_sound, sound_covers_once, tetrahedra_not_flat}
use Rattle.size_marks.specs.Field.{Field}
use Rattle.split_templates.specs.Pieces.{is_straight, pieces_of}
use Rattle.refinement.specs.Refinement.{long_edges, refine, refined_cell, refined_mark}
use Rattle.refinement.proofs.Bisecting.{bisected}
use Rattle.refinement.proofs.Covered.{IsNotFlat, refinement_keeps_cover}
use Rattle.refinement.proofs.NotFlat.{refinement_is_not_flat}
use Rattle.refine_marks.proofs.CellsKept.{all_both, its_count, refinement_keeps_cells}
use Rattle.refine_marks.proofs.Classified.{refinement_keeps_classification}
use Rattle.refine_laws.specs.Sound.{RefinementAdapts, RefinementKeepsSound}
use Rattle.refine_laws.proofs.OnPieces.{cell_pieces_on, faces_bent}
use Rattle.refine_laws.proofs.Parity.{are_not_flat, gives_it, holders_are_odd, refined_oddly}

-- what is listed an odd number of times is listed
odd_any : (g : List Coordinates) (xs : List (List Coordinates)) → odd_of (same g) xs ≡ true → AnyByRecursion (λ x. same x g ≡ true) xs
odd_any g [] h = false≢true h
odd_any g (x ∷ xs) h =
    elim (same g x) as (λ b. same g x ≡ b → xor b (odd_of (same g) xs) ≡ true → AnyByRecursion (λ y. same y g ≡ true) (x ∷ xs)) [
      | true ↦ λ e _. inl (subst (λ y. same y g ≡ true) (same_is g x e) (same_itself g))
      | false ↦ λ _ k. inr (odd_any g xs k)
    ] refl h

three_bent : (f : List Coordinates) → is_straight f ≡ false → length f ≡ 3
three_bent [] h = absurd (false≢true (sym h))
three_bent (a ∷ []) h = absurd (false≢true (sym h))
three_bent (a ∷ b ∷ []) h = absurd (false≢true (sym h))
three_bent (a ∷ b ∷ c ∷ []) h = refl
three_bent (a ∷ b ∷ c ∷ d ∷ f) h = absurd (false≢true (sym h))

module _ (field : Field) where
  -- ---- marks
  -- the pieces of a triangle are marked where it is
  module _ (g : List Coordinates) where
    abbrev IsIt : Cell → Type 0
    IsIt cell = same (corners_of cell) g ≡ true

    piece_marked : (cell : Cell) → is_cell cell ≡ true → is_straight (corners_of cell) ≡ false → odd_of (same g) (bisected field (corners_of cell)) ≡ true → AnyByRecursion IsIt (refined_cell field cell)
    piece_marked (Point p) is bent odd = absurd (false≢true (sym bent))
    piece_marked (Seg s) is bent odd = absurd (omega (arith, its_count 2 s is, three_bent s bent))
    piece_marked (Tri t) is bent odd =
        subst (λ b. AnyByRecursion IsIt (cond b (Tri t ∷ []) (map Tri (pieces_of (long_edges field t) t)))) (sym bent)
        ((any-map IsIt Tri (pieces_of (long_edges field t) t)).1 ((any-ascending_of (slice_cmp-IsAntisymmetric place_cmp-IsAntisymmetric) (λ r. same r g ≡ true) (bisected field t)).1 (odd_any g (bisected field t) odd)))

    mark_follows : (marks : List CellMark) → AllByRecursion (λ mark. is_cell mark.cell ≡ true) marks → (f : List Coordinates) → is_straight f ≡ false → is_marked marks f ≡ true → odd_of (same g) (bisected field f) ≡ true
        → is_marked (ascending_of mark_cmp (flat_map (refined_mark field) marks)) g ≡ true
    mark_follows marks are f bent marked odd =
        let Has : CellMark → Type 0 = λ mark. same (corners_of mark.cell) g ≡ true in
        let pieces = flat_map (refined_mark field) marks in
        test_any (λ mark. same (corners_of mark.cell) g) (ascending_of mark_cmp pieces) ((any-ascending_of mark_cmp-IsAntisymmetric Has pieces).1 ((any-flat_map Has (refined_mark field) marks).1
        (any_weaker (λ mark. (is_cell mark.cell ≡ true) × (same (corners_of mark.cell) f ≡ true)) (λ mark. AnyByRecursion Has (refined_mark field mark))
        (λ mark h.
        let e = same_is (corners_of mark.cell) f h.1 in
        (any-map Has (λ cell. record mark { cell = cell }) (refined_cell field mark.cell)).1
        (piece_marked mark.cell h.0 (ap is_straight e ∙ bent) (ap (λ c. odd_of (same g) (bisected field c)) e ∙ odd))) marks
        (any_and_all (λ mark. is_cell mark.cell ≡ true) (λ mark. same (corners_of mark.cell) f ≡ true) marks are (any_pass (λ mark. same (corners_of mark.cell) f) marks marked)))))

  -- ---- a mesh
  module _ (mesh : Batch) (is : IsSoundMesh mesh) where
    abbrev new : Batch
    new = refine field mesh

    are_marks : AllByRecursion (λ mark. is_cell mark.cell ≡ true) mesh.marks
    are_marks = all_pass (λ mark. is_cell mark.cell) mesh.marks is.cells

    pub covers_the_same : CoverTheSame mesh.tets new.tets
    covers_the_same phys elem p off off_new =
        (refinement_keeps_cover field mesh is.tetrahedra p off off_new (sound_covers_once mesh.tets mesh.marks is.sound (sound_not_flat mesh is) p)).each phys elem

    region_bent : (phys elem : ℤ) → AllByRecursion (λ f. is_straight f ≡ false) (region_faces phys elem mesh.tets)
    region_bent phys elem =
        all-flat_map IsNotFlat (λ f. is_straight f ≡ false) (λ tet. cond (int_eq tet.phys phys && int_eq tet.elem elem) (faces_of tet.corners) [])
        (λ tet are. either (int_eq tet.phys phys && int_eq tet.elem elem) (faces_of tet.corners) (faces_bent tet.corners (corners_span tet.corners are))) mesh.tets (are_not_flat field mesh is)
      where
        either : (b : Bool) (fs : List (List Coordinates)) → AllByRecursion (λ f. is_straight f ≡ false) fs → AllByRecursion (λ f. is_straight f ≡ false) (cond b fs [])
        either true fs h = h
        either false fs h = tt

    odd_are_marked : OddAreMarked new.tets new.marks
    odd_are_marked phys elem g odd =
        let f = odd_one (λ (f : List Coordinates). f) same same_is same_itself (gives_it field phys elem g) (λ f. is_straight f ≡ false) (region_faces phys elem mesh.tets) (region_bent phys elem)
        (sym (refined_oddly field phys elem g mesh is) ∙ odd) in
        mark_follows g mesh.marks are_marks f.one f.also
        (conforming_odd_are_marked mesh.tets mesh.marks is.sound.conforming phys elem f.one (holders_are_odd field phys elem f.one mesh.tets (are_not_flat field mesh is) ∙ f.oddly)) f.passes

    marks_on_cells : AreOnCells new.tets new.marks
    marks_on_cells =
        let IsOnNew : CellMark → Type 0 = λ mark. is_on new.tets mark.cell ≡ true in
        test_all (λ mark. is_on new.tets mark.cell) new.marks
        (all-ascending_of mark_cmp IsOnNew (flat_map (refined_mark field) mesh.marks)
        (all-flat_map (λ mark. (is_cell mark.cell ≡ true) × (is_on mesh.tets mark.cell ≡ true)) IsOnNew (refined_mark field)
        (λ mark h. all-map (λ piece. is_on new.tets piece ≡ true) IsOnNew (λ cell. record mark { cell = cell }) (λ cell k. k) (refined_cell field mark.cell)
        (cell_pieces_on field mesh.tets (are_not_flat field mesh is) mark.cell h.0 h.1))
        mesh.marks (all_both (λ mark. is_cell mark.cell ≡ true) (λ mark. is_on mesh.tets mark.cell ≡ true) mesh.marks are_marks (all_pass (λ mark. is_on mesh.tets mark.cell) mesh.marks is.sound.conforming.on_cells))))

pub refinement_keeps_sound : RefinementKeepsSound
refinement_keeps_sound field mesh is =
    let new = refine field mesh in
    let tetrahedra = refinement_is_not_flat field mesh is.tetrahedra in
    record {
      tetrahedra = tetrahedra;
      cells = refinement_keeps_cells field mesh is.cells;
      sound = same_cover_stays_sound mesh.tets new.tets mesh.marks new.marks is.sound (sound_not_flat mesh is) (tetrahedra_not_flat new.tets tetrahedra)
          (covers_the_same field mesh is) (odd_are_marked field mesh is) (marks_on_cells field mesh is);
    }

pub refinement_adapts : RefinementAdapts
refinement_adapts field mesh is = record {
  sound = refinement_keeps_sound field mesh is;
  cover = covers_the_same field mesh is;
  classification = refinement_keeps_classification field mesh is.cells;
}

-- A legal collapse keeps a mesh sound, and its cover.
use Rattle.std.proofs.Common.{◌≡◌, ℕ, zero, suc, Bool, true, false, cond, not, ◌||◌, List, [], ◌∷◌, ◌++◌, filter, length, ◌==◌, refl, sym, ap, subst, ◌∙◌, arith}
use Rattle.std.specs.Prelude.{ℤ, pos, negsuc, neg_ℤ}
use Rattle.std.specs.declared.cmp.Ordering.{Ordering}
use Rattle.std.specs.List.{AllByRecursion, flat_map}
use Rattle.std.specs.Ordering.{int_eq}
use Rattle.std.proofs.lemmas.Bool.{and_parts, eqb-true, false≢true, not-true}
use Rattle.std.proofs.lemmas.Int.{ints}
use Rattle.std.proofs.lemmas.List.Sorted.{IsPermutation-append_right, IsPermutation-sym, sum_by-IsPermutation}
use Rattle.ma_geom.specs.Coordinates.{Coordinates, place_cmp}
use Rattle.ma_geom.specs.Lines.{is_flat}
use Rattle.ma_geom.specs.Signs.{same_sign, side_of, sign_of}
use Rattle.ma_geom.specs.Volume.{vol6}
use Rattle.ma_cells.specs.Ascending.{are_distinct, ascending_of, has}
use Rattle.ma_cells.specs.Cells.{corners_of, is_cell}
use Rattle.ma_cells.specs.Faces.{holds_all}
use Rattle.ma_cells.specs.Incidence.{is_marked}
use Rattle.ma_cells.specs.Stars.{besides, marks_at, star_of}
use Rattle.ma_cells.specs.Tetrahedron.{are_corners, tet_cmp}
use Rattle.ma_cells.specs.declared.batch.Batch.{Batch}
use Rattle.ma_cells.specs.declared.cell.Cell.{Cell}
use Rattle.ma_cells.specs.declared.cell.Cell.TheVariants.{Point, Seg, Tri}
use Rattle.ma_cells.proofs.CellOrders.{tet_cmp_total}
use Rattle.ma_cells.proofs.Choices.{all-append}
use Rattle.ma_cells.proofs.Passing.{all-filter, all-permutation, all_pass, test_all}
use Rattle.ma_cells.proofs.Permutations.{alone, distinct-permutes, listed_once-distinct, tied}
use Rattle.ma_cells.proofs.SetItems.{all-ascending_of}
use Rattle.ma_cover.specs.Inside.{are_alike}
use Rattle.ma_cover.specs.OnFaces.{IsOffFacesOf}
use Rattle.ma_cover.proofs.SoundOrder.{sound_in_any_order}
use Rattle.mesh_laws.specs.Adapted.{IsSoundMesh}
use Rattle.mesh_laws.proofs.Listings.{same, same_is}
use Rattle.mesh_laws.proofs.Lists.{all_two}
use Rattle.mesh_laws.proofs.Sounds.{conforming_is_listed_once, same_cover_stays_sound, tetrahedra_not_flat}
use Rattle.mesh_laws.proofs.Weights.{turned_a}
use Rattle.cavity_laws.specs.Cavity.{AreOnOneSide}
use Rattle.size_marks.specs.Field.{Field}
use Rattle.cavity_rank.specs.Verdicts.{first_failing, verdict_of}
use Rattle.cavity_rank.specs.declared.verdict.Verdict.{Verdict}
use Rattle.cavity_rank.specs.declared.verdict.Verdict.TheVariants.{Illegal, Legal}
use Rattle.cavity_collapse.specs.Collapsing.{is_same, moved_marks}
use Rattle.cavity_collapse.specs.Judging.{collapse_tests, faces_are_seen, judged_collapse}
use Rattle.cavity_collapse.specs.Surfaces.{is_triangle_at, lies_in_plane, planes_are_kept}
use Rattle.collapse_laws.specs.Collapses.{LegalCollapseKeepsMesh}
use Rattle.collapse_laws.proofs.Cover.{after, after_covers_the_same, fills_are, rest_of}
use Rattle.collapse_laws.proofs.Filling.{CanCollapse, and_true, fill}
use Rattle.collapse_laws.proofs.Marks.{moved_cells}
use Rattle.collapse_laws.proofs.Odd.{after_solid, odd_are_marked}
use Rattle.collapse_laws.proofs.OnCells.{any_gives, moved_are_on, self_sided}

-- ---- what a verdict tells
all_true : (n worst w : ℕ) (tests : List Bool) → verdict_of worst (first_failing n tests) ≡ Legal w → AllByRecursion (λ t. t ≡ true) tests
all_true n worst w [] h = tt
all_true n worst w (true ∷ tests) h = (refl, all_true (suc n) worst w tests h)
all_true n worst w (false ∷ tests) h = absurd (false≢true (ap is_legal h))
  where
    is_legal : Verdict → Bool
    is_legal (Legal worst) = true
    is_legal (Illegal n) = false

-- what holds of those that pass a test
from_filter : {X : Type 0} (P : X → Type 0) (p : X → Bool) (xs : List X) → AllByRecursion P (filter p xs) → AllByRecursion (λ x. p x ≡ true → P x) xs
from_filter P p [] h = tt
from_filter P p (x ∷ xs) h =
    elim (p x) as (λ b. p x ≡ b → AllByRecursion P (cond b (x ∷ filter p xs) (filter p xs)) → AllByRecursion (λ y. p y ≡ true → P y) (x ∷ xs)) [
      | true ↦ λ e k. ((λ _. k.0), from_filter P p xs k.1)
      | false ↦ λ e k. ((λ f. absurd (false≢true (sym e ∙ f))), from_filter P p xs k)
    ] refl h

-- places with one sign, of which one isn't in the plane, are on one side
alike_signs : (x y : ℤ) → are_alike x x ≡ true → same_sign (sign_of y) (sign_of x) ≡ true → are_alike x y ≡ true
alike_signs (pos zero) y h k = absurd (false≢true h)
alike_signs (pos (suc n)) (pos zero) h k = absurd (false≢true k)
alike_signs (pos (suc n)) (pos (suc m)) h k = by n m
  where
    by : (n m : ℕ) → are_alike (pos (suc n)) (pos (suc m)) ≡ true
    by n m = grind (arith, ints)
alike_signs (pos (suc n)) (negsuc m) h k = absurd (false≢true k)
alike_signs (negsuc n) (pos zero) h k = absurd (false≢true k)
alike_signs (negsuc n) (pos (suc m)) h k = absurd (false≢true k)
alike_signs (negsuc n) (negsuc m) h k = refl

on_one_side : (a v : Coordinates) (face : List Coordinates) → AreOnOneSide face a a → same_sign (side_of face v) (side_of face a) ≡ true → AreOnOneSide face a v
on_one_side a v (p ∷ q ∷ r ∷ []) h k = alike_signs (vol6 p q r a) (vol6 p q r v) h k
on_one_side a v [] h k = absurd h
on_one_side a v (p ∷ []) h k = absurd h
on_one_side a v (p ∷ q ∷ []) h k = absurd h
on_one_side a v (p ∷ q ∷ r ∷ s ∷ l) h k = absurd h

-- a marked cell at a is flat with v
flat_with : (a v : Coordinates) (cell : Cell) → is_cell cell ≡ true → (not (is_triangle_at a cell) || lies_in_plane v (corners_of cell)) ≡ true → has place_cmp a (corners_of cell) ≡ true → is_flat (v ∷ corners_of cell) ≡ true
flat_with a v (Point p) is h at = refl
flat_with a v (Seg s) is h at = by s (eqb-true (length s) 2 (and_parts (length s == 2) _ is).0)
  where
    by : (s : List Coordinates) → length s ≡ 2 → is_flat (v ∷ s) ≡ true
    by (p ∷ q ∷ []) two = refl
    by [] two = absurd (omega (arith, two))
    by (p ∷ []) two = absurd (omega (arith, two))
    by (p ∷ q ∷ r ∷ l) two = absurd (omega (arith, two))
flat_with a v (Tri t) is h at = by t (eqb-true (length t) 3 (and_parts (length t == 3) _ is).0) (then (has place_cmp a t) at h)
  where
    then : (b : Bool) {c : Bool} → b ≡ true → (not b || c) ≡ true → c ≡ true
    then true e h = h
    then false e h = absurd (false≢true e)

    zero_too : (x y : ℤ) → x ≡ neg_ℤ y → int_eq x (pos 0) ≡ true → int_eq y (pos 0) ≡ true
    zero_too x y e h = grind (arith, ints)

    by : (t : List Coordinates) → length t ≡ 3 → lies_in_plane v t ≡ true → is_flat (v ∷ t) ≡ true
    by (p ∷ q ∷ r ∷ []) three h = zero_too (vol6 p q r v) (vol6 v p q r) (turned_a v p q r) h
    by [] three h = absurd (omega (arith, three))
    by (p ∷ []) three h = absurd (omega (arith, three))
    by (p ∷ q ∷ []) three h = absurd (omega (arith, three))
    by (p ∷ q ∷ r ∷ s ∷ l) three h = absurd (omega (arith, three))

-- a legal verdict
can_collapse : (field : Field) (mesh : Batch) (a v : Coordinates) (worst : ℕ) → IsSoundMesh mesh
    → judged_collapse field (star_of (a ∷ []) mesh.tets) (marks_at (a ∷ []) mesh.marks) a v ≡ Legal worst → CanCollapse a v mesh.tets mesh.marks
can_collapse field mesh a v worst sound legal = by (all_true 1 _ worst (collapse_tests field (star_of (a ∷ []) mesh.tets) (marks_at (a ∷ []) mesh.marks) a v) legal)
  where
    or_second : (b c : Bool) → b ≡ false → (b || c) ≡ true → c ≡ true
    or_second true c e h = absurd (false≢true (sym e))
    or_second false c e h = h

    in_planes : planes_are_kept (marks_at (a ∷ []) mesh.marks) a v ≡ true → (face : List Coordinates) → has place_cmp a face ≡ true → is_marked mesh.marks face ≡ true → is_flat (v ∷ face) ≡ true
    in_planes h face held marked =
        any_gives (λ m. same (corners_of m.cell) face) (is_flat (v ∷ face) ≡ true) mesh.marks
        (all_two (λ m. is_cell m.cell ≡ true) (λ m. holds_all (corners_of m.cell) (a ∷ []) ≡ true → (not (is_triangle_at a m.cell) || lies_in_plane v (corners_of m.cell)) ≡ true)
        (λ m. same (corners_of m.cell) face ≡ true → is_flat (v ∷ face) ≡ true)
        (λ m is k e.
        let face_is = same_is (corners_of m.cell) face e in
        let at = subst (λ f. has place_cmp a f ≡ true) (sym face_is) held in
        subst (λ f. is_flat (v ∷ f) ≡ true) face_is (flat_with a v m.cell is (k (and_true (has place_cmp a (corners_of m.cell)) ∙ at)) at))
        mesh.marks (all_pass (λ m. is_cell m.cell) mesh.marks sound.cells)
        (from_filter _ (λ m. holds_all (corners_of m.cell) (a ∷ [])) mesh.marks (all_pass (λ m. not (is_triangle_at a m.cell) || lies_in_plane v (corners_of m.cell)) (marks_at (a ∷ []) mesh.marks) h))) marked

    on_sides : faces_are_seen (star_of (a ∷ []) mesh.tets) a v ≡ true
        → AllByRecursion (λ tet. has place_cmp a tet.corners ≡ true → has place_cmp v tet.corners ≡ false → AreOnOneSide (besides (a ∷ []) tet.corners) a v) mesh.tets
    on_sides h =
        all_two (λ tet. is_flat tet.corners ≡ false)
        (λ tet. holds_all tet.corners (a ∷ []) ≡ true → (has place_cmp v tet.corners || same_sign (side_of (besides (a ∷ []) tet.corners) v) (side_of (besides (a ∷ []) tet.corners) a)) ≡ true)
        (λ tet. has place_cmp a tet.corners ≡ true → has place_cmp v tet.corners ≡ false → AreOnOneSide (besides (a ∷ []) tet.corners) a v)
        (λ tet solid k at away.
        on_one_side a v (besides (a ∷ []) tet.corners) (self_sided a tet.corners solid at)
        (or_second (has place_cmp v tet.corners) _ away (k (and_true (has place_cmp a tet.corners) ∙ at))))
        mesh.tets (tetrahedra_not_flat mesh.tets sound.tetrahedra)
        (from_filter _ (λ tet. holds_all tet.corners (a ∷ [])) mesh.tets
        (all_pass (λ tet. has place_cmp v tet.corners || same_sign (side_of (besides (a ∷ []) tet.corners) v) (side_of (besides (a ∷ []) tet.corners) a)) (star_of (a ∷ []) mesh.tets) h))

    by : AllByRecursion (λ t. t ≡ true) (collapse_tests field (star_of (a ∷ []) mesh.tets) (marks_at (a ∷ []) mesh.marks) a v) → CanCollapse a v mesh.tets mesh.marks
    by (short, (point, (curves, (planes, (surfaces, (turns, (seen, _))))))) = record {
      differ = λ e. false≢true (sym (not-true (is_same a v) (and_parts (not (is_same a v)) _ short).0) ∙ subst (λ p. is_same a p ≡ true) e (tied a));
      planes = in_planes planes;
      seen = on_sides seen;
    }

-- ---- the mesh, with what fills the star as a set
distinct_end : {K : Type 0} (R : K → K → Ordering) (xs ys : List K) → are_distinct R (xs ++ ys) ≡ true → are_distinct R ys ≡ true
distinct_end R [] ys h = h
distinct_end R (x ∷ xs) ys h = distinct_end R xs ys (alone (has R x (xs ++ ys)) (are_distinct R (xs ++ ys)) h).1

pub legal_collapse_keeps_mesh : LegalCollapseKeepsMesh
legal_collapse_keeps_mesh field mesh a v worst sound legal =
    let can = can_collapse field mesh a v worst sound legal in
    let solid = tetrahedra_not_flat mesh.tets sound.tetrahedra in
    let proper = all_pass (λ tet. are_corners tet.corners) mesh.tets sound.tetrahedra in
    let conforming = sound.sound.conforming in
    let cells = all_pass (λ m. is_cell m.cell) mesh.marks sound.cells in
    let new = moved_marks a v mesh.marks in
    let filling = flat_map (fill a v) (star_of (a ∷ []) mesh.tets) in
    let still = rest_of a mesh.tets in
    let after_is_solid = after_solid a v mesh.tets mesh.marks solid conforming can proper cells in
    let covers = after_covers_the_same a v mesh.tets mesh.marks solid conforming can in
    let is_sound = same_cover_stays_sound mesh.tets (after a v mesh.tets) mesh.marks new sound.sound solid after_is_solid covers
    (odd_are_marked a v mesh.tets mesh.marks solid conforming can proper cells) (moved_are_on a v mesh.tets mesh.marks solid conforming can conforming.on_cells) in
    let distinct = listed_once-distinct (after a v mesh.tets) (conforming_is_listed_once (after a v mesh.tets) new is_sound.conforming after_is_solid) in
    let order = IsPermutation-append_right still filling (ascending_of tet_cmp filling) (distinct-permutes tet_cmp_total filling (distinct_end tet_cmp still filling distinct)) in
    let now = still ++ ascending_of tet_cmp filling in (
      record {
        tetrahedra = test_all (λ tet. are_corners tet.corners) now (all-append (λ tet. are_corners tet.corners ≡ true) still (ascending_of tet_cmp filling)
            (all-filter (λ tet. are_corners tet.corners ≡ true) (λ tet. not (holds_all tet.corners (a ∷ []))) mesh.tets proper)
            (all-ascending_of tet_cmp (λ tet. are_corners tet.corners ≡ true) filling (fills_are a v (star_of (a ∷ []) mesh.tets))));
        cells = moved_cells a v mesh.marks;
        sound = sound_in_any_order (after a v mesh.tets) now new order is_sound;
      },
      λ phys elem p off off_now.
          sum_by-IsPermutation _ (after a v mesh.tets) now order
          ∙ covers phys elem p off (all-permutation (λ tet. IsOffFacesOf p tet.corners) now (after a v mesh.tets) (IsPermutation-sym (after a v mesh.tets) now order) off_now),
    )

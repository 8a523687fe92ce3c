-- The legal swaps, by the edges and faces of bad tetrahedra.
use Rattle.std.proofs.Common.{◌≡◌, ℕ, zero, suc, Bool, true, false, ◌||◌, List, [], ◌∷◌, ◌++◌, length, map, min, nat_lt, ◌^◌, ◌⊎◌, inl, inr, None, if◌then◌else◌, refl, sym, ap, subst, ◌∙◌, arith}
use Rattle.std.specs.List.{AllByRecursion, flat_map, list_all, list_any}
use Rattle.std.specs.Ordering.{eq_by_cmp}
use Rattle.std.proofs.lemmas.Bool.{false≢true, and_from, and_parts, or_cases, or_right}
use Rattle.std.proofs.lemmas.Bool.Decides.{nat_tests}
use Rattle.std.proofs.lemmas.Grind.{flat_map-append}
use Rattle.std.proofs.lemmas.List.Folds.{list_any-append}
use Rattle.ma_geom.specs.Coordinates.{Coordinates, place_cmp}
use Rattle.ma_geom.specs.Quality.{quality}
use Rattle.ma_geom.proofs.PlaceOrder.{place_cmp_total}
use Rattle.ma_cells.specs.Ascending.{are_ascending, ascending_of, has}
use Rattle.ma_cells.specs.Cells.{CellMark}
use Rattle.ma_cells.specs.Faces.{choices, holds_all}
use Rattle.ma_cells.specs.Stars.{marks_at, star_of}
use Rattle.ma_cells.specs.Tetrahedron.{Tetrahedron, are_corners, are_tetrahedra, tet_cmp}
use Rattle.ma_cells.specs.Worst.{least, worst}
use Rattle.ma_cells.specs.declared.batch.Batch.{Batch}
use Rattle.ma_cells.proofs.Ascents.{has-ascending_of, has-head, strict_from_ascending}
use Rattle.ma_cells.proofs.CellOrders.{tet_cmp-IsAntisymmetric, tet_cmp_total}
use Rattle.ma_cells.proofs.Choices.{all-append, choices-ascend, has-choices}
use Rattle.ma_cells.proofs.Corners.{corners_rise}
use Rattle.ma_cells.proofs.Members.{all-at, any-at, at_member, has-filter}
use Rattle.ma_cells.proofs.Passing.{all-map, all_weaker, test_all}
use Rattle.size_marks.specs.Field.{Field}
use Rattle.cavity_rank.specs.Operations.{Operation, rank}
use Rattle.cavity_rank.specs.Verdicts.{first_failing, verdict_of}
use Rattle.cavity_rank.specs.declared.verdict.Kind.TheVariants.{Swap}
use Rattle.cavity_collapse.specs.Judging.{legal_quality}
use Rattle.cavity_swap.specs.Judging.{has_one_region, is_bad, is_bare, judged_swap, outer_faces_are_seen}
use Rattle.cavity_swap.specs.Swapping.{swapped}
use Rattle.pass_rules.specs.Moves.{legal_from, legal_operations, operations_from, quality_at, spots_of}
use Rattle.legal_moves.specs.Around.{bad_among, is_bad_tet, is_swappable, legal_around, others_of, parts_of, spot_cmp, swaps_around, swaps_at}
use Rattle.legal_moves.proofs.Around.{any-flat_map, found, legal_by_spots, spot_exact, spot_total}

-- ---- what is chosen from ascending places
length-choices : {K : Type 0} (n : ℕ) (xs : List K) → AllByRecursion (λ ys. length ys ≡ n) (choices n xs)
length-choices zero xs = (refl, tt)
length-choices (suc n) [] = tt
length-choices (suc n) (x ∷ xs) =
    all-append (λ ys. length ys ≡ suc n) (map (λ rest. x ∷ rest) (choices n xs)) (choices (suc n) xs)
    (all-map (λ ys. length ys ≡ n) (λ ys. length ys ≡ suc n) (λ rest. x ∷ rest) (λ ys e. ap suc e) (choices n xs) (length-choices n xs)) (length-choices (suc n) xs)

record IsPart (n : ℕ) (at : List Coordinates) : Type 0 where
  rises : are_ascending place_cmp at ≡ true
  long : length at ≡ n

chosen_is : (n : ℕ) (at corners : List Coordinates) → are_ascending place_cmp corners ≡ true → has spot_cmp at (choices n corners) ≡ true → IsPart n at
chosen_is n at corners rise there = record {
  rises = at_member spot_exact (are_ascending place_cmp) at (choices n corners) (choices-ascend place_cmp_total n corners rise) there;
  long = all-at spot_exact (λ ys. length ys ≡ n) at (choices n corners) (length-choices n corners) there;
}

chosen_holds : (n : ℕ) (at corners : List Coordinates) → are_ascending place_cmp corners ≡ true → IsPart n at → has spot_cmp at (choices n corners) ≡ holds_all corners at
chosen_holds n at corners rise part =
    ap (λ m. has spot_cmp at (choices m corners)) (sym part.long)
    ∙ has-choices place_cmp_total at corners (strict_from_ascending place_cmp_total at part.rises) (strict_from_ascending place_cmp_total corners rise)

-- ---- a legal swap has a bad tetrahedron in its cavity
least_below : (n : ℕ) (f : Tetrahedron → ℕ) (tet : Tetrahedron) (tets : List Tetrahedron) → nat_lt (least (map f (tet ∷ tets))) n ≡ true → list_any (λ t. nat_lt (f t) n) (tet ∷ tets) ≡ true
least_below n f tet [] h = ap (λ b. b || false) h
least_below n f tet (other ∷ tets) h =
    either (nat_lt (f tet) n) (nat_lt (least (map f (other ∷ tets))) n) (list_any (λ t. nat_lt (f t) n) (other ∷ tets)) (sym (lesser (f tet) (least (map f (other ∷ tets))) n) ∙ h) (least_below n f other tets)
  where
    lesser : (a b n : ℕ) → nat_lt (min a b) n ≡ (nat_lt a n || nat_lt b n)
    lesser a b n = grind (arith, nat_tests)

    either : (a b c : Bool) → (a || b) ≡ true → (b ≡ true → c ≡ true) → (a || c) ≡ true
    either true b c h k = refl
    either false b c h k = k h

bad_there : (tet : Tetrahedron) (star : List Tetrahedron) → has tet_cmp tet star ≡ true → is_bad (worst star) ≡ true → list_any is_bad_tet star ≡ true
unfolding worst
bad_there tet [] there bad = absurd (false≢true there)
bad_there tet (first ∷ rest) there bad = least_below (2 ^ 28) (λ t. quality t.corners) first rest bad

fourth : (at : List Coordinates) (v : Coordinates) (q : Operation) (w : ℕ) (can a b c d e : Bool)
    → has rank q (operations_from at v (if can then legal_quality (verdict_of w (first_failing 1 (a ∷ b ∷ c ∷ d ∷ e ∷ []))) else None)) ≡ true → d ≡ true
fourth at v q w false a b c d e h = absurd (false≢true h)
fourth at v q w true false b c d e h = absurd (false≢true h)
fourth at v q w true true false c d e h = absurd (false≢true h)
fourth at v q w true true true false d e h = absurd (false≢true h)
fourth at v q w true true true true false e h = absurd (false≢true h)
fourth at v q w true true true true true e h = refl

-- at two or three places there are swaps alone
swap_quality : (field : Field) (star : List Tetrahedron) (marks : List CellMark) (at : List Coordinates) (v : Coordinates) → (length at ≡ 2) ⊎ (length at ≡ 3)
    → quality_at field star marks at v ≡ (if is_swappable at star then legal_quality (judged_swap star marks at v) else None)
swap_quality field star marks [] v (inl e) = absurd (omega arith)
swap_quality field star marks [] v (inr e) = absurd (omega arith)
swap_quality field star marks (a ∷ []) v (inl e) = absurd (omega arith)
swap_quality field star marks (a ∷ []) v (inr e) = absurd (omega arith)
swap_quality field star marks (a ∷ b ∷ []) v h = refl
swap_quality field star marks (a ∷ b ∷ c ∷ []) v h = refl
swap_quality field star marks (a ∷ b ∷ c ∷ d ∷ at) v (inl e) = absurd (omega arith)
swap_quality field star marks (a ∷ b ∷ c ∷ d ∷ at) v (inr e) = absurd (omega arith)

module _ (field : Field) (mesh : Batch) where
  legal_is_bad : (at : List Coordinates) (v : Coordinates) (q : Operation) → (length at ≡ 2) ⊎ (length at ≡ 3) → has rank q (legal_from field mesh at v) ≡ true → is_bad (worst (star_of at mesh.tets)) ≡ true
  legal_is_bad at v q count legal =
      let star = star_of at mesh.tets in
      let marks = marks_at at mesh.marks in
      fourth at v q (worst (swapped v star)) (is_swappable at star) (has_one_region star) (is_bare marks at star) (outer_faces_are_seen star v) (is_bad (worst star)) (nat_lt (worst star) (worst (swapped v star)))
      (ap (λ quality. has rank q (operations_from at v quality)) (sym (swap_quality field star marks at v count)) ∙ legal)

module _ (mesh : Batch) (solid : are_tetrahedra mesh.tets ≡ true) where
  rise : (tet : Tetrahedron) → has tet_cmp tet mesh.tets ≡ true → are_ascending place_cmp tet.corners ≡ true
  rise tet there = corners_rise tet.corners (at_member tet_cmp-IsAntisymmetric (λ t. are_corners t.corners) tet mesh.tets solid there)

  -- ---- the edges or the faces of the bad ones
  has-parts : (n : ℕ) (at : List Coordinates) (tets : List Tetrahedron) → has spot_cmp at (parts_of n tets) ≡ list_any (λ tet. has spot_cmp at (choices n tet.corners)) tets
  has-parts n at tets =
      has-ascending_of spot_total at (flat_map (λ tet. choices n tet.corners) tets) ∙ any-flat_map (eq_by_cmp spot_cmp at) (λ (tet : Tetrahedron). choices n tet.corners) tets

  part_is : (n : ℕ) (at : List Coordinates) → has spot_cmp at (parts_of n (bad_among mesh.tets)) ≡ true → IsPart n at
  part_is n at there =
      let tet = found tet_cmp_total (λ tet. has spot_cmp at (choices n tet.corners)) (bad_among mesh.tets) (sym (has-parts n at (bad_among mesh.tets)) ∙ there) in
      let in_mesh = (and_parts (has tet_cmp tet.0 mesh.tets) (is_bad_tet tet.0) (sym (has-filter tet_cmp-IsAntisymmetric is_bad_tet tet.0 mesh.tets) ∙ tet.1)).0 in
      chosen_is n at tet.0.corners (rise tet.0 in_mesh) tet.2

  part_among : (n : ℕ) (at : List Coordinates) (tet : Tetrahedron) → IsPart n at → has tet_cmp tet mesh.tets ≡ true → holds_all tet.corners at ≡ true → is_bad_tet tet ≡ true
      → has spot_cmp at (parts_of n (bad_among mesh.tets)) ≡ true
  part_among n at tet part in_mesh holds bad =
      has-parts n at (bad_among mesh.tets)
      ∙ any-at tet_cmp-IsAntisymmetric (λ t. has spot_cmp at (choices n t.corners)) tet (bad_among mesh.tets)
      (has-filter tet_cmp-IsAntisymmetric is_bad_tet tet mesh.tets ∙ and_from _ _ in_mesh bad) (chosen_holds n at tet.corners (rise tet in_mesh) part ∙ holds)

  abbrev spots : List (List Coordinates)
  spots = parts_of 2 (bad_among mesh.tets) ++ parts_of 3 (bad_among mesh.tets)

  of_two : (f : List Coordinates → Bool) (xs ys : List (List Coordinates)) → list_any f xs ≡ true → list_any f (xs ++ ys) ≡ true
  of_two f xs ys h = list_any-append f xs ys ∙ ap (λ b. b || list_any f ys) h

  of_three : (f : List Coordinates → Bool) (xs ys : List (List Coordinates)) → list_any f ys ≡ true → list_any f (xs ++ ys) ≡ true
  of_three f xs ys h = list_any-append f xs ys ∙ or_right (list_any f xs) (list_any f ys) h

  which : (f : List Coordinates → Bool) (xs ys : List (List Coordinates)) → list_any f (xs ++ ys) ≡ true → (list_any f xs ≡ true) ⊎ (list_any f ys ≡ true)
  which f xs ys h = or_cases (list_any f xs) (list_any f ys) (sym (list_any-append f xs ys) ∙ h)

  -- an edge or a face
  here : (at : List Coordinates) (tet : Tetrahedron) → has tet_cmp tet mesh.tets ≡ true → has spot_cmp at (spots_of Swap tet.corners) ≡ true → IsPart 2 at ⊎ IsPart 3 at
  here at tet in_mesh there =
      elim (which (eq_by_cmp spot_cmp at) (choices 2 tet.corners) (choices 3 tet.corners) there) [
        | inl h ↦ inl (chosen_is 2 at tet.corners (rise tet in_mesh) h)
        | inr h ↦ inr (chosen_is 3 at tet.corners (rise tet in_mesh) h)
      ]

  theirs : (at : List Coordinates) (tet : Tetrahedron) → has spot_cmp at spots ≡ true → has tet_cmp tet mesh.tets ≡ true → holds_all tet.corners at ≡ true → has spot_cmp at (spots_of Swap tet.corners) ≡ true
  theirs at tet there in_mesh holds =
      elim (which (eq_by_cmp spot_cmp at) (parts_of 2 (bad_among mesh.tets)) (parts_of 3 (bad_among mesh.tets)) there) [
        | inl h ↦ of_two (eq_by_cmp spot_cmp at) (choices 2 tet.corners) (choices 3 tet.corners) (chosen_holds 2 at tet.corners (rise tet in_mesh) (part_is 2 at h) ∙ holds)
        | inr h ↦ of_three (eq_by_cmp spot_cmp at) (choices 2 tet.corners) (choices 3 tet.corners) (chosen_holds 3 at tet.corners (rise tet in_mesh) (part_is 3 at h) ∙ holds)
      ]

  held : (at : List Coordinates) (tet : Tetrahedron) → has tet_cmp tet mesh.tets ≡ true → has spot_cmp at (spots_of Swap tet.corners) ≡ true → holds_all tet.corners at ≡ true
  held at tet in_mesh there =
      elim (which (eq_by_cmp spot_cmp at) (choices 2 tet.corners) (choices 3 tet.corners) there) [
        | inl h ↦ sym (chosen_holds 2 at tet.corners (rise tet in_mesh) (chosen_is 2 at tet.corners (rise tet in_mesh) h)) ∙ h
        | inr h ↦ sym (chosen_holds 3 at tet.corners (rise tet in_mesh) (chosen_is 3 at tet.corners (rise tet in_mesh) h)) ∙ h
      ]

  all_parts : (n : ℕ) → AllByRecursion (IsPart n) (parts_of n (bad_among mesh.tets))
  all_parts n = each (parts_of n (bad_among mesh.tets)) (λ at there. part_is n at there)
    where
      each : (ats : List (List Coordinates)) → ((at : List Coordinates) → has spot_cmp at ats ≡ true → IsPart n at) → AllByRecursion (IsPart n) ats
      each [] h = tt
      each (at ∷ ats) h = (h at (has-head spot_total at ats), each ats (λ other there. h other (or_right (eq_by_cmp spot_cmp other at) (has spot_cmp other ats) there)))

  pub parts_rise : (n : ℕ) → list_all (are_ascending place_cmp) (parts_of n (bad_among mesh.tets)) ≡ true
  parts_rise n = test_all (are_ascending place_cmp) (parts_of n (bad_among mesh.tets)) (all_weaker (IsPart n) (λ at. are_ascending place_cmp at ≡ true) (λ at part. part.rises) (parts_of n (bad_among mesh.tets)) (all_parts n))

module _ (field : Field) (mesh : Batch) (solid : are_tetrahedra mesh.tets ≡ true) where
  -- a bad one around a spot with a legal swap
  bad_around : (at : List Coordinates) (v : Coordinates) (q : Operation) (tet : Tetrahedron) → (length at ≡ 2) ⊎ (length at ≡ 3) → has tet_cmp tet mesh.tets ≡ true → holds_all tet.corners at ≡ true
      → has rank q (legal_from field mesh at v) ≡ true → (t : Tetrahedron) × (has tet_cmp t mesh.tets ≡ true) × (holds_all t.corners at ≡ true) × (is_bad_tet t ≡ true)
  bad_around at v q tet count in_mesh holds legal =
      let has-star = λ (t : Tetrahedron). has-filter tet_cmp-IsAntisymmetric (λ u. holds_all u.corners at) t mesh.tets in
      let in_star : has tet_cmp tet (star_of at mesh.tets) ≡ true = has-star tet ∙ and_from _ _ in_mesh holds in
      let t = found tet_cmp_total is_bad_tet (star_of at mesh.tets) (bad_there tet (star_of at mesh.tets) in_star (legal_is_bad field mesh at v q count legal)) in
      let both = and_parts (has tet_cmp t.0 mesh.tets) (holds_all t.0.corners at) (sym (has-star t.0) ∙ t.1) in
      (t.0, both.0, both.1, t.2)

  among : (at : List Coordinates) (v : Coordinates) (q : Operation) (tet : Tetrahedron) → has tet_cmp tet mesh.tets ≡ true → has spot_cmp at (spots_of Swap tet.corners) ≡ true
      → has rank q (legal_from field mesh at v) ≡ true → has spot_cmp at (spots mesh solid) ≡ true
  among at v q tet in_mesh there legal =
      elim (here mesh solid at tet in_mesh there) [
        | inl part ↦
            let t = bad_around at v q tet (inl part.long) in_mesh (held mesh solid at tet in_mesh there) legal in
            of_two mesh solid (eq_by_cmp spot_cmp at) (parts_of 2 (bad_among mesh.tets)) (parts_of 3 (bad_among mesh.tets)) (part_among mesh solid 2 at t.0 part t.1 t.2 t.3)
        | inr part ↦
            let t = bad_around at v q tet (inr part.long) in_mesh (held mesh solid at tet in_mesh there) legal in
            of_three mesh solid (eq_by_cmp spot_cmp at) (parts_of 2 (bad_among mesh.tets)) (parts_of 3 (bad_among mesh.tets)) (part_among mesh solid 3 at t.0 part t.1 t.2 t.3)
      ]

  -- and these are the swaps around edges and faces
  abbrev nothing : Coordinates → List Operation
  nothing v = []

  none_around : (xs : List Coordinates) → flat_map nothing xs ≡ []
  none_around [] = refl
  none_around (x ∷ xs) = none_around xs

  around : (at : List Coordinates) → (length at ≡ 2) ⊎ (length at ≡ 3) → swaps_around mesh at ≡ legal_around field mesh at
  around at count =
      let star = star_of at mesh.tets in
      let marks = marks_at at mesh.marks in
      by (is_swappable at star) ∙ ap (λ f. flat_map f (others_of at star)) (λ i v. operations_from at v (sym (swap_quality field star marks at v count) i))
    where
      by : (can : Bool) → (if can then flat_map (swaps_at (star_of at mesh.tets) (marks_at at mesh.marks) at) (others_of at (star_of at mesh.tets)) else [])
          ≡ flat_map (λ v. operations_from at v (if can then legal_quality (judged_swap (star_of at mesh.tets) (marks_at at mesh.marks) at v) else None)) (others_of at (star_of at mesh.tets))
      by true = refl
      by false = sym (none_around (others_of at (star_of at mesh.tets)))

  around_all : (n : ℕ) → (n ≡ 2) ⊎ (n ≡ 3) → (ats : List (List Coordinates)) → AllByRecursion (IsPart n) ats → flat_map (swaps_around mesh) ats ≡ flat_map (legal_around field mesh) ats
  around_all n which [] parts = refl
  around_all n which (at ∷ ats) parts =
      ap (λ ops. ops ++ flat_map (swaps_around mesh) ats) (around at (subst (λ m. (m ≡ 2) ⊎ (m ≡ 3)) (sym parts.0.long) which)) ∙ ap (λ ops. legal_around field mesh at ++ ops) (around_all n which ats parts.1)

  pub legal_by_swaps : ascending_of rank (flat_map (swaps_around mesh) (parts_of 2 (bad_among mesh.tets)) ++ flat_map (swaps_around mesh) (parts_of 3 (bad_among mesh.tets))) ≡ legal_operations Swap field mesh
  legal_by_swaps =
      let edges = parts_of 2 (bad_among mesh.tets) in
      let faces = parts_of 3 (bad_among mesh.tets) in
      ap (λ ops. ascending_of rank (ops ++ flat_map (swaps_around mesh) faces)) (around_all 2 (inl refl) edges (all_parts mesh solid 2))
      ∙ ap (λ ops. ascending_of rank (flat_map (legal_around field mesh) edges ++ ops)) (around_all 3 (inr refl) faces (all_parts mesh solid 3))
      ∙ ap (ascending_of rank) (sym (flat_map-append (legal_around field mesh) edges faces))
      ∙ legal_by_spots Swap field mesh (spots mesh solid) (theirs mesh solid) (held mesh solid) among

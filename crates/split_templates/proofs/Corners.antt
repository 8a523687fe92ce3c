-- Triangles and tetrahedra: halves inherit what they are.
use Rattle.std.proofs.Common.{◌≡◌, ◌≢◌, ℕ, ◌≤◌, Bool, true, false, cond, ◌||◌, List, [], ◌∷◌, length, sym, ap, subst, ◌∙◌, arith}
use Rattle.std.specs.Prelude.{map}
use Rattle.std.specs.List.{AllByRecursion, list_all}
use Rattle.std.specs.List.Sorted.{IsPermutation}
use Rattle.std.specs.Ordering.{eq_by_cmp}
use Rattle.std.proofs.lemmas.Bool.{false≢true}
use Rattle.std.proofs.lemmas.List.Sorted.{IsPermutation-cons, IsPermutation-refl}
use Rattle.ma_geom.specs.Coordinates.{Coordinates, place_cmp}
use Rattle.ma_geom.specs.Rational.{IsMiddle}
use Rattle.ma_cells.specs.Ascending.{are_distinct, ascending_of, has}
use Rattle.ma_cells.specs.Bisection.{replaced}
use Rattle.ma_cells.specs.Faces.{holds_all}
use Rattle.ma_cells.specs.Tetrahedron.{are_corners, is_flat}
use Rattle.ma_cells.proofs.Bisections.{bisect-with}
use Rattle.ma_cells.proofs.Cornered.{distinct-ascending}
use Rattle.ma_cells.proofs.Corners.{corners_rise, corners_span}
use Rattle.ma_cells.proofs.Permutations.{alone, apart, ascending_of-permutes, both}
use Rattle.ma_cells.proofs.Pieces.{distinct_corners, four_corners, half_solid, middle_is_new, moved_first, pieces_are_corners, solid_corners, solid_edge, solid_in_any_order}
use Rattle.split_templates.specs.steps.Kept.{keeps_corners}
use Rattle.split_templates.specs.Pieces.{bisected_along}
use Rattle.split_templates.proofs.Keeping.{IsInherited}
use Rattle.split_templates.proofs.Shapes.{all_counted, all_kept, all_of_kind, both_later, in_turn}

-- ---- tetrahedra
abbrev pub IsTetrahedron : List Coordinates → Type 0
IsTetrahedron t = are_corners t ≡ true

tetrahedra : IsInherited IsTetrahedron 4
tetrahedra = record {
  count = λ t h. four_corners t (corners_span t h);
  distinct = λ t h. distinct-ascending t (corners_rise t h);
  new = λ a b m t h there middle differ. middle_is_new m a b t middle differ (corners_span t h) there;
  half = λ a b m t h there middle differ.
      (both (are_corners (replaced a m t)) (are_corners (replaced b m t)) (ap (list_all are_corners) (sym (bisect-with a b m t there)) ∙ pieces_are_corners m a b t middle differ h)).0;
}

pub tetrahedron_kept : (mask : ℕ) (t : List Coordinates) → IsTetrahedron t → keeps_corners (in_turn mask t) t ≡ true
tetrahedron_kept mask t h = all_kept IsTetrahedron 3 tetrahedra mask t h

pub tetrahedron_count : (mask : ℕ) (t : List Coordinates) → IsTetrahedron t → length (bisected_along (in_turn mask t) (t ∷ [])) ≤ 8
tetrahedron_count mask t h = all_counted IsTetrahedron 3 tetrahedra mask t h

pub tetrahedron_pieces : (mask : ℕ) (t : List Coordinates) → IsTetrahedron t → AllByRecursion IsTetrahedron (bisected_along (in_turn mask t) (t ∷ []))
tetrahedron_pieces mask t h = all_of_kind IsTetrahedron 3 tetrahedra mask t h

-- ---- triangles, with a place out of their plane
abbrev pub IsTriangle : Coordinates → List Coordinates → Type 0
IsTriangle d t = is_flat (d ∷ t) ≡ false

-- places that span a volume are distinct, and span one in any order
solid_places : (places : List Coordinates) → is_flat places ≡ false
    → (are_distinct place_cmp places ≡ true) × ((others : List Coordinates) → IsPermutation places others → is_flat others ≡ false)
solid_places [] h = absurd (false≢true (sym h))
solid_places (p ∷ []) h = absurd (false≢true (sym h))
solid_places (p ∷ q ∷ []) h = absurd (false≢true (sym h))
solid_places (p ∷ q ∷ r ∷ []) h = absurd (false≢true (sym h))
solid_places (p ∷ q ∷ r ∷ s ∷ []) h =
    let solid = solid_corners (p ∷ q ∷ r ∷ s ∷ []) p q r s (IsPermutation-refl (p ∷ q ∷ r ∷ s ∷ [])) h in
    (distinct_corners p q r s solid, λ others moved. solid_in_any_order p q r s others moved solid)
solid_places (p ∷ q ∷ r ∷ s ∷ u ∷ t) h = absurd (false≢true (sym h))

module _ (d : Coordinates) where
  distinct_from : (t : List Coordinates) → IsTriangle d t → (has place_cmp d t ≡ false) × (are_distinct place_cmp t ≡ true)
  distinct_from t h = alone (has place_cmp d t) (are_distinct place_cmp t) (solid_places (d ∷ t) h).0

  in_order : (t : List Coordinates) → IsTriangle d t → IsTriangle d (ascending_of place_cmp t)
  in_order t h =
      let order = IsPermutation-cons d t (ascending_of place_cmp t) (ascending_of-permutes t (distinct_from t h).1) in
      (solid_places (d ∷ t) h).1 (d ∷ ascending_of place_cmp t) order

  no_middle : (a b m : Coordinates) (t : List Coordinates) → IsTriangle d t → holds_all t (a ∷ b ∷ []) ≡ true → IsMiddle m a b → a ≢ b → has place_cmp m t ≡ false
  no_middle a b m t h there middle differ =
      second (eq_by_cmp place_cmp m d) (has place_cmp m t) (middle_is_new m a b (d ∷ t) middle differ h (both_later a b d t there))
    where
      second : (s t : Bool) → (s || t) ≡ false → t ≡ false
      second true t e = absurd (false≢true (sym e))
      second false t e = e

  triangle_half : (a b m : Coordinates) (t : List Coordinates) → IsTriangle d t → holds_all t (a ∷ b ∷ []) ≡ true → IsMiddle m a b → a ≢ b → IsTriangle d (replaced a m t)
  triangle_half a b m t h there middle differ =
      let changed = λ (p : Coordinates). cond (eq_by_cmp place_cmp a p) m p in
      let edge = solid_edge a b (d ∷ t) differ h (both_later a b d t there) in
      let solid : is_flat (map changed (d ∷ t)) ≡ false =
      solid_in_any_order m b edge.c edge.d (map changed (d ∷ t)) (moved_first m a b edge.c edge.d (d ∷ t) edge.order edge.solid) (half_solid m a b edge.c edge.d middle edge.solid) in
      let first = both (has place_cmp a t) (has place_cmp b t) there in
      let off : eq_by_cmp place_cmp a d ≡ false = apart a d (λ e. false≢true (sym (distinct_from t h).0 ∙ ap (λ p. has place_cmp p t) (sym e) ∙ first.0)) in
      in_order (map changed t) (subst (λ c. is_flat (cond c m d ∷ map changed t) ≡ false) off solid)

  pub triangles : IsInherited (IsTriangle d) 3
  triangles = record {
    count = λ t h. omega (arith, four_corners (d ∷ t) h);
    distinct = λ t h. (distinct_from t h).1;
    new = no_middle;
    half = triangle_half;
  }

pub triangle_kept : (mask : ℕ) (d : Coordinates) (t : List Coordinates) → IsTriangle d t → keeps_corners (in_turn mask t) t ≡ true
triangle_kept mask d t h = all_kept (IsTriangle d) 2 (triangles d) mask t h

pub triangle_count : (mask : ℕ) (d : Coordinates) (t : List Coordinates) → IsTriangle d t → length (bisected_along (in_turn mask t) (t ∷ [])) ≤ 4
triangle_count mask d t h = all_counted (IsTriangle d) 2 (triangles d) mask t h

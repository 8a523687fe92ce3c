-- The tetrahedra at a place, and the cones over the faces across from it.
use Rattle.std.proofs.Common.{◌≡◌, ◌≢◌, ℕ, Bool, true, false, cond, ◌||◌, List, [], ◌∷◌, ◌++◌, length, eqb, Some, None, refl, sym, ap, subst, ◌∙◌, arith}
use Rattle.std.specs.Prelude.{ℤ, pos}
use Rattle.std.specs.List.{AllByRecursion, flat_map}
use Rattle.std.specs.List.Sorted.{IsPermutation}
use Rattle.std.specs.Option.{option_to_list}
use Rattle.std.specs.Ordering.{eq_by_cmp}
use Rattle.std.proofs.lemmas.Bool.{false≢true, true≢false}
use Rattle.std.proofs.lemmas.Bool.Decides.{nat_tests}
use Rattle.std.proofs.lemmas.List.Sorted.{IsPermutation-sym}
use Rattle.ma_geom.specs.Coordinates.{Coordinates, place_cmp}
use Rattle.ma_geom.specs.Lines.{is_flat}
use Rattle.ma_geom.specs.Volume.{vol6}
use Rattle.ma_geom.proofs.Identities.{vol6_same_ab, vol6_same_ac, vol6_same_ad, vol6_same_bc, vol6_same_bd, vol6_same_cd}
use Rattle.ma_geom.proofs.PlaceOrder.{place_cmp_total}
use Rattle.ma_cells.specs.Ascending.{are_ascending, are_distinct, ascending_of, has}
use Rattle.ma_cells.specs.Meshes.{corner_sets}
use Rattle.ma_cells.specs.Stars.{besides, cone}
use Rattle.ma_cells.specs.Tetrahedron.{Tetrahedron, are_corners}
use Rattle.ma_cells.proofs.Ascents.{ascending_from_strict, length-ascending_of, sorted-ascending_of}
use Rattle.ma_cells.proofs.Permutations.{apart, ascending_of-permutes, same as same_place, tied}
use Rattle.ma_cells.proofs.Pieces.{distinct_corners, four_corners}
use Rattle.mesh_laws.proofs.Weights.{by_four}
use Rattle.cavity_laws.specs.Cavity.{Facet, facets_of}
use Rattle.cavity_laws.specs.Filled.{AreReordered}
use Rattle.cavity_laws.proofs.Cavities.{solid_moved}

-- ---- the facet across from a corner
abbrev pub opposite : Coordinates → List Coordinates → Facet
opposite a corners = record { face = besides (a ∷ []) corners; across = a }

-- of the facets of a tetrahedron with the corner a, one alone doesn't have a
pub record IsSplit (a : Coordinates) (corners : List Coordinates) : Type 0 where
  pub alone : flat_map (λ x. cond (has place_cmp a x.face) [] (x ∷ [])) (facets_of corners) ≡ opposite a corners ∷ []
  pub each : AllByRecursion (λ x. has place_cmp a x.face ≡ false → x ≡ opposite a corners) (facets_of corners)
  pub three : length (besides (a ∷ []) corners) ≡ 3

module _ (w x y z : Coordinates) (solid : vol6 w x y z ≢ pos 0) where
  wx : w ≢ x
  wx e = solid (subst (λ t. vol6 w t y z ≡ pos 0) e (vol6_same_ab w y z))

  wy : w ≢ y
  wy e = solid (subst (λ t. vol6 w x t z ≡ pos 0) e (vol6_same_ac w x z))

  wz : w ≢ z
  wz e = solid (subst (λ t. vol6 w x y t ≡ pos 0) e (vol6_same_ad w x y))

  xy : x ≢ y
  xy e = solid (subst (λ t. vol6 w x t z ≡ pos 0) e (vol6_same_bc w x z))

  xz : x ≢ z
  xz e = solid (subst (λ t. vol6 w x y t ≡ pos 0) e (vol6_same_bd w x y))

  yz : y ≢ z
  yz e = solid (subst (λ t. vol6 w x y t ≡ pos 0) e (vol6_same_cd w x y))

  turn : {p q : Coordinates} → p ≢ q → q ≢ p
  turn h e = h (sym e)

  at_w : IsSplit w (w ∷ x ∷ y ∷ z ∷ [])
  at_w = record {
    alone = rw ((tied w), (apart w x wx), (apart w y wy), (apart w z wz), (apart x w (turn wx)), (apart y w (turn wy)), (apart z w (turn wz))) refl;
    each = rw ((tied w), (apart w x wx), (apart w y wy), (apart w z wz), (apart x w (turn wx)), (apart y w (turn wy)), (apart z w (turn wz))) ((λ h. absurd (true≢false h)), ((λ h. absurd (true≢false h)), ((λ h. absurd (true≢false h)), ((λ _. refl), tt))));
    three = rw ((tied w), (apart x w (turn wx)), (apart y w (turn wy)), (apart z w (turn wz))) refl;
  }

  at_x : IsSplit x (w ∷ x ∷ y ∷ z ∷ [])
  at_x = record {
    alone = rw ((tied x), (apart x w (turn wx)), (apart x y xy), (apart x z xz), (apart w x wx), (apart y x (turn xy)), (apart z x (turn xz))) refl;
    each = rw ((tied x), (apart x w (turn wx)), (apart x y xy), (apart x z xz), (apart w x wx), (apart y x (turn xy)), (apart z x (turn xz))) ((λ h. absurd (true≢false h)), ((λ h. absurd (true≢false h)), ((λ _. refl), ((λ h. absurd (true≢false h)), tt))));
    three = rw ((tied x), (apart w x wx), (apart y x (turn xy)), (apart z x (turn xz))) refl;
  }

  at_y : IsSplit y (w ∷ x ∷ y ∷ z ∷ [])
  at_y = record {
    alone = rw ((tied y), (apart y w (turn wy)), (apart y x (turn xy)), (apart y z yz), (apart w y wy), (apart x y xy), (apart z y (turn yz))) refl;
    each = rw ((tied y), (apart y w (turn wy)), (apart y x (turn xy)), (apart y z yz), (apart w y wy), (apart x y xy), (apart z y (turn yz))) ((λ h. absurd (true≢false h)), ((λ _. refl), ((λ h. absurd (true≢false h)), ((λ h. absurd (true≢false h)), tt))));
    three = rw ((tied y), (apart w y wy), (apart x y xy), (apart z y (turn yz))) refl;
  }

  at_z : IsSplit z (w ∷ x ∷ y ∷ z ∷ [])
  at_z = record {
    alone = rw ((tied z), (apart z w (turn wz)), (apart z x (turn xz)), (apart z y (turn yz)), (apart w z wz), (apart x z xz), (apart y z yz)) refl;
    each = rw ((tied z), (apart z w (turn wz)), (apart z x (turn xz)), (apart z y (turn yz)), (apart w z wz), (apart x z xz), (apart y z yz)) ((λ _. refl), ((λ h. absurd (true≢false h)), ((λ h. absurd (true≢false h)), ((λ h. absurd (true≢false h)), tt))));
    three = rw ((tied z), (apart w z wz), (apart x z xz), (apart y z yz)) refl;
  }

  split_four : (a : Coordinates) → has place_cmp a (w ∷ x ∷ y ∷ z ∷ []) ≡ true → IsSplit a (w ∷ x ∷ y ∷ z ∷ [])
  split_four a = by (eq_by_cmp place_cmp a w) refl (eq_by_cmp place_cmp a x) refl (eq_by_cmp place_cmp a y) refl (eq_by_cmp place_cmp a z) refl
    where
      at : (p : Coordinates) → eq_by_cmp place_cmp a p ≡ true → IsSplit p (w ∷ x ∷ y ∷ z ∷ []) → IsSplit a (w ∷ x ∷ y ∷ z ∷ [])
      at p e h = subst (λ b. IsSplit b (w ∷ x ∷ y ∷ z ∷ [])) (sym (same_place a p e)) h

      by : (s : Bool) → eq_by_cmp place_cmp a w ≡ s → (t : Bool) → eq_by_cmp place_cmp a x ≡ t → (u : Bool) → eq_by_cmp place_cmp a y ≡ u → (r : Bool) → eq_by_cmp place_cmp a z ≡ r
          → (s || (t || (u || (r || false)))) ≡ true → IsSplit a (w ∷ x ∷ y ∷ z ∷ [])
      by true e t f u g r h there = at w e at_w
      by false e true f u g r h there = at x f at_x
      by false e false f true g r h there = at y g at_y
      by false e false f false g true h there = at z h at_z
      by false e false f false g false h there = absurd (false≢true there)

pub split : (a : Coordinates) (corners : List Coordinates) → is_flat corners ≡ false → has place_cmp a corners ≡ true → IsSplit a corners
split a = by_four (λ corners. has place_cmp a corners ≡ true → IsSplit a corners) (λ w x y z solid. split_four w x y z solid a)

-- what the facets without a give is what the one across from a gives
pub only_across : {Y : Type 0} (a : Coordinates) (corners : List Coordinates) → IsSplit a corners → (f : Facet → List Y)
    → flat_map (λ x. cond (has place_cmp a x.face) [] (f x)) (facets_of corners) ≡ f (opposite a corners) ++ []
only_across a corners is f = sym (parts (facets_of corners)) ∙ ap (flat_map f) is.alone
  where
    one : (b : Bool) (x : Facet) (xs : List Facet) → flat_map f (cond b [] (x ∷ []) ++ xs) ≡ cond b [] (f x) ++ flat_map f xs
    one true x xs = refl
    one false x xs = refl

    parts : (xs : List Facet) → flat_map f (flat_map (λ x. cond (has place_cmp a x.face) [] (x ∷ [])) xs) ≡ flat_map (λ x. cond (has place_cmp a x.face) [] (f x)) xs
    parts [] = refl
    parts (x ∷ xs) = one (has place_cmp a x.face) x (flat_map (λ x. cond (has place_cmp a x.face) [] (x ∷ [])) xs) ∙ ap (λ l. cond (has place_cmp a x.face) [] (f x) ++ l) (parts xs)

-- ---- cones
as_many : (m n : ℕ) → m ≡ 4 → n ≡ 4 → eqb m n ≡ true
as_many m n e f = grind (arith, nat_tests)

-- places in ascending order are flat just if they are, where they are four
pub sorted_flat : (places : List Coordinates) → length places ≡ 4 → is_flat (ascending_of place_cmp places) ≡ is_flat places
sorted_flat places four =
    by (is_flat places) refl (is_flat (ascending_of place_cmp places)) refl
  where
    order : are_distinct place_cmp places ≡ true → IsPermutation places (ascending_of place_cmp places)
    order = ascending_of-permutes places

    by : (s : Bool) → is_flat places ≡ s → (t : Bool) → is_flat (ascending_of place_cmp places) ≡ t → t ≡ s
    by true e true f = refl
    by false e false f = refl
    by true e false f =
        let distinct = sym (length-ascending_of place_cmp_total places).1 ∙ as_many (length (ascending_of place_cmp places)) (length places) (four_corners (ascending_of place_cmp places) f) four in
        sym (solid_moved (ascending_of place_cmp places) places (IsPermutation-sym places (ascending_of place_cmp places) (order distinct)) f) ∙ e
    by false e true f = sym f ∙ solid_moved places (ascending_of place_cmp places) (order (by_four (λ l. are_distinct place_cmp l ≡ true) distinct_corners places e)) e

-- the corners of the cone over a face, in another order
pub cone_reordered : (v : Coordinates) (phys elem : ℤ) (face : List Coordinates) → length face ≡ 3
    → AreReordered (cond (is_flat (v ∷ face)) [] ((v ∷ face) ∷ [])) (corner_sets (cone v phys elem face))
cone_reordered v phys elem face three = by (is_flat (v ∷ face)) refl
  where
    four : length (v ∷ face) ≡ 4
    four = omega (arith, three)

    by : (b : Bool) → is_flat (v ∷ face) ≡ b
        → AreReordered (cond b [] ((v ∷ face) ∷ [])) (corner_sets (option_to_list (cond (is_flat (ascending_of place_cmp (v ∷ face))) None (Some (record { corners = ascending_of place_cmp (v ∷ face); phys = phys; elem = elem })))))
    by true e = rw (sorted_flat (v ∷ face) four ∙ e) tt
    by false e = rw (sorted_flat (v ∷ face) four ∙ e) (ascending_of-permutes (v ∷ face) (by_four (λ l. are_distinct place_cmp l ≡ true) distinct_corners (v ∷ face) e), tt)

-- that it is a tetrahedron with these corners
pub record IsCone (v : Coordinates) (phys elem : ℤ) (face : List Coordinates) (tet : Tetrahedron) : Type 0 where
  pub proper : are_corners tet.corners ≡ true
  pub is : tet ≡ record { corners = ascending_of place_cmp (v ∷ face); phys = phys; elem = elem }

pub cones_are : (v : Coordinates) (phys elem : ℤ) (face : List Coordinates) → AllByRecursion (IsCone v phys elem face) (cone v phys elem face)
cones_are v phys elem face = by (is_flat corners) refl
  where
    corners : List Coordinates
    corners = ascending_of place_cmp (v ∷ face)

    by : (b : Bool) → is_flat corners ≡ b → AllByRecursion (IsCone v phys elem face) (option_to_list (cond b None (Some (record { corners = corners; phys = phys; elem = elem }))))
    by true e = tt
    by false e = (record { proper = rw (rises, e) refl; is = refl }, tt)
      where
        rises : are_ascending place_cmp corners ≡ true
        rises = ascending_from_strict place_cmp_total corners (sorted-ascending_of place_cmp_total (v ∷ face))

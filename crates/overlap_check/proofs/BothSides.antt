-- Two separated tetrahedra with a face in common lie on different sides of it: the form that separates them is one number over the face.
use Rattle.std.proofs.Common.{◌≡◌, ◌≢◌, inl, inr, Bool, true, false, not, ◌&&◌, List, [], ◌∷◌, refl, sym, ap, subst, ◌∙◌, arith}
use Rattle.std.specs.Prelude.{ℤ, pos, neg_ℤ, ◌+ℤ◌, ◌-ℤ◌, ◌*ℤ◌, ◌<ℤ◌, int_le, map}
use Rattle.std.specs.List.{list_all}
use Rattle.std.specs.List.Sorted.{IsPermutation}
use Rattle.std.proofs.lemmas.Bool.{false≢true}
use Rattle.std.proofs.lemmas.Int.{ints}
use Rattle.std.proofs.lemmas.List.Folds.{list_all-map}
use Rattle.std.proofs.lemmas.List.Sorted.{All-permutation, IsPermutation-sym}
use Rattle.std.proofs.lemmas.List.Sums.{AllPass-from_list_all}
use Rattle.ma_geom.specs.Coordinates.{Coordinates, place_cmp}
use Rattle.ma_geom.specs.Lines.{is_flat, is_zero}
use Rattle.ma_geom.specs.Volume.{dot, vol6}
use Rattle.ma_geom.proofs.Integers.{positive-*ℤ, positive_factor}
use Rattle.ma_geom.proofs.Reified.{dot', place, places, vol6'}
use Rattle.ma_geom.proofs.Ring.{neg, var, ◌⊕◌, ◌⊖◌, ◌⊗◌, entry, ring}
use Rattle.ma_cells.specs.Ascending.{are_ascending}
use Rattle.ma_cells.specs.Tetrahedron.{are_corners}
use Rattle.ma_cover.specs.Sound.{LieOnBothSides}
use Rattle.ma_cover.specs.Inside.{are_alike}
use Rattle.ma_cells.proofs.Pieces.{solid_corners}
use Rattle.overlap_check.specs.Overlap.{are_separated, is_below}
use Rattle.overlap_check.proofs.FormValues.{level_is_zero}
use Rattle.overlap_check.proofs.InnerPoints.{separating_form}
use Rattle.ma_cover.proofs.Halves.{either_way}

-- ---- a form over five places
crossed : (n u v w d e : Coordinates)
    → vol6 u v w e *ℤ (dot n d -ℤ dot n u) ≡ ((vol6 u v w d *ℤ (dot n e -ℤ dot n u)) +ℤ (vol6 u v d e *ℤ (dot n w -ℤ dot n u))) -ℤ (vol6 u w d e *ℤ (dot n v -ℤ dot n u))
unfolding vol6
crossed n u v w d e =
    let U = place 0 in
    let V = place 1 in
    let W = place 2 in
    let D = place 3 in
    let E = place 4 in
    let N = place 5 in
    ring (places (u ∷ v ∷ w ∷ d ∷ e ∷ n ∷ [])) (vol6' U V W E ⊗ (dot' N D ⊖ dot' N U))
    (((vol6' U V W D ⊗ (dot' N E ⊖ dot' N U)) ⊕ (vol6' U V D E ⊗ (dot' N W ⊖ dot' N U))) ⊖ (vol6' U W D E ⊗ (dot' N V ⊖ dot' N U))) tt

-- where it is one number over three of them
without_face : (l r s t fu fv fw : ℤ) → l ≡ (r +ℤ (s *ℤ (fw -ℤ fu))) -ℤ (t *ℤ (fv -ℤ fu)) → fv ≡ fu → fw ≡ fu → l ≡ r
without_face l r s t fu fv fw e at_v at_w =
    let v_flat : fv -ℤ fu ≡ pos 0 = omega (arith, ints) in
    let w_flat : fw -ℤ fu ≡ pos 0 = omega (arith, ints) in
    e ∙ rw (v_flat, w_flat) (nothing r s t)
  where
    nothing : (r s t : ℤ) → (r +ℤ (s *ℤ pos 0)) -ℤ (t *ℤ pos 0) ≡ r
    nothing r s t = omega (arith, ints)

-- ---- signs

both_turned : (x v : ℤ) → v *ℤ x ≡ neg_ℤ x *ℤ neg_ℤ v
both_turned x v = ring (entry (x ∷ v ∷ [])) (var 1 ⊗ var 0) (neg (var 0) ⊗ neg (var 1)) tt

one_turned : (x v y u : ℤ) → v *ℤ x ≡ u *ℤ y → neg_ℤ x *ℤ v ≡ y *ℤ neg_ℤ u
one_turned x v y u e =
    ring (entry (x ∷ v ∷ [])) (neg (var 0) ⊗ var 1) (neg (var 1 ⊗ var 0)) tt ∙ ap neg_ℤ e ∙ ring (entry (y ∷ u ∷ [])) (neg (var 1 ⊗ var 0)) (var 0 ⊗ neg (var 1)) tt

opposite : (x v y u : ℤ) → v *ℤ x ≡ u *ℤ y → x <ℤ pos 0 → pos 0 <ℤ y → u ≢ pos 0 → are_alike u (neg_ℤ v) ≡ true
opposite x v y u e below above solid =
    elim (either_way u solid) [
      | inl positive ↦
          let product = positive-*ℤ u y positive above in
          first u v positive (positive_factor (neg_ℤ x) (neg_ℤ v) (turned x below) (subst (λ t. pos 0 <ℤ t) (sym e ∙ both_turned x v) product))
      | inr negative ↦
          let product = positive-*ℤ y (neg_ℤ u) above negative in
          second u v negative (positive_factor (neg_ℤ x) v (turned x below) (subst (λ t. pos 0 <ℤ t) (sym (one_turned x v y u e)) product))
    ]
  where
    turned : (x : ℤ) → x <ℤ pos 0 → pos 0 <ℤ neg_ℤ x
    turned x h = omega (arith, ints)

    first : (u v : ℤ) → pos 0 <ℤ u → pos 0 <ℤ neg_ℤ v → are_alike u (neg_ℤ v) ≡ true
    first u v h k = grind (arith, ints)

    second : (u v : ℤ) → pos 0 <ℤ neg_ℤ u → pos 0 <ℤ v → are_alike u (neg_ℤ v) ≡ true
    second u v h k = grind (arith, ints)

exchanged : (u v : ℤ) → are_alike v (neg_ℤ u) ≡ true → are_alike u (neg_ℤ v) ≡ true
exchanged u v h = grind (arith, ints)

-- ---- corners by their names
each_corner : (f : Coordinates → Bool) (u v w d : Coordinates) (corners : List Coordinates) → IsPermutation (u ∷ v ∷ w ∷ d ∷ []) corners → list_all f corners ≡ true
    → (f u ≡ true) × (f v ≡ true) × (f w ≡ true) × (f d ≡ true)
each_corner f u v w d corners moved h =
    let all = All-permutation (λ x. f x ≡ true) corners (u ∷ v ∷ w ∷ d ∷ []) (IsPermutation-sym (u ∷ v ∷ w ∷ d ∷ []) corners moved) (AllPass-from_list_all f corners h) in
    (all 0 u (omega arith), all 1 u (omega arith), all 2 u (omega arith), all 3 u (omega arith))

each_value : (n : Coordinates) (f : ℤ → Bool) (u v w d : Coordinates) (corners : List Coordinates) → IsPermutation (u ∷ v ∷ w ∷ d ∷ []) corners → list_all f (map (dot n) corners) ≡ true
    → (f (dot n u) ≡ true) × (f (dot n v) ≡ true) × (f (dot n w) ≡ true) × (f (dot n d) ≡ true)
each_value n f u v w d corners moved h = each_corner (λ x. f (dot n x)) u v w d corners moved (sym (list_all-map f (dot n) corners) ∙ h)

equal : (x y : ℤ) → int_le x y ≡ true → int_le y x ≡ true → x ≡ y
equal x y h k = omega (arith, ints)

less : (x y : ℤ) → int_le x y ≡ true → x ≢ y → (x -ℤ y) <ℤ pos 0
less x y h k = grind (arith, ints)

more : (x y : ℤ) → int_le x y ≡ true → y ≢ x → pos 0 <ℤ (y -ℤ x)
more x y h k = grind (arith, ints)

-- ---- the tetrahedron with d is the lower
lower_first : (n u v w d e : Coordinates) (a b : List Coordinates) → is_zero n ≡ false → vol6 u v w d ≢ pos 0 → vol6 u v w e ≢ pos 0
    → IsPermutation (u ∷ v ∷ w ∷ d ∷ []) a → IsPermutation (u ∷ v ∷ w ∷ e ∷ []) b → is_below (map (dot n) a) (map (dot n) b) ≡ true
    → are_alike (vol6 u v w d) (neg_ℤ (vol6 u v w e)) ≡ true
lower_first n u v w d e a b slanted solid_d solid_e order_a order_b below =
    let rows = each_value n (λ x. list_all (int_le x) (map (dot n) b)) u v w d a order_a below in
    let from_u = each_value n (int_le (dot n u)) u v w e b order_b rows.0 in
    let from_v = each_value n (int_le (dot n v)) u v w e b order_b rows.1 in
    let from_w = each_value n (int_le (dot n w)) u v w e b order_b rows.2 in
    let from_d = each_value n (int_le (dot n d)) u v w e b order_b rows.3 in
    let at_v : dot n v ≡ dot n u = equal (dot n v) (dot n u) from_v.0 from_u.1 in
    let at_w : dot n w ≡ dot n u = equal (dot n w) (dot n u) from_w.0 from_u.2 in
    let under = less (dot n d) (dot n u) from_d.0 (λ at_d. false≢true (sym slanted ∙ level_is_zero n u v w d (dot n u) solid_d refl at_v at_w at_d)) in
    let over = more (dot n u) (dot n e) from_u.3 (λ at_e. false≢true (sym slanted ∙ level_is_zero n u v w e (dot n u) solid_e refl at_v at_w at_e)) in
    let products = without_face (vol6 u v w e *ℤ (dot n d -ℤ dot n u)) (vol6 u v w d *ℤ (dot n e -ℤ dot n u)) (vol6 u v d e) (vol6 u w d e) (dot n u) (dot n v) (dot n w)
    (crossed n u v w d e) at_v at_w in
    opposite (dot n d -ℤ dot n u) (vol6 u v w e) (dot n e -ℤ dot n u) (vol6 u v w d) products under over solid_d

solid : (u v w d : Coordinates) (corners : List Coordinates) → are_corners corners ≡ true → IsPermutation (u ∷ v ∷ w ∷ d ∷ []) corners → vol6 u v w d ≢ pos 0
solid u v w d corners are order =
    solid_corners corners u v w d (IsPermutation-sym (u ∷ v ∷ w ∷ d ∷ []) corners order) (not_flat (are_ascending place_cmp corners) (is_flat corners) are)
  where
    not_flat : (s t : Bool) → (s && not t) ≡ true → t ≡ false
    not_flat true true e = absurd (false≢true e)
    not_flat true false e = refl
    not_flat false t e = absurd (false≢true e)

pub separated_lie_on_both_sides : (a b : List Coordinates) → are_corners a ≡ true → are_corners b ≡ true → are_separated a b ≡ true → LieOnBothSides a b
separated_lie_on_both_sides a b are_a are_b apart u v w d e order_a order_b =
    let by = separating_form a b apart in
    let solid_d = solid u v w d a are_a order_a in
    let solid_e = solid u v w e b are_b order_b in
    elim by.below [
      | inl below ↦ lower_first by.n u v w d e a b by.slanted solid_d solid_e order_a order_b below
      | inr below ↦ exchanged (vol6 u v w d) (vol6 u v w e) (lower_first by.n u v w e d b a by.slanted solid_e solid_d order_b order_a below)
    ]

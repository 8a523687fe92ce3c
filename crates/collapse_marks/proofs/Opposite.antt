-- Two triangles on both sides of an edge: their turns, and that they are the only ones.
use Rattle.std.proofs.Common.{◌≡◌, ◌≢◌, ◌⊎◌, inl, inr, ⊎_elim, zero, suc, Bool, true, false, not, ◌&&◌, ◌||◌, List, [], ◌∷◌, refl, sym, ap, ap₂, subst, ◌∙◌}
use Rattle.std.specs.Prelude.{ℤ, pos, negsuc, neg_ℤ}
use Rattle.std.specs.List.{AllByRecursion, list_all}
use Rattle.std.specs.Ordering.{eq_by_cmp}
use Rattle.std.proofs.lemmas.Bool.{and_parts, false≢true, or_cases, or_right}
use Rattle.ma_geom.specs.Coordinates.{Coordinates, place_cmp}
use Rattle.ma_geom.specs.Lines.{normal}
use Rattle.ma_geom.specs.Signs.{same_sign, sign_of}
use Rattle.ma_geom.specs.Turns.{same_turn}
use Rattle.ma_geom.specs.declared.signs.Sign.TheVariants.{Zero}
use Rattle.ma_geom.proofs.Reified.{Triple, cross', minus', place, places}
use Rattle.ma_geom.proofs.Ring.{neg, ring}
use Rattle.ma_cells.specs.Ascending.{are_distinct, has}
use Rattle.ma_cells.proofs.Passing.{all_pass, all_weaker}
use Rattle.ma_cells.proofs.Permutations.{same, tied}
use Rattle.ma_cover.proofs.Anys.{any_pass}
use Rattle.cavity_collapse.specs.Surfaces.{are_on_both_sides}
use Rattle.plane_laws.specs.Planes.{AreOpposite}
use Rattle.plane_laws.proofs.Items.{IsIn, witness}
use Rattle.moved_cells.proofs.Moved.{not_and}

abbrev eq : Coordinates → Coordinates → Bool
eq = eq_by_cmp place_cmp

-- ---- signs
turned_sign : (i r : ℤ) → same_sign (sign_of i) (sign_of (neg_ℤ r)) ≡ same_sign (sign_of r) (sign_of (neg_ℤ i))
turned_sign (pos zero) (pos zero) = refl
turned_sign (pos zero) (pos (suc n)) = refl
turned_sign (pos zero) (negsuc n) = refl
turned_sign (pos (suc m)) (pos zero) = refl
turned_sign (pos (suc m)) (pos (suc n)) = refl
turned_sign (pos (suc m)) (negsuc n) = refl
turned_sign (negsuc m) (pos zero) = refl
turned_sign (negsuc m) (pos (suc n)) = refl
turned_sign (negsuc m) (negsuc n) = refl

zero_alike : (i r : ℤ) → same_sign (sign_of i) (sign_of (neg_ℤ r)) ≡ true → same_sign (sign_of i) Zero ≡ same_sign (sign_of r) Zero
zero_alike (pos zero) (pos zero) h = refl
zero_alike (pos zero) (pos (suc n)) h = absurd (false≢true h)
zero_alike (pos zero) (negsuc n) h = absurd (false≢true h)
zero_alike (pos (suc m)) (pos zero) h = absurd (false≢true h)
zero_alike (pos (suc m)) (pos (suc n)) h = refl
zero_alike (pos (suc m)) (negsuc n) h = refl
zero_alike (negsuc m) (pos zero) h = absurd (false≢true h)
zero_alike (negsuc m) (pos (suc n)) h = refl
zero_alike (negsuc m) (negsuc n) h = refl

itself_zero : (i : ℤ) → same_sign (sign_of i) (sign_of (neg_ℤ i)) ≡ true → same_sign (sign_of i) Zero ≡ true
itself_zero (pos zero) h = refl
itself_zero (pos (suc n)) h = absurd (false≢true h)
itself_zero (negsuc n) h = absurd (false≢true h)

abbrev turn_test : (i j k r s t : ℤ) → Bool
turn_test i j k r s t =
    same_sign (sign_of i) (sign_of r) && same_sign (sign_of j) (sign_of s) && same_sign (sign_of k) (sign_of t) && not (same_sign (sign_of i) Zero && same_sign (sign_of j) Zero && same_sign (sign_of k) Zero)

parts : (c d e f : Bool) → (c && d && e && f) ≡ true → (c ≡ true) × (d ≡ true) × (e ≡ true) × (f ≡ true)
parts true true true true h = (refl, refl, refl, refl)
parts true true true false h = absurd (false≢true h)
parts true true false f h = absurd (false≢true h)
parts true false e f h = absurd (false≢true h)
parts false d e f h = absurd (false≢true h)

turned_test : (i j k r s t : ℤ) → turn_test i j k (neg_ℤ r) (neg_ℤ s) (neg_ℤ t) ≡ true → turn_test r s t (neg_ℤ i) (neg_ℤ j) (neg_ℤ k) ≡ true
turned_test i j k r s t h =
    let all = parts _ _ _ _ h in
    rw (sym (turned_sign i r) ∙ all.0, sym (turned_sign j s) ∙ all.1, sym (turned_sign k t) ∙ all.2)
    (ap not (ap₂ (λ u w. u && w) (ap₂ (λ u w. u && w) (sym (zero_alike i r all.0)) (sym (zero_alike j s all.1))) (sym (zero_alike k t all.2))) ∙ all.3)

none_itself : (i j k : ℤ) → turn_test i j k (neg_ℤ i) (neg_ℤ j) (neg_ℤ k) ≡ true → ⊥
none_itself i j k h =
    let all = parts _ _ _ _ h in
    false≢true (sym (ap not (ap₂ (λ u w. u && w) (ap₂ (λ u w. u && w) (itself_zero i all.0) (itself_zero j all.1)) (itself_zero k all.2))) ∙ all.3)

-- ---- turns
record Exchanged (a b c : Coordinates) : Type 0 where
  pub x : (normal b a c).x ≡ neg_ℤ (normal a b c).x
  pub y : (normal b a c).y ≡ neg_ℤ (normal a b c).y
  pub z : (normal b a c).z ≡ neg_ℤ (normal a b c).z

abbrev normal' : Triple → Triple → Triple → Triple
normal' a b c = cross' (minus' b a) (minus' c a)

exchanged : (a b c : Coordinates) → Exchanged a b c
unfolding normal
exchanged a b c =
    let N = normal' (place 0) (place 1) (place 2) in
    let M = normal' (place 1) (place 0) (place 2) in
    let vars = places (a ∷ b ∷ c ∷ []) in
    record { x = ring vars M.x (neg N.x) tt; y = ring vars M.y (neg N.y) tt; z = ring vars M.z (neg N.z) tt }

-- a turn from one side and that from the other, by the normals of one side
test_is : (a x y z : Coordinates) → same_turn (a ∷ x ∷ y ∷ []) (x ∷ a ∷ z ∷ [])
    ≡ turn_test (normal a x y).x (normal a x y).y (normal a x y).z (neg_ℤ (normal a x z).x) (neg_ℤ (normal a x z).y) (neg_ℤ (normal a x z).z)
test_is a x y z =
    let e = exchanged a x z in
    rw (sym e.x, sym e.y, sym e.z) refl

turn_exchanged : (a x y z : Coordinates) → same_turn (a ∷ x ∷ y ∷ []) (x ∷ a ∷ z ∷ []) ≡ true → same_turn (a ∷ x ∷ z ∷ []) (x ∷ a ∷ y ∷ []) ≡ true
turn_exchanged a x y z h = test_is a x z y ∙ turned_test _ _ _ _ _ _ (sym (test_is a x y z) ∙ h)

not_itself : (a x y : Coordinates) → same_turn (a ∷ x ∷ y ∷ []) (x ∷ a ∷ y ∷ []) ≡ true → ⊥
not_itself a x y h = none_itself _ _ _ (sym (test_is a x y y) ∙ h)

-- ---- two places
has_in : (q : Coordinates) (xs : List Coordinates) → IsIn q xs → has place_cmp q xs ≡ true
has_in q [] i = absurd i
has_in q (x ∷ xs) (inl e) = ap (λ b. b || has place_cmp q xs) (ap (eq q) (sym e) ∙ tied q)
has_in q (x ∷ xs) (inr i) = or_right (eq q x) (has place_cmp q xs) (has_in q xs i)

-- where places are y and z, each once, they are these two in one order or the other
two : (y z : Coordinates) → y ≢ z → (ws : List Coordinates) → are_distinct place_cmp ws ≡ true → AllByRecursion (λ w. (w ≡ y) ⊎ (w ≡ z)) ws → IsIn y ws → IsIn z ws → (ws ≡ y ∷ z ∷ []) ⊎ (ws ≡ z ∷ y ∷ [])
two y z differ [] h all i j = absurd i
two y z differ (w ∷ []) h all (inl e) (inl f) = absurd (differ (e ∙ sym f))
two y z differ (w ∷ []) h all (inl e) (inr j) = absurd j
two y z differ (w ∷ []) h all (inr i) j = absurd i
two y z differ (w ∷ u ∷ []) h all i j = by all.0 all.1.0
  where
    alike : w ≡ u → (ws : Type 0) → ws
    alike e ws = absurd (false≢true (sym (not_and (eq w u || false) (not false && true) h).0 ∙ ap (λ b. b || false) (ap (eq w) (sym e) ∙ tied w)))

    by : (w ≡ y) ⊎ (w ≡ z) → (u ≡ y) ⊎ (u ≡ z) → (w ∷ u ∷ [] ≡ y ∷ z ∷ []) ⊎ (w ∷ u ∷ [] ≡ z ∷ y ∷ [])
    by (inl e) (inl f) = alike (e ∙ sym f) _
    by (inl e) (inr f) = inl (ap₂ (λ s t. s ∷ t ∷ []) e f)
    by (inr e) (inl f) = inr (ap₂ (λ s t. s ∷ t ∷ []) e f)
    by (inr e) (inr f) = alike (e ∙ sym f) _
two y z differ (w ∷ u ∷ t ∷ ws) h all i j = by all.0 all.1.0 all.1.1.0
  where
    first : (has place_cmp w (u ∷ t ∷ ws) ≡ false) × (are_distinct place_cmp (u ∷ t ∷ ws) ≡ true)
    first = not_and (has place_cmp w (u ∷ t ∷ ws)) (are_distinct place_cmp (u ∷ t ∷ ws)) h

    second : has place_cmp u (t ∷ ws) ≡ false
    second = (not_and (has place_cmp u (t ∷ ws)) (are_distinct place_cmp (t ∷ ws)) first.1).0

    w_u : w ≡ u → ⊥
    w_u e = false≢true (sym first.0 ∙ has_in w (u ∷ t ∷ ws) (inl e))

    w_t : w ≡ t → ⊥
    w_t e = false≢true (sym first.0 ∙ has_in w (u ∷ t ∷ ws) (inr (inl e)))

    u_t : u ≡ t → ⊥
    u_t e = false≢true (sym second ∙ has_in u (t ∷ ws) (inl e))

    by : (w ≡ y) ⊎ (w ≡ z) → (u ≡ y) ⊎ (u ≡ z) → (t ≡ y) ⊎ (t ≡ z) → (w ∷ u ∷ t ∷ ws ≡ y ∷ z ∷ []) ⊎ (w ∷ u ∷ t ∷ ws ≡ z ∷ y ∷ [])
    by (inl e) (inl f) g = absurd (w_u (e ∙ sym f))
    by (inr e) (inr f) g = absurd (w_u (e ∙ sym f))
    by (inl e) (inr f) (inl g) = absurd (w_t (e ∙ sym g))
    by (inl e) (inr f) (inr g) = absurd (u_t (f ∙ sym g))
    by (inr e) (inl f) (inl g) = absurd (u_t (f ∙ sym g))
    by (inr e) (inl f) (inr g) = absurd (w_t (e ∙ sym g))

-- third corners on both sides of an edge are two, on opposite sides
pub opposite : (a x y : Coordinates) (ws : List Coordinates) → are_distinct place_cmp ws ≡ true → IsIn y ws → are_on_both_sides a x y ws ≡ true → AreOpposite a x ws
opposite a x y ws distinct here h =
    let test = λ (z : Coordinates). same_turn (a ∷ x ∷ y ∷ []) (x ∷ a ∷ z ∷ []) && list_all (λ w. eq w y || eq w z) ws in
    let found = witness (λ z. test z ≡ true) ws (any_pass test ws h) in
    let z = found.0 in
    let both = and_parts (same_turn (a ∷ x ∷ y ∷ []) (x ∷ a ∷ z ∷ [])) (list_all (λ w. eq w y || eq w z) ws) found.2 in
    let only = all_weaker (λ w. (eq w y || eq w z) ≡ true) (λ w. (w ≡ y) ⊎ (w ≡ z)) (λ w k. ⊎_elim (λ e. inl (same w y e)) (λ e. inr (same w z e)) (or_cases (eq w y) (eq w z) k)) ws (all_pass (λ w. eq w y || eq w z) ws both.1) in
    ⊎_elim (λ e. subst (AreOpposite a x) (sym e) both.0) (λ e. subst (AreOpposite a x) (sym e) (turn_exchanged a x y z both.0))
    (two y z (λ e. not_itself a x y (subst (λ t. same_turn (a ∷ x ∷ y ∷ []) (x ∷ a ∷ t ∷ []) ≡ true) (sym e) both.0)) ws distinct only here found.1)

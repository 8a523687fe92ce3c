-- Sums of whole numbers over facets, in which what a balanced face has cancels.
use Rattle.std.proofs.Common.{◌≡◌, ◌≢◌, ℕ, zero, suc, ◌+◌, min, ◌⊎◌, inl, inr, ⊎_elim, Bool, true, false, cond, List, [], ◌∷◌, ◌++◌, refl, sym, ap, ap₂, ◌∙◌, arith}
use Rattle.std.specs.Prelude.{ℤ, pos, negsuc, ◌+ℤ◌, ◌*ℤ◌, ◌<ℤ◌, neg_ℤ}
use Rattle.std.specs.Int.{int_signum}
use Rattle.std.specs.List.{count_by}
use Rattle.std.proofs.Math.IntN.{*ℤ_comm}
use Rattle.std.proofs.lemmas.Int.{ints}
use Rattle.ma_geom.specs.Coordinates.{Coordinates}
use Rattle.ma_geom.proofs.Integers.{*ℤ-+ℤ}
use Rattle.ma_cover.specs.Inside.{are_alike}
use Rattle.mesh_laws.proofs.Keyed.{total as keyed_total, total-by_key}
use Rattle.mesh_laws.proofs.Listings.{same, same_is, same_itself}
use Rattle.mesh_laws.proofs.Lists.{count-cons}
use Rattle.cavity_laws.specs.Cavity.{Facet, balance, side_number, total}

-- ---- signs
pub sgn_positive : (n : ℕ) → int_signum (pos (suc n)) ≡ pos 1
sgn_positive n = ap pos (by n)
  where
    by : (n : ℕ) → min (suc n) 1 ≡ 1
    by n = omega arith

pub sgn_some : (x : ℤ) → x ≢ pos 0 → (int_signum x ≡ pos 1) ⊎ (int_signum x ≡ negsuc 0)
sgn_some (pos zero) h = absurd (h refl)
sgn_some (pos (suc n)) h = inl (sgn_positive n)
sgn_some (negsuc n) h = inr refl

pub sgn_turned : (x y : ℤ) → x ≡ neg_ℤ y → int_signum x ≡ neg_ℤ (int_signum y)
sgn_turned x y e = ap int_signum e ∙ by y
  where
    by : (y : ℤ) → int_signum (neg_ℤ y) ≡ neg_ℤ (int_signum y)
    by (pos zero) = refl
    by (pos (suc n)) = ap neg_ℤ (sym (sgn_positive n))
    by (negsuc n) = sgn_positive n

pub sgn_alike : (x y : ℤ) → are_alike x y ≡ true → int_signum x ≡ int_signum y
sgn_alike x y h = ⊎_elim (λ both. above x both.0 ∙ sym (above y both.1)) (λ both. below x both.0 ∙ sym (below y both.1)) (cases x y h)
  where
    cases : (x y : ℤ) → are_alike x y ≡ true → ((pos 0 <ℤ x) × (pos 0 <ℤ y)) ⊎ ((x <ℤ pos 0) × (y <ℤ pos 0))
    cases x y h = grind (arith, ints)

    above : (x : ℤ) → pos 0 <ℤ x → int_signum x ≡ pos 1
    above (pos zero) h = absurd (omega (arith, ints))
    above (pos (suc n)) h = sgn_positive n
    above (negsuc n) h = absurd (omega (arith, ints))

    below : (x : ℤ) → x <ℤ pos 0 → int_signum x ≡ negsuc 0
    below (pos n) h = absurd (omega (arith, ints))
    below (negsuc n) h = refl

-- ---- totals
regrouped : (a b c d : ℤ) → (a +ℤ b) +ℤ (c +ℤ d) ≡ (a +ℤ c) +ℤ (b +ℤ d)
regrouped a b c d = omega (arith, ints)

none_left : (a : ℤ) → pos 0 +ℤ a ≡ a
none_left a = omega (arith, ints)

none_right : (a : ℤ) → a +ℤ pos 0 ≡ a
none_right a = omega (arith, ints)

pub total-append : {X : Type 0} (f : X → ℤ) (xs ys : List X) → total f (xs ++ ys) ≡ total f xs +ℤ total f ys
total-append f [] ys = sym (none_left (total f ys))
total-append f (x ∷ xs) ys = ap (λ t. f x +ℤ t) (total-append f xs ys) ∙ by (f x) (total f xs) (total f ys)
  where
    by : (s t u : ℤ) → s +ℤ (t +ℤ u) ≡ (s +ℤ t) +ℤ u
    by s t u = omega (arith, ints)

abbrev pub one_if : Bool → ℤ
one_if b = cond b (pos 1) (pos 0)

pub total-count_by : {X : Type 0} (test : X → Bool) (xs : List X) → total (λ x. one_if (test x)) xs ≡ pos (count_by test xs)
total-count_by test [] = refl
total-count_by test (x ∷ xs) = ap (λ t. one_if (test x) +ℤ t) (total-count_by test xs) ∙ by (test x) (count_by test xs) (count_by test (x ∷ xs)) (count-cons test x xs)
  where
    by : (b : Bool) (n m : ℕ) → m ≡ cond b 1 0 + n → one_if b +ℤ pos n ≡ pos m
    by true n m e = omega (arith, ints)
    by false n m e = omega (arith, ints)

-- ---- what has one face
-- the sum of what the faces have, each with the sign of its side
abbrev pub weighed : (List Coordinates → ℤ) → List Facet → ℤ
weighed g facets = total (λ x. side_number x.face x.across *ℤ g x.face) facets

of_face : (g : List Coordinates → ℤ) (face : List Coordinates) (facets : List Facet)
    → keyed_total (pos 0) (λ s t. s +ℤ t) (λ x. cond (same face x.face) (side_number x.face x.across *ℤ g x.face) (pos 0)) facets ≡ g face *ℤ balance face facets
of_face g face [] = none (g face)
  where
    none : (u : ℤ) → pos 0 ≡ u *ℤ pos 0
    none u = omega (arith, ints)
of_face g face (x ∷ facets) =
    let w = side_number x.face x.across in
    ap₂ (λ s t. s +ℤ t) (one (same face x.face) w (g x.face) (g face) (λ e. ap g (same_is face x.face e))) (of_face g face facets)
    ∙ sym (*ℤ-+ℤ (g face) (cond (same face x.face) w (pos 0)) (balance face facets))
  where
    one : (b : Bool) (w u v : ℤ) → (b ≡ true → v ≡ u) → cond b (w *ℤ u) (pos 0) ≡ v *ℤ cond b w (pos 0)
    one true w u v e = *ℤ_comm w u ∙ ap (λ t. t *ℤ w) (sym (e refl))
    one false w u v e = by v
      where
        by : (v : ℤ) → pos 0 ≡ v *ℤ pos 0
        by v = omega (arith, ints)

-- where each face has nothing or is balanced, the sum is nothing
pub balanced_total : (facets : List Facet) (g : List Coordinates → ℤ) → ((face : List Coordinates) → (g face ≡ pos 0) ⊎ (balance face facets ≡ pos 0)) → weighed g facets ≡ pos 0
balanced_total facets g h =
    same_total facets
    ∙ total-by_key (pos 0) (λ s t. s +ℤ t) none_left none_right regrouped (λ (x : Facet). x.face) same same_is same_itself facets [] (λ x. side_number x.face x.across *ℤ g x.face)
    (λ face. of_face g face facets ∙ by (g face) (balance face facets) (h face))
  where
    same_total : (xs : List Facet) → weighed g xs ≡ keyed_total (pos 0) (λ s t. s +ℤ t) (λ x. side_number x.face x.across *ℤ g x.face) xs
    same_total [] = refl
    same_total (x ∷ xs) = ap (λ t. (side_number x.face x.across *ℤ g x.face) +ℤ t) (same_total xs)

    by : (u v : ℤ) → (u ≡ pos 0) ⊎ (v ≡ pos 0) → u *ℤ v ≡ pos 0
    by u v (inl e) = ap (λ t. t *ℤ v) e ∙ none v
      where
        none : (v : ℤ) → pos 0 *ℤ v ≡ pos 0
        none v = omega (arith, ints)
    by u v (inr e) = ap (λ t. u *ℤ t) e ∙ none u
      where
        none : (u : ℤ) → u *ℤ pos 0 ≡ pos 0
        none u = omega (arith, ints)

-- The tetrahedra from a place q over triangles around a vertex have a point within them as often as those over the triangles around another place.
use Rattle.std.proofs.Common.{◌≡◌, ◌≢◌, ◌⊎◌, inl, inr, ⊎_elim, ℕ, zero, suc, min, Bool, true, false, cond, List, [], ◌∷◌, ◌++◌, refl, sym, ap, ap₂, subst, ◌∙◌, arith}
use Rattle.std.specs.Prelude.{◌↔◌, ℤ, pos, negsuc, ◌+ℤ◌, ◌-ℤ◌, ◌*ℤ◌, neg_ℤ, ◌<ℤ◌, ◌≤ℤ◌}
use Rattle.std.specs.Int.{int_signum}
use Rattle.std.specs.List.{AllByRecursion, flat_map}
use Rattle.std.specs.Ordering.{eq_by_cmp}
use Rattle.std.proofs.lemmas.Bool.{false≢true}
use Rattle.std.proofs.lemmas.Int.{ints}
use Rattle.ma_geom.specs.Coordinates.{Coordinates, place_cmp}
use Rattle.ma_geom.specs.Rational.{Rational, side}
use Rattle.ma_geom.specs.Volume.{vol6}
use Rattle.ma_geom.proofs.Identities.{vol6_exchange_bc, vol6_same_bc}
use Rattle.ma_geom.proofs.Integers.{*ℤ-+ℤ}
use Rattle.ma_geom.proofs.Ring.{var, con, neg, ◌⊕◌, ◌⊖◌, ◌⊗◌, entry, ring}
use Rattle.ma_cells.specs.Faces.{faces_of}
use Rattle.ma_cells.proofs.Permutations.{same, tied}
use Rattle.ma_cover.specs.Classification.{AnyByRecursion}
use Rattle.ma_cover.specs.Inside.{are_alike, is_beside, is_inside}
use Rattle.ma_cover.proofs.OffFaces.{all_four}
use Rattle.mesh_laws.specs.FivePlaces.{enclosed}
use Rattle.mesh_laws.specs.Points.{IsOffPlane}
use Rattle.mesh_laws.proofs.FivePlaces.{five_places_cancel}
use Rattle.mesh_laws.proofs.Keyed.{at, total, total-by_key}
use Rattle.mesh_laws.proofs.Weights.{alike_itself, alike_some}
use Rattle.plane_laws.specs.Planes.{Edge, thirds}

abbrev eq : Coordinates → Coordinates → Bool
eq = eq_by_cmp place_cmp

abbrev pub sum : {X : Type 0} → (X → ℤ) → List X → ℤ
sum f xs = total (pos 0) (λ s t. s +ℤ t) f xs

-- ---- numbers
abbrev one : Bool → ℤ
one b = cond b (pos 1) (pos 0)

signum_plus : (n : ℕ) → int_signum (pos (suc n)) ≡ pos 1
signum_plus n = ap pos (by n)
  where
    by : (n : ℕ) → min (suc n) 1 ≡ 1
    by n = omega arith

signs_agree : (u w : ℤ) → are_alike u w ≡ true → int_signum u *ℤ int_signum w ≡ pos 1
signs_agree (pos zero) w h = absurd ((alike_some (pos zero) w h).0 refl)
signs_agree (pos (suc m)) (pos zero) h = absurd ((alike_some (pos (suc m)) (pos zero) h).1 refl)
signs_agree (pos (suc m)) (pos (suc n)) h = ap₂ (λ s t. s *ℤ t) (signum_plus m) (signum_plus n)
signs_agree (pos (suc m)) (negsuc n) h = absurd (by m n h)
  where
    by : (m n : ℕ) → are_alike (pos (suc m)) (negsuc n) ≡ true → ⊥
    by m n h = grind (arith, ints)
signs_agree (negsuc m) (pos n) h = absurd (by m n h)
  where
    by : (m n : ℕ) → are_alike (negsuc m) (pos n) ≡ true → ⊥
    by m n h = grind (arith, ints)
signs_agree (negsuc m) (negsuc n) h = refl

-- of numbers with one sign and the other, the signs cancel
pub signs_cancel : (s t u : ℤ) → are_alike s t ≡ true → t ≡ neg_ℤ u → int_signum s +ℤ int_signum u ≡ pos 0
signs_cancel s t u h e = by s u (subst (λ r. are_alike s r ≡ true) e h)
  where
    no : (s u : ℤ) → are_alike s (neg_ℤ u) ≡ true → (pos 0 ≤ℤ s) × (pos 0 ≤ℤ u) → ⊥
    no s u h e = grind (arith, ints)

    by : (s u : ℤ) → are_alike s (neg_ℤ u) ≡ true → int_signum s +ℤ int_signum u ≡ pos 0
    by (pos m) (pos n) h = absurd (no (pos m) (pos n) h (omega (arith, ints), omega (arith, ints)))
    by (pos zero) (negsuc n) h = absurd ((alike_some (pos zero) (neg_ℤ (negsuc n)) h).0 refl)
    by (pos (suc m)) (negsuc n) h = ap (λ t. t +ℤ negsuc 0) (signum_plus m)
    by (negsuc m) (pos zero) h = absurd ((alike_some (negsuc m) (neg_ℤ (pos zero)) h).1 refl)
    by (negsuc m) (pos (suc n)) h = ap (λ t. negsuc 0 +ℤ t) (signum_plus n)
    by (negsuc m) (negsuc n) h = absurd (apart m n h)
      where
        apart : (m n : ℕ) → are_alike (negsuc m) (neg_ℤ (negsuc n)) ≡ true → ⊥
        apart m n h = grind (arith, ints)

-- a sign counts where a tetrahedron is, if its volume has that sign
signed : (u w : ℤ) (b : Bool) → (b ≡ true → are_alike u w ≡ true) → int_signum u *ℤ cond b (int_signum w) (pos 0) ≡ one b
signed u w true h = signs_agree u w (h refl)
signed u w false h = by (int_signum u)
  where
    by : (s : ℤ) → s *ℤ pos 0 ≡ pos 0
    by s = omega (arith, ints)

module _ {X : Type 0} (f : X → Bool) where
  not_negative : (xs : List X) → pos 0 ≤ℤ sum (λ x. one (f x)) xs
  not_negative [] = omega (arith, ints)
  not_negative (x ∷ xs) = by (f x) (sum (λ x. one (f x)) xs) (not_negative xs)
    where
      by : (b : Bool) (s : ℤ) → pos 0 ≤ℤ s → pos 0 ≤ℤ (one b +ℤ s)
      by true s h = omega (arith, ints)
      by false s h = omega (arith, ints)

  some_sum : (xs : List X) → AnyByRecursion (λ x. f x ≡ true) xs → pos 0 <ℤ sum (λ x. one (f x)) xs
  some_sum [] h = absurd h
  some_sum (x ∷ xs) (inl e) = by (f x) (sum (λ x. one (f x)) xs) e (not_negative xs)
    where
      by : (b : Bool) (s : ℤ) → b ≡ true → pos 0 ≤ℤ s → pos 0 <ℤ (one b +ℤ s)
      by true s e h = omega (arith, ints)
      by false s e h = absurd (false≢true e)
  some_sum (x ∷ xs) (inr h) = by (f x) (sum (λ x. one (f x)) xs) (some_sum xs h)
    where
      by : (b : Bool) (s : ℤ) → pos 0 <ℤ s → pos 0 <ℤ (one b +ℤ s)
      by true s h = omega (arith, ints)
      by false s h = omega (arith, ints)

  sum_some : (xs : List X) → pos 0 <ℤ sum (λ x. one (f x)) xs → AnyByRecursion (λ x. f x ≡ true) xs
  sum_some [] h = absurd (omega (arith, ints))
  sum_some (x ∷ xs) h = elim (f x) as (λ b. f x ≡ b → pos 0 <ℤ (one b +ℤ sum (λ x. one (f x)) xs) → (f x ≡ true) ⊎ AnyByRecursion (λ x. f x ≡ true) xs) [
    | true ↦ λ e _. inl e
    | false ↦ λ _ k. inr (sum_some xs (rest (sum (λ x. one (f x)) xs) k))
  ] refl h
    where
      rest : (s : ℤ) → pos 0 <ℤ (pos 0 +ℤ s) → pos 0 <ℤ s
      rest s h = omega (arith, ints)

-- ---- triangles around a, and the same once a is at v
module _ (a v q : Coordinates) where
  -- what is known of an edge of the link
  pub record IsGood (e : Edge) : Type 0 where
    pub solid : vol6 a e.x e.y q ≢ pos 0
    pub flat : vol6 v a e.x e.y ≡ pos 0
    pub turn : (vol6 v e.x e.y q ≡ pos 0) ⊎ (are_alike (vol6 a e.x e.y q) (vol6 v e.x e.y q) ≡ true)

  abbrev sign : Edge → ℤ
  sign e = int_signum (vol6 a e.x e.y q)

  -- the sides of the edge from a to z on which its triangles lie
  abbrev pub turn_at : Coordinates → Coordinates → ℤ
  turn_at z y = int_signum (vol6 a z y q)

  module _ (p : Rational) where
    abbrev pub IsOff : Edge → Type 0
    IsOff e = AllByRecursion (IsOffPlane p) (faces_of (v ∷ a ∷ e.x ∷ e.y ∷ q ∷ []))

    abbrev pub is_over : Coordinates → Edge → Bool
    is_over b e = is_inside p (b ∷ e.x ∷ e.y ∷ q ∷ [])

    abbrev pub between : Coordinates → ℤ
    between z = enclosed p v a z q

    pub some_inside : (b x y z : Coordinates) → is_inside p (b ∷ x ∷ y ∷ z ∷ []) ≡ true → vol6 b x y z ≢ pos 0
    some_inside b x y z h = (alike_some (vol6 b x y z) (side b x y p) (all_four (is_beside x y z b p) (is_beside b y z x p) (is_beside b x z y p) (is_beside b x y z p) h).3).0

    step : (e : Edge) → IsGood e → IsOff e → one (is_over a e) ≡ one (is_over v e) +ℤ (sign e *ℤ (between e.x -ℤ between e.y))
    step e good off =
        sym (signed (vol6 a e.x e.y q) (vol6 a e.x e.y q) (is_over a e) (λ _. alike_itself (vol6 a e.x e.y q) good.solid))
        ∙ ap (λ t. sign e *ℤ t) (five (enclosed p a e.x e.y q) (enclosed p v e.x e.y q) (between e.y) (between e.x) (enclosed p v a e.x e.y) (five_places_cancel p v a e.x e.y q off) (none (is_inside p (v ∷ a ∷ e.x ∷ e.y ∷ [])) good.flat))
        ∙ *ℤ-+ℤ (sign e) (enclosed p v e.x e.y q) (between e.x -ℤ between e.y)
        ∙ ap (λ t. t +ℤ (sign e *ℤ (between e.x -ℤ between e.y)))
        (signed (vol6 a e.x e.y q) (vol6 v e.x e.y q) (is_over v e) (λ h. ⊎_elim (λ flat. absurd (some_inside v e.x e.y q h flat)) (λ alike. alike) good.turn))
      where
        five : (s t u w r : ℤ) → (((s -ℤ t) +ℤ u) -ℤ w) +ℤ r ≡ pos 0 → r ≡ pos 0 → s ≡ t +ℤ (w -ℤ u)
        five s t u w r e f = omega (arith, ints)

        none : (b : Bool) {s : ℤ} → s ≡ pos 0 → cond b (int_signum s) (pos 0) ≡ pos 0
        none true e = ap int_signum e
        none false e = refl

    steps : (link : List Edge) → AllByRecursion IsGood link → AllByRecursion IsOff link
        → sum (λ e. one (is_over a e)) link ≡ sum (λ e. one (is_over v e)) link +ℤ sum (λ e. sign e *ℤ (between e.x -ℤ between e.y)) link
    steps [] good off = refl
    steps (e ∷ link) good off =
        ap₂ (λ s t. s +ℤ t) (step e good.0 off.0) (steps link good.1 off.1)
        ∙ by (one (is_over v e)) (sign e *ℤ (between e.x -ℤ between e.y)) (sum (λ e. one (is_over v e)) link) (sum (λ e. sign e *ℤ (between e.x -ℤ between e.y)) link)
      where
        by : (t u w z : ℤ) → (t +ℤ u) +ℤ (w +ℤ z) ≡ (t +ℤ w) +ℤ (u +ℤ z)
        by t u w z = omega (arith, ints)

    -- ---- what lies between, by the edges at a
    record Term : Type 0 where
      pub end : Coordinates
      pub times : ℤ

    abbrev terms_of : Edge → List Term
    terms_of e = record { end = e.x; times = sign e } ∷ record { end = e.y; times = neg_ℤ (sign e) } ∷ []

    abbrev value : Term → ℤ
    value t = t.times *ℤ between t.end

    as_terms : (link : List Edge) → sum (λ e. sign e *ℤ (between e.x -ℤ between e.y)) link ≡ sum value (flat_map terms_of link)
    as_terms [] = refl
    as_terms (e ∷ link) = ap (λ t. (sign e *ℤ (between e.x -ℤ between e.y)) +ℤ t) (as_terms link) ∙ by (sign e) (between e.x) (between e.y) (sum value (flat_map terms_of link))
      where
        by : (s x y t : ℤ) → (s *ℤ (x -ℤ y)) +ℤ t ≡ (s *ℤ x) +ℤ ((neg_ℤ s *ℤ y) +ℤ t)
        by s x y t = ring (entry (s ∷ x ∷ y ∷ t ∷ [])) ((var 0 ⊗ (var 1 ⊖ var 2)) ⊕ var 3) ((var 0 ⊗ var 1) ⊕ ((neg (var 0) ⊗ var 2) ⊕ var 3)) tt

    of_end : (z : Coordinates) (link : List Edge) → AllByRecursion IsGood link
        → sum (at (pos 0) (λ (t : Term). t.end) eq z value) (flat_map terms_of link) ≡ sum (turn_at z) (thirds z link) *ℤ between z
    of_end z [] good = by (between z)
      where
        by : (s : ℤ) → pos 0 ≡ pos 0 *ℤ s
        by s = omega (arith, ints)
    of_end z (e ∷ link) good =
        ap (λ t. cond (eq z e.x) (sign e *ℤ between e.x) (pos 0) +ℤ (cond (eq z e.y) (neg_ℤ (sign e) *ℤ between e.y) (pos 0) +ℤ t)) (of_end z link good.1)
        ∙ by (eq z e.x) (eq z e.y) refl refl
      where
        by : (b c : Bool) → eq z e.x ≡ b → eq z e.y ≡ c
            → cond b (sign e *ℤ between e.x) (pos 0) +ℤ (cond c (neg_ℤ (sign e) *ℤ between e.y) (pos 0) +ℤ (sum (turn_at z) (thirds z link) *ℤ between z))
            ≡ sum (turn_at z) (cond b (e.y ∷ []) (cond c (e.x ∷ []) []) ++ thirds z link) *ℤ between z
        by true true f g = absurd (good.0.solid (subst (λ t. vol6 a e.x t q ≡ pos 0) (sym (same z e.x f) ∙ same z e.y g) (vol6_same_bc a e.x q)))
        by true false f g = ap (λ t. (int_signum (vol6 a t e.y q) *ℤ between t) +ℤ (pos 0 +ℤ (sum (turn_at z) (thirds z link) *ℤ between z))) (sym (same z e.x f)) ∙ first (turn_at z e.y) (between z) (sum (turn_at z) (thirds z link))
          where
            first : (s f t : ℤ) → (s *ℤ f) +ℤ (pos 0 +ℤ (t *ℤ f)) ≡ (s +ℤ t) *ℤ f
            first s f t = ring (entry (s ∷ f ∷ t ∷ [])) ((var 0 ⊗ var 1) ⊕ (con (pos 0) ⊕ (var 2 ⊗ var 1))) ((var 0 ⊕ var 2) ⊗ var 1) tt
        by false true f g =
            ap (λ t. pos 0 +ℤ ((neg_ℤ (int_signum (vol6 a e.x t q)) *ℤ between t) +ℤ (sum (turn_at z) (thirds z link) *ℤ between z))) (sym (same z e.y g))
            ∙ ap (λ t. pos 0 +ℤ ((neg_ℤ (int_signum t) *ℤ between z) +ℤ (sum (turn_at z) (thirds z link) *ℤ between z))) (vol6_exchange_bc a z e.x q)
            ∙ ap (λ t. pos 0 +ℤ ((t *ℤ between z) +ℤ (sum (turn_at z) (thirds z link) *ℤ between z))) (turned (vol6 a z e.x q))
            ∙ second (turn_at z e.x) (between z) (sum (turn_at z) (thirds z link))
          where
            turned : (s : ℤ) → neg_ℤ (int_signum (neg_ℤ s)) ≡ int_signum s
            turned (pos zero) = refl
            turned (pos (suc n)) = sym (signum_plus n)
            turned (negsuc n) = ap neg_ℤ (signum_plus n)

            second : (s f t : ℤ) → pos 0 +ℤ ((s *ℤ f) +ℤ (t *ℤ f)) ≡ (s +ℤ t) *ℤ f
            second s f t = ring (entry (s ∷ f ∷ t ∷ [])) (con (pos 0) ⊕ ((var 0 ⊗ var 1) ⊕ (var 2 ⊗ var 1))) ((var 0 ⊕ var 2) ⊗ var 1) tt
        by false false f g = third (sum (turn_at z) (thirds z link) *ℤ between z)
          where
            third : (s : ℤ) → pos 0 +ℤ (pos 0 +ℤ s) ≡ s
            third s = omega (arith, ints)

    -- that at each edge from a nothing lies between, or the triangles lie as often on one side as on the other
    abbrev pub AreEven : List Edge → Type 0
    AreEven link = (z : Coordinates) → (between z ≡ pos 0) ⊎ (sum (turn_at z) (thirds z link) ≡ pos 0)

    nothing_between : (link : List Edge) → AllByRecursion IsGood link → AreEven link → sum (λ e. sign e *ℤ (between e.x -ℤ between e.y)) link ≡ pos 0
    nothing_between link good even =
        as_terms link
        ∙ total-by_key (pos 0) (λ s t. s +ℤ t) left right regroup (λ (t : Term). t.end) eq same tied (flat_map terms_of link) [] value
        (λ z. of_end z link good ∙ ⊎_elim (λ e. no_second _ _ e) (λ e. no_first _ _ e) (even z))
      where
        left : (s : ℤ) → pos 0 +ℤ s ≡ s
        left s = omega (arith, ints)

        right : (s : ℤ) → s +ℤ pos 0 ≡ s
        right s = omega (arith, ints)

        regroup : (s t u w : ℤ) → (s +ℤ t) +ℤ (u +ℤ w) ≡ (s +ℤ u) +ℤ (t +ℤ w)
        regroup s t u w = omega (arith, ints)

        no_first : (s t : ℤ) → s ≡ pos 0 → s *ℤ t ≡ pos 0
        no_first s t e = ap (λ r. r *ℤ t) e ∙ by t
          where
            by : (t : ℤ) → pos 0 *ℤ t ≡ pos 0
            by t = omega (arith, ints)

        no_second : (s t : ℤ) → t ≡ pos 0 → s *ℤ t ≡ pos 0
        no_second s t e = ap (λ r. s *ℤ r) e ∙ by s
          where
            by : (s : ℤ) → s *ℤ pos 0 ≡ pos 0
            by s = omega (arith, ints)

    pub over_alike : (link : List Edge) → AllByRecursion IsGood link → AllByRecursion IsOff link → AreEven link
        → AnyByRecursion (λ e. is_over a e ≡ true) link ↔ AnyByRecursion (λ e. is_over v e ≡ true) link
    over_alike link good off even =
        let alike = steps link good off ∙ ap (λ t. sum (λ e. one (is_over v e)) link +ℤ t) (nothing_between link good even) ∙ last (sum (λ e. one (is_over v e)) link) in (
          (λ h. sum_some (is_over v) link (subst (λ s. pos 0 <ℤ s) alike (some_sum (is_over a) link h))),
          (λ h. sum_some (is_over a) link (subst (λ s. pos 0 <ℤ s) (sym alike) (some_sum (is_over v) link h))),
        )
      where
        last : (s : ℤ) → s +ℤ pos 0 ≡ s
        last s = omega (arith, ints)

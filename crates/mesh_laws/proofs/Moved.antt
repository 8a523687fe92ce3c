-- Near each point there is one that is off the planes of any triangles of a list, and on the sides where the first is.
use Rattle.std.proofs.Common.{◌≡◌, ◌≢◌, ⊎_elim, ℕ, zero, suc, ◌+◌, ◌<◌, true, ◌&&◌, List, [], ◌∷◌, refl, sym, subst, ◌∙◌, arith}
use Rattle.std.specs.Prelude.{ℤ, pos, negsuc, ◌+ℤ◌, ◌-ℤ◌, ◌*ℤ◌, ◌<ℤ◌, ◌≤ℤ◌, unsigned_abs}
use Rattle.std.specs.List.{AllByRecursion}
use Rattle.std.specs.Ordering.{int_eq}
use Rattle.std.proofs.lemmas.Bool.{false≢true}
use Rattle.std.proofs.lemmas.Int.{ints}
use Rattle.ma_geom.specs.Coordinates.{Coordinates}
use Rattle.ma_geom.specs.Lines.{is_zero, normal}
use Rattle.ma_geom.specs.Rational.{IsPoint, Rational, side}
use Rattle.ma_geom.proofs.Integers.{positive-*ℤ}
use Rattle.ma_geom.proofs.Reified.{Quadruple, place, point, point_and_places, side', cross', minus'}
use Rattle.ma_geom.proofs.Ring.{◌⊕◌, ◌⊗◌, ring}
use Rattle.ma_cells.proofs.Passing.{all_weaker}
use Rattle.ma_cover.specs.Inside.{are_alike}
use Rattle.mesh_laws.specs.Points.{IsMovedOffPlane, PointsMoveOffPlanes}
use Rattle.mesh_laws.proofs.Weights.{alike_some, is_or_not}

-- ---- a bound of what items have
module _ {X : Type 0} (f : X → ℕ) where
  pub bound : (xs : List X) → (m : ℕ) × AllByRecursion (λ x. f x < m) xs
  bound [] = (0, tt)
  bound (x ∷ xs) =
      let rest = bound xs in
      (suc (f x + rest.0), (omega arith, all_weaker (λ y. f y < rest.0) (λ y. f y < suc (f x + rest.0)) (λ y h. omega arith) xs rest.1))

-- ---- the point that is moved, the k-th part of the way (1, m, m * m)
abbrev moved_by : ℤ → ℤ → Rational → Rational
moved_by k m p = record {
  x = (k *ℤ p.x) +ℤ p.w;
  y = (k *ℤ p.y) +ℤ (p.w *ℤ m);
  z = (k *ℤ p.z) +ℤ (p.w *ℤ (m *ℤ m));
  w = k *ℤ p.w;
}

-- how far this way leads towards the side to which a vector points
abbrev along : ℤ → Coordinates → ℤ
along m n = n.x +ℤ (m *ℤ (n.y +ℤ (m *ℤ n.z)))

abbrev numbers : ℤ → ℤ → Coordinates
numbers k m = record { x = k; y = m; z = pos 0 }

side_moved : (k m : ℤ) (a b c : Coordinates) (p : Rational) → side a b c (moved_by k m p) ≡ (k *ℤ side a b c p) +ℤ (p.w *ℤ along m (normal a b c))
unfolding side normal
side_moved k m a b c p =
    let A = place 0 in
    let B = place 1 in
    let C = place 2 in
    let K = (place 3).x in
    let M = (place 3).y in
    let P = point in
    let N = cross' (minus' B A) (minus' C A) in
    let Q : Quadruple = record { x = (K ⊗ P.x) ⊕ P.w; y = (K ⊗ P.y) ⊕ (P.w ⊗ M); z = (K ⊗ P.z) ⊕ (P.w ⊗ (M ⊗ M)); w = K ⊗ P.w } in
    ring (point_and_places p (a ∷ b ∷ c ∷ numbers k m ∷ [])) (side' A B C Q) ((K ⊗ side' A B C P) ⊕ (P.w ⊗ (N.x ⊕ (M ⊗ (N.y ⊕ (M ⊗ N.z)))))) tt

-- ---- a small number beside a multiple
more : (m : ℤ) (k : ℕ) → pos 0 ≤ℤ m → m ≤ℤ (m *ℤ pos (suc k))
more (pos m) k h = omega (arith, ints)
more (negsuc m) k h = absurd (omega (arith, ints))

less : (m : ℤ) (k : ℕ) → pos 0 ≤ℤ m → (m *ℤ negsuc k) ≤ℤ (pos 0 -ℤ m)
less (pos m) k h = omega (arith, ints)
less (negsuc m) k h = absurd (omega (arith, ints))

-- a multiple of a number prevails over what is less
pub alike_multiple : (k : ℕ) (s e : ℤ) → unsigned_abs e < k → s ≢ pos 0 → are_alike s ((pos k *ℤ s) +ℤ e) ≡ true
alike_multiple k (pos zero) e h g = absurd (g refl)
alike_multiple k (pos (suc n)) e h g = by n (pos k *ℤ pos (suc n)) e k h (more (pos k) n (omega (arith, ints)))
  where
    by : (n : ℕ) (y e : ℤ) (k : ℕ) → unsigned_abs e < k → pos k ≤ℤ y → are_alike (pos (suc n)) (y +ℤ e) ≡ true
    by n y e k h f = grind (arith, ints)
alike_multiple k (negsuc n) e h g = by n (pos k *ℤ negsuc n) e k h (less (pos k) n (omega (arith, ints)))
  where
    by : (n : ℕ) (y e : ℤ) (k : ℕ) → unsigned_abs e < k → y ≤ℤ (pos 0 -ℤ pos k) → are_alike (negsuc n) (y +ℤ e) ≡ true
    by n y e k h f = grind (arith, ints)

nothing_left : (m : ℕ) (x u : ℤ) → unsigned_abs x < m → x +ℤ (pos m *ℤ u) ≡ pos 0 → (x ≡ pos 0) × (u ≡ pos 0)
nothing_left m x u h e =
    ⊎_elim (λ none. (only m x u none e, none))
    (λ some. absurd ((alike_some u ((pos m *ℤ u) +ℤ x) (alike_multiple m u x h some)).1 (turned (pos m *ℤ u) x e)))
    (is_or_not u)
  where
    only : (m : ℕ) (x u : ℤ) → u ≡ pos 0 → x +ℤ (pos m *ℤ u) ≡ pos 0 → x ≡ pos 0
    only m x u none e = by m x (rw none at e)
      where
        by : (m : ℕ) (x : ℤ) → x +ℤ (pos m *ℤ pos 0) ≡ pos 0 → x ≡ pos 0
        by m x e = omega (arith, ints)

    turned : (s t : ℤ) → t +ℤ s ≡ pos 0 → s +ℤ t ≡ pos 0
    turned s t e = omega (arith, ints)

-- ---- a vector that isn't zero leads off its plane
size : Coordinates → ℕ
size n = unsigned_abs n.x + (unsigned_abs n.y + unsigned_abs n.z)

none_along : (m : ℕ) (n : Coordinates) → size n < m → along (pos m) n ≡ pos 0 → is_zero n ≡ true
unfolding size
none_along m n h e =
    let first = nothing_left m n.x (n.y +ℤ (pos m *ℤ n.z)) (omega arith) e in
    let second = nothing_left m n.y n.z (omega arith) first.1 in
    all n.x n.y n.z first.0 second.0 second.1
  where
    all : (x y z : ℤ) → x ≡ pos 0 → y ≡ pos 0 → z ≡ pos 0 → (int_eq x (pos 0) && int_eq y (pos 0) && int_eq z (pos 0)) ≡ true
    all x y z e f g = rw (e, f, g) refl

none_times : (w u : ℤ) → pos 0 <ℤ w → w *ℤ u ≡ pos 0 → u ≡ pos 0
none_times (pos zero) u h e = absurd (omega (arith, ints))
none_times (negsuc w) u h e = absurd (omega (arith, ints))
none_times (pos (suc w)) (pos zero) h e = refl
none_times (pos (suc w)) (pos (suc n)) h e = absurd (omega (arith, ints))
none_times (pos (suc w)) (negsuc n) h e = absurd (omega (arith, ints))

-- ---- one triangle
near : (p : Rational) → IsPoint p → (k m : ℕ) (a b c : Coordinates) → size (normal a b c) < m → unsigned_abs (p.w *ℤ along (pos m) (normal a b c)) < k
    → IsMovedOffPlane p (moved_by (pos k) (pos m) p) (a ∷ b ∷ c ∷ [])
near p is_point k m a b c small far = record {
  kept = λ there. subst (λ t. are_alike (side a b c p) t ≡ true) (sym is) (alike_multiple k (side a b c p) e far there);
  off = λ bent none.
      let here = nothing_left k e (side a b c p) far (turned (pos k *ℤ side a b c p) e (sym is ∙ none)) in
      false≢true (sym bent ∙ none_along m (normal a b c) small (none_times p.w (along (pos m) (normal a b c)) is_point.positive here.0));
}
  where
    e : ℤ
    e = p.w *ℤ along (pos m) (normal a b c)

    is : side a b c (moved_by (pos k) (pos m) p) ≡ (pos k *ℤ side a b c p) +ℤ e
    is = side_moved (pos k) (pos m) a b c p

    turned : (s t : ℤ) → s +ℤ t ≡ pos 0 → t +ℤ s ≡ pos 0
    turned s t e = omega (arith, ints)

-- ---- a list of them
abbrev size_of : List Coordinates → ℕ
size_of (a ∷ b ∷ c ∷ []) = size (normal a b c)
size_of _ = 0

abbrev way_of : Rational → ℕ → List Coordinates → ℕ
way_of p m (a ∷ b ∷ c ∷ []) = unsigned_abs (p.w *ℤ along (pos m) (normal a b c))
way_of p m _ = 0

pub points_move_off_planes : PointsMoveOffPlanes
points_move_off_planes p is_point triangles =
    let m = bound size_of triangles in
    let k = bound (way_of p m.0) triangles in
    (moved_by (pos (suc k.0)) (pos m.0) p, positive m.0 k.0, each m.0 k.0 triangles m.1 k.1)
  where
    positive : (m k : ℕ) → IsPoint (moved_by (pos (suc k)) (pos m) p)
    positive m k = record { positive = positive-*ℤ (pos (suc k)) p.w (omega (arith, ints)) is_point.positive }

    each : (m k : ℕ) (ts : List (List Coordinates)) → AllByRecursion (λ t. size_of t < m) ts → AllByRecursion (λ t. way_of p m t < k) ts
        → AllByRecursion (IsMovedOffPlane p (moved_by (pos (suc k)) (pos m) p)) ts
    each m k [] g h = tt
    each m k (t ∷ ts) g h = (one t g.0 h.0, each m k ts g.1 h.1)
      where
        one : (t : List Coordinates) → size_of t < m → way_of p m t < k → IsMovedOffPlane p (moved_by (pos (suc k)) (pos m) p) t
        one (a ∷ b ∷ c ∷ []) g h = near p is_point (suc k) m a b c g (omega arith)
        one [] g h = record { off = tt; kept = tt }
        one (a ∷ []) g h = record { off = tt; kept = tt }
        one (a ∷ b ∷ []) g h = record { off = tt; kept = tt }
        one (a ∷ b ∷ c ∷ d ∷ l) g h = record { off = tt; kept = tt }

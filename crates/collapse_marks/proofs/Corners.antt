-- Triangles at a vertex a, by the edge across from it: their plane, and their third corners at an edge.
use Rattle.std.proofs.Common.{◌≡◌, ◌≢◌, ◌⊎◌, inl, inr, Bool, true, false, cond, not, ◌&&◌, ◌||◌, List, [], ◌∷◌, Option, Some, None, refl, sym, ap, ap₂, subst, ◌∙◌, arith}
use Rattle.std.specs.Prelude.{ℤ, pos, neg_ℤ}
use Rattle.std.specs.List.Sorted.{IsPermutation}
use Rattle.std.specs.Ordering.{eq_by_cmp, int_eq}
use Rattle.std.proofs.lemmas.Int.{ints}
use Rattle.std.proofs.lemmas.List.Sorted.{IsPermutation-refl, IsPermutation-swap, IsPermutation-trans}
use Rattle.ma_geom.specs.Coordinates.{Coordinates, place_cmp}
use Rattle.ma_geom.specs.Lines.{collinear, coplanar, normal}
use Rattle.ma_geom.proofs.Identities.{vol6_exchange_ab, vol6_turn_abc}
use Rattle.ma_geom.proofs.Reified.{Triple, cross', minus', place, places}
use Rattle.ma_geom.proofs.Ring.{neg, ring}
use Rattle.ma_cells.specs.Ascending.{are_distinct}
use Rattle.ma_cells.proofs.Permutations.{apart, same, tied}
use Rattle.cavity_collapse.specs.Surfaces.{corner_beyond, corners_across, lies_in_plane}
use Rattle.plane_laws.specs.Planes.{Edge}
use Rattle.collapse_marks.specs.Marks.{is_bent}
use Rattle.moved_cells.proofs.Moved.{eq_turned, not_and, or_parts}

abbrev eq : Coordinates → Coordinates → Bool
eq = eq_by_cmp place_cmp

abbrev edge : Coordinates → Coordinates → Edge
edge x y = record { x = x; y = y }

-- ---- places on a line, in another order
pub exchanged_sign : (s t : ℤ) → s ≡ neg_ℤ t → int_eq s (pos 0) ≡ int_eq t (pos 0)
exchanged_sign s t e = grind (arith, ints)

abbrev normal' : Triple → Triple → Triple → Triple
normal' a b c = cross' (minus' b a) (minus' c a)

pub collinear_exchanged : (a b c : Coordinates) → collinear b a c ≡ collinear a b c
unfolding normal
collinear_exchanged a b c =
    let N = normal' (place 0) (place 1) (place 2) in
    let M = normal' (place 1) (place 0) (place 2) in
    let vars = places (a ∷ b ∷ c ∷ []) in
    ap₂ (λ s t. s && t)
    (ap₂ (λ s t. s && t) (exchanged_sign (normal b a c).x (normal a b c).x (ring vars M.x (neg N.x) tt)) (exchanged_sign (normal b a c).y (normal a b c).y (ring vars M.y (neg N.y) tt)))
    (exchanged_sign (normal b a c).z (normal a b c).z (ring vars M.z (neg N.z) tt))

collinear_turned : (a b c : Coordinates) → collinear b c a ≡ collinear a b c
unfolding normal
collinear_turned a b c =
    let N = normal' (place 0) (place 1) (place 2) in
    let M = normal' (place 1) (place 2) (place 0) in
    let vars = places (a ∷ b ∷ c ∷ []) in
    let is = λ (s t : ℤ) (e : s ≡ t). ap (λ r. int_eq r (pos 0)) e in
    ap₂ (λ s t. s && t) (ap₂ (λ s t. s && t) (is (normal b c a).x (normal a b c).x (ring vars M.x N.x tt)) (is (normal b c a).y (normal a b c).y (ring vars M.y N.y tt))) (is (normal b c a).z (normal a b c).z (ring vars M.z N.z tt))

-- ---- three corners
-- the third corner at the edge from a to z
abbrev pub beyond : Coordinates → Edge → Option Coordinates
beyond z e = cond (eq z e.x) (Some e.y) (cond (eq z e.y) (Some e.x) None)

pub record IsAt (a : Coordinates) (e : Edge) (t : List Coordinates) : Type 0 where
  pub across : corners_across a t ≡ Some (e.x, e.y)
  pub order : IsPermutation (a ∷ e.x ∷ e.y ∷ []) t
  pub plane : (v : Coordinates) → lies_in_plane v t ≡ coplanar a e.x e.y v
  pub bent : is_bent t ≡ not (collinear a e.x e.y)
  pub thirds : (z : Coordinates) → a ≢ z → corner_beyond a z t ≡ beyond z e

pub record IsAway (a : Coordinates) (t : List Coordinates) : Type 0 where
  pub across : corners_across a t ≡ None
  pub thirds : (z : Coordinates) → corner_beyond a z t ≡ None

pub distinct_three : (p q r : Coordinates) → are_distinct place_cmp (p ∷ q ∷ r ∷ []) ≡ true → (eq p q ≡ false) × (eq p r ≡ false) × (eq q r ≡ false)
distinct_three p q r h =
    let first = not_and (eq p q || (eq p r || false)) (not (eq q r || false) && (not false && true)) h in
    let two = or_parts (eq p q) (eq p r || false) first.0 in
    (two.0, (or_parts (eq p r) false two.1).0, (or_parts (eq q r) false (not_and (eq q r || false) (not false && true) first.1).0).0)

last_option : (s : Bool) (x : Coordinates) (o : Option Coordinates) → cond ((s || false) && true) (Some x) o ≡ cond s (Some x) o
last_option true x o = refl
last_option false x o = refl

at_first : (a q r : Coordinates) → are_distinct place_cmp (a ∷ q ∷ r ∷ []) ≡ true → IsAt a (edge q r) (a ∷ q ∷ r ∷ [])
at_first a q r h =
    let (aq, ar, qr) = distinct_three a q r h in
    record {
      across = rw (tied a) refl;
      order = IsPermutation-refl (a ∷ q ∷ r ∷ []);
      plane = λ v. refl;
      bent = refl;
      thirds = λ z differ. rw (tied a, apart z a (λ e. differ (sym e)), aq, ar) (last_option (eq z q) r (cond ((eq z r || false) && true) (Some q) None) ∙ ap (cond (eq z q) (Some r)) (last_option (eq z r) q None));
    }

at_second : (a p r : Coordinates) → are_distinct place_cmp (p ∷ a ∷ r ∷ []) ≡ true → IsAt a (edge p r) (p ∷ a ∷ r ∷ [])
at_second a p r h =
    let (pa, pr, ar) = distinct_three p a r h in
    record {
      across = rw (pa, tied a) refl;
      order = IsPermutation-swap (a ∷ p ∷ r ∷ []) (p ∷ a ∷ r ∷ []) 0 1 (omega arith) (omega arith) refl;
      plane = λ v. exchanged_sign _ _ (vol6_exchange_ab a p r v);
      bent = ap not (collinear_exchanged a p r);
      thirds = λ z differ. rw (eq_turned a p, pa, tied a, apart z a (λ e. differ (sym e)), ar) (last_option (eq z p) r (cond ((eq z r || false) && true) (Some p) None) ∙ ap (cond (eq z p) (Some r)) (last_option (eq z r) p None));
    }

at_third : (a p q : Coordinates) → are_distinct place_cmp (p ∷ q ∷ a ∷ []) ≡ true → IsAt a (edge p q) (p ∷ q ∷ a ∷ [])
at_third a p q h =
    let (pq, pa, qa) = distinct_three p q a h in
    record {
      across = rw (pa, qa, tied a) refl;
      order =
          IsPermutation-trans (a ∷ p ∷ q ∷ []) (p ∷ a ∷ q ∷ []) (p ∷ q ∷ a ∷ [])
          (IsPermutation-swap (a ∷ p ∷ q ∷ []) (p ∷ a ∷ q ∷ []) 0 1 (omega arith) (omega arith) refl)
          (IsPermutation-swap (p ∷ a ∷ q ∷ []) (p ∷ q ∷ a ∷ []) 1 2 (omega arith) (omega arith) refl);
      plane = λ v. ap (λ s. int_eq s (pos 0)) (vol6_turn_abc a p q v);
      bent = ap not (collinear_turned a p q);
      thirds = λ z differ. rw (eq_turned a p, pa, eq_turned a q, qa, tied a, apart z a (λ e. differ (sym e))) (last_option (eq z p) q (cond ((eq z q || false) && true) (Some p) None) ∙ ap (cond (eq z p) (Some q)) (last_option (eq z q) p None));
    }

-- a triangle is at a, or isn't
pub at_or_away : (a : Coordinates) (t : List Coordinates) → are_distinct place_cmp t ≡ true → ((e : Edge) × IsAt a e t) ⊎ IsAway a t
at_or_away a [] h = inr (record { across = refl; thirds = λ z. refl })
at_or_away a (p ∷ []) h = inr (record { across = refl; thirds = λ z. refl })
at_or_away a (p ∷ q ∷ []) h = inr (record { across = refl; thirds = λ z. refl })
at_or_away a (p ∷ q ∷ r ∷ s ∷ l) h = inr (record { across = refl; thirds = λ z. refl })
at_or_away a (p ∷ q ∷ r ∷ []) h = by (eq p a) (eq q a) (eq r a) refl refl refl
  where
    by : (b c d : Bool) → eq p a ≡ b → eq q a ≡ c → eq r a ≡ d → ((e : Edge) × IsAt a e (p ∷ q ∷ r ∷ [])) ⊎ IsAway a (p ∷ q ∷ r ∷ [])
    by true c d e f g = inl (edge q r, subst (λ s. IsAt a (edge q r) (s ∷ q ∷ r ∷ [])) (sym (same p a e)) (at_first a q r (subst (λ s. are_distinct place_cmp (s ∷ q ∷ r ∷ []) ≡ true) (same p a e) h)))
    by false true d e f g = inl (edge p r, subst (λ s. IsAt a (edge p r) (p ∷ s ∷ r ∷ [])) (sym (same q a f)) (at_second a p r (subst (λ s. are_distinct place_cmp (p ∷ s ∷ r ∷ []) ≡ true) (same q a f) h)))
    by false false true e f g = inl (edge p q, subst (λ s. IsAt a (edge p q) (p ∷ q ∷ s ∷ [])) (sym (same r a g)) (at_third a p q (subst (λ s. are_distinct place_cmp (p ∷ q ∷ s ∷ []) ≡ true) (same r a g) h)))
    by false false false e f g = inr (record { across = rw (e, f, g) refl; thirds = λ z. rw (eq_turned a p, e, eq_turned a q, f, eq_turned a r, g) refl })

-- The cones of a cavity keep its cover.
use Rattle.std.proofs.Common.{◌≡◌, ◌≢◌, ℕ, zero, suc, ◌+◌, ◌⊎◌, inl, inr, ⊎_elim, Bool, true, false, cond, ◌||◌, List, [], ◌∷◌, ◌++◌, refl, sym, ap, ap₂, ◌∙◌, arith}
use Rattle.std.specs.Prelude.{ℤ, pos, negsuc, ◌+ℤ◌, ◌-ℤ◌, ◌*ℤ◌, neg_ℤ}
use Rattle.std.specs.Int.{int_signum}
use Rattle.std.specs.List.{AllByRecursion, count_by, flat_map}
use Rattle.std.specs.List.Sorted.{IsPermutation}
use Rattle.std.specs.Ordering.{int_eq}
use Rattle.std.proofs.lemmas.Int.{ints}
use Rattle.std.proofs.lemmas.List.Sorted.{IsPermutation-refl, length_permutation}
use Rattle.ma_geom.specs.Coordinates.{Coordinates}
use Rattle.ma_geom.specs.Lines.{is_flat}
use Rattle.ma_geom.specs.Rational.{Rational, side}
use Rattle.ma_geom.specs.Volume.{vol6}
use Rattle.ma_geom.proofs.Identities.{vol6_exchange_cd, vol6_turn_bcd}
use Rattle.ma_geom.proofs.Ring.{var, con, neg, ◌⊕◌, ◌⊖◌, ◌⊗◌, entry, ring}
use Rattle.ma_cells.specs.Faces.{faces_of}
use Rattle.ma_cells.proofs.Choices.{all-append}
use Rattle.ma_cells.proofs.Pieces.{four_corners, solid_corners}
use Rattle.ma_cells.proofs.Passing.{all_weaker}
use Rattle.ma_cover.specs.Inside.{are_alike, is_beside, is_inside}
use Rattle.ma_cover.proofs.Exchanges.{inside_in_any_order}
use Rattle.ma_cover.proofs.OffFaces.{all_four}
use Rattle.mesh_laws.specs.FivePlaces.{enclosed}
use Rattle.mesh_laws.specs.Points.{IsMovedOffFaces, IsOffPlane, IsMovedOffPlane}
use Rattle.mesh_laws.proofs.FivePlaces.{five_places_cancel}
pub use Rattle.mesh_laws.proofs.Lists.{all_parts, all_split}
use Rattle.mesh_laws.proofs.Lists.{count-cons}
use Rattle.mesh_laws.proofs.MovedOff.{covered_alike, covered_nowhere, move_off, point_or_not}
use Rattle.mesh_laws.proofs.Weights.{alike_some, by_four, turned_a}
use Rattle.cavity_laws.specs.Filled.{AreReordered, FillingKeepsCover}
use Rattle.cavity_laws.specs.Cavity.{AreOnOneSide, CavityKeepsCover, Facet, IsCavity, balance, cone_of, cones, facets_of, side_number, total}
pub use Rattle.cavity_laws.proofs.Totals.{sgn_alike, sgn_positive, sgn_turned}
use Rattle.cavity_laws.proofs.Totals.{balanced_total, one_if, total-append, total-count_by, weighed}

-- ---- no cone is flat
pub cones_solid : (v : Coordinates) (inner : List Coordinates → Bool) (facets : List Facet) → AllByRecursion (λ corners. is_flat corners ≡ false) (flat_map (cone_of v inner) facets)
cones_solid v inner [] = tt
cones_solid v inner (x ∷ facets) =
    all-append (λ corners. is_flat corners ≡ false) (cone_of v inner x) (flat_map (cone_of v inner) facets) (one (inner x.face) (is_flat (v ∷ x.face)) refl) (cones_solid v inner facets)
  where
    one : (i f : Bool) → is_flat (v ∷ x.face) ≡ f → AllByRecursion (λ corners. is_flat corners ≡ false) (cond (i || f) [] ((v ∷ x.face) ∷ []))
    one true f e = tt
    one false true e = tt
    one false false e = (e, tt)

module _ (q : Rational) (v : Coordinates) where
  abbrev within : List Coordinates → ℤ
  within corners = one_if (is_inside q corners)

  -- what a face encloses with v
  abbrev shade : List Coordinates → ℤ
  shade (a ∷ b ∷ c ∷ []) = neg_ℤ (enclosed q v a b c)
  shade _ = pos 0

  abbrev term : Facet → ℤ
  term x = side_number x.face x.across *ℤ shade x.face

  within_is : (a b c d : Coordinates) → within (a ∷ b ∷ c ∷ d ∷ []) ≡ int_signum (vol6 a b c d) *ℤ enclosed q a b c d
  within_is a b c d =
      by (is_inside q (a ∷ b ∷ c ∷ d ∷ [])) (vol6 a b c d)
      (λ h. (alike_some (vol6 a b c d) (side a b c q) (all_four (is_beside b c d a q) (is_beside a c d b q) (is_beside a b d c q) (is_beside a b c d q) h).3).0)
    where
      by : (b : Bool) (s : ℤ) → (b ≡ true → s ≢ pos 0) → one_if b ≡ int_signum s *ℤ cond b (int_signum s) (pos 0)
      by true (pos zero) h = absurd (h refl refl)
      by true (pos (suc n)) h = sym (ap₂ (λ s t. s *ℤ t) (sgn_positive n) (sgn_positive n))
      by true (negsuc n) h = refl
      by false s h = none (int_signum s)
        where
          none : (s : ℤ) → pos 0 ≡ s *ℤ pos 0
          none s = omega (arith, ints)

  -- ---- a tetrahedron is the sum over its facets
  tet_terms : (corners : List Coordinates) → is_flat corners ≡ false → AllByRecursion (IsOffPlane q) (faces_of (v ∷ corners)) → within corners ≡ total term (facets_of corners)
  tet_terms = by_four (λ corners. AllByRecursion (IsOffPlane q) (faces_of (v ∷ corners)) → within corners ≡ total term (facets_of corners)) (λ a b c d solid off.
      within_is a b c d
      ∙ summed (int_signum (vol6 a b c d)) (int_signum (vol6 a b d c)) (int_signum (vol6 a c d b)) (int_signum (vol6 b c d a))
      (enclosed q a b c d) (enclosed q v b c d) (enclosed q v a c d) (enclosed q v a b d) (enclosed q v a b c) (five_places_cancel q v a b c d off)
      (sgn_turned (vol6 a b d c) (vol6 a b c d) (vol6_exchange_cd a b c d)) (ap int_signum (vol6_turn_bcd a b c d)) (sgn_turned (vol6 b c d a) (vol6 a b c d) (turned_a a b c d)))
    where
      summed : (s c b a e x y z t : ℤ) → (((e -ℤ x) +ℤ y) -ℤ z) +ℤ t ≡ pos 0 → c ≡ neg_ℤ s → b ≡ s → a ≡ neg_ℤ s
          → s *ℤ e ≡ (s *ℤ neg_ℤ t) +ℤ ((c *ℤ neg_ℤ z) +ℤ ((b *ℤ neg_ℤ y) +ℤ ((a *ℤ neg_ℤ x) +ℤ pos 0)))
      summed s c b a e x y z t h turn_c turn_b turn_a = rw (turn_c, turn_b, turn_a, only e x y z t h) (
          ring (entry (s ∷ t ∷ x ∷ y ∷ z ∷ []))
          (var 0 ⊗ (((var 2 ⊖ var 3) ⊕ var 4) ⊖ var 1))
          ((var 0 ⊗ neg (var 1)) ⊕ ((neg (var 0) ⊗ neg (var 4)) ⊕ ((var 0 ⊗ neg (var 3)) ⊕ ((neg (var 0) ⊗ neg (var 2)) ⊕ con (pos 0))))) tt)
        where
          only : (e x y z t : ℤ) → (((e -ℤ x) +ℤ y) -ℤ z) +ℤ t ≡ pos 0 → e ≡ ((x -ℤ y) +ℤ z) -ℤ t
          only e x y z t h = omega (arith, ints)

  list_terms : (tets : List (List Coordinates)) → AllByRecursion (λ corners. is_flat corners ≡ false) tets → AllByRecursion (λ corners. AllByRecursion (IsOffPlane q) (faces_of (v ∷ corners))) tets
      → total within tets ≡ total term (flat_map facets_of tets)
  list_terms [] solid off = refl
  list_terms (t ∷ tets) solid off =
      ap₂ (λ x y. x +ℤ y) (tet_terms t solid.0 off.0) (list_terms tets solid.1 off.1) ∙ sym (total-append term (facets_of t) (flat_map facets_of tets))

  -- ---- a facet is what is inner, and the cone over what isn't
  module _ (inner : List Coordinates → Bool) where
    abbrev inner_shade : List Coordinates → ℤ
    inner_shade face = cond (inner face) (shade face) (pos 0)

    outer_term : (a b c d : Coordinates) (f : Bool) → int_eq (vol6 v a b c) (pos 0) ≡ f → (f ≡ false → are_alike (vol6 a b c d) (vol6 a b c v) ≡ true)
        → int_signum (vol6 a b c d) *ℤ neg_ℤ (enclosed q v a b c) ≡ (int_signum (vol6 a b c d) *ℤ pos 0) +ℤ total within (cond f [] ((v ∷ a ∷ b ∷ c ∷ []) ∷ []))
    outer_term a b c d true e seen = by (int_signum (vol6 a b c d)) (is_inside q (v ∷ a ∷ b ∷ c ∷ [])) (vol6 v a b c) (is_zero (vol6 v a b c) e)
      where
        is_zero : (x : ℤ) → int_eq x (pos 0) ≡ true → x ≡ pos 0
        is_zero x h = grind (arith, ints)

        none : (s : ℤ) → s *ℤ pos 0 ≡ (s *ℤ pos 0) +ℤ pos 0
        none s = omega (arith, ints)

        by : (s : ℤ) (b : Bool) (t : ℤ) → t ≡ pos 0 → s *ℤ neg_ℤ (cond b (int_signum t) (pos 0)) ≡ (s *ℤ pos 0) +ℤ pos 0
        by s true t e = rw e (none s)
        by s false t e = none s
    outer_term a b c d false e seen =
        by (int_signum (vol6 a b c d)) (int_signum (vol6 v a b c)) (enclosed q v a b c) (within (v ∷ a ∷ b ∷ c ∷ []))
        (sgn_alike (vol6 a b c d) (vol6 a b c v) (seen refl) ∙ sgn_turned (vol6 a b c v) (vol6 v a b c) (turned_a v a b c)) (within_is v a b c)
      where
        by : (s t e k : ℤ) → s ≡ neg_ℤ t → k ≡ t *ℤ e → s *ℤ neg_ℤ e ≡ (s *ℤ pos 0) +ℤ (k +ℤ pos 0)
        by s t e k turn is = rw (is, turn) (ring (entry (t ∷ e ∷ [])) (neg (var 0) ⊗ neg (var 1)) ((neg (var 0) ⊗ con (pos 0)) ⊕ ((var 0 ⊗ var 1) ⊕ con (pos 0))) tt)

    facet_term : (face : List Coordinates) (d : Coordinates) (i : Bool) → ((i || is_flat (v ∷ face)) ≡ false → AreOnOneSide face d v)
        → side_number face d *ℤ shade face ≡ (side_number face d *ℤ cond i (shade face) (pos 0)) +ℤ total within (cond (i || is_flat (v ∷ face)) [] ((v ∷ face) ∷ []))
    facet_term face d true seen = by (side_number face d *ℤ shade face)
      where
        by : (t : ℤ) → t ≡ t +ℤ pos 0
        by t = omega (arith, ints)
    facet_term (a ∷ b ∷ c ∷ []) d false seen = outer_term a b c d (int_eq (vol6 v a b c) (pos 0)) refl seen
    facet_term [] d false seen = refl
    facet_term (a ∷ []) d false seen = refl
    facet_term (a ∷ b ∷ []) d false seen = refl
    facet_term (a ∷ b ∷ c ∷ e ∷ l) d false seen = refl

    facet_terms : (facets : List Facet) → AllByRecursion (λ x. (inner x.face || is_flat (v ∷ x.face)) ≡ false → AreOnOneSide x.face x.across v) facets
        → total term facets ≡ weighed inner_shade facets +ℤ total within (flat_map (cone_of v inner) facets)
    facet_terms [] seen = refl
    facet_terms (x ∷ facets) seen =
        ap₂ (λ s t. s +ℤ t) (facet_term x.face x.across (inner x.face) seen.0) (facet_terms facets seen.1)
        ∙ by (side_number x.face x.across *ℤ inner_shade x.face) (total within (cone_of v inner x)) (weighed inner_shade facets) (total within (flat_map (cone_of v inner) facets))
        ∙ ap (λ t. weighed inner_shade (x ∷ facets) +ℤ t) (sym (total-append within (cone_of v inner x) (flat_map (cone_of v inner) facets)))
      where
        by : (a b c d : ℤ) → (a +ℤ b) +ℤ (c +ℤ d) ≡ (a +ℤ c) +ℤ (b +ℤ d)
        by a b c d = omega (arith, ints)

    -- ---- the cavity, off all planes
    off_planes : (tets : List (List Coordinates)) → IsCavity v inner tets → AllByRecursion (IsOffPlane q) (flat_map (λ corners. faces_of (v ∷ corners)) tets)
        → count_by (is_inside q) (cones v inner tets) ≡ count_by (is_inside q) tets
    off_planes tets cavity off =
        let facets = flat_map facets_of tets in
        counts _ _ (weighed inner_shade facets) (list_terms tets cavity.solid (all_parts (IsOffPlane q) (λ corners. faces_of (v ∷ corners)) tets off)) (facet_terms facets cavity.seen)
        (balanced_total facets inner_shade (λ face. cancels face (inner face) (cavity.balanced face))) (total-count_by (is_inside q) tets) (total-count_by (is_inside q) (cones v inner tets))
      where
        cancels : (face : List Coordinates) (b : Bool) → (b ≡ true → balance face (flat_map facets_of tets) ≡ pos 0)
            → (cond b (shade face) (pos 0) ≡ pos 0) ⊎ (balance face (flat_map facets_of tets) ≡ pos 0)
        cancels face true h = inr (h refl)
        cancels face false h = inl refl

        counts : (m n : ℕ) (w : ℤ) {s t u : ℤ} → s ≡ t → t ≡ w +ℤ u → w ≡ pos 0 → s ≡ pos m → u ≡ pos n → n ≡ m
        counts m n w {s = s} {t = t} {u = u} e f g h k = omega (arith, ints)

-- ---- corners in any order
pub solid_moved : (s t : List Coordinates) → IsPermutation s t → is_flat s ≡ false → is_flat t ≡ false
solid_moved s (a ∷ b ∷ c ∷ d ∷ []) moved h = some (vol6 a b c d) (solid_corners s a b c d moved h)
  where
    some : (x : ℤ) → x ≢ pos 0 → int_eq x (pos 0) ≡ false
    some x h = grind (arith, ints)
solid_moved s [] moved h = absurd (omega (arith, length_permutation s [] moved, four_corners s h))
solid_moved s (a ∷ []) moved h = absurd (omega (arith, length_permutation s (a ∷ []) moved, four_corners s h))
solid_moved s (a ∷ b ∷ []) moved h = absurd (omega (arith, length_permutation s (a ∷ b ∷ []) moved, four_corners s h))
solid_moved s (a ∷ b ∷ c ∷ []) moved h = absurd (omega (arith, length_permutation s (a ∷ b ∷ c ∷ []) moved, four_corners s h))
solid_moved s (a ∷ b ∷ c ∷ d ∷ e ∷ l) moved h = absurd (omega (arith, length_permutation s (a ∷ b ∷ c ∷ d ∷ e ∷ l) moved, four_corners s h))

-- what holds of each of some tetrahedra in whatever order of its corners, holds of each of those that are reordered
pub reordered : (P Q : List Coordinates → Type 0) → ((s t : List Coordinates) → IsPermutation s t → P s → Q t) → (ss ts : List (List Coordinates)) → AreReordered ss ts
    → AllByRecursion P ss → AllByRecursion Q ts
reordered P Q each [] [] h all = tt
reordered P Q each [] (t ∷ ts) h all = absurd h
reordered P Q each (s ∷ ss) [] h all = absurd h
reordered P Q each (s ∷ ss) (t ∷ ts) h all = (each s t h.0 all.0, reordered P Q each ss ts h.1 all.1)

reordered_count : (p : Rational) (ss ts : List (List Coordinates)) → AreReordered ss ts → count_by (is_inside p) ts ≡ count_by (is_inside p) ss
reordered_count p [] [] h = refl
reordered_count p [] (t ∷ ts) h = absurd h
reordered_count p (s ∷ ss) [] h = absurd h
reordered_count p (s ∷ ss) (t ∷ ts) h =
    count-cons (is_inside p) t ts ∙ ap₂ (λ (b : Bool) (n : ℕ). cond b 1 0 + n) (inside_in_any_order p s t h.0) (reordered_count p ss ts h.1) ∙ sym (count-cons (is_inside p) s ss)

reordered_itself : (ts : List (List Coordinates)) → AreReordered ts ts
reordered_itself [] = tt
reordered_itself (t ∷ ts) = (IsPermutation-refl t, reordered_itself ts)

-- ---- at each point
pub filling_keeps_cover : FillingKeepsCover
filling_keeps_cover p v inner tets filling cavity same off off_filling =
    ⊎_elim (λ is_point.
    let triangles = flat_map (λ corners. faces_of (v ∷ corners)) tets in
    let solid = reordered (λ c. is_flat c ≡ false) (λ c. is_flat c ≡ false) solid_moved (cones v inner tets) filling same (cones_solid v inner (flat_map facets_of tets)) in
    let near = move_off it p is_point (tets ++ filling) triangles (all-append (λ corners. is_flat corners ≡ false) tets filling cavity.solid solid) in
    let q = near.0 in
    let moved = all_split (λ corners. IsMovedOffFaces p q corners) tets filling near.2 in
    sym (covered_alike it any p q filling off_filling moved.1)
    ∙ reordered_count q (cones v inner tets) filling same
    ∙ off_planes q v inner tets cavity (all_weaker (IsMovedOffPlane p q) (IsOffPlane q) (λ triangle m. m.off) triangles near.3)
    ∙ covered_alike it any p q tets off moved.0)
    (λ no_point. covered_nowhere it any p no_point filling ∙ sym (covered_nowhere it any p no_point tets)) (point_or_not p)
  where
    it : List Coordinates → List Coordinates
    it corners = corners

    any : List Coordinates → Bool
    any _ = true

pub cavity_keeps_cover : CavityKeepsCover
cavity_keeps_cover p v inner tets cavity = filling_keeps_cover p v inner tets (cones v inner tets) cavity (reordered_itself (cones v inner tets))

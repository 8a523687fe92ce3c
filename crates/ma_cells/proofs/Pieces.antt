-- What bisecting a tetrahedron at a middle gives: two tetrahedra, neither of them flat.
use Rattle.std.proofs.Common.{◌≡◌, ◌≢◌, Bool, true, false, cond, List, [], ◌∷◌, length, refl, sym, ap, subst, ◌∙◌, arith}
use Rattle.std.specs.Prelude.{ℤ, pos, ◌+ℤ◌, map}
use Rattle.std.specs.List.{list_all}
use Rattle.std.specs.List.Sorted.{IsPermutation}
use Rattle.std.specs.Ordering.{eq_by_cmp, int_eq}
use Rattle.std.proofs.lemmas.Bool.{false≢true}
use Rattle.std.proofs.lemmas.Int.{ints}
use Rattle.std.proofs.lemmas.List.Sorted.{IsPermutation-map, IsPermutation-sym}
use Rattle.ma_geom.specs.Coordinates.{Coordinates, place_cmp}
use Rattle.ma_geom.specs.Rational.{IsMiddle}
use Rattle.ma_geom.specs.Volume.{vol6}
use Rattle.ma_geom.proofs.Identities.{IsMiddle-exchange, flat_exchange_ab, flat_exchange_bc, flat_exchange_cd, flat_in_any_order, vol6_half, vol6_other_half, vol6_same_ab, vol6_same_ac, vol6_same_ad, vol6_same_bc, vol6_same_bd, vol6_same_cd}
use Rattle.ma_cells.specs.Ascending.{are_ascending, are_distinct, ascending_of, has}
use Rattle.ma_cells.specs.Bisection.{bisect, replaced}
use Rattle.ma_cells.specs.Faces.{holds_all}
use Rattle.ma_cells.specs.Tetrahedron.{are_corners, is_flat}
use Rattle.ma_cells.proofs.Bisections.{replaced-ascends}
use Rattle.ma_cells.proofs.Corners.{corners_span, sorted_corners}
use Rattle.ma_cells.proofs.FourPlaces.{OfFour, in_any_order}
use Rattle.ma_cells.proofs.Permutations.{alone, apart, ascending_of-permutes, edge_first, has-permutation, tied}

-- ---- halves
twice_none : (u v : ℤ) → u +ℤ u ≡ v → u ≡ pos 0 → v ≡ pos 0
twice_none u v e f = omega (arith, ints)

pub half_solid : (m a b c d : Coordinates) → IsMiddle m a b → vol6 a b c d ≢ pos 0 → vol6 m b c d ≢ pos 0
half_solid m a b c d middle solid flat = solid (twice_none (vol6 m b c d) (vol6 a b c d) (vol6_half m a b c d middle) flat)

pub other_half_solid : (m a b c d : Coordinates) → IsMiddle m a b → vol6 a b c d ≢ pos 0 → vol6 a m c d ≢ pos 0
other_half_solid m a b c d middle solid flat = solid (twice_none (vol6 a m c d) (vol6 a b c d) (vol6_other_half m a b c d middle) flat)

end : (m a b : ℤ) → m +ℤ m ≡ a +ℤ b → m ≡ a → a ≡ b
end m a b e f = omega (arith, ints)

-- the middle of an edge is no end of it
pub not_end : (m a b : Coordinates) → IsMiddle m a b → a ≢ b → m ≢ a
not_end m a b middle differ e =
    let xs = end m.x a.x b.x middle.x (ap (λ (p : Coordinates). p.x) e) in
    let ys = end m.y a.y b.y middle.y (ap (λ (p : Coordinates). p.y) e) in
    let zs = end m.z a.z b.z middle.z (ap (λ (p : Coordinates). p.z) e) in
    differ (λ i. record { x = xs i; y = ys i; z = zs i })

pub no_ends : (m a b : Coordinates) → IsMiddle m a b → a ≢ b → (m ≢ a) × (m ≢ b)
no_ends m a b middle differ =
    (not_end m a b middle differ, not_end m b a (IsMiddle-exchange m a b middle) (λ e. differ (sym e)))

-- ---- corners that span a volume are distinct
differ_ab : (a b c d : Coordinates) → vol6 a b c d ≢ pos 0 → a ≢ b
differ_ab a b c d solid e = solid (ap (λ t. vol6 a t c d) (sym e) ∙ vol6_same_ab a c d)

differ_ac : (a b c d : Coordinates) → vol6 a b c d ≢ pos 0 → a ≢ c
differ_ac a b c d solid e = solid (ap (λ t. vol6 a b t d) (sym e) ∙ vol6_same_ac a b d)

differ_ad : (a b c d : Coordinates) → vol6 a b c d ≢ pos 0 → a ≢ d
differ_ad a b c d solid e = solid (ap (λ t. vol6 a b c t) (sym e) ∙ vol6_same_ad a b c)

differ_bc : (a b c d : Coordinates) → vol6 a b c d ≢ pos 0 → b ≢ c
differ_bc a b c d solid e = solid (ap (λ t. vol6 a b t d) (sym e) ∙ vol6_same_bc a b d)

differ_bd : (a b c d : Coordinates) → vol6 a b c d ≢ pos 0 → b ≢ d
differ_bd a b c d solid e = solid (ap (λ t. vol6 a b c t) (sym e) ∙ vol6_same_bd a b c)

differ_cd : (a b c d : Coordinates) → vol6 a b c d ≢ pos 0 → c ≢ d
differ_cd a b c d solid e = solid (ap (λ t. vol6 a b c t) (sym e) ∙ vol6_same_cd a b c)

pub distinct_corners : (a b c d : Coordinates) → vol6 a b c d ≢ pos 0 → are_distinct place_cmp (a ∷ b ∷ c ∷ d ∷ []) ≡ true
distinct_corners a b c d solid =
    rw (
      apart a b (differ_ab a b c d solid),
      apart a c (differ_ac a b c d solid),
      apart a d (differ_ad a b c d solid),
      apart b c (differ_bc a b c d solid),
      apart b d (differ_bd a b c d solid),
      apart c d (differ_cd a b c d solid),
    ) refl

-- ---- the halves of corners in any order
-- the corners with m in the place of a
pub moved_first : (m a b c d : Coordinates) (corners : List Coordinates) → IsPermutation (a ∷ b ∷ c ∷ d ∷ []) corners → vol6 a b c d ≢ pos 0
    → IsPermutation (m ∷ b ∷ c ∷ d ∷ []) (map (λ p. cond (eq_by_cmp place_cmp a p) m p) corners)
moved_first m a b c d corners moved solid =
    let changed = λ (p : Coordinates). cond (eq_by_cmp place_cmp a p) m p in
    let first : map changed (a ∷ b ∷ c ∷ d ∷ []) ≡ m ∷ b ∷ c ∷ d ∷ [] =
    rw (tied a, apart a b (differ_ab a b c d solid), apart a c (differ_ac a b c d solid), apart a d (differ_ad a b c d solid)) refl in
    subst (λ places. IsPermutation places (map changed corners)) first (IsPermutation-map changed (a ∷ b ∷ c ∷ d ∷ []) corners moved)

pub replaced_first : (m a b c d : Coordinates) (corners : List Coordinates) → IsPermutation (a ∷ b ∷ c ∷ d ∷ []) corners → IsMiddle m a b → vol6 a b c d ≢ pos 0
    → IsPermutation (m ∷ b ∷ c ∷ d ∷ []) (replaced a m corners)
replaced_first m a b c d corners moved middle solid =
    let set : ascending_of place_cmp (m ∷ b ∷ c ∷ d ∷ []) ≡ replaced a m corners =
    sorted_corners (m ∷ b ∷ c ∷ d ∷ []) (map (λ p. cond (eq_by_cmp place_cmp a p) m p) corners) (moved_first m a b c d corners moved solid) in
    subst (IsPermutation (m ∷ b ∷ c ∷ d ∷ [])) set
    (ascending_of-permutes (m ∷ b ∷ c ∷ d ∷ []) (distinct_corners m b c d (half_solid m a b c d middle solid)))

pub replaced_second : (m a b c d : Coordinates) (corners : List Coordinates) → IsPermutation (a ∷ b ∷ c ∷ d ∷ []) corners → IsMiddle m a b → vol6 a b c d ≢ pos 0
    → IsPermutation (a ∷ m ∷ c ∷ d ∷ []) (replaced b m corners)
replaced_second m a b c d corners moved middle solid =
    let changed = λ (p : Coordinates). cond (eq_by_cmp place_cmp b p) m p in
    let second : map changed (a ∷ b ∷ c ∷ d ∷ []) ≡ a ∷ m ∷ c ∷ d ∷ [] =
    rw (apart b a (λ e. differ_ab a b c d solid (sym e)), tied b, apart b c (differ_bc a b c d solid), apart b d (differ_bd a b c d solid)) refl in
    let set : ascending_of place_cmp (a ∷ m ∷ c ∷ d ∷ []) ≡ replaced b m corners =
    ap (ascending_of place_cmp) (sym second)
    ∙ sorted_corners (map changed (a ∷ b ∷ c ∷ d ∷ [])) (map changed corners) (IsPermutation-map changed (a ∷ b ∷ c ∷ d ∷ []) corners moved) in
    subst (IsPermutation (a ∷ m ∷ c ∷ d ∷ [])) set
    (ascending_of-permutes (a ∷ m ∷ c ∷ d ∷ []) (distinct_corners a m c d (other_half_solid m a b c d middle solid)))

-- ---- no flat pieces
not_zero : (v : ℤ) → v ≢ pos 0 → int_eq v (pos 0) ≡ false
not_zero v h = grind (arith, ints)

is_zero : (v : ℤ) → v ≡ pos 0 → int_eq v (pos 0) ≡ true
is_zero v h = rw h refl

not_flat : (corners : List Coordinates) → OfFour (λ a b c d. vol6 a b c d ≢ pos 0) corners → is_flat corners ≡ false
not_flat [] h = absurd h
not_flat (a ∷ []) h = absurd h
not_flat (a ∷ b ∷ []) h = absurd h
not_flat (a ∷ b ∷ c ∷ []) h = absurd h
not_flat (a ∷ b ∷ c ∷ d ∷ []) h = not_zero (vol6 a b c d) h
not_flat (a ∷ b ∷ c ∷ d ∷ e ∷ l) h = absurd h

pub solid_in_any_order : (a b c d : Coordinates) (others : List Coordinates) → IsPermutation (a ∷ b ∷ c ∷ d ∷ []) others → vol6 a b c d ≢ pos 0 → is_flat others ≡ false
solid_in_any_order a b c d others moved solid =
    not_flat others (in_any_order (λ w x y z. vol6 w x y z ≢ pos 0)
    (λ w x y z h flat. h (flat_exchange_ab x w y z flat)) (λ w x y z h flat. h (flat_exchange_bc w y x z flat)) (λ w x y z h flat. h (flat_exchange_cd w x z y flat))
    a b c d others moved solid)

pub four_corners : (corners : List Coordinates) → is_flat corners ≡ false → length corners ≡ 4
four_corners [] h = absurd (false≢true (sym h))
four_corners (a ∷ []) h = absurd (false≢true (sym h))
four_corners (a ∷ b ∷ []) h = absurd (false≢true (sym h))
four_corners (a ∷ b ∷ c ∷ []) h = absurd (false≢true (sym h))
four_corners (a ∷ b ∷ c ∷ d ∷ []) h = refl
four_corners (a ∷ b ∷ c ∷ d ∷ e ∷ l) h = absurd (false≢true (sym h))

pub solid_corners : (corners : List Coordinates) (a b c d : Coordinates) → IsPermutation corners (a ∷ b ∷ c ∷ d ∷ []) → is_flat corners ≡ false → vol6 a b c d ≢ pos 0
solid_corners [] a b c d moved h = absurd (false≢true (sym h))
solid_corners (w ∷ []) a b c d moved h = absurd (false≢true (sym h))
solid_corners (w ∷ x ∷ []) a b c d moved h = absurd (false≢true (sym h))
solid_corners (w ∷ x ∷ y ∷ []) a b c d moved h = absurd (false≢true (sym h))
solid_corners (w ∷ x ∷ y ∷ z ∷ []) a b c d moved h = λ flat.
    false≢true (sym h ∙ is_zero (vol6 w x y z) (flat_in_any_order a b c d w x y z (IsPermutation-sym (w ∷ x ∷ y ∷ z ∷ []) (a ∷ b ∷ c ∷ d ∷ []) moved) flat))
solid_corners (w ∷ x ∷ y ∷ z ∷ t ∷ l) a b c d moved h = absurd (false≢true (sym h))

-- the corners of a tetrahedron with an edge, those of the edge first
pub record HasEdge (a b : Coordinates) (corners : List Coordinates) : Type 0 where
  pub c : Coordinates
  pub d : Coordinates
  pub order : IsPermutation (a ∷ b ∷ c ∷ d ∷ []) corners
  pub solid : vol6 a b c d ≢ pos 0

-- corners that span a volume have it at each edge, whatever their order
pub solid_edge : (a b : Coordinates) (corners : List Coordinates) → a ≢ b → is_flat corners ≡ false → holds_all corners (a ∷ b ∷ []) ≡ true → HasEdge a b corners
solid_edge a b corners differ solid there =
    let found = edge_first a b corners differ (four_corners corners solid) there in
    record {
      c = found.0;
      d = found.1;
      order = IsPermutation-sym corners (a ∷ b ∷ found.0 ∷ found.1 ∷ []) found.2;
      solid = solid_corners corners a b found.0 found.1 found.2 solid;
    }

pub has_edge : (a b : Coordinates) (corners : List Coordinates) → a ≢ b → are_corners corners ≡ true → holds_all corners (a ∷ b ∷ []) ≡ true → HasEdge a b corners
has_edge a b corners differ are there = solid_edge a b corners differ (corners_span corners are) there

-- the middle of an edge is no corner
pub middle_is_new : (m a b : Coordinates) (corners : List Coordinates) → IsMiddle m a b → a ≢ b → is_flat corners ≡ false → holds_all corners (a ∷ b ∷ []) ≡ true
    → has place_cmp m corners ≡ false
middle_is_new m a b corners middle differ solid there =
    let edge = solid_edge a b corners differ solid there in
    let others = b ∷ edge.c ∷ edge.d ∷ [] in
    let none = alone (has place_cmp m others) (are_distinct place_cmp others) (distinct_corners m b edge.c edge.d (half_solid m a b edge.c edge.d middle edge.solid)) in
    sym (has-permutation m (a ∷ others) corners edge.order) ∙ rw (apart m a (not_end m a b middle differ)) (none.0)

are_corners-from : (corners : List Coordinates) → are_ascending place_cmp corners ≡ true → is_flat corners ≡ false → are_corners corners ≡ true
are_corners-from corners e f = rw (e, f) refl

pub pieces_are_corners : (m a b : Coordinates) (corners : List Coordinates) → IsMiddle m a b → a ≢ b → are_corners corners ≡ true → list_all are_corners (bisect a b m corners) ≡ true
pieces_are_corners m a b corners middle differ are =
    elim (holds_all corners (a ∷ b ∷ [])) as (λ h. holds_all corners (a ∷ b ∷ []) ≡ h → list_all are_corners (cond h (replaced a m corners ∷ replaced b m corners ∷ []) (corners ∷ [])) ≡ true) [
      | true ↦ λ there.
          let edge = has_edge a b corners differ are there in
          let first = solid_in_any_order m b edge.c edge.d (replaced a m corners) (replaced_first m a b edge.c edge.d corners edge.order middle edge.solid)
          (half_solid m a b edge.c edge.d middle edge.solid) in
          let second = solid_in_any_order a m edge.c edge.d (replaced b m corners) (replaced_second m a b edge.c edge.d corners edge.order middle edge.solid)
          (other_half_solid m a b edge.c edge.d middle edge.solid) in
          all_two are_corners (replaced a m corners) (replaced b m corners) (are_corners-from (replaced a m corners) (replaced-ascends a m corners) first)
          (are_corners-from (replaced b m corners) (replaced-ascends b m corners) second)
      | false ↦ λ _. all_one are_corners corners are
    ] refl
  where
    all_one : (f : List Coordinates → Bool) (xs : List Coordinates) → f xs ≡ true → list_all f (xs ∷ []) ≡ true
    all_one f xs e = rw e refl

    all_two : (f : List Coordinates → Bool) (xs ys : List Coordinates) → f xs ≡ true → f ys ≡ true → list_all f (xs ∷ ys ∷ []) ≡ true
    all_two f xs ys e g = rw (e, g) refl

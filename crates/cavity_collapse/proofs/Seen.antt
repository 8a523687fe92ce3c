-- The faces across from a vertex: the test of them by those that were found once, and that the vertex lies in the plane of none.
use Rattle.std.proofs.Common.{◌≡◌, ◌≢◌, ℕ, ◌<◌, ◌≤◌, zero, suc, ℤ, pos, negsuc, Bool, true, false, not, ◌&&◌, ◌||◌, List, [], ◌∷◌, ◌++◌, length, get_or, drop, drop_of_length-le, map, refl, sym, ap, subst, ◌∙◌}
use Rattle.std.proofs.Math.Bool.{and-true}
use Rattle.std.specs.List.{list_all}
use Rattle.std.specs.List.Sorted.{IsPermutation}
use Rattle.std.specs.Ordering.{eq_by_cmp}
use Rattle.std.proofs.lemmas.Bool.{false≢true, and_from, and_parts}
use Rattle.std.proofs.lemmas.List.{append-nil}
use Rattle.std.proofs.lemmas.List.Folds.{list_all_at}
use Rattle.std.proofs.lemmas.List.Sorted.{IsPermutation-append_comm, IsPermutation-cons, IsPermutation-refl}
use Rattle.ma_geom.specs.Coordinates.{Coordinates, place_cmp}
use Rattle.ma_geom.specs.Signs.{same_sign, side_of, sign_of}
use Rattle.ma_geom.specs.Volume.{vol6}
use Rattle.ma_geom.specs.declared.signs.Sign.{Sign}
use Rattle.ma_geom.specs.declared.signs.Sign.TheVariants.{Minus, Zero, Plus}
use Rattle.ma_geom.proofs.PlaceOrder.{place_cmp-IsAntisymmetric}
use Rattle.ma_cells.specs.Ascending.{are_ascending, has}
use Rattle.ma_cells.specs.Stars.{besides}
use Rattle.ma_cells.specs.Tetrahedron.{Tetrahedron, are_corners, are_tetrahedra, is_flat}
use Rattle.ma_cells.proofs.Corners.{corners_rise, corners_span}
use Rattle.ma_cells.proofs.Members.{has-filter}
use Rattle.ma_cells.proofs.Permutations.{same}
use Rattle.ma_cells.proofs.Pieces.{solid_corners}
use Rattle.cavity_collapse.specs.Collapsing.{is_same}
use Rattle.cavity_collapse.specs.Facing.{are_seen_from, facing_of, have_sides}
use Rattle.cavity_collapse.specs.Judging.{faces_are_seen}
use Rattle.cavity_collapse.specs.Steps.{lies_off}
use Rattle.cavity_collapse.specs.declared.facing.SidedFace.{SidedFace}
use Rattle.cavity_collapse.proofs.Across.{across_first, across_second, across_third, across_fourth, none_is}

-- what all items pass, each one passes
pub passed_at : {X : Type 0} (test : X → Bool) (xs : List X) (i : ℕ) (x : X) → list_all test xs ≡ true → i < length xs → x ≡ get_or xs i x → test x ≡ true
passed_at test xs i x all within is =
    elim (test x) as (λ b. test x ≡ b → b ≡ true) [
      | true ↦ λ _. refl
      | false ↦ λ e. absurd (false≢true (sym (list_all_at test xs i x within (ap test (sym is) ∙ e)) ∙ all))
    ] refl

-- ---- the test of faces
or_true : (b : Bool) → (b || true) ≡ true
or_true true = refl
or_true false = refl

same_itself : (s : Sign) → same_sign s s ≡ true
same_itself Minus = refl
same_itself Zero = refl
same_itself Plus = refl

module _ (a v : Coordinates) where
  abbrev face : List Coordinates → List Coordinates
  face corners = besides (a ∷ []) corners

  abbrev beside : List Coordinates → Bool
  beside corners = same_sign (side_of (face corners) v) (side_of (face corners) a)

  passes : (corners : List Coordinates) → v ≡ a → (there : Bool) → (there || beside corners) ≡ true
  passes corners e there = ap (λ b. there || b) (ap (λ p. same_sign (side_of (face corners) p) (side_of (face corners) a)) e ∙ same_itself (side_of (face corners) a)) ∙ or_true there

  -- where v is a itself, both pass
  seen_one : (corners : List Coordinates) → (has place_cmp v (face corners) || beside corners) ≡ (has place_cmp v corners || beside corners)
  seen_one corners =
      elim (eq_by_cmp place_cmp v a) as (λ b. eq_by_cmp place_cmp v a ≡ b → (has place_cmp v (face corners) || beside corners) ≡ (has place_cmp v corners || beside corners)) [
        | true ↦ λ e. passes corners (same v a e) (has place_cmp v (face corners)) ∙ sym (passes corners (same v a e) (has place_cmp v corners))
        | false ↦ λ e.
            ap (λ b. b || beside corners)
            (has-filter place_cmp-IsAntisymmetric (λ p. not (has place_cmp p (a ∷ []))) v corners ∙ ap (λ b. has place_cmp v corners && not (b || false)) e ∙ and-true (has place_cmp v corners))
      ] refl

  pub seen_by_faces : (star : List Tetrahedron) → are_seen_from v (facing_of star a) ≡ faces_are_seen star a v
  seen_by_faces [] = refl
  seen_by_faces (tet ∷ star) = λ i. seen_one tet.corners i && seen_by_faces star i

-- ---- a vertex lies in the plane of no face across from it
sign_off : (n : ℤ) → n ≢ pos 0 → not (same_sign (sign_of n) Zero) ≡ true
sign_off (pos zero) h = absurd (h refl)
sign_off (pos (suc n)) h = refl
sign_off (negsuc n) h = refl

off_one : (corners : List Coordinates) (x y z a : Coordinates) (face : List Coordinates) → IsPermutation corners (x ∷ y ∷ z ∷ a ∷ []) → is_flat corners ≡ false → x ∷ y ∷ z ∷ [] ≡ face → not (same_sign (side_of face a) Zero) ≡ true
off_one corners x y z a face moved solid is =
    subst (λ face. not (same_sign (side_of face a) Zero) ≡ true) is (sign_off (vol6 x y z a) (solid_corners corners x y z a moved solid))

abbrev is_off : (corners : List Coordinates) → (a b : Coordinates) → Type 0
is_off corners a b = not (same_sign (side_of (besides (a ∷ []) corners) b) Zero) ≡ true

module _ (a p q r s : Coordinates) (rise : are_ascending place_cmp (p ∷ q ∷ r ∷ s ∷ []) ≡ true) (solid : is_flat (p ∷ q ∷ r ∷ s ∷ []) ≡ false) where
  abbrev four : List Coordinates
  four = p ∷ q ∷ r ∷ s ∷ []

  -- of the corner that is a
  at : (b : Coordinates) → is_same b a ≡ true → is_off four a b → is_off four a a
  at b e h = subst (is_off four a) (same b a e) h

  four_off : has place_cmp a four ≡ true → is_off four a a
  four_off there =
      elim (is_same p a) as (λ b. is_same p a ≡ b → is_off four a a) [
        | true ↦ λ e. at p e (off_one four q r s p (besides (a ∷ []) four) (IsPermutation-append_comm (p ∷ []) (q ∷ r ∷ s ∷ [])) solid (across_first p q r s rise a e))
        | false ↦ λ e. elim (is_same q a) as (λ b. is_same q a ≡ b → is_off four a a) [
          | true ↦ λ f.
              at q f
              (off_one four p r s q (besides (a ∷ []) four) (IsPermutation-cons p (q ∷ r ∷ s ∷ []) (r ∷ s ∷ q ∷ []) (IsPermutation-append_comm (q ∷ []) (r ∷ s ∷ []))) solid (across_second p q r s rise a f))
          | false ↦ λ f. elim (is_same r a) as (λ b. is_same r a ≡ b → is_off four a a) [
            | true ↦ λ g.
                at r g
                (off_one four p q s r (besides (a ∷ []) four) (IsPermutation-cons p (q ∷ r ∷ s ∷ []) (q ∷ s ∷ r ∷ []) (IsPermutation-cons q (r ∷ s ∷ []) (s ∷ r ∷ []) (IsPermutation-append_comm (r ∷ []) (s ∷ [])))) solid
                (across_third p q r s rise a g))
            | false ↦ λ g. elim (is_same s a) as (λ b. is_same s a ≡ b → is_off four a a) [
              | true ↦ λ h. at s h (off_one four p q r s (besides (a ∷ []) four) (IsPermutation-refl four) solid (across_fourth p q r s rise a h))
              | false ↦ λ h. absurd (false≢true (sym (none_is p q r s a e f g h) ∙ there))
            ] refl
          ] refl
        ] refl
      ] refl

vertex_off : (a : Coordinates) (corners : List Coordinates) → are_corners corners ≡ true → has place_cmp a corners ≡ true → is_off corners a a
vertex_off a [] are there = absurd (false≢true there)
vertex_off a (p ∷ []) are there = absurd (false≢true are)
vertex_off a (p ∷ q ∷ []) are there = absurd (false≢true (sym (corners_span (p ∷ q ∷ []) are)))
vertex_off a (p ∷ q ∷ r ∷ []) are there = absurd (false≢true (sym (corners_span (p ∷ q ∷ r ∷ []) are)))
vertex_off a (p ∷ q ∷ r ∷ s ∷ []) are there = four_off a p q r s (corners_rise (p ∷ q ∷ r ∷ s ∷ []) are) (corners_span (p ∷ q ∷ r ∷ s ∷ []) are) there
vertex_off a (p ∷ q ∷ r ∷ s ∷ t ∷ corners) are there = absurd (false≢true (sym (corners_span (p ∷ q ∷ r ∷ s ∷ t ∷ corners) are)))

pub all_off : (star : List Tetrahedron) (a : Coordinates) → are_tetrahedra star ≡ true → list_all (λ tet. has place_cmp a tet.corners) star ≡ true → have_sides (facing_of star a) ≡ true
all_off [] a solid there = refl
all_off (tet ∷ star) a solid there =
    let one = and_parts (are_corners tet.corners) (are_tetrahedra star) solid in
    let at = and_parts (has place_cmp a tet.corners) (list_all (λ tet. has place_cmp a tet.corners) star) there in
    and_from _ _ (vertex_off a tet.corners one.0 at.0) (all_off star a one.1 at.1)

-- so what lies on its side lies off the plane too
pub off_where_seen : (faces : List SidedFace) (v : Coordinates) → have_sides faces ≡ true → are_seen_from v faces ≡ true → list_all (λ one. lies_off v one.face) faces ≡ true
off_where_seen [] v off seen = refl
off_where_seen (one ∷ faces) v off seen =
    let first = and_parts (not (same_sign one.side Zero)) (have_sides faces) off in
    let passed = and_parts (has place_cmp v one.face || same_sign (side_of one.face v) one.side) (are_seen_from v faces) seen in
    and_from _ _ (by (has place_cmp v one.face) (side_of one.face v) one.side first.0 passed.0) (off_where_seen faces v first.1 passed.1)
  where
    by : (there : Bool) (s t : Sign) → not (same_sign t Zero) ≡ true → (there || same_sign s t) ≡ true → (there || not (same_sign s Zero)) ≡ true
    by true s t h k = refl
    by false Minus t h k = refl
    by false Plus t h k = refl
    by false Zero Zero h k = absurd (false≢true h)
    by false Zero Minus h k = absurd (false≢true k)
    by false Zero Plus h k = absurd (false≢true k)

-- ---- once all faces are put down
pub all_put_down : {X Y : Type 0} (f : X → Y) (xs : List X) (i : ℕ) (now wanted : List Y) → length xs ≤ i → now ++ map f (drop i xs) ≡ wanted → now ≡ wanted
all_put_down f xs i now wanted over e = sym (append-nil now) ∙ ap (λ ys. now ++ map f ys) (sym (drop_of_length-le xs over)) ∙ e

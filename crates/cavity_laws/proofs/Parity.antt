-- The cones of a cavity, the flat ones with them, have the same faces an odd number of times as its tetrahedra.
use Rattle.std.proofs.Common.{◌≡◌, ◌≢◌, ◌⊎◌, inl, inr, ℕ, zero, suc, ◌+◌, Bool, true, false, cond, not, ◌&&◌, ◌||◌, List, [], ◌∷◌, refl, sym, ap, ap₂, subst, ◌∙◌, arith}
use Rattle.std.specs.Prelude.{ℤ, pos, negsuc, ◌+ℤ◌, map}
use Rattle.std.specs.List.{AllByRecursion, count_by, flat_map}
use Rattle.std.specs.List.Sorted.{IsPermutation}
use Rattle.std.specs.Ordering.{eq_by_cmp}
use Rattle.std.proofs.lemmas.Int.{ints}
use Rattle.std.proofs.lemmas.List.Sorted.{IsPermutation-append_comm, IsPermutation-append_left, IsPermutation-cons}
use Rattle.ma_geom.specs.Coordinates.{Coordinates, place_cmp}
use Rattle.ma_geom.specs.Lines.{is_flat}
use Rattle.ma_geom.specs.Volume.{vol6}
use Rattle.ma_geom.proofs.PlaceOrder.{place_cmp_total}
use Rattle.ma_geom.proofs.Identities.{vol6_same_ab, vol6_same_ac, vol6_same_ad, vol6_same_bc, vol6_same_bd, vol6_same_cd}
use Rattle.ma_cells.specs.Ascending.{are_ascending, ascending_of, has}
use Rattle.ma_cells.specs.Faces.{faces_of}
use Rattle.ma_cells.proofs.Choices.{choices-ascend}
use Rattle.ma_cells.proofs.Corners.{ascending_is, sorted_corners}
use Rattle.ma_cells.proofs.FourPlaces.{OfFour, in_any_order}
use Rattle.ma_cells.proofs.Passing.{all-flat_map, all_pass, all_weaker}
use Rattle.ma_cells.proofs.Permutations.{apart, same as same_place, tied}
use Rattle.mesh_laws.specs.Parity.{AreSameOddly, is_odd}
use Rattle.mesh_laws.proofs.Listings.{same, same_is, same_itself}
use Rattle.mesh_laws.proofs.Lists.{all_items}
use Rattle.mesh_laws.proofs.Oddly.{cancelled, odd-+, odd-each, odd-flat_map, odd-parts, odd_is, odd_of, xor}
use Rattle.mesh_laws.proofs.Weights.{by_four}
use Rattle.cavity_laws.specs.Cavity.{Facet, balance, facets_of, side_number}
use Rattle.cavity_laws.specs.Filled.{AreReordered}
use Rattle.cavity_laws.specs.Parity.{CavityKeepsParity, any_cone_of, any_cones, sorted_faces}
use Rattle.cavity_laws.proofs.Balance.{IsFacetOf, facets_are}

-- ---- one or the other
xor_none : (b : Bool) → xor b false ≡ b
xor_none true = refl
xor_none false = refl

xor_swap : (a b c : Bool) → xor a (xor b c) ≡ xor b (xor a c)
xor_swap true true c = refl
xor_swap true false c = refl
xor_swap false b c = refl

-- what is twice there falls away
odd_twice : (m k n : ℕ) → m ≡ n + (k + k) → is_odd m ≡ is_odd n
odd_twice m k n e = ap is_odd e ∙ odd-+ n (k + k) ∙ ap (xor (is_odd n)) (odd-+ k k ∙ itself (is_odd k)) ∙ xor_none (is_odd n)
  where
    itself : (b : Bool) → xor b b ≡ false
    itself true = refl
    itself false = refl

pub odd-map : {X Y : Type 0} (f : Y → Bool) (h : X → Y) (xs : List X) → odd_of f (map h xs) ≡ odd_of (λ x. f (h x)) xs
odd-map f h [] = refl
odd-map f h (x ∷ xs) = ap (xor (f (h x))) (odd-map f h xs)

-- ---- a balanced face is had an even number of times
abbrev is_odd_number : ℤ → Bool
is_odd_number (pos n) = is_odd n
is_odd_number (negsuc n) = not (is_odd n)

one_more : (z : ℤ) → is_odd_number (pos 1 +ℤ z) ≡ not (is_odd_number z)
one_more (pos n) = ap is_odd_number (by n)
  where
    by : (n : ℕ) → pos 1 +ℤ pos n ≡ pos (suc n)
    by n = omega (arith, ints)
one_more (negsuc zero) = refl
one_more (negsuc (suc n)) = ap is_odd_number (by n) ∙ twice (is_odd n)
  where
    by : (n : ℕ) → pos 1 +ℤ negsuc (suc n) ≡ negsuc n
    by n = omega (arith, ints)

    twice : (b : Bool) → not b ≡ not (not (not b))
    twice true = refl
    twice false = refl

one_less : (z : ℤ) → is_odd_number (negsuc 0 +ℤ z) ≡ not (is_odd_number z)
one_less (pos zero) = refl
one_less (pos (suc n)) = ap is_odd_number (by n) ∙ twice (is_odd n)
  where
    by : (n : ℕ) → negsuc 0 +ℤ pos (suc n) ≡ pos n
    by n = omega (arith, ints)

    twice : (b : Bool) → b ≡ not (not b)
    twice true = refl
    twice false = refl
one_less (negsuc n) = ap is_odd_number (by n)
  where
    by : (n : ℕ) → negsuc 0 +ℤ negsuc n ≡ negsuc (suc n)
    by n = omega (arith, ints)

abbrev IsSided : Facet → Type 0
IsSided x = (side_number x.face x.across ≡ pos 1) ⊎ (side_number x.face x.across ≡ negsuc 0)

odd_balance : (face : List Coordinates) (facets : List Facet) → AllByRecursion IsSided facets → odd_of (λ x. same face x.face) facets ≡ is_odd_number (balance face facets)
odd_balance face [] sided = refl
odd_balance face (x ∷ facets) sided =
    ap (xor (same face x.face)) (odd_balance face facets sided.1) ∙ sym (by (same face x.face) (side_number x.face x.across) (balance face facets) sided.0)
  where
    by : (b : Bool) (s t : ℤ) → (s ≡ pos 1) ⊎ (s ≡ negsuc 0) → is_odd_number (cond b s (pos 0) +ℤ t) ≡ xor b (is_odd_number t)
    by true s t (inl e) = ap (λ s. is_odd_number (s +ℤ t)) e ∙ one_more t
    by true s t (inr e) = ap (λ s. is_odd_number (s +ℤ t)) e ∙ one_less t
    by false s t h = ap is_odd_number (none t)
      where
        none : (t : ℤ) → pos 0 +ℤ t ≡ t
        none t = omega (arith, ints)

pub even_where_balanced : (tets : List (List Coordinates)) → AllByRecursion (λ corners. is_flat corners ≡ false) tets
    → (face : List Coordinates) → balance face (flat_map facets_of tets) ≡ pos 0 → odd_of (λ x. same face x.face) (flat_map facets_of tets) ≡ false
even_where_balanced tets solid face none =
    odd_balance face (flat_map facets_of tets) (all-flat_map (λ corners. is_flat corners ≡ false) IsSided facets_of (λ c h. all_weaker (IsFacetOf c) IsSided (λ x is. is.1) (facets_of c) (facets_are c h)) tets solid) ∙ ap is_odd_number none

-- what holds of four places in whatever order holds of the list
from_four : (P : List Coordinates → Type 0) (corners : List Coordinates) → OfFour (λ a b c d. P (a ∷ b ∷ c ∷ d ∷ [])) corners → P corners
from_four P (a ∷ b ∷ c ∷ d ∷ []) h = h
from_four P [] h = absurd h
from_four P (a ∷ []) h = absurd h
from_four P (a ∷ b ∷ []) h = absurd h
from_four P (a ∷ b ∷ c ∷ []) h = absurd h
from_four P (a ∷ b ∷ c ∷ d ∷ e ∷ l) h = absurd h

-- ---- a test of faces that any order of the corners passes alike
module _ (g : List Coordinates → Bool) (any_order : (c d : List Coordinates) → IsPermutation c d → g c ≡ g d) where
  abbrev passes : List Coordinates → Bool
  passes corners = odd_of g (faces_of corners)

  -- ---- one tetrahedron, in any order of its corners
  last_two : (a b c : Coordinates) → g (a ∷ c ∷ b ∷ []) ≡ g (a ∷ b ∷ c ∷ [])
  last_two a b c = any_order (a ∷ c ∷ b ∷ []) (a ∷ b ∷ c ∷ []) (IsPermutation-cons a (c ∷ b ∷ []) (b ∷ c ∷ []) (IsPermutation-append_comm (c ∷ []) (b ∷ [])))

  first_two : (a b c : Coordinates) → g (b ∷ a ∷ c ∷ []) ≡ g (a ∷ b ∷ c ∷ [])
  first_two a b c = any_order (b ∷ a ∷ c ∷ []) (a ∷ b ∷ c ∷ []) (IsPermutation-append_left (c ∷ []) (b ∷ a ∷ []) (a ∷ b ∷ []) (IsPermutation-append_comm (b ∷ []) (a ∷ [])))

  passes_ab : (a b c d : Coordinates) → passes (b ∷ a ∷ c ∷ d ∷ []) ≡ passes (a ∷ b ∷ c ∷ d ∷ [])
  passes_ab a b c d = rw (first_two a b c, first_two a b d) (ap (λ t. xor (g (a ∷ b ∷ c ∷ [])) (xor (g (a ∷ b ∷ d ∷ [])) t)) (xor_swap (g (b ∷ c ∷ d ∷ [])) (g (a ∷ c ∷ d ∷ [])) false))

  passes_bc : (a b c d : Coordinates) → passes (a ∷ c ∷ b ∷ d ∷ []) ≡ passes (a ∷ b ∷ c ∷ d ∷ [])
  passes_bc a b c d = rw (last_two a b c, first_two b c d) (ap (xor (g (a ∷ b ∷ c ∷ []))) (xor_swap (g (a ∷ c ∷ d ∷ [])) (g (a ∷ b ∷ d ∷ [])) (xor (g (b ∷ c ∷ d ∷ [])) false)))

  passes_cd : (a b c d : Coordinates) → passes (a ∷ b ∷ d ∷ c ∷ []) ≡ passes (a ∷ b ∷ c ∷ d ∷ [])
  passes_cd a b c d = rw (last_two a c d, last_two b c d) (xor_swap (g (a ∷ b ∷ d ∷ [])) (g (a ∷ b ∷ c ∷ [])) (xor (g (a ∷ c ∷ d ∷ [])) (xor (g (b ∷ c ∷ d ∷ [])) false)))

  pub passes_in_any_order : (s t : List Coordinates) → IsPermutation s t → is_flat s ≡ false → passes t ≡ passes s
  passes_in_any_order s t moved solid = by_four (λ s. IsPermutation s t → passes t ≡ passes s) (λ a b c d _ order.
      from_four (λ t. passes t ≡ passes (a ∷ b ∷ c ∷ d ∷ [])) t
      (in_any_order (λ w x y z. passes (w ∷ x ∷ y ∷ z ∷ []) ≡ passes (a ∷ b ∷ c ∷ d ∷ [])) (λ w x y z h. passes_ab w x y z ∙ h) (λ w x y z h. passes_bc w x y z ∙ h) (λ w x y z h. passes_cd w x y z ∙ h)
      a b c d t order refl)) s solid moved

  -- ---- the cones over its faces
  -- how the faces of the cone over a face do, if there is one
  abbrev over : Coordinates → List Coordinates → Bool
  over v face = odd_of passes (cond (has place_cmp v face) [] ((v ∷ face) ∷ []))

  abbrev cones_over : Coordinates → List Coordinates → List (List Coordinates)
  cones_over v corners = flat_map (λ x. cond (has place_cmp v x.face) [] ((v ∷ x.face) ∷ [])) (facets_of corners)

  abbrev IsAlike : Coordinates → List Coordinates → Type 0
  IsAlike v corners = odd_of passes (cones_over v corners) ≡ passes corners

  bit : Coordinates → Coordinates → Coordinates → ℕ
  bit a b c = cond (g (a ∷ b ∷ c ∷ [])) 1 0

  module _ (a b c d : Coordinates) (solid : vol6 a b c d ≢ pos 0) where
    ab : a ≢ b
    ab e = solid (subst (λ t. vol6 a t c d ≡ pos 0) e (vol6_same_ab a c d))

    ac : a ≢ c
    ac e = solid (subst (λ t. vol6 a b t d ≡ pos 0) e (vol6_same_ac a b d))

    ad : a ≢ d
    ad e = solid (subst (λ t. vol6 a b c t ≡ pos 0) e (vol6_same_ad a b c))

    bc : b ≢ c
    bc e = solid (subst (λ t. vol6 a b t d ≡ pos 0) e (vol6_same_bc a b d))

    bd : b ≢ d
    bd e = solid (subst (λ t. vol6 a b c t ≡ pos 0) e (vol6_same_bd a b c))

    cd : c ≢ d
    cd e = solid (subst (λ t. vol6 a b c t ≡ pos 0) e (vol6_same_cd a b c))

    -- from a corner there is one cone, the tetrahedron
    at_a : IsAlike a (a ∷ b ∷ c ∷ d ∷ [])
    at_a = rw (tied a, (apart a b ab), (apart a c ac), (apart a d ad)) (xor_none (passes (a ∷ b ∷ c ∷ d ∷ [])))

    at_b : IsAlike b (a ∷ b ∷ c ∷ d ∷ [])
    at_b = rw (tied b, (apart b a (λ e. ab (sym e))), (apart b c bc), (apart b d bd)) (xor_none (passes (b ∷ a ∷ c ∷ d ∷ [])) ∙ passes_ab a b c d)

    at_c : IsAlike c (a ∷ b ∷ c ∷ d ∷ [])
    at_c =
        rw (tied c, (apart c a (λ e. ac (sym e))), (apart c b (λ e. bc (sym e))), (apart c d cd))
        (xor_none (passes (c ∷ a ∷ b ∷ d ∷ [])) ∙ passes_ab a c b d ∙ passes_bc a b c d)

    at_d : IsAlike d (a ∷ b ∷ c ∷ d ∷ [])
    at_d =
        rw (tied d, (apart d a (λ e. ad (sym e))), (apart d b (λ e. bd (sym e))), (apart d c (λ e. cd (sym e))))
        (xor_none (passes (d ∷ a ∷ b ∷ c ∷ [])) ∙ passes_ab a d b c ∙ passes_bc a b d c ∙ passes_cd a b c d)

    -- from elsewhere there are four, and each triangle with v is a face of two
    elsewhere : (v : Coordinates) → eq_by_cmp place_cmp v a ≡ false → eq_by_cmp place_cmp v b ≡ false → eq_by_cmp place_cmp v c ≡ false → eq_by_cmp place_cmp v d ≡ false
        → IsAlike v (a ∷ b ∷ c ∷ d ∷ [])
    unfolding bit
    elsewhere v ea eb ec ed = rw (ea, eb, ec, ed) (
        sym (odd-flat_map g faces_of four) ∙ sym (odd_is g (flat_map faces_of four))
        ∙ by (bit v a b) (bit v a c) (bit v a d) (bit v b c) (bit v b d) (bit v c d) (bit a b c) (bit a b d) (bit a c d) (bit b c d)
        ∙ odd_is g (faces_of (a ∷ b ∷ c ∷ d ∷ [])))
      where
        four : List (List Coordinates)
        four = (v ∷ a ∷ b ∷ c ∷ []) ∷ (v ∷ a ∷ b ∷ d ∷ []) ∷ (v ∷ a ∷ c ∷ d ∷ []) ∷ (v ∷ b ∷ c ∷ d ∷ []) ∷ []

        by : (p q r s t u w x y z : ℕ) → is_odd ((((((((((((((((0 + p) + q) + s) + w) + p) + r) + t) + x) + q) + r) + u) + y) + s) + t) + u) + z) ≡ is_odd ((((0 + w) + x) + y) + z)
        by p q r s t u w x y z = odd_twice ((((((((((((((((0 + p) + q) + s) + w) + p) + r) + t) + x) + q) + r) + u) + y) + s) + t) + u) + z) (((((p + q) + r) + s) + t) + u) ((((0 + w) + x) + y) + z) (omega arith)

    all_alike : (v : Coordinates) → IsAlike v (a ∷ b ∷ c ∷ d ∷ [])
    all_alike v = by_a (eq_by_cmp place_cmp v a) refl
      where
        at : (w : Coordinates) → eq_by_cmp place_cmp v w ≡ true → IsAlike w (a ∷ b ∷ c ∷ d ∷ []) → IsAlike v (a ∷ b ∷ c ∷ d ∷ [])
        at w e h = subst (λ w. IsAlike w (a ∷ b ∷ c ∷ d ∷ [])) (sym (same_place v w e)) h

        by_d : eq_by_cmp place_cmp v a ≡ false → eq_by_cmp place_cmp v b ≡ false → eq_by_cmp place_cmp v c ≡ false → (t : Bool) → eq_by_cmp place_cmp v d ≡ t → IsAlike v (a ∷ b ∷ c ∷ d ∷ [])
        by_d ea eb ec true e = at d e at_d
        by_d ea eb ec false e = elsewhere v ea eb ec e

        by_c : eq_by_cmp place_cmp v a ≡ false → eq_by_cmp place_cmp v b ≡ false → (t : Bool) → eq_by_cmp place_cmp v c ≡ t → IsAlike v (a ∷ b ∷ c ∷ d ∷ [])
        by_c ea eb true e = at c e at_c
        by_c ea eb false e = by_d ea eb e (eq_by_cmp place_cmp v d) refl

        by_b : eq_by_cmp place_cmp v a ≡ false → (t : Bool) → eq_by_cmp place_cmp v b ≡ t → IsAlike v (a ∷ b ∷ c ∷ d ∷ [])
        by_b ea true e = at b e at_b
        by_b ea false e = by_c ea e (eq_by_cmp place_cmp v c) refl

        by_a : (t : Bool) → eq_by_cmp place_cmp v a ≡ t → IsAlike v (a ∷ b ∷ c ∷ d ∷ [])
        by_a true e = at a e at_a
        by_a false e = by_b e (eq_by_cmp place_cmp v b) refl

  tet_parity : (v : Coordinates) (corners : List Coordinates) → is_flat corners ≡ false → odd_of (λ x. over v x.face) (facets_of corners) ≡ passes corners
  tet_parity v = by_four (λ corners. odd_of (λ x. over v x.face) (facets_of corners) ≡ passes corners) (λ a b c d solid.
      sym (odd-flat_map passes (λ x. cond (has place_cmp v x.face) [] ((v ∷ x.face) ∷ [])) (facets_of (a ∷ b ∷ c ∷ d ∷ []))) ∙ all_alike a b c d solid v)

  -- ---- a list of them
  module _ (v : Coordinates) (inner : List Coordinates → Bool) (tets : List (List Coordinates)) (solid : AllByRecursion (λ corners. is_flat corners ≡ false) tets)
      (balanced : (face : List Coordinates) → inner face ≡ true → balance face (flat_map facets_of tets) ≡ pos 0) where
    facets : List Facet
    facets = flat_map facets_of tets

    -- the cones over inner faces would cancel
    inner_even : odd_of (λ x. inner x.face && over v x.face) facets ≡ false
    unfolding facets
    inner_even =
        cancelled (λ (x : Facet). x.face) same same_is same_itself (λ face. inner face && over v face) facets
        (all_items (λ x. ((inner x.face && over v x.face) && odd_of (λ y. same x.face y.face) facets) ≡ false)
        (λ x. by (inner x.face) (over v x.face) (odd_of (λ y. same x.face y.face) facets) (λ h. even_where_balanced tets solid x.face (balanced x.face h))) facets)
      where
        by : (i o k : Bool) → (i ≡ true → k ≡ false) → ((i && o) && k) ≡ false
        by true true k h = h refl
        by true false k h = refl
        by false o k h = refl

    one_cone : (face : List Coordinates) → odd_of passes (cond (inner face || has place_cmp v face) [] ((v ∷ face) ∷ [])) ≡ (not (inner face) && over v face)
    one_cone face = by (inner face) (has place_cmp v face) ((v ∷ face) ∷ [])
      where
        by : (i h : Bool) (l : List (List Coordinates)) → odd_of passes (cond (i || h) [] l) ≡ (not i && odd_of passes (cond h [] l))
        by true h l = refl
        by false h l = refl

    pub cones_pass_oddly : odd_of g (flat_map faces_of (any_cones v inner tets)) ≡ odd_of g (flat_map faces_of tets)
    unfolding facets
    cones_pass_oddly =
        odd-flat_map g faces_of (any_cones v inner tets)
        ∙ odd-flat_map passes (any_cone_of v inner) facets
        ∙ odd-each (λ x. odd_of passes (any_cone_of v inner x)) (λ x. not (inner x.face) && over v x.face) facets (all_items _ (λ x. one_cone x.face) facets)
        ∙ sym (odd-parts (λ x. inner x.face) (λ x. over v x.face) facets ∙ ap (λ b. xor b (odd_of (λ x. not (inner x.face) && over v x.face) facets)) inner_even)
        ∙ odd-flat_map (λ x. over v x.face) facets_of tets
        ∙ odd-each (λ t. odd_of (λ x. over v x.face) (facets_of t)) passes tets (each tets solid)
        ∙ sym (odd-flat_map g faces_of tets)
      where
        each : (ts : List (List Coordinates)) → AllByRecursion (λ corners. is_flat corners ≡ false) ts → AllByRecursion (λ t. odd_of (λ x. over v x.face) (facets_of t) ≡ passes t) ts
        each [] h = tt
        each (t ∷ ts) h = (tet_parity v t h.0, each ts h.1)

-- ---- faces with their corners in order
-- how often a face is listed
pub sorted_listings : (face : List Coordinates) (tets : List (List Coordinates)) → is_odd (count_by (same face) (sorted_faces tets)) ≡ odd_of (λ c. same face (ascending_of place_cmp c)) (flat_map faces_of tets)
sorted_listings face tets = odd_is (same face) (sorted_faces tets) ∙ odd-map (same face) (ascending_of place_cmp) (flat_map faces_of tets)

pub cavity_keeps_parity : CavityKeepsParity
cavity_keeps_parity v inner tets solid balanced face =
    sorted_listings face (any_cones v inner tets)
    ∙ cones_pass_oddly (λ c. same face (ascending_of place_cmp c)) (λ c d moved. ap (same face) (sorted_corners c d moved)) v inner tets solid balanced
    ∙ sym (sorted_listings face tets)

-- ---- what is listed in another order has the same faces
module _ (face : List Coordinates) where
  is_it : List Coordinates → Bool
  is_it c = same face (ascending_of place_cmp c)

  reordered_passes : (ss ts : List (List Coordinates)) → AreReordered ss ts → AllByRecursion (λ corners. is_flat corners ≡ false) ss → odd_of (λ corners. odd_of is_it (faces_of corners)) ts ≡ odd_of (λ corners. odd_of is_it (faces_of corners)) ss
  unfolding is_it
  reordered_passes [] [] h solid = refl
  reordered_passes [] (t ∷ ts) h solid = absurd h
  reordered_passes (s ∷ ss) [] h solid = absurd h
  reordered_passes (s ∷ ss) (t ∷ ts) h solid =
      ap₂ xor (passes_in_any_order is_it (λ c d moved. ap (same face) (sorted_corners c d moved)) s t h.0 solid.0) (reordered_passes ss ts h.1 solid.1)

pub reordered_same_oddly : (ss ts : List (List Coordinates)) → AreReordered ss ts → AllByRecursion (λ corners. is_flat corners ≡ false) ss → AreSameOddly (sorted_faces ts) (sorted_faces ss)
unfolding is_it
reordered_same_oddly ss ts h solid face =
    sorted_listings face ts
    ∙ odd-flat_map (is_it face) faces_of ts
    ∙ reordered_passes face ss ts h solid
    ∙ sym (odd-flat_map (is_it face) faces_of ss)
    ∙ sym (sorted_listings face ss)

-- ---- those of tetrahedra whose corners ascend are as they are
pub ascending_faces : (tets : List (List Coordinates)) → AllByRecursion (λ corners. are_ascending place_cmp corners ≡ true) tets → sorted_faces tets ≡ flat_map faces_of tets
ascending_faces tets rise =
    as_they_are (flat_map faces_of tets)
    (all-flat_map (λ corners. are_ascending place_cmp corners ≡ true) (λ face. ascending_of place_cmp face ≡ face) faces_of
    (λ corners rises. all_weaker (λ face. are_ascending place_cmp face ≡ true) (λ face. ascending_of place_cmp face ≡ face) ascending_is (faces_of corners)
    (all_pass (are_ascending place_cmp) (faces_of corners) (choices-ascend place_cmp_total 3 corners rises))) tets rise)
  where
    as_they_are : (faces : List (List Coordinates)) → AllByRecursion (λ face. ascending_of place_cmp face ≡ face) faces → map (ascending_of place_cmp) faces ≡ faces
    as_they_are [] h = refl
    as_they_are (face ∷ faces) h = ap₂ (λ x xs. x ∷ xs) h.0 (as_they_are faces h.1)

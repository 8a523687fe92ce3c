-- Where each region covers a point equally often, so do whichever regions together, and so the cover stays at most.
use Rattle.std.proofs.Common.{◌≡◌, ℕ, ◌+◌, ◌≤◌, Bool, true, false, cond, ◌&&◌, List, [], ◌∷◌, refl, sym, ap, ap₂, ◌∙◌, arith}
use Rattle.std.specs.Prelude.{ℤ}
use Rattle.std.specs.List.{count_by}
use Rattle.std.specs.Ordering.{int_eq}
use Rattle.std.proofs.lemmas.Bool.{and_parts, false≢true}
use Rattle.std.proofs.lemmas.Int.{ints}
use Rattle.ma_geom.specs.Rational.{Rational}
use Rattle.ma_cells.specs.Tetrahedron.{Tetrahedron}
use Rattle.ma_cover.specs.Cover.{cover}
use Rattle.ma_cover.specs.Inside.{is_inside}
use Rattle.mesh_laws.specs.Covers.{RegionsGiveCover, SameCoverStaysAtMost}
use Rattle.mesh_laws.proofs.Keyed.{at, total, total-by_key, total-each, total-none}
use Rattle.mesh_laws.proofs.Lists.{all_items, count-cons}
use Rattle.mesh_laws.proofs.MovedOff.{cover_stays_at_most}

-- ---- counts as sums
abbrev sum : {X : Type 0} → (X → ℕ) → List X → ℕ
sum f xs = total 0 (λ (m n : ℕ). m + n) f xs

count_is : {X : Type 0} (f : X → Bool) (xs : List X) → count_by f xs ≡ sum (λ x. cond (f x) 1 0) xs
count_is f [] = refl
count_is f (x ∷ xs) = count-cons f x xs ∙ ap (λ (n : ℕ). cond (f x) 1 0 + n) (count_is f xs)

left : (n : ℕ) → 0 + n ≡ n
left n = omega arith

right : (n : ℕ) → n + 0 ≡ n
right n = omega arith

regroup : (a b c d : ℕ) → (a + b) + (c + d) ≡ (a + c) + (b + d)
regroup a b c d = omega arith

-- ---- regions as keys
record Region : Type 0 where
  pub phys : ℤ
  pub elem : ℤ

abbrev region_of : Tetrahedron → Region
region_of tet = record { phys = tet.phys; elem = tet.elem }

abbrev same : Region → Region → Bool
same r s = int_eq s.phys r.phys && int_eq s.elem r.elem

same_is : (r s : Region) → same r s ≡ true → r ≡ s
same_is r s h =
    let parts = and_parts (int_eq s.phys r.phys) (int_eq s.elem r.elem) h in
    let e = equal s.phys r.phys parts.0 in
    let f = equal s.elem r.elem parts.1 in
    λ i. record { phys = e i; elem = f i }
  where
    equal : (x y : ℤ) → int_eq x y ≡ true → y ≡ x
    equal x y h = grind (arith, ints)

same_itself : (r : Region) → same r r ≡ true
same_itself r = ap₂ (λ s t. s && t) (itself r.phys) (itself r.elem)
  where
    itself : (x : ℤ) → int_eq x x ≡ true
    itself x = grind (arith, ints)

-- ---- the cover of a region, and of whichever regions
module _ (regions : ℤ → ℤ → Bool) (p : Rational) where
  abbrev weight : Tetrahedron → ℕ
  weight tet = cond (regions tet.phys tet.elem && is_inside p tet.corners) 1 0

  abbrev counted : Region → Tetrahedron → ℕ
  counted r tet = cond ((int_eq tet.phys r.phys && int_eq tet.elem r.elem) && is_inside p tet.corners) 1 0

  of_region : (r : Region) (tets : List Tetrahedron) → sum (at 0 region_of same r weight) tets ≡ cond (regions r.phys r.elem) (cover r.phys r.elem p tets) 0
  of_region r tets = by (regions r.phys r.elem) refl
    where
      one : (s t u : Bool) → (s ≡ true → t ≡ true) → ◌≡◌ {A = ℕ} (cond s (cond (t && u) 1 0) 0) (cond (s && u) 1 0)
      one true true u h = refl
      one true false u h = absurd (false≢true (h refl))
      one false t u h = refl

      none : (s t u : Bool) → (s ≡ true → t ≡ false) → ◌≡◌ {A = ℕ} (cond s (cond (t && u) 1 0) 0) 0
      none true true u h = absurd (false≢true (sym (h refl)))
      none true false u h = refl
      none false t u h = refl

      -- a tetrahedron of the region r passes if r does
      as_region : (tet : Tetrahedron) → same r (region_of tet) ≡ true → regions tet.phys tet.elem ≡ regions r.phys r.elem
      as_region tet h = ap (λ q. regions q.phys q.elem) (sym (same_is r (region_of tet) h))

      by : (b : Bool) → regions r.phys r.elem ≡ b → sum (at 0 region_of same r weight) tets ≡ cond b (cover r.phys r.elem p tets) 0
      by true e =
          total-each 0 (λ (m n : ℕ). m + n) left right regroup (at 0 region_of same r weight) (counted r) tets
          (all_items (λ tet. at 0 region_of same r weight tet ≡ counted r tet) (λ tet. one (same r (region_of tet)) (regions tet.phys tet.elem) (is_inside p tet.corners) (λ h. as_region tet h ∙ e)) tets)
          ∙ sym (count_is (λ tet. (int_eq tet.phys r.phys && int_eq tet.elem r.elem) && is_inside p tet.corners) tets)
      by false e =
          total-none 0 (λ (m n : ℕ). m + n) left right regroup (at 0 region_of same r weight) tets
          (all_items (λ tet. at 0 region_of same r weight tet ≡ 0) (λ tet. none (same r (region_of tet)) (regions tet.phys tet.elem) (is_inside p tet.corners) (λ h. as_region tet h ∙ e)) tets)

pub regions_give_cover : RegionsGiveCover
regions_give_cover regions p tets others each =
    count_is (λ tet. regions tet.phys tet.elem && is_inside p tet.corners) others
    ∙ total-by_key 0 (λ (m n : ℕ). m + n) left right regroup region_of same same_is same_itself others tets (weight regions p)
    (λ r. of_region regions p r others ∙ ap (λ n. cond (regions r.phys r.elem) n 0) (each r.phys r.elem) ∙ sym (of_region regions p r tets))
    ∙ sym (count_is (λ tet. regions tet.phys tet.elem && is_inside p tet.corners) tets)

pub same_cover_stays_at_most : SameCoverStaysAtMost
same_cover_stays_at_most n regions tets others solid others_solid same most =
    cover_stays_at_most n regions others tets others_solid solid (λ p off_others off. by _ _ (regions_give_cover regions p tets others (λ phys elem. same phys elem p off off_others)) (most p off))
  where
    by : (k l : ℕ) → k ≡ l → l ≤ n → k ≤ n
    by k l e h = omega arith

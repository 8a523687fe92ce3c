-- The lowest two neighbours with one key, in a list that is sorted by key and then number, are the first two items with one key.
use Rattle.std.proofs.Common.{◌≡◌, ℕ, ◌+◌, ◌<◌, length, get_or, drop, true, false, cond, eqb, List, [], ◌∷◌, Option, Some, None, refl, sym, ap, ◌∙◌, arith}
use Rattle.std.specs.Prelude.{map, nat_lt}
use Rattle.std.specs.Cmp.{IsTotalOrder, alike_right, nat_cmp_total}
use Rattle.std.specs.FinMap.{IsAntisymmetric, nat_cmp-IsAntisymmetric}
use Rattle.std.specs.List.{AllByRecursion}
use Rattle.std.specs.List.Sorted.{IsStrictlySortedBy}
use Rattle.std.specs.Ordering.{eq_by_cmp, is_eq, is_lt, nat_cmp, ordering_reverse, ordering_then}
use Rattle.std.specs.declared.cmp.Ordering.{Ordering}
use Rattle.std.specs.declared.cmp.Ordering.TheVariants.{Less, Equal, Greater}
use Rattle.std.proofs.lemmas.Bool.Decides.{nat_tests}
use Rattle.std.proofs.lemmas.Cmp.{on_total, then_total}
use Rattle.std.proofs.lemmas.List.{at_drop_more}
use Rattle.ma_geom.proofs.PlaceOrder.{both_tie}
use Rattle.ma_cells.specs.Ascending.{ascending_of, put}
use Rattle.ma_cells.proofs.Ascents.{sorted-ascending_of}
use Rattle.mesh_check.specs.Pairs.{first_pair, first_with, paired}
use Rattle.mesh_check.specs.steps.Ties.{lower, lowest_tie, numbered_cmp, tie}
use Rattle.ma_cells.proofs.SetItems.{all-ascending_of}

lower-none : (p : Option (ℕ × ℕ)) → lower p None ≡ p
lower-none None = refl
lower-none (Some p) = refl

both_ways : (a b c : ℕ × ℕ) → lower (lower (Some a) (Some b)) (Some c) ≡ lower (Some a) (lower (Some b) (Some c))
both_ways a b c =
    elim (nat_lt b.0 a.0) as (λ s. nat_lt b.0 a.0 ≡ s → lower (cond s (Some b) (Some a)) (Some c) ≡ lower (Some a) (cond (nat_lt c.0 b.0) (Some c) (Some b))) [
      | true ↦ λ e. elim (nat_lt c.0 b.0) as (λ t. nat_lt c.0 b.0 ≡ t → cond t (Some c) (Some b) ≡ lower (Some a) (cond t (Some c) (Some b))) [
        | true ↦ λ f. let g : nat_lt c.0 a.0 ≡ true = grind (arith, nat_tests) in rw g refl
        | false ↦ λ f. rw e refl
      ] refl
      | false ↦ λ e. elim (nat_lt c.0 b.0) as (λ t. nat_lt c.0 b.0 ≡ t → cond (nat_lt c.0 a.0) (Some c) (Some a) ≡ lower (Some a) (cond t (Some c) (Some b))) [
        | true ↦ λ f. refl
        | false ↦ λ f. let g : nat_lt c.0 a.0 ≡ false = grind (arith, nat_tests) in rw (g, e) refl
      ] refl
    ] refl

pub lower-assoc : (p q r : Option (ℕ × ℕ)) → lower (lower p q) r ≡ lower p (lower q r)
lower-assoc None q r = refl
lower-assoc (Some p) None r = refl
lower-assoc (Some p) (Some q) None = lower-none (lower (Some p) (Some q))
lower-assoc (Some p) (Some q) (Some r) = both_ways p q r

pub less_lt : (m n : ℕ) → nat_cmp m n ≡ Less → nat_lt m n ≡ true
less_lt m n e =
    elim (nat_lt m n) as (λ b. nat_lt m n ≡ b → cond b Less (cond (eqb m n) Equal Greater) ≡ Less → b ≡ true) [
      | true ↦ λ _ _. refl
      | false ↦ λ _ f. elim (eqb m n) as (λ b. cond b Equal Greater ≡ Less → false ≡ true) [ true ↦ λ k. absurd cc | false ↦ λ k. absurd cc ] f
    ] refl e

not_lt : (m n : ℕ) → nat_lt m n ≡ true → nat_lt n m ≡ false
not_lt m n e = grind (arith, nat_tests)

-- what a list begins with, after an item
abbrev tie_head : {K : Type 0} → (K → K → Ordering) → K × ℕ → List (K × ℕ) → Option (ℕ × ℕ)
tie_head R a [] = None
tie_head R a (b ∷ items) = tie R a b

lowest-cons : {K : Type 0} (R : K → K → Ordering) (a : K × ℕ) (items : List (K × ℕ)) → lowest_tie R (a ∷ items) ≡ lower (tie_head R a items) (lowest_tie R items)
lowest-cons R a [] = refl
lowest-cons R a (b ∷ items) = refl

-- each number is above n
abbrev Above : {K : Type 0} → ℕ → List (K × ℕ) → Type 0
Above n items = AllByRecursion (λ item. nat_cmp n item.1 ≡ Less) items

-- no two neighbours have a lower number than one that is below all
lowest-above : {K : Type 0} (R : K → K → Ordering) (n m : ℕ) (items : List (K × ℕ)) → Above n items → lower (Some (n, m)) (lowest_tie R items) ≡ Some (n, m)
lowest-above R n m [] h = refl
lowest-above R n m (a ∷ []) h = refl
lowest-above R n m (a ∷ b ∷ items) h =
    let rest = lowest-above R n m (b ∷ items) h.1 in
    let later : nat_lt a.1 n ≡ false = not_lt n a.1 (less_lt n a.1 h.0) in
    elim (eq_by_cmp R a.0 b.0) as (λ s. lower (Some (n, m)) (lower (cond s (Some (a.1, b.1)) None) (lowest_tie R (b ∷ items))) ≡ Some (n, m)) [
      | true ↦ sym (lower-assoc (Some (n, m)) (Some (a.1, b.1)) (lowest_tie R (b ∷ items))) ∙ ap (λ s. lower (cond s (Some (a.1, b.1)) (Some (n, m))) (lowest_tie R (b ∷ items))) later ∙ rest
      | false ↦ rest
    ]

-- an item's own pair gives way to one with a lower number
gives_way : {K : Type 0} (R : K → K → Ordering) (y : K) (m n p : ℕ) (items : List (K × ℕ)) → nat_cmp n m ≡ Less → lower (tie_head R (y, m) items) (Some (n, p)) ≡ Some (n, p)
gives_way R y m n p [] h = refl
gives_way R y m n p (b ∷ items) h =
    let first = less_lt n m h in
    elim (eq_by_cmp R y b.0) as (λ s. lower (cond s (Some (m, b.1)) None) (Some (n, p)) ≡ Some (n, p)) [
      | true ↦ rw first refl
      | false ↦ refl
    ]

-- the numbers rise
abbrev Rise : {K : Type 0} → List (K × ℕ) → Type 0
Rise [] = Unit {0}
Rise (item ∷ items) = Above item.1 items × Rise items

above-from_numbers : {K : Type 0} (n : ℕ) (items : List (K × ℕ)) → AllByRecursion (λ m. nat_cmp n m ≡ Less) (map (λ item. item.1) items) → Above n items
above-from_numbers n [] h = tt
above-from_numbers n (item ∷ items) h = (h.0, above-from_numbers n items h.1)

rise-from_numbers : {K : Type 0} (items : List (K × ℕ)) → IsStrictlySortedBy nat_cmp (map (λ item. item.1) items) → Rise items
unfolding IsStrictlySortedBy
rise-from_numbers [] s = tt
rise-from_numbers (item ∷ items) s = (above-from_numbers item.1 items s.0, rise-from_numbers items s.1)

module _ {K : Type 0} {R : K → K → Ordering} (o : IsTotalOrder R) where
  pub numbered_total : IsTotalOrder (numbered_cmp R)
  numbered_total = then_total (on_total (λ (a : K × ℕ). a.0) o) (on_total (λ (a : K × ℕ). a.1) nat_cmp_total)

  turned : (x y : K) → R x y ≡ Greater → R y x ≡ Less
  turned x y e = o.antisymm y x ∙ ap ordering_reverse e

  -- what is below an item's key is below the keys behind it
  below_next : (x y z : K) (after : Ordering) → R x y ≡ Less → ordering_then (R y z) after ≡ Less → R x z ≡ Less
  below_next x y z after e f =
      elim (R y z) as (λ r. R y z ≡ r → ordering_then r after ≡ Less → R x z ≡ Less) [
        | Less ↦ λ g _. o.trans x y z e g
        | Equal ↦ λ g _. sym (alike_right o y z x g) ∙ e
        | Greater ↦ λ _ k. absurd cc
      ] refl f

  first_with-below : (x y : K) (m : ℕ) (zs : List (K × ℕ)) → R x y ≡ Less → AllByRecursion (λ z. numbered_cmp R (y, m) z ≡ Less) zs → first_with R x zs ≡ None
  first_with-below x y m [] e h = refl
  first_with-below x y m (z ∷ zs) e h = rw (below_next x y z.0 (nat_cmp m z.1) e h.0) (first_with-below x y m zs e h.1)

  -- where an item whose number is the lowest is put, it is the first with its key
  first_with-put : (q x : K) (n : ℕ) (ys : List (K × ℕ)) → Above n ys → first_with R q (put (numbered_cmp R) (x, n) ys) ≡ cond (eq_by_cmp R q x) (Some n) (first_with R q ys)
  first_with-put q x n [] h = refl
  first_with-put q x n (y ∷ ys) h =
      elim (R x y.0) as (λ r. R x y.0 ≡ r → first_with R q (cond (is_lt (ordering_then r (nat_cmp n y.1))) ((x, n) ∷ y ∷ ys) (cond (is_eq (ordering_then r (nat_cmp n y.1))) (y ∷ ys) (y ∷ put (numbered_cmp R) (x, n) ys)))
      ≡ cond (eq_by_cmp R q x) (Some n) (cond (eq_by_cmp R q y.0) (Some y.1) (first_with R q ys))) [
        | Less ↦ λ e. refl
        | Equal ↦ λ e. rw (h.0) refl
        | Greater ↦ λ e. ap (λ found. cond (eq_by_cmp R q y.0) (Some y.1) found) (first_with-put q x n ys h.1)
            ∙ elim (R q x) as (λ r. R q x ≡ r → cond (eq_by_cmp R q y.0) (Some y.1) (cond (is_eq r) (Some n) (first_with R q ys)) ≡ cond (is_eq r) (Some n) (cond (eq_by_cmp R q y.0) (Some y.1) (first_with R q ys))) [
              | Less ↦ λ _. refl
              | Equal ↦ λ f. rw (o.congr q x y.0 f ∙ e) refl
              | Greater ↦ λ _. refl
            ] refl
      ] refl

  -- where no item has its key, an item comes between none with one key
  head-kept : (x y : K) (n m : ℕ) (zs : List (K × ℕ)) → R x y ≡ Greater → first_with R x zs ≡ None → tie_head R (y, m) (put (numbered_cmp R) (x, n) zs) ≡ tie_head R (y, m) zs
  head-kept x y n m [] e none = rw (turned x y e) refl
  head-kept x y n m (w ∷ zs) e none =
      elim (R x w.0) as (λ r. R x w.0 ≡ r → cond (is_eq r) (Some w.1) (first_with R x zs) ≡ None
      → tie_head R (y, m) (cond (is_lt (ordering_then r (nat_cmp n w.1))) ((x, n) ∷ w ∷ zs) (cond (is_eq (ordering_then r (nat_cmp n w.1))) (w ∷ zs) (w ∷ put (numbered_cmp R) (x, n) zs))) ≡ tie R (y, m) w) [
        | Less ↦ λ f _. rw (turned x y e, o.trans y x w.0 (turned x y e) f) refl
        | Equal ↦ λ _ k. absurd cc
        | Greater ↦ λ _ _. refl
      ] refl none

  lowest-put : (x : K) (n : ℕ) (ys : List (K × ℕ)) → Above n ys → IsStrictlySortedBy (numbered_cmp R) ys
      → lowest_tie R (put (numbered_cmp R) (x, n) ys) ≡ paired n (first_with R x ys) (lowest_tie R ys)
  unfolding IsStrictlySortedBy
  lowest-put x n [] h s = refl
  lowest-put x n (y ∷ ys) h s =
      elim (R x y.0) as (λ r. R x y.0 ≡ r → lowest_tie R (cond (is_lt (ordering_then r (nat_cmp n y.1))) ((x, n) ∷ y ∷ ys) (cond (is_eq (ordering_then r (nat_cmp n y.1))) (y ∷ ys) (y ∷ put (numbered_cmp R) (x, n) ys)))
      ≡ paired n (cond (is_eq r) (Some y.1) (first_with R x ys)) (lowest_tie R (y ∷ ys))) [
        | Less ↦ λ e. rw e (ap (λ found. paired n found (lowest_tie R (y ∷ ys))) (sym (first_with-below x y.0 y.1 ys e s.0)))
        | Equal ↦ λ e. rw (h.0) (rw e (lowest-above R n y.1 (y ∷ ys) h))
        | Greater ↦ λ e. lowest-cons R y (put (numbered_cmp R) (x, n) ys)
            ∙ ap (λ low. lower (tie_head R y (put (numbered_cmp R) (x, n) ys)) low) (lowest-put x n ys h.1 s.1)
            ∙ elim (first_with R x ys) as (λ found. first_with R x ys ≡ found → lower (tie_head R y (put (numbered_cmp R) (x, n) ys)) (paired n found (lowest_tie R ys)) ≡ paired n found (lowest_tie R (y ∷ ys))) [
              | Some p ↦ λ _. gives_way R y.0 y.1 n p (put (numbered_cmp R) (x, n) ys) h.0
              | None ↦ λ none. ap (λ t. lower t (lowest_tie R ys)) (head-kept x y.0 n y.1 ys e none) ∙ sym (lowest-cons R y ys)
            ] refl
      ] refl

  first_with-sorted : (q : K) (items : List (K × ℕ)) → Rise items → first_with R q (ascending_of (numbered_cmp R) items) ≡ first_with R q items
  first_with-sorted q [] h = refl
  first_with-sorted q (item ∷ items) h =
      first_with-put q item.0 item.1 (ascending_of (numbered_cmp R) items) (all-ascending_of (numbered_cmp R) (λ z. nat_cmp item.1 z.1 ≡ Less) items h.0)
      ∙ ap (λ found. cond (eq_by_cmp R q item.0) (Some item.1) found) (first_with-sorted q items h.1)

  lowest_tie-sorted : (items : List (K × ℕ)) → Rise items → lowest_tie R (ascending_of (numbered_cmp R) items) ≡ first_pair R items
  lowest_tie-sorted [] h = refl
  lowest_tie-sorted (item ∷ items) h =
      lowest-put item.0 item.1 (ascending_of (numbered_cmp R) items) (all-ascending_of (numbered_cmp R) (λ z. nat_cmp item.1 z.1 ≡ Less) items h.0) (sorted-ascending_of numbered_total items)
      ∙ ap (λ found. paired item.1 found (lowest_tie R (ascending_of (numbered_cmp R) items))) (first_with-sorted item.0 items h.1)
      ∙ ap (λ later. paired item.1 (first_with R item.0 items) later) (lowest_tie-sorted items h.1)

  pub lowest_tie-is : (items : List (K × ℕ)) → IsStrictlySortedBy nat_cmp (map (λ item. item.1) items) → lowest_tie R (ascending_of (numbered_cmp R) items) ≡ first_pair R items
  lowest_tie-is items s = lowest_tie-sorted items (rise-from_numbers items s)

pub numbered_cmp-IsAntisymmetric : {K : Type 0} {R : K → K → Ordering} → IsAntisymmetric R → IsAntisymmetric (numbered_cmp R)
numbered_cmp-IsAntisymmetric {R = R} exact a b e =
    let both = both_tie (R a.0 b.0) _ e in
    let keys = exact a.0 b.0 both.0 in
    let numbers = nat_cmp-IsAntisymmetric a.1 b.1 both.1 in
    λ i. (keys i, numbers i)

-- a step of a loop over neighbours
pub tied_on : {K : Type 0} (R : K → K → Ordering) (low : Option (ℕ × ℕ)) (last : K × ℕ) (rest : List (K × ℕ)) (i : ℕ) (item : K × ℕ) (pair next total : Option (ℕ × ℕ)) → i < length rest → item ≡ get_or rest i item
    → pair ≡ tie R last item → next ≡ lower low pair → lower low (lowest_tie R (last ∷ drop i rest)) ≡ total → lower next (lowest_tie R (item ∷ drop (i + 1) rest)) ≡ total
tied_on R low last rest i item pair next total within at is goes so_far =
    rw (goes, is) (lower-assoc low (tie R last item) (lowest_tie R (item ∷ drop (i + 1) rest))
    ∙ ap (λ x. lower low (lowest_tie R (last ∷ x ∷ drop (i + 1) rest))) at
    ∙ sym (at_drop_more (λ xs. lower low (lowest_tie R (last ∷ xs))) rest i item within)
    ∙ so_far)

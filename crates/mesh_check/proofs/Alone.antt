-- In a sorted list the items that stand once are those that neither neighbour is.
use Rattle.std.proofs.Common.{◌≡◌, ℕ, zero, suc, ◌+◌, Bool, true, false, cond, not, ◌&&◌, ◌||◌, eqb, List, [], ◌∷◌, Option, Some, None, refl, sym, ap, ◌∙◌, arith, add-one, count_by}
use Rattle.std.specs.Cmp.{IsTotalOrder, alike_right, tied_itself}
use Rattle.std.specs.List.{AllByRecursion, filter, list_any}
use Rattle.std.specs.List.Sorted.{IsPermutation, IsSorted}
use Rattle.std.specs.Ordering.{eq_by_cmp, is_eq, is_lt, ordering_reverse}
use Rattle.std.specs.declared.cmp.Ordering.{Ordering}
use Rattle.std.specs.declared.cmp.Ordering.TheVariants.{Less, Equal, Greater}
use Rattle.std.proofs.lemmas.Bool.{false≢true}
use Rattle.std.proofs.lemmas.Bool.Decides.{nat_tests}
use Rattle.std.proofs.lemmas.List.Elements.{recursion_from_All}
use Rattle.std.proofs.lemmas.List.Recursion.{is_count_by}
use Rattle.std.proofs.lemmas.List.Sorted.{list_any-IsPermutation, ranks_by, sorted_far, sum_by-IsPermutation}
use Rattle.mesh_check.specs.Lone.{lone}
use Rattle.mesh_check.specs.steps.Neighbours.{differs, first_of, lone_after}

-- how often an item stands in a list
abbrev times : {K : Type 0} → (K → K → Ordering) → K → List K → ℕ
times R x [] = 0
times R x (y ∷ ys) = cond (eq_by_cmp R x y) (1 + times R x ys) (times R x ys)

times-is : {K : Type 0} (R : K → K → Ordering) (x : K) (xs : List K) → times R x xs ≡ count_by (eq_by_cmp R x) xs
times-is R x xs = is_count_by (times R x) (eq_by_cmp R x) refl (λ _ _. refl) xs

-- x stands below none of these
abbrev NotBelow : {K : Type 0} → (K → K → Ordering) → K → Option K → Type 0
NotBelow R x None = Unit {0}
NotBelow R x (Some y) = is_lt (R x y) ≡ false

abbrev Ordered : {K : Type 0} → (K → K → Ordering) → List K → Type 0
Ordered R [] = Unit {0}
Ordered R (x ∷ xs) = AllByRecursion (λ z. is_lt (R z x) ≡ false) xs × Ordered R xs

once : (c t : ℕ) → eqb (c + (1 + t)) 1 ≡ (eqb c 0 && eqb t 0)
once c t =
    elim (eqb c 0) as (λ b. eqb c 0 ≡ b → eqb (c + (1 + t)) 1 ≡ (b && eqb t 0)) [
      | true ↦ λ e. elim (eqb t 0) as (λ b. eqb t 0 ≡ b → eqb (c + (1 + t)) 1 ≡ b) [ true ↦ λ f. grind (arith, nat_tests) | false ↦ λ f. grind (arith, nat_tests) ] refl
      | false ↦ λ e. grind (arith, nat_tests)
    ] refl

not_zero : (n : ℕ) → eqb (1 + n) 0 ≡ false
not_zero n = grind (arith, nat_tests)

module _ {K : Type 0} {R : K → K → Ordering} (o : IsTotalOrder R) where
  ordered : (xs : List K) → IsSorted R xs → Ordered R xs
  ordered [] s = tt
  ordered (x ∷ xs) s = (
    recursion_from_All (λ z. is_lt (R z x) ≡ false) xs (λ k d w. sorted_far (λ a b. is_lt (R a b)) (ranks_by o (λ a. a)) (x ∷ xs) s zero (suc k) d (omega arith) (omega arith)),
    ordered xs (λ k d low high. let at = s (suc k) d (omega arith) (omega arith) in rw add-one (rw add-one at at)),
  )

  -- what is below the first of ordered items is none of them
  none-below : (q x : K) (xs : List K) → R q x ≡ Less → AllByRecursion (λ z. is_lt (R z x) ≡ false) xs → times R q xs ≡ 0
  none-below q x [] e h = refl
  none-below q x (z ∷ zs) e h =
      let less : R q z ≡ Less =
      elim (R x z) as (λ r. R x z ≡ r → R q z ≡ Less) [
        | Less ↦ λ f. o.trans q x z e f
        | Equal ↦ λ f. sym (alike_right o x z q f) ∙ e
        | Greater ↦ λ f. absurd (false≢true (sym h.0 ∙ ap is_lt (o.antisymm z x ∙ ap ordering_reverse f)))
      ] refl in
      rw less (none-below q x zs e h.1)

  -- an item stands again in what follows just where the next is the same
  next-differs : (x : K) (xs : List K) → AllByRecursion (λ z. is_lt (R z x) ≡ false) xs → Ordered R xs → eqb (times R x xs) 0 ≡ differs R x (first_of xs)
  next-differs x [] h s = refl
  next-differs x (y ∷ ys) h s =
      elim (R x y) as (λ r. R x y ≡ r → eqb (cond (is_eq r) (1 + times R x ys) (times R x ys)) 0 ≡ not (is_eq r)) [
        | Less ↦ λ e. ap (λ n. eqb n 0) (none-below x y ys e s.0)
        | Equal ↦ λ e. not_zero (times R x ys)
        | Greater ↦ λ e. absurd (false≢true (sym h.0 ∙ ap is_lt (o.antisymm y x ∙ ap ordering_reverse e)))
      ] refl

  -- what is above an item is neither below nor the same as what stands before that
  beyond : (q x : K) (last : Option K) → R q x ≡ Greater → NotBelow R x last → NotBelow R q last × (differs R q last ≡ true)
  beyond q x None e h = (tt, refl)
  beyond q x (Some l) e h =
      let more : R q l ≡ Greater =
      elim (R l x) as (λ r. R l x ≡ r → R q l ≡ Greater) [
        | Less ↦ λ f. o.antisymm q l ∙ ap ordering_reverse (o.trans l x q f (o.antisymm x q ∙ ap ordering_reverse e))
        | Equal ↦ λ f. alike_right o l x q f ∙ e
        | Greater ↦ λ f. absurd (false≢true (sym h ∙ ap is_lt (o.antisymm x l ∙ ap ordering_reverse f)))
      ] refl in
      (ap is_lt more, ap (λ r. not (is_eq r)) more)

  alone-is : (all : List K) (before : K → ℕ) (last : Option K) (xs : List K)
      → ((q : K) → times R q all ≡ before q + times R q xs)
      → ((q : K) → NotBelow R q last → eqb (before q) 0 ≡ differs R q last)
      → AllByRecursion (λ z. NotBelow R z last) xs → Ordered R xs
      → lone_after R last xs ≡ filter (λ x. eqb (times R x all) 1) xs
  alone-is all before last [] whole none later s = refl
  alone-is all before last (x ∷ xs) whole none later s =
      let test : eqb (times R x all) 1 ≡ (differs R x last && differs R x (first_of xs)) =
      ap (λ n. eqb n 1) (whole x ∙ ap (λ r. before x + cond (is_eq r) (1 + times R x xs) (times R x xs)) (tied_itself o x))
      ∙ once (before x) (times R x xs)
      ∙ ap (λ b. b && eqb (times R x xs) 0) (none x later.0)
      ∙ ap (λ b. differs R x last && b) (next-differs x xs s.0 s.1) in
      let rest : lone_after R (Some x) xs ≡ filter (λ y. eqb (times R y all) 1) xs =
      alone-is all (λ q. before q + cond (eq_by_cmp R q x) 1 0) (Some x) xs
      (λ q. whole q ∙ elim (eq_by_cmp R q x) as (λ b. before q + cond b (1 + times R q xs) (times R q xs) ≡ before q + cond b 1 0 + times R q xs) [ true ↦ omega arith | false ↦ omega arith ])
      (λ q. λ h. elim (R q x) as (λ r. R q x ≡ r → is_lt r ≡ false → eqb (before q + cond (is_eq r) 1 0) 0 ≡ not (is_eq r)) [
        | Less ↦ λ _ k. absurd (false≢true (sym k))
        | Equal ↦ λ _ _. grind (arith, nat_tests)
        | Greater ↦ λ e _. let b = beyond q x last e later.0 in let same : before q + 0 ≡ before q = omega arith in ap (λ n. eqb n 0) same ∙ none q b.0 ∙ b.1
      ] refl h)
      s.0 s.1 in
      rw (test, rest) refl

  everywhere : (xs : List K) → AllByRecursion (λ z. NotBelow R z None) xs
  everywhere [] = tt
  everywhere (x ∷ xs) = (tt, everywhere xs)

  filter-by : (p q : K → Bool) → ((x : K) → p x ≡ q x) → (xs : List K) → filter p xs ≡ filter q xs
  filter-by p q same [] = refl
  filter-by p q same (x ∷ xs) = ap (λ b. cond b (x ∷ filter p xs) (filter p xs)) (same x) ∙ ap (λ ys. cond (q x) (x ∷ ys) ys) (filter-by p q same xs)

  -- what neither neighbour is in a sorted list
  lone_after-sorted : (xs : List K) → IsSorted R xs → lone_after R None xs ≡ lone R xs
  lone_after-sorted xs s =
      alone-is xs (λ _. 0) None xs (λ q. let e : times R q xs ≡ 0 + times R q xs = omega arith in e) (λ _ _. refl) (everywhere xs) (ordered xs s)
      ∙ filter-by _ _ (λ x. ap (λ n. eqb n 1) (times-is R x xs)) xs

  pub any-filter : (p q : K → Bool) (xs : List K) → list_any p (filter q xs) ≡ list_any (λ x. q x && p x) xs
  any-filter p q [] = refl
  any-filter p q (x ∷ xs) =
      elim (q x) as (λ b. list_any p (cond b (x ∷ filter q xs) (filter q xs)) ≡ ((b && p x) || list_any (λ y. q y && p y) xs)) [
        | true ↦ ap (λ b. p x || b) (any-filter p q xs)
        | false ↦ any-filter p q xs
      ]

  -- a list and its permutation have the same items that stand once
  pub lone-sorted : (test : K → Bool) (xs ys found : List K) → IsPermutation xs ys → IsSorted R ys → found ≡ lone_after R None ys → list_any test found ≡ list_any test (lone R xs)
  lone-sorted test xs ys found moved s is =
      ap (list_any test) (is ∙ lone_after-sorted ys s)
      ∙ ap (list_any test) (filter-by _ _ (λ x. ap (λ n. eqb n 1) (sum_by-IsPermutation (λ y. cond (eq_by_cmp R x y) 1 0) xs ys moved)) ys)
      ∙ any-filter test _ ys
      ∙ sym (list_any-IsPermutation (λ x. eqb (count_by (eq_by_cmp R x) xs) 1 && test x) xs ys moved)
      ∙ sym (any-filter test _ xs)

-- What `ascending_of` is: strictly ascending, with the same members, and the only such list.
use Rattle.std.proofs.Common.{◌≡◌, ◌≢◌, ℕ, suc, ◌≤◌, Bool, true, false, cond, not, ◌&&◌, ◌||◌, List, [], ◌∷◌, length, eqb, refl, sym, ap, subst, ◌∙◌, arith}
use Rattle.std.specs.declared.cmp.Ordering.{Ordering}
use Rattle.std.specs.declared.cmp.Ordering.TheVariants.{Less, Equal, Greater}
use Rattle.std.specs.Cmp.{IsTotalOrder, IsEquivalence, tied_itself, alike_right, eq_by_cmp_equiv, both_ways, Equal-is}
use Rattle.std.specs.FinMap.{IsAntisymmetric}
use Rattle.std.specs.List.{AllByRecursion, dedup, list_any}
use Rattle.std.specs.List.Retain.{IsFiltered, DiffersFromLast}
use Rattle.std.specs.List.Sorted.{IsPermutation, IsSorted, IsStrictlySortedBy}
use Rattle.std.specs.Ordering.{eq_by_cmp, is_eq, is_lt, ordering_reverse}
use Rattle.std.proofs.lemmas.Bool.{false≢true}
use Rattle.std.proofs.lemmas.Bool.Decides.{nat_tests}
use Rattle.std.proofs.lemmas.List.Filters.{dedup_is}
use Rattle.std.proofs.lemmas.List.Kept.{Contains-dedup, Contains-from_dedup, IsStrictlySortedBy-dedup}
use Rattle.std.proofs.lemmas.List.Sorted.{Contains-permutation, IsPermutation-sym}
use Rattle.std.proofs.lemmas.Map.Views.{Contains-from_any, list_any-from_Contains}
use Rattle.ma_cells.specs.Ascending.{put, ascending_of, has, are_ascending, are_distinct}
use Rattle.ma_cells.proofs.SetItems.{all-put}

eqb-suc : (m n : ℕ) → eqb (suc m) (suc n) ≡ eqb m n
eqb-suc m n = grind (arith, nat_tests)

neither : (a b c : Bool) → (not (a || b) && c) ≡ true → (a ≡ false) × (c ≡ true)
neither true b c h = absurd (false≢true h)
neither false true c h = absurd (false≢true h)
neither false false c h = (refl, h)

or_twice : (a b : Bool) → (a || b) ≡ (a || (a || b))
or_twice true b = refl
or_twice false b = refl

or_swap : (a b c : Bool) → (a || (b || c)) ≡ (b || (a || c))
or_swap true true c = refl
or_swap true false c = refl
or_swap false b c = refl

module _ {K : Type 0} {R : K → K → Ordering} (o : IsTotalOrder R) where
  -- a test that agrees with the order is an equivalence
  equivalence : {E : K → K → Bool} → ((x y : K) → E x y ≡ eq_by_cmp R x y) → IsEquivalence E
  equivalence {E} ties = record {
    refl = λ x. ties x x ∙ (eq_by_cmp_equiv o).refl x;
    symm = λ x y. ties x y ∙ (eq_by_cmp_equiv o).symm x y ∙ sym (ties y x);
    congr = λ x y z t. ties x z ∙ (eq_by_cmp_equiv o).congr x y z (sym (ties x y) ∙ t) ∙ sym (ties y z);
  }

  less_turned : (x y : K) → R x y ≡ Greater → R y x ≡ Less
  less_turned x y e = o.antisymm y x ∙ ap ordering_reverse e

  -- what is below an item is below all that the item is below
  pub all_below : (x y : K) (zs : List K) → R x y ≡ Less → AllByRecursion (λ z. R y z ≡ Less) zs → AllByRecursion (λ z. R x z ≡ Less) zs
  all_below x y [] e h = tt
  all_below x y (z ∷ zs) e h = (o.trans x y z e h.0, all_below x y zs e h.1)

  -- what is below all items ties with none
  pub has-below : (x : K) (zs : List K) → AllByRecursion (λ z. R x z ≡ Less) zs → has R x zs ≡ false
  has-below x [] h = refl
  has-below x (z ∷ zs) h = rw (h.0, has-below x zs h.1)

  has-tied : (q x : K) (zs : List K) → R q x ≡ Equal → has R q zs ≡ has R x zs
  has-tied q x [] e = refl
  has-tied q x (z ∷ zs) e = rw (o.congr q x z e, has-tied q x zs e)

  has-put : (q x : K) (ys : List K) → has R q (put R x ys) ≡ (eq_by_cmp R q x || has R q ys)
  has-put q x [] = refl
  has-put q x (y ∷ ys) =
      elim (R x y) as (λ r. R x y ≡ r → list_any (eq_by_cmp R q) (cond (is_lt r) (x ∷ y ∷ ys) (cond (is_eq r) (y ∷ ys) (y ∷ put R x ys))) ≡ (eq_by_cmp R q x || has R q (y ∷ ys))) [
        | Less ↦ λ e. refl
        | Equal ↦ λ e. or_twice (eq_by_cmp R q y) _ ∙ ap (λ r. is_eq r || (eq_by_cmp R q y || has R q ys)) (sym (alike_right o x y q e))
        | Greater ↦ λ e. ap (λ b. eq_by_cmp R q y || b) (has-put q x ys) ∙ or_swap (eq_by_cmp R q y) (eq_by_cmp R q x) _
      ] refl

  pub has-ascending_of : (q : K) (xs : List K) → has R q (ascending_of R xs) ≡ has R q xs
  has-ascending_of q [] = refl
  has-ascending_of q (x ∷ xs) = has-put q x (ascending_of R xs) ∙ ap (λ b. eq_by_cmp R q x || b) (has-ascending_of q xs)

  sorted-put : (x : K) (ys : List K) → IsStrictlySortedBy R ys → IsStrictlySortedBy R (put R x ys)
  unfolding IsStrictlySortedBy
  sorted-put x [] s = (tt, tt)
  sorted-put x (y ∷ ys) s =
      elim (R x y) as (λ r. R x y ≡ r → IsStrictlySortedBy R (cond (is_lt r) (x ∷ y ∷ ys) (cond (is_eq r) (y ∷ ys) (y ∷ put R x ys)))) [
        | Less ↦ λ e. ((e, all_below x y ys e s.0), s)
        | Equal ↦ λ e. s
        | Greater ↦ λ e. (all-put R (λ z. R y z ≡ Less) x ys (less_turned x y e) s.0, sorted-put x ys s.1)
      ] refl

  pub sorted-ascending_of : (xs : List K) → IsStrictlySortedBy R (ascending_of R xs)
  unfolding IsStrictlySortedBy
  sorted-ascending_of [] = tt
  sorted-ascending_of (x ∷ xs) = sorted-put x (ascending_of R xs) (sorted-ascending_of xs)

  -- an item is among the items that it heads
  pub has-head : (x : K) (xs : List K) → has R x (x ∷ xs) ≡ true
  has-head x xs = ap (λ r. is_eq r || has R x xs) (tied_itself o x)

  -- items that tie share a head: what follows has the same members
  tails_alike : (x y q : K) (xs ys : List K) → R x y ≡ Equal → AllByRecursion (λ z. R x z ≡ Less) xs → AllByRecursion (λ z. R y z ≡ Less) ys
      → has R q (x ∷ xs) ≡ has R q (y ∷ ys) → has R q xs ≡ has R q ys
  tails_alike x y q xs ys e s t same =
      let tie : R q x ≡ R q y = alike_right o x y q e in
      let same' : (is_eq (R q x) || has R q xs) ≡ (is_eq (R q x) || has R q ys) = same ∙ ap (λ r. is_eq r || has R q ys) (sym tie) in
      elim (R q x) as (λ r. R q x ≡ r → (is_eq r || has R q xs) ≡ (is_eq r || has R q ys) → has R q xs ≡ has R q ys) [
        | Less ↦ λ _ h. h
        | Equal ↦ λ f _. has-tied q x xs f ∙ has-below x xs s ∙ sym (has-tied q y ys (sym tie ∙ f) ∙ has-below y ys t)
        | Greater ↦ λ _ h. h
      ] refl same'

  -- the head of the one list is no lower than that of the other, since it is among the other's items
  not_lower : (x y : K) (xs ys : List K) → IsStrictlySortedBy R (y ∷ ys) → has R x (x ∷ xs) ≡ has R x (y ∷ ys) → R x y ≢ Less
  unfolding IsStrictlySortedBy
  not_lower x y xs ys s same e =
      let there = has-head x xs in
      let absent : has R x (y ∷ ys) ≡ false = has-below x (y ∷ ys) (e, all_below x y ys e s.0) in
      cc

  -- strictly ascending lists with the same members are equal
  pub same_sorted : IsAntisymmetric R → (xs ys : List K) → IsStrictlySortedBy R xs → IsStrictlySortedBy R ys → ((q : K) → has R q xs ≡ has R q ys) → xs ≡ ys
  unfolding IsStrictlySortedBy
  same_sorted exact [] [] s t same = refl
  same_sorted exact [] (y ∷ ys) s t same =
      let there = has-head y ys in
      let none = same y in cc
  same_sorted exact (x ∷ xs) [] s t same =
      let there = has-head x xs in
      let none = same x in cc
  same_sorted exact (x ∷ xs) (y ∷ ys) s t same =
      elim (R x y) as (λ r. R x y ≡ r → x ∷ xs ≡ y ∷ ys) [
        | Less ↦ λ e. absurd (not_lower x y xs ys t (same x) e)
        | Equal ↦ λ e.
            let heads : x ≡ y = exact x y e in
            let tails : xs ≡ ys = same_sorted exact xs ys s.1 t.1 (λ q. tails_alike x y q xs ys e s.0 t.0 (same q)) in
            cc
        | Greater ↦ λ e. absurd (not_lower y x ys xs s (sym (same y)) (less_turned x y e))
      ] refl

  -- the only strictly ascending list with these members
  pub is-ascending_of : IsAntisymmetric R → (ys xs : List K) → IsStrictlySortedBy R ys → ((q : K) → has R q ys ≡ has R q xs) → ys ≡ ascending_of R xs
  is-ascending_of exact ys xs s same =
      same_sorted exact ys (ascending_of R xs) s (sorted-ascending_of xs) (λ q. same q ∙ sym (has-ascending_of q xs))

  length-put : (x : K) (ys : List K) → IsStrictlySortedBy R ys → length (put R x ys) ≡ cond (has R x ys) (length ys) (suc (length ys))
  unfolding IsStrictlySortedBy
  length-put x [] s = refl
  length-put x (y ∷ ys) s =
      elim (R x y) as (λ r. R x y ≡ r → length (cond (is_lt r) (x ∷ y ∷ ys) (cond (is_eq r) (y ∷ ys) (y ∷ put R x ys))) ≡ cond (is_eq r || has R x ys) (suc (length ys)) (suc (suc (length ys)))) [
        | Less ↦ λ e. ap (λ b. cond b (suc (length ys)) (suc (suc (length ys)))) (sym (has-below x ys (all_below x y ys e s.0)))
        | Equal ↦ λ e. refl
        | Greater ↦ λ e. ap suc (length-put x ys s.1) ∙ elim (has R x ys) as (λ b. suc (cond b (length ys) (suc (length ys))) ≡ cond b (suc (length ys)) (suc (suc (length ys)))) [ true ↦ refl | false ↦ refl ]
      ] refl

  -- the set has as many items as the list just where no two tie
  pub length-ascending_of : (xs : List K) → (length (ascending_of R xs) ≤ length xs) × (eqb (length (ascending_of R xs)) (length xs) ≡ are_distinct R xs)
  length-ascending_of [] = (omega arith, refl)
  length-ascending_of (x ∷ xs) =
      let before = length-ascending_of xs in
      let now : length (put R x (ascending_of R xs)) ≡ cond (has R x xs) (length (ascending_of R xs)) (suc (length (ascending_of R xs)))
      = length-put x (ascending_of R xs) (sorted-ascending_of xs) ∙ ap (λ b. cond b (length (ascending_of R xs)) (suc (length (ascending_of R xs)))) (has-ascending_of x xs) in
      elim (has R x xs) as (λ b. length (put R x (ascending_of R xs)) ≡ cond b (length (ascending_of R xs)) (suc (length (ascending_of R xs)))
      → (length (ascending_of R (x ∷ xs)) ≤ suc (length xs)) × (eqb (length (ascending_of R (x ∷ xs))) (suc (length xs)) ≡ (not b && are_distinct R xs))) [
        | true ↦ λ e. (omega arith, grind (arith, nat_tests))
        | false ↦ λ e. (omega arith, rw e (eqb-suc _ _ ∙ before.1))
      ] now

  -- what a sort and a `dedup` leave ascends
  pub strict-dedup : {E : K → K → Bool} → ((x y : K) → E x y ≡ eq_by_cmp R x y) → (ys zs : List K)
      → IsSorted R ys → IsFiltered (DiffersFromLast E) [] ys zs → IsStrictlySortedBy R zs
  strict-dedup {E} ties ys zs sorted filtered = rw (dedup_is E ys zs filtered) (IsStrictlySortedBy-dedup o ties ys sorted)

  -- what a sort and a `dedup` make of the items
  pub gathered : IsAntisymmetric R → {E : K → K → Bool} → ((x y : K) → E x y ≡ eq_by_cmp R x y) → (xs ys zs : List K)
      → IsPermutation xs ys → IsSorted R ys → IsFiltered (DiffersFromLast E) [] ys zs → zs ≡ ascending_of R xs
  gathered exact {E} ties xs ys zs moved sorted filtered =
      let is : zs ≡ dedup E ys = dedup_is E ys zs filtered in
      let same : (x y : K) → eq_by_cmp R x y ≡ true → x ≡ y = λ x y t. exact x y ((Equal-is (R x y)).0 t) in
      let same_by : (x y : K) → E x y ≡ true → x ≡ y = λ x y t. same x y (sym (ties x y) ∙ t) in
      is-ascending_of exact zs xs (strict-dedup ties ys zs sorted filtered) (λ q. both_ways (has R q zs) (has R q xs)
      (λ t. list_any-from_Contains (eq_by_cmp_equiv o) q xs (Contains-permutation ys xs q (IsPermutation-sym xs ys moved) (Contains-from_dedup E ys q (rw is at (Contains-from_any same q zs t)))))
      (λ t. list_any-from_Contains (eq_by_cmp_equiv o) q zs (rw is (Contains-dedup (equivalence ties) same_by ys q (Contains-permutation xs ys q moved (Contains-from_any same q xs t))))))

  pub counted : (xs zs : List K) (n : ℕ) → n ≡ length xs → zs ≡ ascending_of R xs → eqb (length zs) n ≡ are_distinct R xs
  counted xs zs n whole is = rw (whole, is) ((length-ascending_of xs).1)

  -- two lists of the same items make one set
  pub ascending_of-IsPermutation : IsAntisymmetric R → (xs ys : List K) → IsPermutation xs ys → ascending_of R xs ≡ ascending_of R ys
  ascending_of-IsPermutation exact xs ys moved =
      let same : (x y : K) → eq_by_cmp R x y ≡ true → x ≡ y = λ x y t. exact x y ((Equal-is (R x y)).0 t) in
      is-ascending_of exact (ascending_of R xs) ys (sorted-ascending_of xs) (λ q. has-ascending_of q xs ∙ both_ways (has R q xs) (has R q ys)
      (λ t. list_any-from_Contains (eq_by_cmp_equiv o) q ys (Contains-permutation xs ys q moved (Contains-from_any same q xs t)))
      (λ t. list_any-from_Contains (eq_by_cmp_equiv o) q xs (Contains-permutation ys xs q (IsPermutation-sym xs ys moved) (Contains-from_any same q ys t))))

  pub strict_from_ascending : (xs : List K) → are_ascending R xs ≡ true → IsStrictlySortedBy R xs
  unfolding IsStrictlySortedBy
  strict_from_ascending [] h = tt
  strict_from_ascending (x ∷ []) h = (tt, tt)
  strict_from_ascending (x ∷ y ∷ ys) h =
      elim (R x y) as (λ r. R x y ≡ r → (is_lt r && are_ascending R (y ∷ ys)) ≡ true → AllByRecursion (λ z. R x z ≡ Less) (y ∷ ys) × IsStrictlySortedBy R (y ∷ ys)) [
        | Less ↦ λ e k. let s = strict_from_ascending (y ∷ ys) k in ((e, all_below x y ys e s.0), s)
        | Equal ↦ λ _ k. absurd (false≢true k)
        | Greater ↦ λ _ k. absurd (false≢true k)
      ] refl h

  pub ascending_from_strict : (xs : List K) → IsStrictlySortedBy R xs → are_ascending R xs ≡ true
  unfolding IsStrictlySortedBy
  ascending_from_strict [] s = refl
  ascending_from_strict (x ∷ []) s = refl
  ascending_from_strict (x ∷ y ∷ ys) s = rw (s.0.0) (ascending_from_strict (y ∷ ys) s.1)

  -- where no two items tie, `dedup` leaves all
  dedup_from-distinct : (x : K) (xs : List K) → are_distinct R (x ∷ xs) ≡ true → dedup (eq_by_cmp R) (x ∷ xs) ≡ x ∷ xs
  dedup_from-distinct x [] h = refl
  dedup_from-distinct x (y ∷ ys) h =
      let differ = neither (eq_by_cmp R x y) (has R x ys) (are_distinct R (y ∷ ys)) h in
      rw ((eq_by_cmp_equiv o).symm y x ∙ differ.0) (ap (λ zs. x ∷ zs) (dedup_from-distinct y ys differ.1))

  dedup-distinct : (xs : List K) → are_distinct R xs ≡ true → dedup (eq_by_cmp R) xs ≡ xs
  dedup-distinct [] h = refl
  dedup-distinct (x ∷ xs) h = dedup_from-distinct x xs h

  -- a sorted list of distinct items ascends
  pub ascending_from_distinct : (xs : List K) → IsSorted R xs → are_distinct R xs ≡ true → are_ascending R xs ≡ true
  ascending_from_distinct xs sorted h =
      ascending_from_strict xs (subst (λ ys. IsStrictlySortedBy R ys) (dedup-distinct xs h) (IsStrictlySortedBy-dedup o (λ _ _. refl) xs sorted))

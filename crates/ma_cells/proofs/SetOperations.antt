-- What the union, the difference and a test leave of strictly ascending lists, step by step.
use Rattle.std.proofs.Common.{◌≡◌, suc, ◌-◌, ◌<◌, ◌≤◌, ◌⊎◌, inl, inr, Bool, true, false, cond, not, List, [], ◌∷◌, ◌++◌, filter, length, get_or, refl, sym, ap, subst, ◌∙◌, arith}
use Rattle.std.proofs.Math.ListN.{drop, take}
use Rattle.std.proofs.Math.Seq.{take-length}
use Rattle.std.proofs.lemmas.List.{append-nil, append_assoc}
use Rattle.std.specs.declared.cmp.Ordering.{Ordering}
use Rattle.std.specs.declared.cmp.Ordering.TheVariants.{Less, Equal, Greater}
use Rattle.std.specs.Cmp.{IsTotalOrder}
use Rattle.std.specs.List.{AllByRecursion, items_where_true}
use Rattle.std.specs.List.Retain.{IsFiltered}
use Rattle.std.specs.List.Sorted.{IsStrictlySortedBy}
use Rattle.std.specs.Ordering.{ordering_reverse}
use Rattle.ma_cells.specs.Ascending.{ascending_of, has, put}
use Rattle.ma_cells.proofs.Ascents.{all_below, has-below}
use Rattle.ma_cells.proofs.Choices.{all-append}
use Rattle.ma_cells.proofs.Passing.{all_weaker}
use Rattle.ma_cells.proofs.SetItems.{all-ascending_of}

module _ {K : Type 0} {R : K → K → Ordering} (o : IsTotalOrder R) where
  put-lowest : (x : K) (ys : List K) → AllByRecursion (λ y. R x y ≡ Less) ys → put R x ys ≡ x ∷ ys
  put-lowest x [] h = refl
  put-lowest x (y ∷ ys) h = rw (h.0) refl

  put-above : (x y : K) (zs : List K) → R x y ≡ Greater → put R x (y ∷ zs) ≡ y ∷ put R x zs
  put-above x y zs e = rw e refl

  put-tied : (x y : K) (zs : List K) → R x y ≡ Equal → put R x (y ∷ zs) ≡ y ∷ zs
  put-tied x y zs e = rw e refl

  greater_turned : (x y : K) → R x y ≡ Less → R y x ≡ Greater
  greater_turned x y e = o.antisymm y x ∙ ap ordering_reverse e

  -- a strictly ascending list is its own set
  ascending_of-sorted : (xs : List K) → IsStrictlySortedBy R xs → ascending_of R xs ≡ xs
  unfolding IsStrictlySortedBy
  ascending_of-sorted [] s = refl
  ascending_of-sorted (x ∷ xs) s = ap (put R x) (ascending_of-sorted xs s.1) ∙ put-lowest x xs s.0

  -- an item below all others heads the set, wherever it stands
  lowest_first : (x : K) (xs ys : List K) → AllByRecursion (λ z. R x z ≡ Less) xs → AllByRecursion (λ z. R x z ≡ Less) ys → ascending_of R (x ∷ xs ++ ys) ≡ x ∷ ascending_of R (xs ++ ys)
  lowest_first x xs ys h k =
      put-lowest x (ascending_of R (xs ++ ys)) (all-ascending_of R (λ z. R x z ≡ Less) (xs ++ ys) (all-append (λ z. R x z ≡ Less) xs ys h k))

  lowest_behind : (y : K) (xs ys : List K) → AllByRecursion (λ z. R y z ≡ Less) xs → AllByRecursion (λ z. R y z ≡ Less) ys → ascending_of R (xs ++ y ∷ ys) ≡ y ∷ ascending_of R (xs ++ ys)
  lowest_behind y [] ys h k = lowest_first y [] ys tt k
  lowest_behind y (x ∷ xs) ys h k = ap (put R x) (lowest_behind y xs ys h.1 k) ∙ put-above x y _ (greater_turned y x h.0)

  -- what is below all items doesn't count among those that are taken from them
  filter-lowest : (y : K) (xs ys : List K) → AllByRecursion (λ z. R y z ≡ Less) xs → filter (λ x. not (has R x (y ∷ ys))) xs ≡ filter (λ x. not (has R x ys)) xs
  filter-lowest y [] ys h = refl
  filter-lowest y (x ∷ xs) ys h =
      rw (greater_turned y x h.0) (ap (λ zs. cond (not (has R x ys)) (x ∷ zs) zs) (filter-lowest y xs ys h.1))

  -- a step over two ascending lists by their heads
  module _ {first second : List K} (x y : K) (xs ys : List K) (ea : first ≡ x ∷ xs) (eb : second ≡ y ∷ ys) (s : IsStrictlySortedBy R first) (t : IsStrictlySortedBy R second) where
    first_rises : AllByRecursion (λ z. R x z ≡ Less) xs
    unfolding IsStrictlySortedBy
    first_rises = let cut : IsStrictlySortedBy R (x ∷ xs) = subst (λ zs. IsStrictlySortedBy R zs) ea s in cut.0

    second_rises : AllByRecursion (λ z. R y z ≡ Less) ys
    unfolding IsStrictlySortedBy
    second_rises = let cut : IsStrictlySortedBy R (y ∷ ys) = subst (λ zs. IsStrictlySortedBy R zs) eb t in cut.0

    all_above : R x y ≡ Greater → AllByRecursion (λ z. R y z ≡ Less) (x ∷ xs)
    all_above e =
        let less : R y x ≡ Less = o.antisymm y x ∙ ap ordering_reverse e in
        (less, all_below o y x xs less first_rises)

    pub union-lower : Less ≡ R x y → ascending_of R (first ++ second) ≡ x ∷ ascending_of R (xs ++ second)
    union-lower is =
        let e = sym is in rw (ea, eb) (lowest_first x xs (y ∷ ys) first_rises (e, all_below o x y ys e second_rises))

    pub union-tied : Equal ≡ R x y → ascending_of R (first ++ second) ≡ y ∷ ascending_of R (xs ++ ys)
    union-tied is =
        let e = sym is in
        let above = all_weaker (λ z. R x z ≡ Less) (λ z. R y z ≡ Less) (λ z h. sym (o.congr x y z e) ∙ h) xs first_rises in
        rw (ea, eb) (ap (put R x) (lowest_behind y xs ys above second_rises) ∙ put-tied x y _ e)

    pub union-higher : Greater ≡ R x y → ascending_of R (first ++ second) ≡ y ∷ ascending_of R (first ++ ys)
    union-higher is =
        let e = sym is in rw (ea, eb) (lowest_behind y (x ∷ xs) ys (all_above e) second_rises)

    pub difference-lower : Less ≡ R x y → filter (λ z. not (has R z second)) first ≡ x ∷ filter (λ z. not (has R z second)) xs
    difference-lower is =
        let e = sym is in
        let absent = subst (λ zs. has R x zs ≡ false) (sym eb) (has-below o x (y ∷ ys) (e, all_below o x y ys e second_rises)) in
        rw (ea, absent) refl

    pub difference-tied : Equal ≡ R x y → filter (λ z. not (has R z second)) first ≡ filter (λ z. not (has R z second)) xs
    difference-tied is =
        let e = sym is in
        let present : has R x second ≡ true = rw (eb, e) refl in
        rw (ea, present) refl

    pub difference-higher : Greater ≡ R x y → filter (λ z. not (has R z second)) first ≡ filter (λ z. not (has R z ys)) first
    difference-higher is =
        let e = sym is in
        let same = subst (λ zs. filter (λ z. not (has R z (y ∷ ys))) zs ≡ filter (λ z. not (has R z ys)) zs) (sym ea) (filter-lowest y (x ∷ xs) ys (all_above e)) in
        subst (λ zs. filter (λ z. not (has R z zs)) first ≡ filter (λ z. not (has R z ys)) first) (sym eb) same

  -- what is left of one list where the other is at its end
  pub union-end : (xs ys : List K) → IsStrictlySortedBy R xs → IsStrictlySortedBy R ys → (length xs < 1) ⊎ (length ys < 1) → ascending_of R (xs ++ ys) ≡ xs ++ ys
  union-end [] ys s t ended = ascending_of-sorted ys t
  union-end (x ∷ xs) [] s t ended = subst (λ zs. ascending_of R zs ≡ zs) (sym (append-nil (x ∷ xs))) (ascending_of-sorted (x ∷ xs) s)
  union-end (x ∷ xs) (y ∷ ys) s t (inl h) = absurd (omega arith)
  union-end (x ∷ xs) (y ∷ ys) s t (inr h) = absurd (omega arith)

-- where nothing is taken away, all stay
filter-none : {K : Type 0} (R : K → K → Ordering) (xs : List K) → filter (λ x. not (has R x [])) xs ≡ xs
filter-none R [] = refl
filter-none R (x ∷ xs) = ap (λ zs. x ∷ zs) (filter-none R xs)

pub difference-end : {K : Type 0} (R : K → K → Ordering) (xs ys : List K) → (length xs < 1) ⊎ (length ys < 1) → filter (λ x. not (has R x ys)) xs ≡ xs
difference-end R [] ys ended = refl
difference-end R (x ∷ xs) [] ended = filter-none R (x ∷ xs)
difference-end R (x ∷ xs) (y ∷ ys) (inl h) = absurd (omega arith)
difference-end R (x ∷ xs) (y ∷ ys) (inr h) = absurd (omega arith)

-- ---- lists whose head is moved to the end of another
pub head_and_tail : {X : Type 0} (xs : List X) (x : X) → 1 ≤ length xs → x ≡ get_or xs 0 x → xs ≡ x ∷ take (length xs - 1) (drop 1 xs)
head_and_tail [] x h e = absurd (omega arith)
head_and_tail (y ∷ ys) x h e =
    let whole : take (suc (length ys) - 1) ys ≡ ys = ap (λ n. take n ys) (omega arith) ∙ take-length ys in
    ap (λ z. z ∷ ys) (sym e) ∙ ap (λ zs. x ∷ zs) (sym whole)

pub head_moved : {X : Type 0} {now rest left all : List X} (done : List X) (x : X) → now ≡ done ++ x ∷ [] → rest ≡ x ∷ left → done ++ rest ≡ all → now ++ left ≡ all
head_moved done x e f h = rw (e, append_assoc) (ap (λ zs. done ++ zs) (sym f) ∙ h)

all-where_true : {K : Type 0} (P : K → Type 0) (bs : List Bool) (xs : List K) → AllByRecursion P xs → AllByRecursion P (items_where_true bs xs)
all-where_true P [] xs h = tt
all-where_true P (b ∷ bs) [] h = tt
all-where_true P (true ∷ bs) (x ∷ xs) h = (h.0, all-where_true P bs xs h.1)
all-where_true P (false ∷ bs) (x ∷ xs) h = all-where_true P bs xs h.1

sorted-where_true : {K : Type 0} (R : K → K → Ordering) (bs : List Bool) (xs : List K) → IsStrictlySortedBy R xs → IsStrictlySortedBy R (items_where_true bs xs)
unfolding IsStrictlySortedBy
sorted-where_true R [] xs s = tt
sorted-where_true R (b ∷ bs) [] s = tt
sorted-where_true R (true ∷ bs) (x ∷ xs) s = (all-where_true (λ y. R x y ≡ Less) bs xs s.0, sorted-where_true R bs xs s.1)
sorted-where_true R (false ∷ bs) (x ∷ xs) s = sorted-where_true R bs xs s.1

-- what a test leaves of an ascending list ascends
pub sorted-from_retain : {K P : Type 0} (R : K → K → Ordering) (T : P → K → Bool → P → Type 0) (p : P) (xs ys : List K) → IsStrictlySortedBy R xs → IsFiltered T p xs ys → IsStrictlySortedBy R ys
sorted-from_retain R T p xs ys s kept = rw (kept.4) (sorted-where_true R kept.0 xs s)

-- What holds of all items of a list, of a set or of a map, and how many of them pass a test.
use Rattle.std.proofs.Common.{◌≡◌, ℕ, ◌+◌, ◌≤◌, Bool, true, false, cond, List, [], ◌∷◌, ◌++◌, refl, sym, ap, subst, ◌∙◌, arith}
use Rattle.std.specs.Prelude.{map}
use Rattle.std.specs.declared.cmp.Ordering.{Ordering}
use Rattle.std.specs.declared.cmp.Ordering.TheVariants.{Less, Equal, Greater}
use Rattle.std.specs.FinMap.{IsAntisymmetric}
use Rattle.std.specs.List.{AllByRecursion, count_by}
use Rattle.std.specs.Ordering.{is_eq, is_lt}
use Rattle.std.proofs.lemmas.List.Sums.{sum_by-append, sum_by-cons}
use Rattle.ma_cells.specs.Ascending.{ascending_of, put}

-- ---- what holds of all
module _ {X : Type 0} (P : X → Type 0) where
  pub all_left : (xs ys : List X) → AllByRecursion P (xs ++ ys) → AllByRecursion P xs
  all_left [] ys h = tt
  all_left (x ∷ xs) ys h = (h.0, all_left xs ys h.1)

  pub all_right : (xs ys : List X) → AllByRecursion P (xs ++ ys) → AllByRecursion P ys
  all_right [] ys h = h
  all_right (x ∷ xs) ys h = all_right xs ys h.1

  pub all_of_map : {Y : Type 0} (g : Y → X) (ys : List Y) → AllByRecursion P (map g ys) → AllByRecursion (λ y. P (g y)) ys
  all_of_map g [] h = tt
  all_of_map g (y ∷ ys) h = (h.0, all_of_map g ys h.1)

-- ---- how many pass a test
module _ {X : Type 0} (f : X → Bool) where
  pub count-cons : (x : X) (xs : List X) → count_by f (x ∷ xs) ≡ cond (f x) 1 0 + count_by f xs
  count-cons x xs = sum_by-cons (λ t. cond (f t) 1 0) x xs

  pub count-append : (xs ys : List X) → count_by f (xs ++ ys) ≡ count_by f xs + count_by f ys
  count-append xs ys = sum_by-append (λ t. cond (f t) 1 0) xs ys

  pub count-map : {Y : Type 0} (g : Y → X) (ys : List Y) → count_by f (map g ys) ≡ count_by (λ y. f (g y)) ys
  count-map g [] = refl
  count-map g (y ∷ ys) = count-cons (g y) (map g ys) ∙ ap (λ (n : ℕ). cond (f (g y)) 1 0 + n) (count-map g ys) ∙ sym (sum_by-cons (λ t. cond (f (g t)) 1 0) y ys)

-- no item passes a test that nothing passes
pub count-none : {X : Type 0} (xs : List X) → count_by (λ _. false) xs ≡ 0
count-none [] = refl
count-none {X} (x ∷ xs) =
    let first = count-cons (λ (_ : X). false) x xs in
    let more = count-none xs in
    omega arith

-- what a weaker test counts is no less
pub count-weaker : {X : Type 0} (f g : X → Bool) → ((x : X) → f x ≡ true → g x ≡ true) → (xs : List X) → count_by f xs ≤ count_by g xs
count-weaker f g weaker [] = omega arith
count-weaker f g weaker (x ∷ xs) =
    let more = count-weaker f g weaker xs in
    let one = each (f x) (g x) (weaker x) in
    let first = count-cons f x xs in
    let second = count-cons g x xs in
    omega arith
  where
    each : (s t : Bool) → (s ≡ true → t ≡ true) → cond s 1 0 ≤ cond {A = ℕ} t 1 0
    each true t h = rw (h refl) (omega arith)
    each false t h = omega arith

-- ---- sets
tie_counts : (s t n whole : ℕ) → s ≡ t → whole ≡ s + (t + n) → whole ≤ 1 → t + n ≡ whole
tie_counts s t n whole e f most = omega arith

module _ {K : Type 0} {R : K → K → Ordering} (exact : IsAntisymmetric R) where
  all_of_put : (P : K → Type 0) (x : K) (ys : List K) → AllByRecursion P (put R x ys) → P x × AllByRecursion P ys
  all_of_put P x [] h = h
  all_of_put P x (y ∷ ys) h =
      elim (R x y) as (λ r. R x y ≡ r → AllByRecursion P (cond (is_lt r) (x ∷ y ∷ ys) (cond (is_eq r) (y ∷ ys) (y ∷ put R x ys))) → P x × AllByRecursion P (y ∷ ys)) [
        | Less ↦ λ _ k. k
        | Equal ↦ λ e k. (subst P (sym (exact x y e)) k.0, k)
        | Greater ↦ λ _ k. let more = all_of_put P x ys k.1 in (more.0, (k.0, more.1))
      ] refl h

  -- what holds of each item of a set holds of each that was gathered
  pub all_of_set : (P : K → Type 0) (xs : List K) → AllByRecursion P (ascending_of R xs) → AllByRecursion P xs
  all_of_set P [] h = tt
  all_of_set P (x ∷ xs) h = let parts = all_of_put P x (ascending_of R xs) h in (parts.0, all_of_set P xs parts.1)

  module _ (f : K → Bool) where
    count-put : (x : K) (ys : List K) → count_by f (x ∷ ys) ≤ 1 → count_by f (put R x ys) ≡ count_by f (x ∷ ys)
    count-put x [] most = refl
    count-put x (y ∷ ys) most =
        let at_x = count-cons f x (y ∷ ys) in
        let at_y = count-cons f y ys in
        let without = count-cons f x ys in
        elim (R x y) as (λ r. R x y ≡ r → count_by f (cond (is_lt r) (x ∷ y ∷ ys) (cond (is_eq r) (y ∷ ys) (y ∷ put R x ys))) ≡ count_by f (x ∷ y ∷ ys)) [
          | Less ↦ λ _. refl
          | Equal ↦ λ e.
              at_y ∙ tie_counts (cond (f x) 1 0) (cond (f y) 1 0) (count_by f ys) (count_by f (x ∷ y ∷ ys)) (ap (λ z. cond (f z) 1 0) (exact x y e)) (at_x ∙ ap (λ (n : ℕ). cond (f x) 1 0 + n) at_y) most
          | Greater ↦ λ _.
              let more = count-put x ys (omega arith) in
              let put_in = count-cons f y (put R x ys) in
              omega arith
        ] refl

    -- where at most one item passes a test, as many pass it in the set
    pub count-set : (xs : List K) → count_by f xs ≤ 1 → count_by f (ascending_of R xs) ≡ count_by f xs
    count-set [] most = refl
    count-set (x ∷ xs) most =
        let whole = count-cons f x xs in
        let more = count-set xs (omega arith) in
        let gathered = count-cons f x (ascending_of R xs) in
        let same : count_by f (x ∷ ascending_of R xs) ≡ count_by f (x ∷ xs) = omega arith in
        count-put x (ascending_of R xs) (omega arith) ∙ same

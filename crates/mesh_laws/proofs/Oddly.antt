-- Whether an odd number of items pass a test, and lists in which what is listed twice falls away.
use Rattle.std.proofs.Common.{◌≡◌, ◌⊎◌, inl, inr, ℕ, zero, suc, ◌+◌, Bool, true, false, cond, ◌&&◌, List, [], ◌∷◌, ◌++◌, refl, sym, ap, ap₂, ◌∙◌, arith}
use Rattle.std.specs.Prelude.{not}
use Rattle.std.specs.List.{AllByRecursion, count_by, flat_map}
use Rattle.std.proofs.lemmas.Bool.{and_parts, false≢true}
use Rattle.mesh_laws.specs.Parity.{SameOddlyPassOddly, is_odd}
use Rattle.mesh_laws.proofs.Listings.{same, same_is, same_itself}
use Rattle.mesh_laws.proofs.Keyed.{at, total, total-alike, total-append, total-by_key, total-each, total-none}
use Rattle.mesh_laws.proofs.Lists.{count-cons}

-- ---- one or the other
abbrev pub xor : Bool → Bool → Bool
xor true b = not b
xor false b = b

xor_none : (a : Bool) → xor a false ≡ a
xor_none true = refl
xor_none false = refl

pub xor_regroup : (a b c d : Bool) → xor (xor a b) (xor c d) ≡ xor (xor a c) (xor b d)
xor_regroup true true true d = refl
xor_regroup true true false true = refl
xor_regroup true true false false = refl
xor_regroup true false true true = refl
xor_regroup true false true false = refl
xor_regroup true false false d = refl
xor_regroup false true true d = refl
xor_regroup false true false true = refl
xor_regroup false true false false = refl
xor_regroup false false true d = refl
xor_regroup false false false d = refl

-- ---- counts that are odd
pub odd-+ : (m n : ℕ) → is_odd (m + n) ≡ xor (is_odd m) (is_odd n)
odd-+ zero n = ap is_odd (none n)
  where
    none : (n : ℕ) → 0 + n ≡ n
    none n = omega arith
odd-+ (suc m) n = ap is_odd (more m n) ∙ ap not (odd-+ m n) ∙ by (is_odd m) (is_odd n)
  where
    more : (m n : ℕ) → suc m + n ≡ suc (m + n)
    more m n = omega arith

    by : (a b : Bool) → not (xor a b) ≡ xor (not a) b
    by true true = refl
    by true false = refl
    by false b = refl

-- whether an odd number of items pass a test
abbrev pub odd_of : {X : Type 0} → (X → Bool) → List X → Bool
odd_of f xs = total false xor f xs

pub odd_is : {X : Type 0} (f : X → Bool) (xs : List X) → is_odd (count_by f xs) ≡ odd_of f xs
odd_is f [] = refl
odd_is f (x ∷ xs) = ap is_odd (count-cons f x xs) ∙ odd-+ (cond (f x) 1 0) (count_by f xs) ∙ ap₂ xor (one (f x)) (odd_is f xs)
  where
    one : (b : Bool) → is_odd (cond b 1 0) ≡ b
    one true = refl
    one false = refl

pub odd-append : {X : Type 0} (f : X → Bool) (xs ys : List X) → odd_of f (xs ++ ys) ≡ xor (odd_of f xs) (odd_of f ys)
odd-append = total-append false xor (λ a. refl) xor_none xor_regroup

pub odd-each : {X : Type 0} (f g : X → Bool) (xs : List X) → AllByRecursion (λ x. f x ≡ g x) xs → odd_of f xs ≡ odd_of g xs
odd-each = total-each false xor (λ a. refl) xor_none xor_regroup

pub odd-none : {X : Type 0} (f : X → Bool) (xs : List X) → AllByRecursion (λ x. f x ≡ false) xs → odd_of f xs ≡ false
odd-none = total-none false xor (λ a. refl) xor_none xor_regroup

pub odd-flat_map : {X Y : Type 0} (f : Y → Bool) (h : X → List Y) (xs : List X) → odd_of f (flat_map h xs) ≡ odd_of (λ x. odd_of f (h x)) xs
odd-flat_map f h [] = refl
odd-flat_map f h (x ∷ xs) = odd-append f (h x) (flat_map h xs) ∙ ap (xor (odd_of f (h x))) (odd-flat_map f h xs)

-- the two parts of a count
pub odd-parts : {X : Type 0} (f g : X → Bool) (xs : List X) → odd_of g xs ≡ xor (odd_of (λ x. f x && g x) xs) (odd_of (λ x. not (f x) && g x) xs)
odd-parts f g [] = refl
odd-parts f g (x ∷ xs) =
    ap₂ xor (one (f x) (g x)) (odd-parts f g xs) ∙ xor_regroup (f x && g x) (not (f x) && g x) (odd_of (λ y. f y && g y) xs) (odd_of (λ y. not (f y) && g y) xs)
  where
    one : (f g : Bool) → g ≡ xor (f && g) (not f && g)
    one true true = refl
    one true false = refl
    one false g = refl

-- an odd number isn't none
pub odd_some : {X : Type 0} (test : X → Bool) (P : X → Type 0) (xs : List X) → AllByRecursion P xs → odd_of test xs ≡ true → (x : X) × (test x ≡ true) × P x
odd_some test P [] all h = absurd (false≢true h)
odd_some test P (x ∷ xs) all h =
    elim (test x) as (λ b. test x ≡ b → xor b (odd_of test xs) ≡ true → (x : _) × (test x ≡ true) × P x) [
      | true ↦ λ e _. (x, e, all.0)
      | false ↦ λ _ k. odd_some test P xs all.1 k
    ] refl h

-- ---- tests of keys
module _ {X K : Type 0} (key : X → K) (same : K → K → Bool) (same_is : (k l : K) → same k l ≡ true → k ≡ l) (same_itself : (k : K) → same k k ≡ true) where
  -- whether an odd number of items have a key
  abbrev pub odd_key : K → List X → Bool
  odd_key k xs = odd_of (λ x. same k (key x)) xs

  -- those of a key pass together
  of_key : (f : K → Bool) (k : K) (xs : List X) → odd_of (at false key same k (λ x. f (key x))) xs ≡ (f k && odd_key k xs)
  of_key f k [] = by (f k)
    where
      by : (b : Bool) → false ≡ (b && false)
      by true = refl
      by false = refl
  of_key f k (x ∷ xs) = ap₂ xor (one (same k (key x)) (f (key x)) (f k) (λ h. ap f (same_is k (key x) h))) (of_key f k xs) ∙ by (f k) (same k (key x)) (odd_key k xs)
    where
      one : (s t u : Bool) → (s ≡ true → u ≡ t) → cond s t false ≡ (u && s)
      one true t true h = sym (h refl)
      one true t false h = sym (h refl)
      one false t true h = refl
      one false t false h = refl

      by : (u s t : Bool) → xor (u && s) (u && t) ≡ (u && xor s t)
      by true s t = refl
      by false s t = refl

  module _ (f : K → Bool) where
    -- lists with each key an odd number of times alike have an odd number that pass alike
    pub odd-alike : (xs ys : List X) → ((k : K) → odd_key k xs ≡ odd_key k ys) → odd_of (λ x. f (key x)) xs ≡ odd_of (λ x. f (key x)) ys
    odd-alike xs ys alike =
        total-by_key false xor (λ a. refl) xor_none xor_regroup key same same_is same_itself xs ys (λ x. f (key x)) (λ k. of_key f k xs ∙ ap (λ b. f k && b) (alike k) ∙ sym (of_key f k ys))

    -- where no key that passes is had an odd number of times, an even number pass
    pub cancelled : (xs : List X) → AllByRecursion (λ x. (f (key x) && odd_key (key x) xs) ≡ false) xs → odd_of (λ x. f (key x)) xs ≡ false
    cancelled xs h = total-alike false xor (λ a. refl) xor_none xor_regroup key same same_is same_itself xs [] (λ x. f (key x)) (none_left xs h)
      where
        none_left : (zs : List X) → AllByRecursion (λ x. (f (key x) && odd_key (key x) xs) ≡ false) zs → AllByRecursion (λ z. odd_of (at false key same (key z) (λ x. f (key x))) xs ≡ false) (zs ++ [])
        none_left [] h = tt
        none_left (z ∷ zs) h = (of_key f (key z) xs ∙ h.0, none_left zs h.1)

    -- an item whose key passes and is had an odd number of times
    pub record IsOddOne (P : X → Type 0) (xs : List X) : Type 0 where
      pub one : X
      pub passes : f (key one) ≡ true
      pub oddly : odd_key (key one) xs ≡ true
      pub also : P one

    -- there is one where an odd number pass
    pub odd_one : (P : X → Type 0) (xs : List X) → AllByRecursion P xs → odd_of (λ x. f (key x)) xs ≡ true → IsOddOne P xs
    odd_one P xs all h = by (search xs all)
      where
        search : (zs : List X) → AllByRecursion P zs → IsOddOne P xs ⊎ AllByRecursion (λ x. (f (key x) && odd_key (key x) xs) ≡ false) zs
        search [] all = inr tt
        search (z ∷ zs) all = found (f (key z) && odd_key (key z) xs) refl (search zs all.1)
          where
            found : (b : Bool) → (f (key z) && odd_key (key z) xs) ≡ b → IsOddOne P xs ⊎ AllByRecursion (λ x. (f (key x) && odd_key (key x) xs) ≡ false) zs
                → IsOddOne P xs ⊎ AllByRecursion (λ x. (f (key x) && odd_key (key x) xs) ≡ false) (z ∷ zs)
            found true e rest = let parts = and_parts (f (key z)) (odd_key (key z) xs) e in inl (record { one = z; passes = parts.0; oddly = parts.1; also = all.0 })
            found false e (inl one) = inl one
            found false e (inr none) = inr (e, none)

        by : IsOddOne P xs ⊎ AllByRecursion (λ x. (f (key x) && odd_key (key x) xs) ≡ false) xs → IsOddOne P xs
        by (inl one) = one
        by (inr none) = absurd (false≢true (sym (cancelled xs none) ∙ h))

-- ---- faces
pub same_oddly_pass_oddly : SameOddlyPassOddly
same_oddly_pass_oddly faces others alike test =
    odd_is test faces ∙ odd-alike (λ face. face) same same_is same_itself test faces others (λ face. sym (odd_is (same face) faces) ∙ alike face ∙ odd_is (same face) others) ∙ sym (odd_is test others)

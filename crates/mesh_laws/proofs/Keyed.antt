-- Sums over items that have keys: where the items of each key sum alike in two lists, so do all.
use Rattle.std.proofs.Common.{◌≡◌, Bool, true, false, cond, List, [], ◌∷◌, ◌++◌, refl, sym, ap, ap₂, ◌∙◌}
use Rattle.std.specs.List.{AllByRecursion}
use Rattle.std.proofs.lemmas.Bool.{false≢true}
use Rattle.mesh_laws.proofs.Lists.{all_items, all_split}

abbrev pub total : {X A : Type 0} → A → (A → A → A) → (X → A) → List X → A
total none plus f [] = none
total none plus f (x ∷ xs) = plus (f x) (total none plus f xs)

-- what an item with a key has, and none for another
abbrev pub at : {X K A : Type 0} → A → (X → K) → (K → K → Bool) → K → (X → A) → X → A
at none key same k f x = cond (same k (key x)) (f x) none

-- sums of any kind whose terms may be regrouped
module _ {A : Type 0} (none : A) (plus : A → A → A) (left : (a : A) → plus none a ≡ a) (right : (a : A) → plus a none ≡ a)
    (regroup : (a b c d : A) → plus (plus a b) (plus c d) ≡ plus (plus a c) (plus b d)) where
  module _ {X : Type 0} where
    pub total-append : (f : X → A) (xs ys : List X) → total none plus f (xs ++ ys) ≡ plus (total none plus f xs) (total none plus f ys)
    total-append f [] ys = sym (left (total none plus f ys))
    total-append f (x ∷ xs) ys =
        ap (plus (f x)) (total-append f xs ys) ∙ ap (λ a. plus a (plus (total none plus f xs) (total none plus f ys))) (sym (right (f x)))
        ∙ regroup (f x) none (total none plus f xs) (total none plus f ys) ∙ ap (plus (plus (f x) (total none plus f xs))) (left (total none plus f ys))

    pub total-each : (f g : X → A) (xs : List X) → AllByRecursion (λ x. f x ≡ g x) xs → total none plus f xs ≡ total none plus g xs
    total-each f g [] h = refl
    total-each f g (x ∷ xs) h = ap₂ plus h.0 (total-each f g xs h.1)

    pub total-none : (f : X → A) (xs : List X) → AllByRecursion (λ x. f x ≡ none) xs → total none plus f xs ≡ none
    total-none f [] h = refl
    total-none f (x ∷ xs) h = ap₂ plus h.0 (total-none f xs h.1) ∙ left none

  module _ {X K : Type 0} (key : X → K) (same : K → K → Bool) (same_is : (k l : K) → same k l ≡ true → k ≡ l) (same_itself : (k : K) → same k k ≡ true) where
    abbrev with_key : K → (X → A) → X → A
    with_key = at none key same

    -- what the others have
    abbrev without : K → (X → A) → X → A
    without k f x = cond (same k (key x)) none (f x)

    abbrev sum : (X → A) → List X → A
    sum = total none plus

    split : (k : K) (f : X → A) (xs : List X) → sum f xs ≡ plus (sum (with_key k f) xs) (sum (without k f) xs)
    split k f [] = sym (left none)
    split k f (x ∷ xs) =
        ap₂ plus (one (same k (key x)) (f x)) (split k f xs)
        ∙ regroup (with_key k f x) (without k f x) (sum (with_key k f) xs) (sum (without k f) xs)
      where
        one : (b : Bool) (a : A) → a ≡ plus (cond b a none) (cond b none a)
        one true a = sym (right a)
        one false a = sym (left a)

    -- with one key left out, the sums over the others are as before
    still : (j k : K) (f : X → A) (xs : List X) → sum (with_key j (without k f)) xs ≡ cond (same k j) none (sum (with_key j f) xs)
    still j k f xs = by (same k j) refl
      where
        one : (s t : Bool) (a : A) → (s ≡ true → t ≡ true) → cond s (cond t none a) none ≡ none
        one true true a h = refl
        one true false a h = absurd (false≢true (h refl))
        one false t a h = refl

        other : (s t : Bool) (a : A) → (s ≡ true → t ≡ false) → cond s (cond t none a) none ≡ cond s a none
        other true true a h = absurd (false≢true (sym (h refl)))
        other true false a h = refl
        other false t a h = refl

        by : (b : Bool) → same k j ≡ b → sum (with_key j (without k f)) xs ≡ cond b none (sum (with_key j f) xs)
        by true e = total-none (with_key j (without k f)) xs (all_items (λ x. with_key j (without k f) x ≡ none) (λ x. one (same j (key x)) (same k (key x)) (f x) (λ h. sym (ap (same k) (same_is j (key x) h)) ∙ e)) xs)
        by false e = total-each (with_key j (without k f)) (with_key j f) xs (all_items (λ x. with_key j (without k f) x ≡ with_key j f x) (λ x. other (same j (key x)) (same k (key x)) (f x) (λ h. sym (ap (same k) (same_is j (key x) h)) ∙ e)) xs)

    -- all keys of a list left out
    abbrev dropped : List X → (X → A) → X → A
    dropped [] f = f
    dropped (z ∷ zs) f = dropped zs (without (key z) f)

    stays_none : (zs : List X) (f : X → A) (x : X) → f x ≡ none → dropped zs f x ≡ none
    stays_none [] f x h = h
    stays_none (z ∷ zs) f x h = stays_none zs (without (key z) f) x (by (same (key z) (key x)) (f x) h)
      where
        by : (b : Bool) (a : A) → a ≡ none → cond b none a ≡ none
        by true a h = refl
        by false a h = h

    all_none : (zs : List X) (f : X → A) → AllByRecursion (λ x. dropped zs f x ≡ none) zs
    all_none [] f = tt
    all_none (z ∷ zs) f = (stays_none zs (without (key z) f) z (ap (λ b. cond b none (f z)) (same_itself (key z))), all_none zs (without (key z) f))

    -- that the sums over each item's key are alike
    abbrev pub AreAlike : (X → A) → List X → List X → List X → Type 0
    AreAlike f xs ys zs = AllByRecursion (λ z. sum (at none key same (key z) f) xs ≡ sum (at none key same (key z) f) ys) zs

    module _ (xs ys : List X) where
      still_alike : (k : K) (f : X → A) (zs : List X) → AreAlike f xs ys zs → AreAlike (without k f) xs ys zs
      still_alike k f [] h = tt
      still_alike k f (z ∷ zs) h =
          (still (key z) k f xs ∙ ap (cond (same k (key z)) none) h.0 ∙ sym (still (key z) k f ys), still_alike k f zs h.1)

      all_dropped : (zs : List X) (f : X → A) → AreAlike f xs ys zs → sum (dropped zs f) xs ≡ sum (dropped zs f) ys → sum f xs ≡ sum f ys
      all_dropped [] f h e = e
      all_dropped (z ∷ zs) f h e = split (key z) f xs ∙ ap₂ plus h.0 (all_dropped zs (without (key z) f) (still_alike (key z) f zs h.1) e) ∙ sym (split (key z) f ys)

      -- where the sums over each key of the items are alike, so are the sums over all
      pub total-alike : (f : X → A) → AreAlike f xs ys (xs ++ ys) → sum f xs ≡ sum f ys
      total-alike f h =
          let gone = all_split (λ x. dropped (xs ++ ys) f x ≡ none) xs ys (all_none (xs ++ ys) f) in
          all_dropped (xs ++ ys) f h (total-none (dropped (xs ++ ys) f) xs gone.0 ∙ sym (total-none (dropped (xs ++ ys) f) ys gone.1))

      -- in particular where they are for any key
      pub total-by_key : (f : X → A) → ((k : K) → sum (at none key same k f) xs ≡ sum (at none key same k f) ys) → sum f xs ≡ sum f ys
      total-by_key f h = total-alike f (all_items (λ z. sum (at none key same (key z) f) xs ≡ sum (at none key same (key z) f) ys) (λ z. h (key z)) (xs ++ ys))

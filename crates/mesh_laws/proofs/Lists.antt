-- Items of lists, and how many pass a test.
use Rattle.std.proofs.Common.{◌≡◌, ℕ, ◌+◌, ◌≤◌, Bool, true, false, cond, List, [], ◌∷◌, ◌++◌, refl, sym, ap₂, ◌∙◌, arith}
use Rattle.std.specs.List.{AllByRecursion, count_by, flat_map}
use Rattle.std.proofs.lemmas.Bool.{false≢true}
use Rattle.std.proofs.lemmas.List.Sums.{sum_by-cons}

-- ---- what holds of all items
pub all_split : {X : Type 0} (P : X → Type 0) (xs ys : List X) → AllByRecursion P (xs ++ ys) → AllByRecursion P xs × AllByRecursion P ys
all_split P [] ys h = (tt, h)
all_split P (x ∷ xs) ys h = let rest = all_split P xs ys h.1 in ((h.0, rest.0), rest.1)

pub all_parts : {X Y : Type 0} (P : Y → Type 0) (f : X → List Y) (xs : List X) → AllByRecursion P (flat_map f xs) → AllByRecursion (λ x. AllByRecursion P (f x)) xs
all_parts P f [] h = tt
all_parts P f (x ∷ xs) h = let parts = all_split P (f x) (flat_map f xs) h in (parts.0, all_parts P f xs parts.1)

pub all_two : {X : Type 0} (P Q R : X → Type 0) → ((x : X) → P x → Q x → R x) → (xs : List X) → AllByRecursion P xs → AllByRecursion Q xs → AllByRecursion R xs
all_two P Q R both [] h k = tt
all_two P Q R both (x ∷ xs) h k = (both x h.0 k.0, all_two P Q R both xs h.1 k.1)

pub all_items : {X : Type 0} (P : X → Type 0) → ((x : X) → P x) → (xs : List X) → AllByRecursion P xs
all_items P each [] = tt
all_items P each (x ∷ xs) = (each x, all_items P each xs)

-- ---- counts
pub count-cons : {X : Type 0} (f : X → Bool) (x : X) (xs : List X) → count_by f (x ∷ xs) ≡ cond (f x) 1 0 + count_by f xs
count-cons f x xs = sum_by-cons (λ y. cond (f y) 1 0) x xs

pub count-alike : {X : Type 0} (f g : X → Bool) (xs : List X) → AllByRecursion (λ x. f x ≡ g x) xs → count_by f xs ≡ count_by g xs
count-alike f g [] h = refl
count-alike f g (x ∷ xs) h = count-cons f x xs ∙ ap₂ (λ (b : Bool) (n : ℕ). cond b 1 0 + n) h.0 (count-alike f g xs h.1) ∙ sym (count-cons g x xs)

pub count-none : {X : Type 0} (f : X → Bool) (xs : List X) → AllByRecursion (λ x. f x ≡ false) xs → count_by f xs ≡ 0
count-none f [] h = refl
count-none f (x ∷ xs) h = count-cons f x xs ∙ rw (h.0, count-none f xs h.1) refl

pub count-more : {X : Type 0} (f g : X → Bool) (xs : List X) → AllByRecursion (λ x. f x ≡ true → g x ≡ true) xs → count_by f xs ≤ count_by g xs
count-more f g [] h = omega arith
count-more f g (x ∷ xs) h =
    by (f x) (g x) h.0 (count_by f xs) (count_by g xs) (count_by f (x ∷ xs)) (count_by g (x ∷ xs)) (count-more f g xs h.1) (count-cons f x xs) (count-cons g x xs)
  where
    by : (s t : Bool) → (s ≡ true → t ≡ true) → (m n k l : ℕ) → m ≤ n → k ≡ cond s 1 0 + m → l ≡ cond t 1 0 + n → k ≤ l
    by true true h m n k l e f g = omega arith
    by true false h m n k l e f g = absurd (false≢true (h refl))
    by false true h m n k l e f g = omega arith
    by false false h m n k l e f g = omega arith

-- Whether any item of a list passes a test, and lists that are made item by item.
use Rattle.std.proofs.Common.{◌≡◌, ℕ, ◌+◌, ◌<◌, Bool, true, false, cond, ◌&&◌, ◌||◌, List, [], ◌∷◌, ◌++◌, length, get_or, take, map, flat_map, refl, sym, ap, ◌∙◌, arith}
use Rattle.std.specs.declared.cmp.Ordering.{Ordering}
use Rattle.std.specs.declared.cmp.Ordering.TheVariants.{Less, Equal, Greater}
use Rattle.std.specs.FinMap.{IsAntisymmetric}
use Rattle.std.specs.List.{All, AllByRecursion, filter, list_any}
use Rattle.std.specs.Ordering.{is_eq, is_lt}
use Rattle.std.proofs.lemmas.Grind.{common_steps}
use Rattle.std.proofs.lemmas.List.Elements.{All-cons, All-head, All-nil, All-tail}
use Rattle.std.proofs.lemmas.List.Folds.{list_any-append}
use Rattle.ma_cells.specs.Ascending.{ascending_of, put}

pub All-from_map : {X Y : Type 0} (P : Y → Type 0) (f : X → Y) (xs : List X) → All P (map f xs) → All (λ x. P (f x)) xs
All-from_map P f [] h = All-nil (λ x. P (f x))
All-from_map P f (x ∷ xs) h = All-cons (λ y. P (f y)) x xs (All-head P (f x) (map f xs) h) (All-from_map P f xs (All-tail P (f x) (map f xs) h))

-- one more step of a loop that collects what each item has
pub collected : {X Y : Type 0} (f : X → List Y) (xs : List X) (i : ℕ) (x : X) (before written : List Y) → i < length xs → x ≡ get_or xs i x → before ≡ flat_map f (take i xs) → written ≡ before ++ f x
    → written ≡ flat_map f (take (i + 1) xs)
collected f xs i x before written below at so_far e = grind (arith, common_steps)

or_twice : (a b : Bool) → (a || b) ≡ (a || (a || b))
or_twice true b = refl
or_twice false b = refl

absorbed : (a b : Bool) → (a || (b && a)) ≡ a
absorbed true b = refl
absorbed false true = refl
absorbed false false = refl

or_swap : (a b c : Bool) → (a || (b || c)) ≡ (b || (a || c))
or_swap true true c = refl
or_swap true false c = refl
or_swap false b c = refl

pub any-flat_map : {X Y : Type 0} (f : Y → Bool) (h : X → List Y) (xs : List X) → list_any f (flat_map h xs) ≡ list_any (λ x. list_any f (h x)) xs
any-flat_map f h [] = refl
any-flat_map f h (x ∷ xs) = list_any-append f (h x) (flat_map h xs) ∙ ap (λ b. list_any f (h x) || b) (any-flat_map f h xs)

pub any-filter : {X : Type 0} (f p : X → Bool) (xs : List X) → list_any f (filter p xs) ≡ list_any (λ x. p x && f x) xs
any-filter f p [] = refl
any-filter f p (x ∷ xs) =
    elim (p x) as (λ b. list_any f (cond b (x ∷ filter p xs) (filter p xs)) ≡ ((b && f x) || list_any (λ y. p y && f y) xs)) [
      | true ↦ ap (λ b. f x || b) (any-filter f p xs)
      | false ↦ any-filter f p xs
    ]

pub any-same : {X : Type 0} (f g : X → Bool) (xs : List X) → AllByRecursion (λ x. f x ≡ g x) xs → list_any f xs ≡ list_any g xs
any-same f g [] h = refl
any-same f g (x ∷ xs) h = rw (h.0, any-same f g xs h.1) refl

pub any-none : {X : Type 0} (f : X → Bool) → ((x : X) → f x ≡ false) → (xs : List X) → list_any f xs ≡ false
any-none f none [] = refl
any-none f none (x ∷ xs) = rw (none x, any-none f none xs) refl

-- a further condition that the items don't change
pub any-and : {X : Type 0} (f : X → Bool) (b : Bool) (xs : List X) → list_any (λ x. f x && b) xs ≡ (list_any f xs && b)
any-and f b [] = refl
any-and f b (x ∷ xs) =
    elim (f x) as (λ c. ((c && b) || list_any (λ y. f y && b) xs) ≡ ((c || list_any f xs) && b)) [
      | true ↦ ap (λ c. b || c) (any-and f b xs) ∙ absorbed b (list_any f xs)
      | false ↦ any-and f b xs
    ]

module _ {K : Type 0} {R : K → K → Ordering} (exact : IsAntisymmetric R) where
  any-put : (f : K → Bool) (x : K) (ys : List K) → list_any f (put R x ys) ≡ (f x || list_any f ys)
  any-put f x [] = refl
  any-put f x (y ∷ ys) =
      elim (R x y) as (λ r. R x y ≡ r → list_any f (cond (is_lt r) (x ∷ y ∷ ys) (cond (is_eq r) (y ∷ ys) (y ∷ put R x ys))) ≡ (f x || (f y || list_any f ys))) [
        | Less ↦ λ e. refl
        | Equal ↦ λ e. or_twice (f y) (list_any f ys) ∙ ap (λ z. f z || (f y || list_any f ys)) (sym (exact x y e))
        | Greater ↦ λ e. ap (λ b. f y || b) (any-put f x ys) ∙ or_swap (f y) (f x) (list_any f ys)
      ] refl

  -- a set has the items of the list
  pub any-ascending_of : (f : K → Bool) (xs : List K) → list_any f (ascending_of R xs) ≡ list_any f xs
  any-ascending_of f [] = refl
  any-ascending_of f (x ∷ xs) = any-put f x (ascending_of R xs) ∙ ap (λ b. f x || b) (any-ascending_of f xs)

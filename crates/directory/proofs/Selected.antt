-- What is kept of a list by a test: of an ascending list it ascends, and of a set it is the set of what is kept.
use Rattle.std.proofs.Common.{◌≡◌, ℕ, ◌≤◌, Bool, ◌&&◌, List, [], ◌∷◌, ◌++◌, length, drop, filter, refl, sym, ap, subst, ◌∙◌}
use Rattle.std.specs.Cmp.{IsTotalOrder}
use Rattle.std.specs.FinMap.{IsAntisymmetric}
use Rattle.std.specs.List.{flat_map}
use Rattle.std.specs.List.Sorted.{IsStrictlySortedBy}
use Rattle.std.specs.declared.cmp.Ordering.{Ordering}
use Rattle.std.proofs.Math.ListN.{drop_of_length-le}
use Rattle.std.proofs.lemmas.List.{append-nil}
use Rattle.std.proofs.lemmas.List.Elements.{filter-append}
use Rattle.std.proofs.lemmas.List.Kept.{IsStrictlySortedBy-filter}
use Rattle.ma_cells.specs.Ascending.{ascending_of}
use Rattle.ma_cells.proofs.Ascents.{has-ascending_of, is-ascending_of, sorted-ascending_of}
use Rattle.ma_cells.proofs.Members.{has-filter}

-- what a walk has made at its end
pub walked_all : {X Y : Type 0} (f : List X → List Y) (made : List Y) (rest all : List X) → rest ≡ [] → f [] ≡ [] → made ++ f rest ≡ f all → made ≡ f all
walked_all f made rest all none empty walked = sym (append-nil made) ∙ ap (λ r. made ++ r) (sym (ap f none ∙ empty)) ∙ walked

-- what a walk has kept of an ascending list at its end
pub kept_rises : {K : Type 0} (R : K → K → Ordering) (test : K → Bool) (kept items all : List K) (i : ℕ)
    → IsStrictlySortedBy R items → items ≡ all → length items ≤ i → kept ++ filter test (drop i items) ≡ filter test all → IsStrictlySortedBy R kept
kept_rises R test kept items all i rises same past walked =
    let whole : kept ≡ filter test all = walked_all (filter test) kept (drop i items) all (drop_of_length-le items past) refl walked in
    subst (λ ks. IsStrictlySortedBy R ks) (sym whole) (IsStrictlySortedBy-filter R test all (subst (λ ks. IsStrictlySortedBy R ks) same rises))

pub filter-ascending_of : {K : Type 0} {R : K → K → Ordering} → IsTotalOrder R → IsAntisymmetric R → (test : K → Bool) (xs : List K) → filter test (ascending_of R xs) ≡ ascending_of R (filter test xs)
filter-ascending_of {R = R} o exact test xs =
    is-ascending_of o exact (filter test (ascending_of R xs)) (filter test xs) (IsStrictlySortedBy-filter R test (ascending_of R xs) (sorted-ascending_of o xs))
    (λ q. has-filter exact test q (ascending_of R xs) ∙ ap (λ b. b && test q) (has-ascending_of o q xs) ∙ sym (has-filter exact test q xs))

pub filter-flat_map : {X Y : Type 0} (test : Y → Bool) (f : X → List Y) (xs : List X) → filter test (flat_map f xs) ≡ flat_map (λ x. filter test (f x)) xs
filter-flat_map test f [] = refl
filter-flat_map test f (x ∷ xs) = filter-append test (f x) (flat_map f xs) ∙ ap (λ r. filter test (f x) ++ r) (filter-flat_map test f xs)

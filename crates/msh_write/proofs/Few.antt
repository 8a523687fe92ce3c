-- There are at most 256 labels.
use Rattle.std.proofs.Common.{◌≡◌, ℕ, suc, ◌+◌, ◌<◌, ◌≤◌, ◌^◌, All, List, [], ◌∷◌, length, get_or, arith, Fits, FitsSigned, w8, w32}
use Rattle.std.specs.Prelude.{pos}
use Rattle.std.proofs.lemmas.Int.{fits_signed_from_abs}
use Rattle.std.proofs.lemmas.List.Elements.{All-from_get_or}
use Rattle.std.specs.declared.cmp.Ordering.TheVariants.{Less}
use Rattle.std.specs.List.{AllByRecursion}
use Rattle.std.specs.List.Sorted.{IsStrictlySortedBy}
use Rattle.std.specs.Ordering.{nat_cmp}
use Rattle.std.proofs.lemmas.Bool.Decides.{nat_tests}

from-less : (x y : ℕ) → nat_cmp x y ≡ Less → suc x ≤ y
from-less x y e = grind (arith, nat_tests)

all-above : (x : ℕ) (ys : List ℕ) → AllByRecursion (λ y. nat_cmp x y ≡ Less) ys → AllByRecursion (λ y. suc x ≤ y) ys
all-above x [] s = tt
all-above x (y ∷ ys) s = (from-less x y s.0, all-above x ys s.1)

-- an ascending list of numbers from low up to below high
between : (xs : List ℕ) (low high : ℕ) → IsStrictlySortedBy nat_cmp xs → AllByRecursion (λ x. low ≤ x) xs → All (λ x. x < high) xs → low ≤ high → low + length xs ≤ high
unfolding IsStrictlySortedBy
between [] low high s above below h = omega arith
between (x ∷ xs) low high s above below h =
    let first : low ≤ x = above.0 in
    let room : x < high = below 0 x (omega arith) in
    let rest : suc x + length xs ≤ high = between xs (suc x) high s.1 (all-above x xs s.0) (λ k d i. below (suc k) d (omega arith)) room in
    omega arith

from-zero : (xs : List ℕ) → AllByRecursion (λ x. 0 ≤ x) xs
from-zero [] = tt
from-zero (x ∷ xs) = (omega arith, from-zero xs)

pub few_labels : (labels : List ℕ) → IsStrictlySortedBy nat_cmp labels → All (λ label. label < 2 ^ 8) labels → FitsSigned w32 (pos (length labels))
few_labels labels s small =
    let few : 0 + length labels ≤ 2 ^ 8 = between labels 0 (2 ^ 8) s (from-zero labels) small (omega arith) in
    fits_signed_from_abs w32 (pos (length labels)) (omega arith)

pub small_labels : (labels : List ℕ) → ((i : ℕ) → Fits w8 (get_or labels i 0)) → All (λ label. label < 2 ^ 8) labels
small_labels labels small = All-from_get_or (λ label. label < 2 ^ 8) labels 0 (λ i _. let fits = small i in omega (arith, fits))

-- What a tree map answers, as the definitions of inboxes have it.
use Rattle.std.proofs.Common.{◌≡◌, ℕ, ◌+◌, ◌<◌, ◌≤◌, cond, List, [], ◌∷◌, length, Some, refl, ap, arith}
use Rattle.std.proofs.lemmas.Bool.Decides.{nat_tests}
use Rattle.std.specs.List.{AllByRecursion}
use Rattle.std.specs.List.Sorted.{IsStrictlySortedBy}
use Rattle.std.specs.declared.cmp.Ordering.TheVariants.{Less, Equal, Greater}
use Rattle.std.specs.Ordering.{nat_cmp, is_eq, match_ordering}
use Rattle.std.specs.Map.{keys_of, lookup}
use Rattle.std.specs.BTreeMap.{is_at, insert_entry}
use Rattle.std.specs.FinMap.{find, put}
use Rattle.std.specs.FinMap.Entries.{by_order}

pub lookup_is : {B : Type 0} (q : ℕ) (es : List (ℕ × B)) → lookup (is_at (nat_cmp q)) es ≡ find nat_cmp q es
lookup_is q [] = refl
lookup_is q (e ∷ es) = ap (cond (is_eq (nat_cmp q e.0)) (Some e.1)) (lookup_is q es)

pub insert_is : {B : Type 0} (es : List (ℕ × B)) (k : ℕ) (v : B) → insert_entry nat_cmp es k v ≡ put nat_cmp k v es
insert_is [] k v = refl
insert_is (e ∷ es) k v = elim (nat_cmp k e.0) as (λ o. match_ordering o ((k, v) ∷ e ∷ es) ((e.0, v) ∷ es) (e ∷ insert_entry nat_cmp es k v) ≡ by_order o ((k, v) ∷ e ∷ es) ((e.0, v) ∷ es) (e ∷ put nat_cmp k v es)) [
  | Less ↦ refl
  | Equal ↦ refl
  | Greater ↦ ap (λ r. e ∷ r) (insert_is es k v)
]

-- senders below a number, with one more
pub below-put : {B : Type 0} (n k : ℕ) (v : B) (es : List (ℕ × B)) → k < n → AllByRecursion (λ e. e.0 < n) es → AllByRecursion (λ e. e.0 < n) (put nat_cmp k v es)
below-put n k v [] lt all = (lt, tt)
below-put n k v (e ∷ es) lt all = elim (nat_cmp k e.0) as (λ o. AllByRecursion (λ e. e.0 < n) (by_order o ((k, v) ∷ e ∷ es) ((e.0, v) ∷ es) (e ∷ put nat_cmp k v es))) [
  | Less ↦ (lt, all)
  | Equal ↦ all
  | Greater ↦ (all.0, below-put n k v es lt all.1)
]

pub less : (a b : ℕ) → nat_cmp a b ≡ Less → a < b
less a b e = grind (arith, nat_tests)

-- numbers behind one are from the next on
behind : (a : ℕ) (ks : List ℕ) → AllByRecursion (λ k. nat_cmp a k ≡ Less) ks → AllByRecursion (λ k. a + 1 ≤ k) ks
behind a [] all = tt
behind a (k ∷ ks) all = (let lt = less a k all.0 in omega arith, behind a ks all.1)

-- so many senders at most, from one number to another
few_from : {B : Type 0} (n low : ℕ) (es : List (ℕ × B)) → low ≤ n → IsStrictlySortedBy nat_cmp (keys_of es) → AllByRecursion (λ e. e.0 < n) es → AllByRecursion (λ k. low ≤ k) (keys_of es) → length es + low ≤ n
unfolding IsStrictlySortedBy
few_from n low [] le rises below above = omega arith
few_from n low (e ∷ es) le rises below above =
    let rest = few_from n (e.0 + 1) es (omega (arith, below.0)) rises.1 below.1 (behind e.0 (keys_of es) rises.0) in
    omega (arith, above.0)

from_zero : (ks : List ℕ) → AllByRecursion (λ k. 0 ≤ k) ks
from_zero [] = tt
from_zero (k ∷ ks) = (omega arith, from_zero ks)

pub few : {B : Type 0} (n : ℕ) (es : List (ℕ × B)) → IsStrictlySortedBy nat_cmp (keys_of es) → AllByRecursion (λ e. e.0 < n) es → length es ≤ n
few n es rises below = let h = few_from n 0 es (omega arith) rises below (from_zero (keys_of es)) in omega arith

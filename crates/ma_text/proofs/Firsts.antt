-- What stands before and after the first element that passes a test, by recursion on the list.
use Rattle.std.proofs.Common.{◌≡◌, ℕ, ◌+◌, ◌-◌, ◌<◌, ◌≤◌, Bool, true, false, cond, not, ltb, suc, List, [], ◌∷◌, length, take, drop, Some, None, refl, sym, ap, ◌∙◌, arith}
use Rattle.std.specs.List.{position, position_or_len, before_first, after_first}
use Rattle.std.proofs.lemmas.Bool.{ltb-false, ltb-true}
use Rattle.std.proofs.lemmas.Option.{cond_some}
use Rattle.std.proofs.lemmas.List.{take_rest}
use Rattle.std.proofs.lemmas.List.Sums.{take_while-cons}

pub before_first-yes : (p : ℕ → Bool) (x : ℕ) (xs : List ℕ) → p x ≡ true → before_first p (x ∷ xs) ≡ []
before_first-yes p x xs e = rw e refl

pub before_first-no : (p : ℕ → Bool) (x : ℕ) (xs : List ℕ) → p x ≡ false → before_first p (x ∷ xs) ≡ x ∷ before_first p xs
before_first-no p x xs e = take_while-cons (λ y. not (p y)) x xs ∙ rw e refl

pub after_first-yes : (p : ℕ → Bool) (x : ℕ) (xs : List ℕ) → p x ≡ true → after_first p (x ∷ xs) ≡ xs
after_first-yes p x xs e = rw e refl

pub after_first-no : (p : ℕ → Bool) (x : ℕ) (xs : List ℕ) → p x ≡ false → after_first p (x ∷ xs) ≡ after_first p xs
after_first-no p x xs e =
    let more : (1 + position_or_len p xs) + 1 ≡ suc (position_or_len p xs + 1) = omega arith in
    rw (e, more) refl

pub position_or_len-yes : (p : ℕ → Bool) (x : ℕ) (xs : List ℕ) → p x ≡ true → position_or_len p (x ∷ xs) ≡ 0
position_or_len-yes p x xs e = rw e refl

pub position_or_len-no : (p : ℕ → Bool) (x : ℕ) (xs : List ℕ) → p x ≡ false → position_or_len p (x ∷ xs) ≡ 1 + position_or_len p xs
position_or_len-no p x xs e = rw e refl

none_past : (b : Bool) (i : ℕ) → cond b (Some i) None ≡ None → b ≡ false
none_past true i e = absurd cc
none_past false i e = refl

-- no element passes
pub none_passes : (p : ℕ → Bool) (xs : List ℕ) → None ≡ position p xs → length xs ≤ position_or_len p xs
none_passes p xs e = ltb-false _ _ (none_past (ltb (position_or_len p xs) (length xs)) (position_or_len p xs) (sym e))

-- the first that passes stands at i
pub record PassesFirst (p : ℕ → Bool) (xs : List ℕ) (i : ℕ) : Type 0 where
  pub within : position_or_len p xs < length xs
  pub before : take i xs ≡ before_first p xs
  pub after : take (length xs - (i + 1)) (drop (i + 1) xs) ≡ after_first p xs

pub passes_first : (p : ℕ → Bool) (xs : List ℕ) (i : ℕ) → Some i ≡ position p xs → PassesFirst p xs i
passes_first p xs i e =
    let found = cond_some (ltb (position_or_len p xs) (length xs)) (position_or_len p xs) i (sym e) in
    record {
      within = ltb-true _ _ found.0;
      before = ap (λ n. take n xs) (sym found.1);
      after = take_rest xs (i + 1) ∙ ap (λ n. drop (n + 1) xs) (sym found.1);
    }

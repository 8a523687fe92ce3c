-- The senders of posts ascend and are few, and shared places stand one behind the other as their places do.
use Rattle.std.proofs.Common.{◌≡◌, ℕ, ◌<◌, ◌≤◌, Bool, true, false, cond, List, [], ◌∷◌, length, filter, map, Some, None, refl, ap}
use Rattle.std.specs.Prelude.{nat_le}
use Rattle.std.specs.List.{AllByRecursion}
use Rattle.std.specs.List.Sorted.{IsStrictlySortedBy}
use Rattle.std.specs.Map.{keys_of}
use Rattle.std.specs.Ordering.{is_lt, nat_cmp}
use Rattle.std.specs.declared.cmp.Ordering.TheVariants.{Less}
use Rattle.std.proofs.lemmas.Bool.{and_from}
use Rattle.std.proofs.lemmas.List.Elements.{All-from_recursion}
use Rattle.std.proofs.lemmas.List.Kept.{IsStrictlySortedBy-filter}
use Rattle.std.proofs.lemmas.Map.Views.{length-le_from_below}
use Rattle.ma_geom.specs.Coordinates.{Coordinates, place_cmp}
use Rattle.ma_cells.proofs.Passing.{all-filter, all-map}
use Rattle.letters.specs.Grammar.{are_behind}
use Rattle.letters.specs.Sharing.{SharedPlace, shared_before}
use Rattle.directory.specs.Posting.{shared_of}

module _ {X : Type 0} (test : ℕ × X → Bool) where
  all_keys : (P : ℕ → Type 0) (es : List (ℕ × X)) → AllByRecursion P (keys_of es) → AllByRecursion P (keys_of (filter test es))
  all_keys P [] h = tt
  all_keys P (e ∷ es) h =
      elim (test e) as (λ b. AllByRecursion P (keys_of (cond b (e ∷ filter test es) (filter test es)))) [ true ↦ (h.0, all_keys P es h.1) | false ↦ all_keys P es h.1 ]

  -- the keys of entries that pass a test ascend
  pub keys_rise : (es : List (ℕ × X)) → IsStrictlySortedBy nat_cmp (keys_of es) → IsStrictlySortedBy nat_cmp (keys_of (filter test es))
  unfolding IsStrictlySortedBy
  keys_rise [] s = tt
  keys_rise (e ∷ es) s =
      elim (test e) as (λ b. IsStrictlySortedBy nat_cmp (keys_of (cond b (e ∷ filter test es) (filter test es)))) [
        | true ↦ (all_keys (λ k. nat_cmp e.0 k ≡ Less) es s.0, keys_rise es s.1)
        | false ↦ keys_rise es s.1
      ]

  -- and there are at most as many as numbers below their bound
  pub keys_few : (n : ℕ) (es : List (ℕ × X)) → IsStrictlySortedBy nat_cmp (keys_of es) → AllByRecursion (λ e. e.0 < n) es → length (keys_of (filter test es)) ≤ n
  keys_few n es s below =
      length-le_from_below n (keys_of (filter test es)) (keys_rise es s)
      (All-from_recursion (λ k. k < n) (keys_of (filter test es)) (all-map (λ (e : ℕ × X). e.0 < n) (λ k. k < n) (λ e. e.0) (λ e h. h) (filter test es) (all-filter (λ e. e.0 < n) test es below)))

module _ (who : Coordinates → List ℕ) where
  abbrev shared_at : Coordinates → SharedPlace
  shared_at x = record { place = x; parts = who x }

  behind_one : (x : Coordinates) (xs : List Coordinates) → IsStrictlySortedBy place_cmp (x ∷ xs) → are_behind shared_before (Some (shared_at x)) (map shared_at xs) ≡ true
  unfolding IsStrictlySortedBy
  behind_one x [] s = refl
  behind_one x (y ∷ ys) s =
      and_from (is_lt (place_cmp x y)) (are_behind shared_before (Some (shared_at y)) (map shared_at ys)) (ap is_lt s.0.0) (behind_one y ys s.1)

  behind_all : (xs : List Coordinates) → IsStrictlySortedBy place_cmp xs → are_behind shared_before None (map shared_at xs) ≡ true
  behind_all [] s = refl
  behind_all (x ∷ xs) s = behind_one x xs s

  -- shared places at ascending places
  pub shared_behind : (places : List Coordinates) → IsStrictlySortedBy place_cmp places → are_behind shared_before None (shared_of who places) ≡ true
  shared_behind places s = behind_all (filter (λ x. nat_le 2 (length (who x))) places) (IsStrictlySortedBy-filter place_cmp (λ x. nat_le 2 (length (who x))) places s)

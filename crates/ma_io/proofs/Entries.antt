-- A list of names and files that is searched from the front, as the files that it stands for.
--     get-absent, get-place          what is found under a name, by the place that `position` gives
--     insert-absent, insert-place    what to push an entry, or to write over the one at that place, does
use Rattle.std.proofs.Common.{◌≡◌, ℕ, zero, suc, ◌+◌, ◌<◌, Bool, true, false, cond, nat_lt, List, [], ◌∷◌, ◌++◌, length, get_or, set, map, Option, Some, None, is_some, length-take, refl, sym, ap, ◌∙◌, ◌≢◌, take, below_more, arith}
use mathlib.Core.Bool.{true≢false}
use Rattle.std.specs.Ordering.{nat_cmp, eq_by_cmp}
use Rattle.std.specs.Cmp.Lexicographic.{slice_cmp, nat_list_cmp_total}
use Rattle.std.specs.List.{position, position_or_len}
use Rattle.std.specs.Str.{bytes_eq}
use Rattle.std.specs.FinMap as fin
use Rattle.std.specs.FinMap.{find, get-from_entries, get-insert, same_map, from_entries_push, slice_cmp-IsAntisymmetric, nat_cmp-IsAntisymmetric}
use Rattle.std.proofs.lemmas.List.{map-append, get_or-take, get_or_default}
use Rattle.std.proofs.lemmas.List.Quantifiers.{position-Some}
use Rattle.std.proofs.lemmas.List.Sums.{fails_before_first}
use Rattle.std.proofs.lemmas.Bool.Decides.{nat_tests}
use Rattle.std.proofs.lemmas.Slice.Eq.{bytes_eq-Decides}
use Rattle.std.proofs.lemmas.Map.Text.{is_eq-slice_cmp}

-- the test by which the map compares two names
abbrev is_name : List ℕ → List ℕ → Bool
is_name = eq_by_cmp (slice_cmp nat_cmp)

same_name : (q k : List ℕ) → is_name q k ≡ true → q ≡ k
same_name q k e = (bytes_eq-Decides q k).0 (sym (is_eq-slice_cmp q k) ∙ e)

-- the search has the name on the other side
is_name-false : (q k : List ℕ) → bytes_eq k q ≡ false → is_name q k ≡ false
is_name-false q k e = elim (is_name q k) as (λ b. is_name q k ≡ b → b ≡ false) [
  | true ↦ λ t. sym ((bytes_eq-Decides k q).1 (sym (same_name q k t))) ∙ e
  | false ↦ λ _. refl
] refl

pick_same : {A : Type 0} (b : Bool) (x y z : A) → cond b x z ≡ cond b x (cond b y z)
pick_same true x y z = refl
pick_same false x y z = refl

pick_apart : {A : Type 0} (a b : Bool) (x y z : A) → (a ≡ true → b ≡ true → ⊥) → cond a x (cond b y z) ≡ cond b y (cond a x z)
pick_apart true true x y z apart = absurd (apart refl refl)
pick_apart true false x y z apart = refl
pick_apart false b x y z apart = refl

reached : (n m k : ℕ) → cond (nat_lt n m) (Some n) None ≡ None → k < m → k < n
reached n m k none l = grind (arith, nat_tests)

none_of : {A : Type 0} (o : Option A) → is_some o ≡ false → o ≡ None
none_of None e = refl
none_of (Some x) e = absurd (true≢false e)

some_of : {A : Type 0} (o : Option A) → is_some o ≡ true → (x : A) × (o ≡ Some x)
some_of None e = absurd (true≢false (sym e))
some_of (Some x) e = (x, refl)

module _ {E : Type 0} (entry : E → List ℕ × List ℕ) where
  finds-absent : (q : List ℕ) (xs : List E) → ((k : ℕ) (d : E) → k < length xs → bytes_eq (entry (get_or xs k d)).0 q ≡ false) → find (slice_cmp nat_cmp) q (map entry xs) ≡ None
  finds-absent q [] h = refl
  finds-absent q (x ∷ xs) h =
      let missed = is_name-false q (entry x).0 (h 0 x (omega arith)) in
      ap (λ b. cond b (Some (entry x).1) (find (slice_cmp nat_cmp) q (map entry xs))) missed
      ∙ finds-absent q xs (λ k d l. h (suc k) d (omega arith))

  finds-place : (q : List ℕ) (xs : List E) (i : ℕ) (d : E) → i < length xs → q ≡ (entry (get_or xs i d)).0 → ((k : ℕ) → k < i → bytes_eq (entry (get_or xs k d)).0 q ≡ false) → find (slice_cmp nat_cmp) q (map entry xs) ≡ Some (entry (get_or xs i d)).1
  finds-place q [] i d l is h = absurd (omega arith)
  finds-place q (x ∷ xs) zero d l is h =
      let hit : is_name q (entry x).0 ≡ true = is_eq-slice_cmp q (entry x).0 ∙ (bytes_eq-Decides q (entry x).0).1 is in
      ap (λ b. cond b (Some (entry x).1) (find (slice_cmp nat_cmp) q (map entry xs))) hit
  finds-place q (x ∷ xs) (suc i) d l is h =
      let missed = is_name-false q (entry x).0 (h 0 (omega arith)) in
      ap (λ b. cond b (Some (entry x).1) (find (slice_cmp nat_cmp) q (map entry xs))) missed
      ∙ finds-place q xs i d (omega arith) is (λ k l. h (suc k) (omega arith))

  finds-set : (q n : List ℕ) (y : E) (xs : List E) (i : ℕ) (d : E) → i < length xs → n ≡ (entry (get_or xs i d)).0 → (entry y).0 ≡ n → ((k : ℕ) → k < i → bytes_eq (entry (get_or xs k d)).0 n ≡ false) → find (slice_cmp nat_cmp) q (map entry (set xs i y)) ≡ cond (is_name q n) (Some (entry y).1) (find (slice_cmp nat_cmp) q (map entry xs))
  finds-set q n y [] i d l is at h = absurd (omega arith)
  finds-set q n y (x ∷ xs) zero d l is at h =
      let rest = find (slice_cmp nat_cmp) q (map entry xs) in
      ap (λ k. cond (is_name q k) (Some (entry y).1) rest) at
      ∙ pick_same (is_name q n) (Some (entry y).1) (Some (entry x).1) rest
      ∙ ap (λ k. cond (is_name q n) (Some (entry y).1) (cond (is_name q k) (Some (entry x).1) rest)) is
  finds-set q n y (x ∷ xs) (suc i) d l is at h =
      let missed = is_name-false n (entry x).0 (h 0 (omega arith)) in
      ap (cond (is_name q (entry x).0) (Some (entry x).1)) (finds-set q n y xs i d (omega arith) is at (λ k l. h (suc k) (omega arith)))
      ∙ pick_apart (is_name q (entry x).0) (is_name q n) (Some (entry x).1) (Some (entry y).1) (find (slice_cmp nat_cmp) q (map entry xs))
      (λ here there. let same : n ≡ (entry x).0 = sym (same_name q n there) ∙ same_name q (entry x).0 here in true≢false (sym (is_eq-slice_cmp n (entry x).0 ∙ (bytes_eq-Decides n (entry x).0).1 same) ∙ missed))

  passed : (p : E → Bool) (xs : List E) → position p xs ≡ None → (k : ℕ) (d : E) → k < length xs → p (get_or xs k d) ≡ false
  passed p xs none k d l =
      fails_before_first p xs k d (reached (position_or_len p xs) (length xs) k none l)

  pub get-absent : (q : List ℕ) (xs : List E) → position (λ x. bytes_eq (entry x).0 q) xs ≡ None → fin.get (fin.from_entries {R = slice_cmp nat_cmp} (map entry xs)) q ≡ None
  get-absent q xs none = get-from_entries nat_list_cmp_total (map entry xs) q ∙ finds-absent q xs (passed _ xs none)

  pub get-place : (q : List ℕ) (xs : List E) (i : ℕ) (d : E) → position (λ x. bytes_eq (entry x).0 q) xs ≡ Some i → fin.get (fin.from_entries {R = slice_cmp nat_cmp} (map entry xs)) q ≡ Some (entry (get_or xs i d)).1
  get-place q xs i d at =
      let found = position-Some _ xs i d at in
      let same : q ≡ (entry (get_or xs i d)).0 = sym ((bytes_eq-Decides _ q).0 found.1) in
      get-from_entries nat_list_cmp_total (map entry xs) q ∙ finds-place q xs i d found.0 same found.2

  pub insert-place : (n : List ℕ) (xs : List E) (i : ℕ) (d y : E) → position (λ x. bytes_eq (entry x).0 n) xs ≡ Some i → (entry y).0 ≡ (entry (get_or xs i d)).0 → fin.from_entries {R = slice_cmp nat_cmp} (map entry (set xs i y)) ≡ fin.insert (fin.from_entries (map entry xs)) n (entry y).1
  insert-place n xs i d y at kept =
      let found = position-Some _ xs i d at in
      let same : n ≡ (entry (get_or xs i d)).0 = sym ((bytes_eq-Decides _ n).0 found.1) in
      same_map nat_list_cmp_total (slice_cmp-IsAntisymmetric nat_cmp-IsAntisymmetric) _ _ (λ q.
      get-from_entries nat_list_cmp_total (map entry (set xs i y)) q
      ∙ finds-set q n y xs i d found.0 same (kept ∙ sym same) found.2
      ∙ ap (cond (is_name q n) (Some (entry y).1)) (sym (get-from_entries nat_list_cmp_total (map entry xs) q))
      ∙ sym (get-insert nat_list_cmp_total (fin.from_entries (map entry xs)) n (entry y).1 q))

  pub insert-absent : (xs : List E) (y : E) → position (λ x. bytes_eq (entry x).0 (entry y).0) xs ≡ None → fin.from_entries {R = slice_cmp nat_cmp} (map entry (xs ++ y ∷ [])) ≡ fin.insert (fin.from_entries (map entry xs)) (entry y).0 (entry y).1
  insert-absent xs y none =
      ap (λ es. fin.from_entries {R = slice_cmp nat_cmp} es) (map-append entry xs (y ∷ []))
      ∙ from_entries_push nat_list_cmp_total (slice_cmp-IsAntisymmetric nat_cmp-IsAntisymmetric) (map entry xs) (entry y).0 (entry y).1 (finds-absent (entry y).0 xs (passed _ xs none))

  -- no two of the first n have one name
  abbrev pub DifferBelow : List E → ℕ → Type 0
  DifferBelow xs n = (j : ℕ) → j < n → (i : ℕ) (d : E) → i < j → (entry (get_or xs i d)).0 ≢ (entry (get_or xs j d)).0

  -- an entry whose name is not among those before it
  pub differ_one_more : (xs : List E) (j : ℕ) (x : E) → x ≡ get_or xs j x → j < length xs → DifferBelow xs j → is_some (position (λ y. bytes_eq (entry y).0 (entry x).0) (take j xs)) ≡ false → DifferBelow xs (j + 1)
  differ_one_more xs j x is l before none = below_more _ j before (λ i d below same.
      let read : x ≡ get_or xs j d = is ∙ get_or_default xs j x d l in
      let here : i < length (take j xs) = omega (arith, length-take j xs) in
      let missed = passed (λ y. bytes_eq (entry y).0 (entry x).0) (take j xs) (none_of _ none) i d here in
      let met = (bytes_eq-Decides _ _).1 (ap (λ y. (entry y).0) (get_or-take j xs i d below) ∙ same ∙ ap (λ y. (entry y).0) (sym read)) in
      true≢false (sym met ∙ missed))

  -- an entry whose name is
  pub differ_no_more : (xs : List E) (j : ℕ) (x : E) → x ≡ get_or xs j x → j < length xs → is_some (position (λ y. bytes_eq (entry y).0 (entry x).0) (take j xs)) ≡ true → ((i k : ℕ) (d : E) → i < k → k < length xs → (entry (get_or xs i d)).0 ≢ (entry (get_or xs k d)).0) → ⊥
  differ_no_more xs j x is l some differ =
      let at = some_of _ some in
      let found = position-Some _ (take j xs) at.0 x at.1 in
      let below : at.0 < j = omega (arith, found.0, length-take j xs) in
      let met = (bytes_eq-Decides _ _).0 found.1 in
      differ at.0 j x below l (ap (λ y. (entry y).0) (sym (get_or-take j xs at.0 x below)) ∙ met ∙ ap (λ y. (entry y).0) is)

-- Entries read one after the other, as a loop does.
use Rattle.std.proofs.Common.{◌≡◌, ℕ, zero, suc, ◌-◌, ◌+◌, ◌≤◌, ◌<◌, Bool, true, false, cond, List, [], ◌∷◌, ◌++◌, length, get_or, Option, Some, Result, Ok, Err, refl, sym, ap, subst, ◌∙◌, append_assoc, arith}
use Rattle.std.proofs.lemmas.Bool.{and_from}
use Rattle.std.proofs.lemmas.List.{append-nil}
use Rattle.letters.specs.declared.fault.LetterFault.{LetterFault}
use Rattle.letters.specs.declared.fault.LetterFault.TheVariants.{BadField, Short, Long, Memory}
use Rattle.letters.specs.Grammar.{◌>>=◌, Grammar, are_behind, comes_behind, entries_at, last_of, tested}
use Rattle.letters.specs.Letters.{Fails}
use Rattle.letters.proofs.Combined.{bind_ok, guard_ok, ok_is}

-- the last entry is the one at the last index
pub last_is : {X : Type 0} (xs : List X) (d : X) → 1 ≤ length xs → last_of xs ≡ Some (get_or xs (length xs - 1) d)
last_is [] d h = absurd (omega arith)
last_is (x ∷ []) d h = refl
last_is (x ∷ y ∷ xs) d h = last_is (y ∷ xs) d (omega arith) ∙ ap (λ (n : ℕ). Some (get_or (x ∷ y ∷ xs) n d)) (by (length xs))
  where
    by : (n : ℕ) → suc (suc n - 1) ≡ suc (suc n) - 1
    by n = omega arith

last-push : {X : Type 0} (xs : List X) (x : X) → last_of (xs ++ x ∷ []) ≡ Some x
last-push [] x = refl
last-push (y ∷ []) x = refl
last-push (y ∷ z ∷ xs) x = last-push (z ∷ xs) x

-- what was read before, and what is still read
abbrev pub with_front : {X : Type 0} → List X → Result (List X × List ℕ) LetterFault → Result (List X × List ℕ) LetterFault
with_front front reading = reading >>= λ xs. Ok (front ++ xs.0, xs.1)

module _ {X : Type 0} (before : X → X → Bool) (g : Grammar X) (end : ℕ) where
  -- what is read when n entries are left, behind those that were read
  abbrev pub rest_of : List X → ℕ → List ℕ → Result (List X × List ℕ) LetterFault
  rest_of front n bytes = with_front front (entries_at before g end bytes (last_of front) n)

  regroup : (front : List X) (x : X) (reading : Result (List X × List ℕ) LetterFault) → with_front front (reading >>= λ xs. Ok (x ∷ xs.0, xs.1)) ≡ with_front (front ++ x ∷ []) reading
  regroup front x (Ok xs) = ap (λ (ys : List X). Ok (ys, xs.1)) (sym (append_assoc front (x ∷ []) xs.0))
  regroup front x (Err f) = refl

  pub goes_on : (front : List X) (count i : ℕ) (bytes : List ℕ) (x : X) (after : List ℕ) (total : Result (List X × List ℕ) LetterFault) → i < count
      → g.reading end bytes ≡ Ok (x, after) → comes_behind before (last_of front) x ≡ true → rest_of front (count - i) bytes ≡ total → rest_of (front ++ x ∷ []) (count - (i + 1)) after ≡ total
  goes_on front count i bytes x after total lt h behind so_far =
      let k : count - i ≡ suc (count - (i + 1)) = omega arith in
      let one : rest_of front (suc (count - (i + 1))) bytes ≡ with_front front (entries_at before g end after (Some x) (count - (i + 1)) >>= λ xs. Ok (x ∷ xs.0, xs.1)) = rw (h, behind) refl in
      ap (λ (o : Option X). with_front (front ++ x ∷ []) (entries_at before g end after o (count - (i + 1)))) (last-push front x)
      ∙ sym (regroup front x (entries_at before g end after (Some x) (count - (i + 1)))) ∙ sym one ∙ ap (λ (n : ℕ). rest_of front n bytes) (sym k) ∙ so_far

  pub stops : (front : List X) (count i : ℕ) (bytes : List ℕ) (x : X) (after : List ℕ) (total : Result (List X × List ℕ) LetterFault) → i < count
      → g.reading end bytes ≡ Ok (x, after) → comes_behind before (last_of front) x ≡ false → rest_of front (count - i) bytes ≡ total → total ≡ Err (BadField (end - length bytes))
  stops front count i bytes x after total lt h behind so_far =
      let k : count - i ≡ suc (count - (i + 1)) = omega arith in
      let one : rest_of front (suc (count - (i + 1))) bytes ≡ Err (BadField (end - length bytes)) = rw (h, behind) refl in
      sym so_far ∙ ap (λ (n : ℕ). rest_of front n bytes) k ∙ one

  fails : (fault : LetterFault) (bytes : List ℕ) (front : List X) (n : ℕ) → g.reading end bytes ≡ Err fault → rest_of front (suc n) bytes ≡ Err fault
  fails fault bytes front n h = rw h refl

  pub ends : (fault : LetterFault) (front : List X) (count i : ℕ) (bytes : List ℕ) (total : Result (List X × List ℕ) LetterFault) → i < count
      → Fails fault (g.reading end bytes) → rest_of front (count - i) bytes ≡ total → Fails fault total
  ends Memory front count i bytes total lt h so_far = tt
  ends Short front count i bytes total lt h so_far = sym so_far ∙ ap (λ (n : ℕ). rest_of front n bytes) (by count i lt) ∙ fails Short bytes front (count - (i + 1)) h
    where
      by : (count i : ℕ) → i < count → count - i ≡ suc (count - (i + 1))
      by count i lt = omega arith
  ends Long front count i bytes total lt h so_far = sym so_far ∙ ap (λ (n : ℕ). rest_of front n bytes) (by count i lt) ∙ fails Long bytes front (count - (i + 1)) h
    where
      by : (count i : ℕ) → i < count → count - i ≡ suc (count - (i + 1))
      by count i lt = omega arith
  ends (BadField p) front count i bytes total lt h so_far = sym so_far ∙ ap (λ (n : ℕ). rest_of front n bytes) (by count i lt) ∙ fails (BadField p) bytes front (count - (i + 1)) h
    where
      by : (count i : ℕ) → i < count → count - i ≡ suc (count - (i + 1))
      by count i lt = omega arith

  pub is_done : (front : List X) (count i : ℕ) (bytes : List ℕ) (total : Result (List X × List ℕ) LetterFault) → count ≤ i → rest_of front (count - i) bytes ≡ total → total ≡ Ok (front, bytes)
  is_done front count i bytes total le so_far =
      let k : count - i ≡ 0 = omega arith in
      let one : rest_of front 0 bytes ≡ Ok (front, bytes) = ap (λ (xs : List X). Ok (xs, bytes)) (append-nil front) in
      sym so_far ∙ ap (λ (n : ℕ). rest_of front n bytes) k ∙ one

  -- entries that were read stand one behind the other
  pub behind_read : (bytes : List ℕ) (last : Option X) (n : ℕ) (p : List X × List ℕ) → entries_at before g end bytes last n ≡ Ok p → are_behind before last p.0 ≡ true
  behind_read bytes last zero p e = subst (λ (q : List X × List ℕ). are_behind before last q.0 ≡ true) (ok_is ([], bytes) p e) refl
  behind_read bytes last (suc n) p e =
      let first = tested (comes_behind before last) g in
      let a = bind_ok (first.reading end bytes) (λ x. entries_at before g end x.1 (Some x.0) n >>= λ xs. Ok (x.0 ∷ xs.0, xs.1)) p e in
      let b = bind_ok (entries_at before g end a.0.1 (Some a.0.0) n) (λ xs. Ok (a.0.0 ∷ xs.0, xs.1)) p a.2 in
      let c = bind_ok (g.reading end bytes) (λ x. cond (comes_behind before last x.0) (Ok x) (Err (BadField (end - length bytes)))) a.0 a.1 in
      let d = guard_ok (comes_behind before last c.0.0) (BadField (end - length bytes)) c.0 a.0 c.2 in
      let made : List X × List ℕ = (a.0.0 ∷ b.0.0, b.0.1) in
      let behind : comes_behind before last a.0.0 ≡ true = subst (λ (x : X × List ℕ). comes_behind before last x.0 ≡ true) d.1 d.0 in
      subst (λ (q : List X × List ℕ). are_behind before last q.0 ≡ true) (ok_is made p b.2)
      (and_from (comes_behind before last a.0.0) (are_behind before (Some a.0.0) b.0.0) behind (behind_read a.0.1 (Some a.0.0) n b.0 b.1))

  -- and are as many as they should be
  pub count_read : (bytes : List ℕ) (last : Option X) (n : ℕ) (p : List X × List ℕ) → entries_at before g end bytes last n ≡ Ok p → length p.0 ≡ n
  count_read bytes last zero p e = subst (λ (q : List X × List ℕ). length q.0 ≡ 0) (ok_is ([], bytes) p e) refl
  count_read bytes last (suc n) p e =
      let first = tested (comes_behind before last) g in
      let a = bind_ok (first.reading end bytes) (λ x. entries_at before g end x.1 (Some x.0) n >>= λ xs. Ok (x.0 ∷ xs.0, xs.1)) p e in
      let b = bind_ok (entries_at before g end a.0.1 (Some a.0.0) n) (λ xs. Ok (a.0.0 ∷ xs.0, xs.1)) p a.2 in
      let made : List X × List ℕ = (a.0.0 ∷ b.0.0, b.0.1) in
      subst (λ (q : List X × List ℕ). length q.0 ≡ suc n) (ok_is made p b.2) (ap suc (count_read a.0.1 (Some a.0.0) n b.0 b.1))

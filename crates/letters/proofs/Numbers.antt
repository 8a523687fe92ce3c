-- Numbers in n bytes, there and back.
use Rattle.std.proofs.Common.{◌≡◌, ℕ, zero, suc, ◌+◌, ◌*◌, ◌^◌, ◌<◌, ◌≤◌, ◌/◌, inl, inr, Bool, true, false, cond, ltb, List, [], ◌∷◌, ◌++◌, length, take, drop, get_or, Ok, Err, refl, sym, ap, ap₂, subst, ◌∙◌, arith}
use Rattle.std.specs.Int.{byte_at, bytes_high_first}
use Rattle.std.proofs.Math.Nat.{mod-lt}
use Rattle.std.proofs.lemmas.Bool.{cases_lt, ltb-false, ltb-true, le-ltb, lt-ltb}
use Rattle.std.proofs.lemmas.Nat.{div-mul-add}
use Rattle.std.proofs.lemmas.List.{append-nil, drop_at, take-append-drop, length-append, length-take, get_or-drop, get_or-take, get_or_past}
use Rattle.byteorder.specs.Endian.{big_bytes, big_from, big_number}
use Rattle.byteorder.specs.Numbers.{big_from-cons, big_from-lt, big_from-take, big_number-reads_back, length-bytes_high_first}
use Rattle.letters.specs.declared.fault.LetterFault.{LetterFault}
use Rattle.letters.specs.declared.fault.LetterFault.TheVariants.{Short}
use Rattle.letters.specs.Grammar.{number}
use Rattle.letters.proofs.Lawful.{AreBytes, IsLawful}

pub bytes-drop : (n : ℕ) (bytes : List ℕ) → AreBytes bytes → AreBytes (drop n bytes)
bytes-drop n bytes h i = rw get_or-drop (h (n + i))

pub bytes-front : (x rest : List ℕ) → AreBytes (x ++ rest) → AreBytes rest
bytes-front x rest h = subst AreBytes (drop_at x rest (length x) refl) (bytes-drop (length x) (x ++ rest) h)

-- a number is told by its leading digit and the rest
lead_is : (a b m r s : ℕ) → r < m → s < m → a * m + r ≡ b * m + s → (a ≡ b) × (r ≡ s)
lead_is a b m r s hr hs e =
    let lead : a ≡ b = sym (div-mul-add a m r hr) ∙ ap (λ (x : ℕ). x / m) e ∙ div-mul-add b m s hs in
    (lead, rests (a * m) (b * m) r s (ap (λ (x : ℕ). x * m) lead) e)
  where
    rests : (x y r s : ℕ) → x ≡ y → x + r ≡ y + s → r ≡ s
    rests x y r s e f = omega arith

-- n bytes are told by their number
told : (n : ℕ) (xs ys : List ℕ) → length xs ≡ n → length ys ≡ n → AreBytes xs → AreBytes ys → big_from 0 n xs ≡ big_from 0 n ys → xs ≡ ys
told zero [] [] k l hx hy e = refl
told zero [] (y ∷ ys) k l hx hy e = absurd cc
told zero (x ∷ xs) ys k l hx hy e = absurd cc
told (suc n) [] ys k l hx hy e = absurd cc
told (suc n) (x ∷ xs) [] k l hx hy e = absurd cc
told (suc n) (x ∷ xs) (y ∷ ys) k l hx hy e =
    let both : x * 256 ^ n + big_from 0 n xs ≡ y * 256 ^ n + big_from 0 n ys =
    ap (λ (t : ℕ). x * 256 ^ n + t) (sym (big_from-cons 0 n x xs)) ∙ e ∙ ap (λ (t : ℕ). y * 256 ^ n + t) (big_from-cons 0 n y ys) in
    let parts = lead_is x y (256 ^ n) (big_from 0 n xs) (big_from 0 n ys) (big_from-lt 0 n xs (λ i. hx (suc i))) (big_from-lt 0 n ys (λ i. hy (suc i))) both in
    ap₂ (λ (b : ℕ) (bs : List ℕ). b ∷ bs) parts.0 (told n xs ys (less (length xs) n k) (less (length ys) n l) (λ i. hx (suc i)) (λ i. hy (suc i)) parts.1)
  where
    less : (m n : ℕ) → suc m ≡ suc n → m ≡ n
    less m n e = omega arith

digit : (k x : ℕ) → byte_at k x < 256
digit zero x = mod-lt x (omega arith)
digit (suc k) x = mod-lt (x / 256 ^ suc k) (omega arith)

digits_are_bytes : (n x : ℕ) → AreBytes (bytes_high_first n x)
digits_are_bytes zero x i = none i
  where
    none : (i : ℕ) → get_or [] i 0 < 256
    none zero = omega arith
    none (suc i) = omega arith
digits_are_bytes (suc n) x zero = digit n x
digits_are_bytes (suc n) x (suc i) = digits_are_bytes n x i

-- n bytes are those of their number
pub spelled_again : (n : ℕ) (bytes : List ℕ) → length bytes ≡ n → AreBytes bytes → big_bytes n (big_number n bytes) ≡ bytes
spelled_again n bytes len fit =
    let x = big_from 0 n bytes in
    let below : x < 256 ^ n = big_from-lt 0 n bytes fit in
    let again : big_from 0 n (bytes_high_first n x) ≡ x = ap (big_from 0 n) (sym (append-nil (bytes_high_first n x))) ∙ big_number-reads_back n x [] below in
    told n (bytes_high_first n x) bytes (length-bytes_high_first n x) len (digits_are_bytes n x) fit again

bytes-take : (n : ℕ) (bytes : List ℕ) → AreBytes bytes → AreBytes (take n bytes)
bytes-take n bytes h i =
    elim (cases_lt i n) [
      | inl lt ↦ rw (get_or-take n bytes i 0 lt) (h i)
      | inr le ↦ rw (get_or_past (take n bytes) i 0 (omega (arith, length-take n bytes))) (omega arith)
    ]

-- a test that was passed over
pub guard_not : {X : Type 0} (b : Bool) (d : LetterFault) (x y : X) → cond b (Err d) (Ok x) ≡ Ok y → (b ≡ false) × (x ≡ y)
guard_not true d x y e = absurd cc
guard_not false d x y e = (refl, cc)

pub number_lawful : (n : ℕ) → IsLawful (number n)
number_lawful n = record { read = reads; again = again }
  where
    reads : (end : ℕ) (bytes : List ℕ) (x : ℕ) (rest : List ℕ) → AreBytes bytes → (number n).reading end bytes ≡ Ok (x, rest) → (bytes ≡ big_bytes n x ++ rest) × (ltb x (256 ^ n) ≡ true)
    reads end bytes x rest fit e =
        let g = guard_not (ltb (length bytes) n) Short (big_number n bytes, drop n bytes) (x, rest) e in
        let long : n ≤ length bytes = ltb-false _ _ g.0 in
        let front : big_number n (take n bytes) ≡ big_number n bytes = big_from-take 0 n n bytes (omega arith) in
        let spelled : big_bytes n (big_number n bytes) ≡ take n bytes =
        ap (big_bytes n) (sym front) ∙ spelled_again n (take n bytes) (omega (arith, length-take n bytes)) (bytes-take n bytes fit) in
        let whole : bytes ≡ big_bytes n (big_number n bytes) ++ drop n bytes = sym (take-append-drop n bytes) ∙ ap (λ (t : List ℕ). t ++ drop n bytes) (sym spelled) in
        subst (λ (p : ℕ × List ℕ). (bytes ≡ big_bytes n p.0 ++ p.1) × (ltb p.0 (256 ^ n) ≡ true)) g.1 (whole, lt-ltb _ _ (big_from-lt 0 n bytes fit))

    again : (end x : ℕ) (rest : List ℕ) → ltb x (256 ^ n) ≡ true → (number n).reading end (big_bytes n x ++ rest) ≡ Ok (x, rest)
    again end x rest fit =
        let len = length-bytes_high_first n x in
        let long : ltb (length (big_bytes n x ++ rest)) n ≡ false = le-ltb _ _ (omega (arith, length-append (big_bytes n x) rest)) in
        rw (long, drop_at (big_bytes n x) rest n len, big_number-reads_back n x rest (ltb-true _ _ fit)) refl

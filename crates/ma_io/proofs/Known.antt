-- Bytes that a writer holds or a reader has left, over several calls.
use Rattle.std.proofs.Common.{◌≡◌, ℕ, ◌<◌, List, [], ◌∷◌, ◌++◌, length, take, drop, Option, Some, None, IfSome, refl, sym, ap, ◌∙◌, append_assoc, take-append-drop, length-append, arith}
use Rattle.std.specs.Io.KnownBytes.{Appends, Consumes, Keeps}

pub Appends-append : (old mid new : Option (List ℕ)) (a b : List ℕ) → Appends old mid a → Appends mid new b → Appends old new (a ++ b)
Appends-append None mid new a b p q = tt
Appends-append (Some xs) None new a b p q = absurd p
Appends-append (Some xs) (Some ys) None a b p q = absurd q
Appends-append (Some xs) (Some ys) (Some zs) a b p q = q ∙ ap (λ s. s ++ b) p ∙ append_assoc xs a b

pub Appends-keeps : (old mid new : Option (List ℕ)) (a : List ℕ) → Appends old mid a → Keeps mid new → Appends old new a
Appends-keeps None mid new a p q = tt
Appends-keeps (Some xs) None new a p q = absurd p
Appends-keeps (Some xs) (Some ys) None a p q = absurd q
Appends-keeps (Some xs) (Some ys) (Some zs) a p q = q ∙ p

take_front : (sent rest : List ℕ) → take (length sent) (sent ++ rest) ≡ sent
take_front [] rest = refl
take_front (x ∷ sent) rest = ap (λ s. x ∷ s) (take_front sent rest)

-- what was sent before the rest is a front of all
pub Appends-front : (old new : Option (List ℕ)) (sent rest all : List ℕ) → sent ++ rest ≡ all → Appends old new sent → (n : ℕ) × Appends old new (take n all)
Appends-front old new sent rest all is p =
    (length sent, rw (← is) (rw (take_front sent rest) p))

-- a piece of the rest is sent too
pub send_more : (sent rest all : List ℕ) (n : ℕ) → sent ++ rest ≡ all → (sent ++ take n rest) ++ drop n rest ≡ all
send_more sent rest all n is = append_assoc sent (take n rest) (drop n rest) ∙ ap (λ s. sent ++ s) (take-append-drop n rest) ∙ is

pub Consumes-append : (old mid new : Option (List ℕ)) (a b : List ℕ) → Consumes old mid a → Consumes mid new b → Consumes old new (a ++ b)
Consumes-append None mid new a b p q = tt
Consumes-append (Some xs) None new a b p q = absurd p
Consumes-append (Some xs) (Some ys) None a b p q = absurd q
Consumes-append (Some xs) (Some ys) (Some zs) a b p q = p ∙ ap (λ s. a ++ s) q ∙ sym (append_assoc a b zs)

pub Consumes-keeps : (old mid new : Option (List ℕ)) (a : List ℕ) → Consumes old mid a → Keeps mid new → Consumes old new a
Consumes-keeps None mid new a p q = tt
Consumes-keeps (Some xs) None new a p q = absurd p
Consumes-keeps (Some xs) (Some ys) None a p q = absurd q
Consumes-keeps (Some xs) (Some ys) (Some zs) a p q = p ∙ ap (λ s. a ++ s) (sym q)

-- more than `most` bytes were read
pub longer : (old new : Option (List ℕ)) (a : List ℕ) (most : ℕ) → Consumes old new a → most < length a → IfSome old (λ bytes. (whole : List ℕ) × (Some bytes ≡ Some whole) × (most < length whole))
longer None new a most p l = tt
longer (Some xs) None a most p l = absurd p
longer (Some xs) (Some ys) a most p l = (xs, refl, omega (arith, ap length p, length-append a ys))

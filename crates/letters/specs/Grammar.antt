-- Grammars of bytes: which values have a spelling, how each is spelled, and how a value is read field by field.
use Rattle.std.specs.Prelude.{ℕ, zero, suc, ◌-◌, ◌^◌, ◌==◌, ◌&&◌, ◌++◌, Bool, true, false, nat_lt, if◌then◌else◌, length, drop, List, [], ◌∷◌, Option, Some, None, Result, Ok, Err}
use Rattle.std.specs.List.{flat_map, list_all}
use Rattle.byteorder.specs.Endian.{big_bytes, big_number}
use Rattle.letters.specs.declared.fault.LetterFault.{LetterFault}
use Rattle.letters.specs.declared.fault.LetterFault.TheVariants.{Short, BadField}

infixl 10 ◌>>=◌
abbrev pub ◌>>=◌ : {X Y : Type 0} → Result X LetterFault → (X → Result Y LetterFault) → Result Y LetterFault
(Ok x) >>= f = f x
(Err e) >>= f = Err e

-- which values have a spelling, what it is, and what is read from bytes: a value with the bytes behind it, or the first fault.
-- Reading is given how many bytes there are from the letter's first one to its end, so that it can tell the place of a field
pub record Grammar (X : Type 0) : Type 0 where
  pub fits : X → Bool
  pub spelling : X → List ℕ
  pub reading : ℕ → List ℕ → Result (X × List ℕ) LetterFault

-- a number in n bytes, the highest first
abbrev pub number : ℕ → Grammar ℕ
number n = record {
  fits = λ x. nat_lt x (256 ^ n);
  spelling = λ x. big_bytes n x;
  reading = λ end bytes. if nat_lt (length bytes) n then Err Short else Ok (big_number n bytes, drop n bytes);
}

-- a value that passes a test. Where it doesn't, the fault stands at its first byte
abbrev pub tested : {X : Type 0} → (X → Bool) → Grammar X → Grammar X
tested test g = record {
  fits = λ x. g.fits x && test x;
  spelling = g.spelling;
  reading = λ end bytes. g.reading end bytes >>= λ x. if test x.0 then Ok x else Err (BadField (end - length bytes));
}

-- a value, and one behind it of a grammar that depends on the first
abbrev pub chain : {X Y : Type 0} → Grammar X → (X → Grammar Y) → Grammar (X × Y)
chain g h = record {
  fits = λ p. g.fits p.0 && (h p.0).fits p.1;
  spelling = λ p. g.spelling p.0 ++ (h p.0).spelling p.1;
  reading = λ end bytes. g.reading end bytes >>= λ x. (h x.0).reading end x.1 >>= λ y. Ok ((x.0, y.0), y.1);
}

-- a value, and one behind it
infixr 20 ◌then◌
abbrev pub ◌then◌ : {X Y : Type 0} → Grammar X → Grammar Y → Grammar (X × Y)
g then h = chain g (λ _. h)

-- a value that stands for another, as `to` says, where `of` is the way back and `proper` tells for which values this is so
abbrev pub stands_for : {X Y : Type 0} → (Y → Bool) → (X → Y) → (Y → X) → Grammar X → Grammar Y
stands_for proper to of g = record {
  fits = λ y. proper y && g.fits (of y);
  spelling = λ y. g.spelling (of y);
  reading = λ end bytes. g.reading end bytes >>= λ x. Ok (to x.0, x.1);
}

-- the same for all values
abbrev pub renamed : {X Y : Type 0} → (X → Y) → (Y → X) → Grammar X → Grammar Y
renamed to of g = stands_for (λ _. true) to of g

-- one variant of many: `of` has the value in it, where it is this one
abbrev pub fits_in : {X : Type 0} → Grammar X → Option X → Bool
fits_in g None = false
fits_in g (Some x) = g.fits x

abbrev pub spelling_in : {X : Type 0} → Grammar X → Option X → List ℕ
spelling_in g None = []
spelling_in g (Some x) = g.spelling x

abbrev pub variant : {X Y : Type 0} → (X → Y) → (Y → Option X) → Grammar X → Grammar Y
variant to of g = record {
  fits = λ y. fits_in g (of y);
  spelling = λ y. spelling_in g (of y);
  reading = λ end bytes. g.reading end bytes >>= λ x. Ok (to x.0, x.1);
}

-- whether an entry comes behind the last one, where there is one
abbrev pub comes_behind : {X : Type 0} → (X → X → Bool) → Option X → X → Bool
comes_behind before None x = true
comes_behind before (Some last) x = before last x

-- n entries, each behind the one before it. Where one isn't, the fault stands at its first byte
abbrev pub entries_at : {X : Type 0} → (X → X → Bool) → Grammar X → ℕ → List ℕ → Option X → ℕ → Result (List X × List ℕ) LetterFault
entries_at before g end bytes last zero = Ok ([], bytes)
entries_at before g end bytes last (suc n) =
    (tested (comes_behind before last) g).reading end bytes >>= λ x. entries_at before g end x.1 (Some x.0) n >>= λ xs. Ok (x.0 ∷ xs.0, xs.1)

-- whether each entry comes behind the one before it, and the first behind the last one
abbrev pub are_behind : {X : Type 0} → (X → X → Bool) → Option X → List X → Bool
are_behind before last [] = true
are_behind before last (x ∷ xs) = comes_behind before last x && are_behind before (Some x) xs

abbrev pub entries : {X : Type 0} → (X → X → Bool) → Grammar X → ℕ → Grammar (List X)
entries before g n = record {
  fits = λ xs. length xs == n && (are_behind before None xs && list_all g.fits xs);
  spelling = λ xs. flat_map g.spelling xs;
  reading = λ end bytes. entries_at before g end bytes None n;
}

-- a count, and as many entries
abbrev pub counted : {X : Type 0} → Grammar ℕ → (X → X → Bool) → Grammar X → Grammar (List X)
counted count before g = renamed (λ p. p.1) (λ xs. (length xs, xs)) (chain count (entries before g))

-- the last entry of a list
abbrev pub last_of : {X : Type 0} → List X → Option X
last_of [] = None
last_of (x ∷ []) = Some x
last_of (x ∷ y ∷ xs) = last_of (y ∷ xs)

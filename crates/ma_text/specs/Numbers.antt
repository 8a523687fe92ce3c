-- Numbers as words.
use Rattle.std.specs.Prelude.{ℕ, ◌+◌, ◌-◌, ◌*◌, ◌^◌, Bool, true, false, nat_lt, nat_le, ◌==◌, ◌&&◌, if◌then◌else◌, ℤ, pos, negsuc, neg_ℤ, List, [], ◌∷◌, length, fold, Option, Some, None, Result, Ok, Err}
use Rattle.std.specs.List.{list_all, before_first, after_first}
use Rattle.ma_text.specs.declared.number.NumberFault.{NumberFault}
use Rattle.ma_text.specs.declared.number.NumberFault.TheVariants.{Empty, NotWhole, TooBig}

-- '0' to '9'
abbrev pub is_digit : ℕ → Bool
is_digit byte = nat_le 48 byte && nat_le byte 57

-- one digit or more, and nothing else
abbrev pub are_digits : List ℕ → Bool
are_digits bytes = nat_lt 0 (length bytes) && list_all is_digit bytes

-- a number with one more digit behind it
abbrev pub with_digit : ℕ → ℕ → ℕ
with_digit value digit = 10 * value + (digit - 48)

-- the number that digits write in base ten
abbrev pub value_of : List ℕ → ℕ
value_of digits = fold with_digit 0 digits

-- the number that digits write behind a sign, of any size
abbrev pub signed : Bool → List ℕ → Option ℤ
signed is_negative digits =
    if are_digits digits then Some (if is_negative then neg_ℤ (pos (value_of digits)) else pos (value_of digits)) else None

-- the number that an optional sign ('+' or '-') and digits write
unfoldable pub written : List ℕ → Option ℤ
written [] = None
written (first ∷ rest) =
    if first == 43 then signed false rest
    else (if first == 45 then signed true rest
    else signed false (first ∷ rest))

abbrev pub is_zero : ℕ → Bool
is_zero byte = byte == 48

abbrev pub is_point : ℕ → Bool
is_point byte = byte == 46

-- the same, where a point may stand behind the digits, and zeros behind it
unfoldable pub written_whole : List ℕ → Option ℤ
written_whole word = if list_all is_zero (after_first is_point word) then written (before_first is_point word) else None

-- from -2^63 to 2^63 - 1
abbrev pub signed_answer : Option ℤ → Result ℤ NumberFault
signed_answer None = Err NotWhole
signed_answer (Some (pos n)) = if nat_lt n (2 ^ 63) then Ok (pos n) else Err TooBig
signed_answer (Some (negsuc n)) = if nat_lt n (2 ^ 63) then Ok (negsuc n) else Err TooBig

-- from 0 to 2^64 - 1
abbrev pub natural_answer : Option ℤ → Result ℕ NumberFault
natural_answer None = Err NotWhole
natural_answer (Some (pos n)) = if nat_lt n (2 ^ 64) then Ok n else Err TooBig
natural_answer (Some (negsuc n)) = Err NotWhole

-- what is answered to a word, where the answer to a word that isn't empty is given
abbrev pub unless_empty : {N : Type 0} → List ℕ → Result N NumberFault → Result N NumberFault
unless_empty [] answer = Err Empty
unless_empty (first ∷ rest) answer = answer

unfoldable pub digits_of : List ℕ → Result ℤ NumberFault
digits_of word = unless_empty word (signed_answer (written word))

unfoldable pub whole_of : List ℕ → Result ℤ NumberFault
whole_of word = unless_empty word (signed_answer (written_whole word))

unfoldable pub natural_of : List ℕ → Result ℕ NumberFault
natural_of word = unless_empty word (natural_answer (written word))

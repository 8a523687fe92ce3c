-- A number of 64 bits is read exactly where its range ends before.
use Rattle.std.proofs.Common.{◌≡◌, ℕ, ◌≤◌, ◌^◌, List, true, false, cond, refl, arith}
use Rattle.std.specs.Prelude.{Option, Some, None, Result, Ok, Err, nat_lt, pos}
use Rattle.std.proofs.lemmas.Bool.Decides.{nat_tests}
use Rattle.ma_text.specs.Numbers as numbers
use Rattle.ma_text.specs.declared.number.NumberFault.{NumberFault}
use Rattle.ma_text.specs.declared.number.NumberFault.TheVariants.{TooBig}
use Rattle.meshadapt.specs.Words.{in_range, number_in}

-- the number that was read, if it is in the range
abbrev pub taken_in : ℕ → ℕ → Result ℕ NumberFault → Option ℕ
taken_in low high (Ok n) = in_range low high n
taken_in low high (Err fault) = None

-- what is past 64 bits is past the range
past_range : (low high n : ℕ) → high ≤ 2 ^ 30 → nat_lt n (2 ^ 64) ≡ false → None ≡ in_range low high n
past_range low high n small past = grind (arith, nat_tests)

pub number_in_is : (low high : ℕ) (word : List ℕ) → high ≤ 2 ^ 30 → taken_in low high (numbers.natural_answer (numbers.signed false word)) ≡ number_in low high word
unfolding number_in
number_in_is low high word small =
    let n : ℕ = numbers.value_of word in
    elim (numbers.are_digits word) as (λ b. taken_in low high (numbers.natural_answer (cond b (Some (pos n)) None)) ≡ cond b (in_range low high n) None) [
      | true ↦
          elim (nat_lt n (2 ^ 64)) as (λ b. nat_lt n (2 ^ 64) ≡ b → taken_in low high (cond b (Ok n) (Err TooBig)) ≡ in_range low high n) [
            | true ↦ λ _. refl
            | false ↦ λ past. past_range low high n small past
          ] refl
      | false ↦ refl
    ]

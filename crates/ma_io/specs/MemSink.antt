-- A sink in memory, with the numbers of the puts that are to fail.
--     SinkState          what it holds
--     new_sink           as it is made
--     is_put_to_fail     the next put has a number that is to fail
--     PutAnswers         the answer is the one that is due, or `Memory` in place of `Ok`
--     after_put          what the answer leaves
use Rattle.std.specs.Prelude.{◌≡◌, ℕ, Bool, true, false, ◌==◌, List, [], ◌++◌, Result, Ok, Err}
use Rattle.std.specs.List.{list_any}
use Rattle.ma_io.specs.declared.faults.SinkFault.{SinkFault}
use Rattle.ma_io.specs.declared.faults.SinkFault.TheVariants.{Failed, Memory}
use Rattle.ma_io.specs.Count.{raised}

-- the bytes put so far, the numbers of the puts that are to fail, how many puts were answered, and how many of them failed
pub record SinkState : Type 0 where
  pub written : List ℕ
  pub fail_puts : List ℕ
  pub puts : ℕ
  pub faults : ℕ

abbrev pub new_sink : List ℕ → SinkState
new_sink fail_puts = record { written = []; fail_puts = fail_puts; puts = 0; faults = 0 }

-- puts have the numbers from 1
abbrev pub is_put_to_fail : SinkState → Bool
is_put_to_fail s = list_any (λ number. number == raised s.puts) s.fail_puts

abbrev pub PutAnswers : {T : Type 0} → Bool → Result T SinkFault → Type 0
PutAnswers fails (Ok _) = fails ≡ false
PutAnswers fails (Err Failed) = fails ≡ true
PutAnswers fails (Err Memory) = fails ≡ false

-- a put for which memory ran out has no number
abbrev pub after_put : {T : Type 0} → SinkState → List ℕ → Result T SinkFault → SinkState
after_put s bytes (Ok _) = record s { written = s.written ++ bytes; puts = raised s.puts }
after_put s bytes (Err Failed) = record s { puts = raised s.puts; faults = raised s.faults }
after_put s bytes (Err Memory) = s

-- A carrier that alters one letter.
--     TestState         its queue, the number of the letter that it alters, how, and how many letters were posted
--     new_test          as it is made
--     altered           what a change makes of a letter, if it isn't lost
--     arriving          what reaches the queue of the next letter
--     TestAnswers       the answer is the one that is due
--     after_testing     what the answer of a post leaves
use Rattle.std.specs.Prelude.{ℕ, ◌-◌, ◌==◌, if◌then◌else◌, List, length, slice_set, take, Option, Some, None, Result, Ok, Err}
use Rattle.ma_io.specs.Count.{raised}
use Rattle.carrier.specs.declared.faults.CarrierFault.{CarrierFault}
use Rattle.carrier.specs.declared.test_carrier.Change.{Change}
use Rattle.carrier.specs.declared.test_carrier.Change.TheVariants.{Lose, Cut, Byte}
use Rattle.carrier.specs.Queue.{PostAnswers, QueueState, after_posting, is_post_to_fail}

-- letters have the numbers from 1
pub record TestState : Type 0 where
  pub queue : QueueState
  pub at : ℕ
  pub change : Change
  pub posted : ℕ

abbrev pub new_test : QueueState → ℕ → Change → TestState
new_test queue at change = record { queue = queue; at = at; change = change; posted = 0 }

-- a byte past the letter's end is no byte of it
abbrev pub altered : Change → List ℕ → Option (List ℕ)
altered Lose bytes = None
altered Cut bytes = Some (take (length bytes - 1) bytes)
altered (Byte place value) bytes = Some (slice_set bytes place value)

abbrev pub arriving : TestState → List ℕ → Option (List ℕ)
arriving t bytes = if raised t.posted == t.at then altered t.change bytes else Some bytes

-- a letter that is lost is posted all the same
abbrev pub TestAnswers : {T : Type 0} → TestState → Option (List ℕ) → Result T CarrierFault → Type 0
TestAnswers t None (Ok _) = Unit {0}
TestAnswers t None (Err _) = ⊥
TestAnswers t (Some bytes) result = PostAnswers (is_post_to_fail t.queue) result

-- a letter that is refused has no number
abbrev pub counted : {T : Type 0} → ℕ → Result T CarrierFault → ℕ
counted posted (Ok _) = raised posted
counted posted (Err _) = posted

abbrev pub after_testing : {T : Type 0} → TestState → Option (List ℕ) → Result T CarrierFault → TestState
after_testing t None result = record t { posted = counted t.posted result }
after_testing t (Some bytes) result = record t { queue = after_posting t.queue bytes result; posted = counted t.posted result }

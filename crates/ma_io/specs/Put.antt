-- What an answer of a put means.
--     is_failed_put      the answer that raises a count
--     PutLeaves          the bytes put so far, after the answer
--     faults_after_put   the count of faults, after it
use Rattle.std.specs.Prelude.{◌≡◌, ℕ, Bool, true, false, List, ◌++◌, take, Option, Some, Result, Ok, Err}
use Rattle.ma_io.specs.declared.faults.SinkFault.{SinkFault}
use Rattle.ma_io.specs.declared.faults.SinkFault.TheVariants.{Failed, Memory}
use Rattle.ma_io.specs.Count.{raised}

abbrev pub is_failed_put : {T : Type 0} → Result T SinkFault → Bool
is_failed_put (Ok _) = false
is_failed_put (Err Failed) = true
is_failed_put (Err Memory) = false

abbrev pub PutLeaves : {T : Type 0} → List ℕ → Option (List ℕ) → List ℕ → Result T SinkFault → Type 0
PutLeaves old new bytes (Ok _) = new ≡ Some (old ++ bytes)
PutLeaves old new bytes (Err Failed) = (n : ℕ) × (new ≡ Some (old ++ take n bytes))
PutLeaves old new bytes (Err Memory) = new ≡ Some old

-- the count of faults that the answer leaves
abbrev pub faults_after_put : {T : Type 0} → ℕ → Result T SinkFault → ℕ
faults_after_put faults (Ok _) = faults
faults_after_put faults (Err Failed) = raised faults
faults_after_put faults (Err Memory) = faults

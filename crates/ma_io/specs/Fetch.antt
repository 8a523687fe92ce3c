-- What an answer of a fetch means.
--     is_failed_fetch, is_denied_fetch      the answers that raise a count
--     FetchTells                            what the answer says of the file under the name
use Rattle.std.specs.Prelude.{◌≡◌, ℕ, ◌<◌, ◌≤◌, Bool, true, false, List, length, Option, Some, None, Result, Ok, Err}
use Rattle.ma_io.specs.declared.faults.FetchFault.{FetchFault}
use Rattle.ma_io.specs.declared.faults.FetchFault.TheVariants.{Failed, Absent, TooLong, Memory}

abbrev pub is_failed_fetch : {T : Type 0} → Result T FetchFault → Bool
is_failed_fetch (Ok _) = false
is_failed_fetch (Err Failed) = true
is_failed_fetch (Err Absent) = false
is_failed_fetch (Err TooLong) = false
is_failed_fetch (Err Memory) = false

abbrev pub is_denied_fetch : {T : Type 0} → Result T FetchFault → Bool
is_denied_fetch (Ok _) = false
is_denied_fetch (Err Failed) = false
is_denied_fetch (Err Absent) = true
is_denied_fetch (Err TooLong) = true
is_denied_fetch (Err Memory) = false

-- the file, if there is one, where a fetch of at most so many bytes answered this and gave these bytes
abbrev pub FetchTells : {T : Type 0} → Option (List ℕ) → ℕ → List ℕ → Result T FetchFault → Type 0
FetchTells file most given (Ok _) = (file ≡ Some given) × (length given ≤ most)
FetchTells file most given (Err Failed) = Unit {0}
FetchTells file most given (Err Absent) = file ≡ None
FetchTells file most given (Err TooLong) = (bytes : List ℕ) × (file ≡ Some bytes) × (most < length bytes)
FetchTells file most given (Err Memory) = Unit {0}

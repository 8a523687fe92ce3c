-- A depot in memory, with the numbers of the calls that are to fail.
--     DepotState                             what it holds
--     new_depot                              as it is made
--     is_fetch_to_fail, is_store_to_fail     the next call has a number that is to fail
--     file_due, fetch_due                    the answer that a file owes a fetch, and that the depot does
--     FetchAnswers, StoreAnswers             the answer is the one that is due, or `Memory` in place of `Ok`
--     after_fetch, after_store               what the answer leaves
use Rattle.std.specs.Prelude.{◌≡◌, ℕ, Bool, true, false, ◌==◌, nat_le, if◌then◌else◌, List, length, Option, Some, None, Result, Ok, Err, IsOk}
use Rattle.std.specs.List.{list_any}
use Rattle.std.specs.FinMap as map
use Rattle.ma_io.specs.declared.faults.FetchFault.{FetchFault}
use Rattle.ma_io.specs.declared.faults.FetchFault.TheVariants.{Failed, Absent, TooLong, Memory}
use Rattle.ma_io.specs.declared.faults.StoreFault.{StoreFault}
use Rattle.ma_io.specs.declared.faults.StoreFault.TheVariants.{Failed as StoreFailed, Memory as StoreMemory}
use Rattle.ma_io.specs.Count.{raised}
use Rattle.ma_io.specs.Files.{Files}

-- the files; the numbers of the fetches and of the stores that are to fail; how many of each were answered; and the counts of what went wrong
pub record DepotState : Type 0 where
  pub files : Files
  pub fail_fetches : List ℕ
  pub fail_stores : List ℕ
  pub fetches : ℕ
  pub stores : ℕ
  pub fetch_faults : ℕ
  pub store_faults : ℕ
  pub denied : ℕ

abbrev pub new_depot : Files → List ℕ → List ℕ → DepotState
new_depot files fail_fetches fail_stores = record { files = files; fail_fetches = fail_fetches; fail_stores = fail_stores; fetches = 0; stores = 0; fetch_faults = 0; store_faults = 0; denied = 0 }

-- calls of each kind have the numbers from 1
abbrev pub is_fetch_to_fail : DepotState → Bool
is_fetch_to_fail d = list_any (λ number. number == raised d.fetches) d.fail_fetches

abbrev pub is_store_to_fail : DepotState → Bool
is_store_to_fail d = list_any (λ number. number == raised d.stores) d.fail_stores

abbrev pub file_due : Option (List ℕ) → ℕ → Result (List ℕ) FetchFault
file_due None most = Err Absent
file_due (Some bytes) most = if nat_le (length bytes) most then Ok bytes else Err TooLong

abbrev pub fetch_due : DepotState → List ℕ → ℕ → Result (List ℕ) FetchFault
fetch_due d name most = if is_fetch_to_fail d then Err Failed else file_due (map.get d.files name) most

-- with these bytes at `Ok`
abbrev pub FetchAnswers : {T : Type 0} → Result (List ℕ) FetchFault → List ℕ → Result T FetchFault → Type 0
FetchAnswers due given (Ok _) = due ≡ Ok given
FetchAnswers due given (Err Failed) = due ≡ Err Failed
FetchAnswers due given (Err Absent) = due ≡ Err Absent
FetchAnswers due given (Err TooLong) = due ≡ Err TooLong
FetchAnswers due given (Err Memory) = IsOk due

-- a fetch for which memory ran out has no number
abbrev pub after_fetch : {T : Type 0} → DepotState → Result T FetchFault → DepotState
after_fetch d (Ok _) = record d { fetches = raised d.fetches }
after_fetch d (Err Failed) = record d { fetches = raised d.fetches; fetch_faults = raised d.fetch_faults }
after_fetch d (Err Absent) = record d { fetches = raised d.fetches; denied = raised d.denied }
after_fetch d (Err TooLong) = record d { fetches = raised d.fetches; denied = raised d.denied }
after_fetch d (Err Memory) = d

abbrev pub StoreAnswers : {T : Type 0} → Bool → Result T StoreFault → Type 0
StoreAnswers fails (Ok _) = fails ≡ false
StoreAnswers fails (Err StoreFailed) = fails ≡ true
StoreAnswers fails (Err StoreMemory) = fails ≡ false

abbrev pub after_store : {T : Type 0} → DepotState → List ℕ → List ℕ → Result T StoreFault → DepotState
after_store d name bytes (Ok _) = record d { files = map.insert d.files name bytes; stores = raised d.stores }
after_store d name bytes (Err StoreFailed) = record d { stores = raised d.stores; store_faults = raised d.store_faults }
after_store d name bytes (Err StoreMemory) = d

-- What an answer of a post means.
--     is_failed      the answer that raises the count of faults
--     after_post     a list that each posted letter joins, after the answer
use Rattle.std.specs.Prelude.{ℕ, Bool, true, false, List, [], ◌∷◌, ◌++◌, Result, Ok, Err}
use Rattle.carrier.specs.declared.faults.CarrierFault.{CarrierFault}
use Rattle.carrier.specs.declared.faults.CarrierFault.TheVariants.{Failed, Memory}
use Rattle.carrier.specs.Carried.{Letters}

abbrev pub is_failed : {T : Type 0} → Result T CarrierFault → Bool
is_failed (Ok _) = false
is_failed (Err Failed) = true
is_failed (Err Memory) = false

abbrev pub after_post : {T : Type 0} → Letters → List ℕ → Result T CarrierFault → Letters
after_post letters bytes (Ok _) = letters ++ bytes ∷ []
after_post letters bytes (Err _) = letters

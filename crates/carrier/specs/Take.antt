-- What an answer of a take means.
--     is_dry         the answer that raises the count of dry takes
--     place_of       the place that a pick names among the letters that wait
--     TakeLeaves     the letter that is handed out, and those that wait afterwards
--     after_take     the letters handed out so far, after the answer
use Rattle.std.specs.Prelude.{◌≡◌, ℕ, ◌<◌, ◌%◌, Bool, true, false, [], ◌∷◌, ◌++◌, length, slice_get, Option, Some, None, Result, Ok, Err, Vec}
use Rattle.std.specs.List.{remove}
use Rattle.carrier.specs.declared.faults.CarrierFault.{CarrierFault}
use Rattle.carrier.specs.Carried.{Letters}

abbrev pub is_dry : {A : Type 0} → Result (Option (Vec ℕ A)) CarrierFault → Bool
is_dry (Ok (Some _)) = false
is_dry (Ok None) = true
is_dry (Err _) = false

-- a pick may be any number
abbrev pub place_of : ℕ → Letters → ℕ
place_of pick held = pick % length held

abbrev pub TakeLeaves : {A : Type 0} → Letters → ℕ → Option Letters → Result (Option (Vec ℕ A)) CarrierFault → Type 0
TakeLeaves held pick new (Ok (Some bytes)) = (0 < length held) × (slice_get held (place_of pick held) ≡ Some bytes.items) × (new ≡ Some (remove held (place_of pick held)))
TakeLeaves held pick new (Ok None) = (held ≡ []) × (new ≡ Some held)
TakeLeaves held pick new (Err _) = new ≡ Some held

abbrev pub after_take : {A : Type 0} → Letters → Result (Option (Vec ℕ A)) CarrierFault → Letters
after_take given (Ok (Some bytes)) = given ++ bytes.items ∷ []
after_take given (Ok None) = given
after_take given (Err _) = given

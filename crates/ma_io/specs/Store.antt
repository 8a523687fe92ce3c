-- What an answer of a store means.
--     is_failed_store      the answer that raises a count
--     HoldsFront           the file under the name is as it was, or holds a front of the bytes, and all others stay
--     StoreLeaves          the files after the answer
use Rattle.std.specs.Prelude.{◌≡◌, ℕ, ◌⊎◌, Bool, true, false, List, take, Option, Some, Result, Ok, Err}
use Rattle.std.specs.FinMap as map
use Rattle.ma_io.specs.declared.faults.StoreFault.{StoreFault}
use Rattle.ma_io.specs.declared.faults.StoreFault.TheVariants.{Failed, Memory}
use Rattle.ma_io.specs.Files.{Files}

abbrev pub is_failed_store : {T : Type 0} → Result T StoreFault → Bool
is_failed_store (Ok _) = false
is_failed_store (Err Failed) = true
is_failed_store (Err Memory) = false

abbrev pub HoldsFront : Files → Option Files → List ℕ → List ℕ → Type 0
HoldsFront old new name bytes = (new ≡ Some old) ⊎ ((n : ℕ) × (new ≡ Some (map.insert old name (take n bytes))))

abbrev pub StoreLeaves : {T : Type 0} → Files → Option Files → List ℕ → List ℕ → Result T StoreFault → Type 0
StoreLeaves old new name bytes (Ok _) = new ≡ Some (map.insert old name bytes)
StoreLeaves old new name bytes (Err Failed) = HoldsFront old new name bytes
StoreLeaves old new name bytes (Err Memory) = new ≡ Some old

-- Steps one after another, each of which may end in a fault.
use Rattle.std.specs.Prelude.{Bool, true, false, List, [], ◌∷◌, Option, Some, None, Result, Ok, Err}

infixl 10 ◌>>=◌
abbrev pub ◌>>=◌ : {A B E : Type 0} → Result A E → (A → Result B E) → Result B E
Ok x >>= f = f x
Err fault >>= f = Err fault

-- one step after another that gives nothing
infixl 10 ◌>>◌
abbrev pub ◌>>◌ : {B E : Type 0} → Result (Unit {0}) E → Result B E → Result B E
Ok x >> next = next
Err fault >> next = Err fault

-- nothing, or the fault where the test fails
abbrev pub check : {E : Type 0} → E → Bool → Result (Unit {0}) E
check fault true = Ok tt
check fault false = Err fault

-- what is there, or the fault where there is nothing
abbrev pub or_fault : {A E : Type 0} → E → Option A → Result A E
or_fault fault None = Err fault
or_fault fault (Some x) = Ok x

-- what each item is read as, or the first fault
abbrev pub each : {A B E : Type 0} → (A → Result B E) → List A → Result (List B) E
each read [] = Ok []
each read (x ∷ xs) = do
  first ← read x
  others ← each read xs
  Ok (first ∷ others)

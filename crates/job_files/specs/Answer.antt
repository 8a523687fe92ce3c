-- What a reader of a job's file answers, and what reading the file gives. Want of memory says nothing.
--     or_bad_line    what is there, or the fault of the line
--     Gives          the answer of a call that leaves this value is what reading gives
use Rattle.std.specs.Prelude.{◌≡◌, ℕ, Option, Some, None, Result, Ok, Err}
use Rattle.job_files.specs.declared.fault.JobFault.{JobFault}
use Rattle.job_files.specs.declared.fault.JobFault.TheVariants.{BadLine, SizeOutOfRange, TooManyBoxes, PartTooBig, WrongCount, Memory}

abbrev pub or_bad_line : {A : Type 0} → ℕ → Option A → Result A JobFault
or_bad_line line None = Err (BadLine line)
or_bad_line line (Some x) = Ok x

abbrev pub Refuses : {X : Type 0} → JobFault → Result X JobFault → Type 0
Refuses Memory read = Unit {0}
Refuses (BadLine line) read = read ≡ Err (BadLine line)
Refuses (SizeOutOfRange line) read = read ≡ Err (SizeOutOfRange line)
Refuses (TooManyBoxes line) read = read ≡ Err (TooManyBoxes line)
Refuses (PartTooBig line) read = read ≡ Err (PartTooBig line)
Refuses (WrongCount have want) read = read ≡ Err (WrongCount have want)

abbrev pub Gives : {T X : Type 0} → (T → X) → Result T JobFault → Result X JobFault → Type 0
Gives seen (Ok x) read = read ≡ Ok (seen x)
Gives seen (Err fault) read = Refuses fault read

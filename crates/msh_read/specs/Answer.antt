-- What a reader of a file answers, and what reading it gives. Want of memory says nothing.
use Rattle.std.specs.Prelude.{◌≡◌, Result, Ok, Err}
use Rattle.msh_read.specs.declared.fault.MshFault.{MshFault}
use Rattle.msh_read.specs.declared.fault.MshFault.TheVariants.{At, Memory}
use Rattle.msh_read.specs.declared.raw.RawMesh.{RawMesh}
use Rattle.msh_read.specs.Raw.{Raw, raw}

-- a file's fault
abbrev pub RefusesFile : {Y : Type 0} → MshFault → Result Y MshFault → Type 0
RefusesFile Memory read = Unit {0}
RefusesFile (At line kind) read = read ≡ Err (At line kind)

-- What was answered, seen by view, is what reading a file gives.
abbrev pub AnswersFile : {X Y : Type 0} → (X → Y) → Result X MshFault → Result Y MshFault → Type 0
AnswersFile view (Ok x) read = read ≡ Ok (view x)
AnswersFile view (Err fault) read = RefusesFile fault read

abbrev pub ReadsMesh : Result RawMesh MshFault → Result Raw MshFault → Type 0
ReadsMesh answer read = AnswersFile raw answer read

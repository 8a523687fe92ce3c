-- Steps of the code and no promise: what the reader of a line answers. Want of memory says nothing.
use Rattle.std.specs.Prelude.{◌≡◌, ℕ, Result, Ok, Err}
use Rattle.msh_read.specs.declared.entry.Entry.{Entry}
use Rattle.msh_read.specs.declared.entry.Entry.TheVariants.{Tet, Mark}
use Rattle.msh_read.specs.declared.fault.Fault.{Fault}
use Rattle.msh_read.specs.declared.fault.Fault.TheVariants.{Kind, NoMemory}
use Rattle.msh_read.specs.declared.fault.MshFault.{MshFault}
use Rattle.msh_read.specs.declared.fault.MshFault.TheVariants.{At, Memory}
use Rattle.msh_read.specs.declared.fault.MshKind.{MshKind}
use Rattle.msh_read.specs.ElementLines.{RawElement, a_mark, a_tet}

-- a line's fault
abbrev pub Fails : {Y : Type 0} → Fault → Result Y MshKind → Type 0
Fails NoMemory read = Unit {0}
Fails (Kind kind) read = read ≡ Err kind

-- What was answered, seen by view, is what reading a line gives.
abbrev pub Gives : {X Y : Type 0} → (X → Y) → Result X Fault → Result Y MshKind → Type 0
Gives view (Ok x) read = read ≡ Ok (view x)
Gives view (Err fault) read = Fails fault read

-- the fault of a line with this number
abbrev pub located : ℕ → Fault → MshFault
located line (Kind kind) = At line kind
located line NoMemory = Memory

-- an element as the code has it
abbrev pub element_seen : Entry → RawElement
element_seen (Tet tet) = a_tet tet
element_seen (Mark mark) = a_mark mark

-- The exit status of the program.
use Rattle.std.specs.Prelude.{ℕ}
use Rattle.meshadapt.specs.declared.status.Status.{Status}
use Rattle.meshadapt.specs.declared.status.Status.TheVariants.{Done, Usage, ReadFault, WriteFault, Refused, TooMany, Memory, LinkFault, BadLetter, Starved}

abbrev pub code_of : Status → ℕ
code_of Done = 0
code_of Usage = 1
code_of ReadFault = 2
code_of WriteFault = 3
code_of (Refused refusal) = 4
code_of (TooMany round stage count) = 5
code_of Memory = 6
code_of LinkFault = 7
code_of (BadLetter bytes) = 8
code_of (Starved part phase) = 9

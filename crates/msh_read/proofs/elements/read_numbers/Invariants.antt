use Rattle.std.proofs.Common.{◌≡◌, length}
use Rattle.ma_text.specs.Words.{words_of}
use Rattle.msh_read.specs.ElementLines.{numbers_of}
use Rattle.msh_read.specs.Lines.{number_in_word}
use Rattle.msh_read.specs.Trying.{each}
use Rattle.msh_read.proofs.Each.{behind}
use Rattle.msh_read.proofs.elements.read_numbers.Given as goal

abbrev pub invariant-loop-word : goal.invariant-loop-word
invariant-loop-word l = behind l.numbers.items (each number_in_word (words_of l.rest)) ≡ numbers_of l.line

abbrev pub decreases-loop-word : goal.decreases-loop-word
decreases-loop-word l = length (words_of l.rest)

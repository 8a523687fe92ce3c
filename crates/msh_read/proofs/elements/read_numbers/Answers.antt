use Rattle.ma_text.specs.Words.{words_of}
use Rattle.msh_read.specs.ElementLines.{numbers_of}
use Rattle.msh_read.specs.Lines.{number_in_word}
use Rattle.msh_read.proofs.Each.{each_starts}
use Rattle.msh_read.proofs.elements.read_numbers.Goals as goal

pub loop-word-init : goal.loop-word-init
unfolding numbers_of
loop-word-init c = each_starts number_in_word c.clear.new.self.items (words_of c.args.line.now) c.clear.ensures.items

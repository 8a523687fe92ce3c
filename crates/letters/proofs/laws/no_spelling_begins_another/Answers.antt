use Rattle.letters.proofs.LetterLaws.{no_spelling_begins_another}
use Rattle.letters.proofs.laws.no_spelling_begins_another.Goals as goal

pub returns : goal.returns
returns c = no_spelling_begins_another

use Rattle.letters.proofs.LetterLaws.{letter_fits}
use Rattle.letters.proofs.encoding.encode.Goals as goal

pub returns-clause-letter : goal.returns-clause-letter
returns-clause-letter c =
    let head = c.in_ok-put_head.ensures in
    letter_fits c.args.letter.now head.round head.phase head.sender head.target c.in_ok-put_body.ensures.fits

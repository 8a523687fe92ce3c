use Rattle.std.proofs.Common.{ap, ◌∙◌, length, unwrap_or}
use Rattle.ma_text.specs.Blanks.{is_blank}
use Rattle.ma_text.proofs.WordCuts.{or_length}
use Rattle.ma_text.proofs.words.word_len.Goals as goal

pub returns : goal.returns
returns c =
    c.unwrap_or.ensures ∙ ap (λ o. unwrap_or o (length c.args.bytes.now)) c.blank.ensures ∙ or_length is_blank c.args.bytes.now

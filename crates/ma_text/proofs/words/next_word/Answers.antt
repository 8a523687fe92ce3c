use Rattle.std.proofs.Common.{arith, not}
use Rattle.std.proofs.lemmas.List.Sums.{prefix_len-le-length}
use Rattle.ma_text.specs.Blanks.{is_blank}
use Rattle.ma_text.proofs.WordCuts.{Cut, NoWord, cuts, finds_none}
use Rattle.ma_text.proofs.words.next_word.Goals as goal

pub split_at-requires : goal.split_at-requires
split_at-requires c =
    omega (arith, c.word_len.ensures, prefix_len-le-length (λ byte. not (is_blank byte)) c.without_blanks-bytes.result.now)

none : (c : goal.Then-is_empty) → NoWord c.args.line.now.now c.split_at.result.1.now
none c =
    finds_none _ _ _ _ c.word_len.result c.without_blanks-bytes.ensures c.word_len.ensures c.split_at.ensures.front c.split_at.ensures.back c.if-is_empty.ensures

pub returns-then-is_empty-clause-cut : goal.returns-then-is_empty-clause-cut
returns-then-is_empty-clause-cut c = ((none c).cut, (none c).rest)

pub returns-then-is_empty-clause-words : goal.returns-then-is_empty-clause-words
returns-then-is_empty-clause-words c = (none c).words

some : (c : goal.Else-is_empty) → Cut c.args.line.now.now c.split_at.result.0.now c.split_at.result.1.now
some c =
    cuts _ _ _ _ c.word_len.result c.without_blanks-bytes.ensures c.word_len.ensures c.split_at.ensures.front c.split_at.ensures.back c.if-is_empty.ensures

pub returns-else-is_empty-clause-cut : goal.returns-else-is_empty-clause-cut
returns-else-is_empty-clause-cut c = (some c).cut

pub returns-else-is_empty-clause-words : goal.returns-else-is_empty-clause-words
returns-else-is_empty-clause-words c = (some c).words

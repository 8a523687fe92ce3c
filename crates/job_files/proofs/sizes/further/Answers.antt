use Rattle.std.proofs.Common.{Err, sym, ap, ◌∙◌}
use Rattle.job_files.proofs.BoxLines.{further_is, past_is}
use Rattle.job_files.proofs.sizes.further.Goals as goal

pub returns-then-before-ge10000-clause-value : goal.returns-then-before-ge10000-clause-value
returns-then-before-ge10000-clause-value c = ap Err c.past_the_last.ensures ∙ sym (past_is c.args.before c.args.line c.args.bytes.now c.if-before-ge10000.true)

pub returns-clause-value : goal.returns-clause-value
returns-clause-value c = c.boxed.ensures ∙ sym (further_is c.args.before c.args.line c.args.bytes.now c.if-before-ge10000.false)

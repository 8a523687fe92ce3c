use Rattle.std.proofs.Common.{rules}
use Rattle.msh_read.specs.steps.LinesRead.{read_by_lines}
use Rattle.msh_read.proofs.SectionWise.{read_of-by_lines}
use Rattle.msh_read.proofs.read.read_msh.Goals as goal

pub returns-in_err-front-clause-exact : goal.returns-in_err-front-clause-exact
unfolding read_by_lines
returns-in_err-front-clause-exact c = rw (read_of-by_lines c.args.bytes.now) (search rules)

pub returns-in-Ok-clause-exact : goal.returns-in-Ok-clause-exact
unfolding read_by_lines
returns-in-Ok-clause-exact c = rw (read_of-by_lines c.args.bytes.now) (search rules)

pub returns-in-Err-clause-exact : goal.returns-in-Err-clause-exact
unfolding read_by_lines
returns-in-Err-clause-exact c = rw (read_of-by_lines c.args.bytes.now) (search rules)

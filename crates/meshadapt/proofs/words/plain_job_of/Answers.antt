use Rattle.std.specs.Prelude.{None}
use Rattle.meshadapt.proofs.Ranges.{job_in_range}
use Rattle.meshadapt.proofs.words.plain_job_of.Goals as goal

pub returns-clause-right : goal.returns-clause-right
returns-clause-right c = job_in_range c.in_ok-sizes.sizes None c.job_with.result c.in_ok-sizes.ensures.range tt c.job_with.ensures.sizes c.job_with.ensures.division c.job_with.ensures.passes

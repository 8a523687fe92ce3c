use Rattle.std.specs.Prelude.{Some}
use Rattle.meshadapt.proofs.Ranges.{job_in_range}
use Rattle.meshadapt.proofs.words.divided_job_of.Goals as goal

pub returns-clause-right : goal.returns-clause-right
returns-clause-right c =
    job_in_range c.in_ok-sizes.sizes (Some c.in_ok-division.division) c.job_with.result c.in_ok-sizes.ensures.range c.in_ok-division.ensures.range c.job_with.ensures.sizes c.job_with.ensures.division c.job_with.ensures.passes

use Rattle.meshadapt.proofs.Headlines.{headline}
use Rattle.meshadapt.proofs.Kept.{geometry_is_kept}
use Rattle.meshadapt.proofs.WhenDue.{accepted_is_done, refusal_is_answered, too_many_is_answered, usage_is_answered}
use Rattle.meshadapt.proofs.top.meshadapt.Goals as goal

pub returns-clause-usage : goal.returns-clause-usage
returns-clause-usage g c = usage_is_answered c.run.result _ _ _ c.run.ensures.leaves

pub returns-clause-refusal : goal.returns-clause-refusal
returns-clause-refusal g c = refusal_is_answered c.run.result _ _ _ c.run.ensures.leaves

pub returns-clause-completes : goal.returns-clause-completes
returns-clause-completes g c = accepted_is_done c.run.result _ _ _ c.run.ensures.leaves

pub returns-clause-too_many : goal.returns-clause-too_many
returns-clause-too_many g c = too_many_is_answered c.run.result _ _ _ c.run.ensures.leaves

pub returns-clause-geometry : goal.returns-clause-geometry
returns-clause-geometry g c = geometry_is_kept c.run.result _ _ _ c.run.ensures.leaves

pub returns-clause-headline : goal.returns-clause-headline
returns-clause-headline g c = headline c.run.result _ _ _ c.run.ensures.leaves

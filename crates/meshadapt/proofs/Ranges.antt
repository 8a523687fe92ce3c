-- The job of words that were read in range is in range.
use Rattle.std.proofs.Common.{◌≡◌, ◌≤◌, Some, None, subst, sym}
use Rattle.std.specs.Prelude.{IfSome, Option}
use Rattle.one_mesh.specs.Adaptation.{most_passes}
use Rattle.meshadapt.specs.declared.words.Division.{Division}
use Rattle.meshadapt.specs.declared.words.Job.{Job}
use Rattle.meshadapt.specs.declared.words.Sizes.{Sizes}
use Rattle.meshadapt.specs.steps.Asking.{HasSize, IfDivided, IsInRange}

pub job_in_range : (sizes : Sizes) (division : Option Division) (found : Option Job) → HasSize sizes → IfDivided division → IfSome found (λ job. job.sizes ≡ sizes) → IfSome found (λ job. job.division ≡ division)
    → IfSome found (λ job. (job.collapses ≤ most_passes) × (job.swaps ≤ most_passes)) → IfSome found (λ job. IsInRange job)
job_in_range sizes division None has parts sized divided few = tt
job_in_range sizes division (Some job) has parts sized divided few = record {
  sizes = subst HasSize (sym sized) has;
  division = subst IfDivided (sym divided) parts;
  collapses = few.0;
  swaps = few.1;
}

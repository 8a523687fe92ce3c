-- What the words of the code ask for, as the definitions have it. No public contract names it, and it is no promise.
use Rattle.std.specs.Prelude.{◌≡◌, ◌≤◌, true, Option, Some, None}
use Rattle.std.specs.Option.{option_map}
use Rattle.one_mesh.specs.Adaptation.{most_passes}
use Rattle.size_marks.specs.Field.{is_size}
use Rattle.meshadapt.specs.declared.words.Division.{Division as DivisionWords}
use Rattle.meshadapt.specs.declared.words.Job.{Job as Words}
use Rattle.meshadapt.specs.declared.words.Sizes.{Sizes as SizeWords}
use Rattle.meshadapt.specs.declared.words.Sizes.TheVariants as size_words
use Rattle.meshadapt.specs.Words.{Division, Job, Sizes, Uniform, InFile}

abbrev pub sizes_asked : SizeWords → Sizes
sizes_asked (size_words.Uniform size) = Uniform size
sizes_asked (size_words.InFile name) = InFile name.now

abbrev pub division_asked : DivisionWords → Division
division_asked division = record { parts = division.parts; partition = division.partition.now; schedule = division.schedule.now }

-- what the words ask for
abbrev pub asked : Words → Job
asked job = record { mesh = job.mesh.now; sizes = sizes_asked job.sizes; division = option_map division_asked job.division; rounds = job.rounds; collapses = job.collapses; swaps = job.swaps; out = job.out.now }

-- the one size is in range
abbrev pub HasSize : SizeWords → Type 0
HasSize (size_words.Uniform size) = is_size size ≡ true
HasSize (size_words.InFile name) = Unit {0}

pub record HasParts (division : DivisionWords) : Type 0 where
  pub least : 1 ≤ division.parts
  pub most : division.parts ≤ 64

abbrev pub IfDivided : Option DivisionWords → Type 0
IfDivided None = Unit {0}
IfDivided (Some division) = HasParts division

pub record IsInRange (job : Words) : Type 0 where
  pub sizes : HasSize job.sizes
  pub division : IfDivided job.division
  pub collapses : job.collapses ≤ most_passes
  pub swaps : job.swaps ≤ most_passes

-- The verdict by tests in turn.
use Rattle.std.specs.Prelude.{ℕ, suc, Bool, List, [], ◌∷◌, Option, Some, None, if◌then◌else◌}
use Rattle.cavity_rank.specs.declared.verdict.Verdict.{Verdict}
use Rattle.cavity_rank.specs.declared.verdict.Verdict.TheVariants.{Legal, Illegal}

-- the number of the first test that fails, where they are numbered from n
abbrev pub first_failing : ℕ → List Bool → Option ℕ
first_failing n [] = None
first_failing n (test ∷ tests) = if test then first_failing (suc n) tests else Some n

-- legal with this quality, unless a test fails
abbrev pub verdict_of : ℕ → Option ℕ → Verdict
verdict_of worst (Some n) = Illegal n
verdict_of worst None = Legal worst

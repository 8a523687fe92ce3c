-- Which phases are behind how many passes.
use Rattle.std.proofs.Common.{◌≡◌, ℕ, suc, ◌+◌, ◌*◌, ◌<◌, ◌≤◌, arith}
use Rattle.std.specs.Prelude.{◌/◌}
use Rattle.letters.specs.declared.letter.LetterKind.TheVariants as kinds
use Rattle.round_rules.specs.Stages.{first_phase, last_phase, passes_before, phase_kind}
use Rattle.round_rules.proofs.Turns.{are_shared, in_turn}

pub posts_at : (passes : ℕ) → (phase_kind (first_phase passes) ≡ kinds.Post) × (passes_before (first_phase passes) ≡ passes)
posts_at passes = let shared = are_shared passes in (shared.0, shared.1)

pub ghosts_at : (passes : ℕ) → (phase_kind (last_phase passes) ≡ kinds.Ghosts) × (passes_before (last_phase passes) ≡ passes)
ghosts_at passes = let shared = are_shared passes in (shared.4, shared.5)

upto_seven : (phase before passes : ℕ) → before ≡ phase / 7 → phase ≤ 7 * passes + 2 → before ≤ passes
upto_seven phase before passes is upto = omega arith

below_seven : (phase before passes : ℕ) → before ≡ phase / 7 → phase < 7 * passes → before < passes
below_seven phase before passes is within = omega arith

pub passes_upto : (passes phase : ℕ) → phase ≤ last_phase passes → passes_before phase ≤ passes
passes_upto passes phase upto = upto_seven phase (passes_before phase) passes (in_turn phase).1 upto

pub passes_below : (passes phase : ℕ) → phase < first_phase passes → passes_before phase < passes
passes_below passes phase within = below_seven phase (passes_before phase) passes (in_turn phase).1 within

pub plus_one : (n : ℕ) → suc n ≡ n + 1
plus_one n = omega arith

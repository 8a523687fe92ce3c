-- What holds of phases.
use Rattle.std.specs.Prelude.{◌≡◌, ℕ, ◌+◌, ◌/◌, ◌%◌}
use Rattle.letters.specs.Bodies.{kind_at}
use Rattle.letters.specs.declared.letter.LetterKind.TheVariants as kinds
use Rattle.round_rules.specs.Stages.{first_phase, last_phase, passes_before, phase_kind}

-- each seventh phase is of the same kind, and seven phases lie between two passes
abbrev pub PhasesComeInTurn : Type 0
PhasesComeInTurn = (phase : ℕ) → (phase_kind phase ≡ kind_at (phase % 7 + 1)) × (passes_before phase ≡ phase / 7)

-- what a pass leaves is shared by posts, replies and ghosts
abbrev pub PassesAreShared : Type 0
PassesAreShared = (passes : ℕ) → (phase_kind (first_phase passes) ≡ kinds.Post) × (passes_before (first_phase passes) ≡ passes)
    × (phase_kind (first_phase passes + 1) ≡ kinds.Reply) × (passes_before (first_phase passes + 1) ≡ passes)
    × (phase_kind (last_phase passes) ≡ kinds.Ghosts) × (passes_before (last_phase passes) ≡ passes)

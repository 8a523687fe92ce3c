-- What each phase of a round is for. After the three phases in which parts come to share a mesh, each pass has four, and then the parts come to share what it leaves.
use Rattle.std.specs.Prelude.{ℕ, zero, suc, ◌+◌, ◌*◌, nat_lt, if◌then◌else◌}
use Rattle.cavity_rank.specs.declared.verdict.Kind.{Kind}
use Rattle.cavity_rank.specs.declared.verdict.Kind.TheVariants.{Collapse, Swap}
use Rattle.letters.specs.declared.letter.LetterKind.{LetterKind}
use Rattle.letters.specs.declared.letter.LetterKind.TheVariants as kinds
use Rattle.part_rules.specs.declared.course.Course.{Course}

-- what letters come after those of a kind: seven kinds in turn
abbrev pub next_kind : LetterKind → LetterKind
next_kind kinds.Post = kinds.Reply
next_kind kinds.Reply = kinds.Ghosts
next_kind kinds.Ghosts = kinds.Propose
next_kind kinds.Propose = kinds.Vote
next_kind kinds.Vote = kinds.Order
next_kind kinds.Order = kinds.Deliver
next_kind kinds.Deliver = kinds.Post

-- the kind of the letters of a phase, counted from 0
abbrev pub phase_kind : ℕ → LetterKind
phase_kind zero = kinds.Post
phase_kind (suc phase) = next_kind (phase_kind phase)

-- how many passes are over after a phase of a kind, if so many were before: deliveries end a pass
abbrev pub passes_after : LetterKind → ℕ → ℕ
passes_after kinds.Deliver before = suc before
passes_after _ before = before

-- how many passes of a round are over before a phase
abbrev pub passes_before : ℕ → ℕ
passes_before zero = zero
passes_before (suc phase) = passes_after (phase_kind phase) (passes_before phase)

-- the phase of the posts that come after so many passes, and that of the ghosts
abbrev pub first_phase : ℕ → ℕ
first_phase passes = 7 * passes

abbrev pub last_phase : ℕ → ℕ
last_phase passes = first_phase passes + 2

-- how many passes a round has. Round 0 has none
abbrev pub passes_in : Course → ℕ → ℕ
passes_in course zero = zero
passes_in course (suc round) = course.collapse + course.swap

-- what the pass behind so many others does: those that collapse come first
abbrev pub pass_kind : Course → ℕ → Kind
pass_kind course before = if nat_lt before course.collapse then Collapse else Swap

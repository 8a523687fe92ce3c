-- Phases by sevens.
use Rattle.std.proofs.Common.{◌≡◌, ℕ, zero, suc, ◌+◌, ◌*◌, ◌<◌, refl, sym, ap, ◌∙◌, arith}
use Rattle.std.specs.Prelude.{◌/◌, ◌%◌}
use Rattle.letters.specs.Bodies.{kind_at}
use Rattle.letters.specs.declared.letter.LetterKind.{LetterKind}
use Rattle.letters.specs.declared.letter.LetterKind.TheVariants as kinds
use Rattle.round_rules.specs.Laws.{PassesAreShared, PhasesComeInTurn}
use Rattle.round_rules.specs.Stages.{next_kind, passes_after, passes_before, phase_kind}

-- where a kind stands among the seven
abbrev pub place_of : LetterKind → ℕ
place_of kinds.Post = 0
place_of kinds.Reply = 1
place_of kinds.Ghosts = 2
place_of kinds.Propose = 3
place_of kinds.Vote = 4
place_of kinds.Order = 5
place_of kinds.Deliver = 6

under_seven : (kind : LetterKind) → place_of kind < 7
under_seven kinds.Post = omega arith
under_seven kinds.Reply = omega arith
under_seven kinds.Ghosts = omega arith
under_seven kinds.Propose = omega arith
under_seven kinds.Vote = omega arith
under_seven kinds.Order = omega arith
under_seven kinds.Deliver = omega arith

kind_there : (kind : LetterKind) → kind_at (place_of kind + 1) ≡ kind
kind_there kinds.Post = refl
kind_there kinds.Reply = refl
kind_there kinds.Ghosts = refl
kind_there kinds.Propose = refl
kind_there kinds.Vote = refl
kind_there kinds.Order = refl
kind_there kinds.Deliver = refl

-- one phase on
counted_on : (kind : LetterKind) (n before : ℕ) → n ≡ 7 * before + place_of kind → suc n ≡ 7 * passes_after kind before + place_of (next_kind kind)
counted_on kinds.Post n before is = omega arith
counted_on kinds.Reply n before is = omega arith
counted_on kinds.Ghosts n before is = omega arith
counted_on kinds.Propose n before is = omega arith
counted_on kinds.Vote n before is = omega arith
counted_on kinds.Order n before is = omega arith
counted_on kinds.Deliver n before is = omega arith

counted : (n : ℕ) → n ≡ 7 * passes_before n + place_of (phase_kind n)
counted zero = refl
counted (suc n) = counted_on (phase_kind n) n (passes_before n) (counted n)

by_seven : (n before place : ℕ) → n ≡ 7 * before + place → place < 7 → (place ≡ n % 7) × (before ≡ n / 7)
by_seven n before place is under = (omega arith, omega arith)

pub in_turn : PhasesComeInTurn
in_turn n =
    let found = by_seven n (passes_before n) (place_of (phase_kind n)) (counted n) (under_seven (phase_kind n)) in
    (sym (kind_there (phase_kind n)) ∙ ap (λ place. kind_at (place + 1)) found.0, found.1)

-- the phase at a place behind so many passes
at_place : (passes place : ℕ) → place < 7 → (phase_kind (7 * passes + place) ≡ kind_at (place + 1)) × (passes_before (7 * passes + place) ≡ passes)
at_place passes place under =
    let n = 7 * passes + place in
    let turn = in_turn n in
    let rest : n % 7 ≡ place = omega arith in
    let over : n / 7 ≡ passes = omega arith in
    (turn.0 ∙ ap (λ k. kind_at (k + 1)) rest, turn.1 ∙ over)

pub are_shared : PassesAreShared
are_shared passes =
    let none : 7 * passes + 0 ≡ 7 * passes = omega arith in
    let posts = at_place passes 0 (omega arith) in
    let replies = at_place passes 1 (omega arith) in
    let ghosts = at_place passes 2 (omega arith) in
    (ap phase_kind (sym none) ∙ posts.0, ap passes_before (sym none) ∙ posts.1, replies.0, replies.1, ghosts.0, ghosts.1)

pub is_kind : (phase place : ℕ) → phase % 7 ≡ place → kind_at (place + 1) ≡ phase_kind phase
is_kind phase place is = ap (λ k. kind_at (k + 1)) (sym is) ∙ sym (in_turn phase).0

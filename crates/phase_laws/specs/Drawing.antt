-- Letters that are drawn by picks and handed to the parts that they name.
use Rattle.std.specs.Prelude.{◌≡◌, ◌+◌, ◌-◌, ◌*◌, ◌%◌, ◌<◌, ◌≤◌, ℕ, zero, suc, List, [], ◌∷◌, ◌++◌, length, map, get_or, set, slice_get, Option, Some, None}
use Rattle.std.specs.List.{flat_map, remove}
use Rattle.part_phases.specs.Phases.{begun, handed}
use Rattle.part_phases.specs.Standings.{Letter, Rules, Standing}
use Rattle.phase_laws.specs.Truth.{Follows, HasEnded, Right, Truth}

-- the parts in the order of their numbers, the letters that wait, the oldest first, and those that were drawn
pub record Drawing (S : Type 0) (B : Type 0) : Type 0 where
  pub parts : List (Standing S B)
  pub waiting : List (Letter B)
  pub drawn : List (Letter B)

-- the next pick, which is 0 where they have run out, and those after it
abbrev pub first_pick : List ℕ → ℕ
first_pick [] = 0
first_pick (pick ∷ picks) = pick

abbrev pub other_picks : List ℕ → List ℕ
other_picks [] = []
other_picks (pick ∷ picks) = picks

-- the part of a number, or a given one where there is none
abbrev pub part_at : {S B : Type 0} → Standing S B → List (Standing S B) → ℕ → Standing S B
part_at default parts q = get_or parts q default

module _ {S B W : Type 0} where
  -- what is left once the letter at a place was handed to its part, and the letters that this part sends wait
  abbrev pub with_part : Rules S B W → Drawing S B → ℕ → Letter B → Option (Standing S B) → Drawing S B
  with_part rules drawing place letter None = drawing
  with_part rules drawing place letter (Some part) = record {
    parts = set drawing.parts letter.target (handed rules part letter).part;
    waiting = remove drawing.waiting place ++ (handed rules part letter).letters;
    drawn = drawing.drawn ++ letter ∷ [];
  }

  -- the same, if there is a letter
  abbrev pub with_drawn : Rules S B W → Drawing S B → ℕ → Option (Letter B) → Drawing S B
  with_drawn rules drawing place None = drawing
  with_drawn rules drawing place (Some letter) = with_part rules drawing place letter (slice_get drawing.parts letter.target)

  -- one letter is drawn, if one waits
  abbrev pub turn : Rules S B W → ℕ → Drawing S B → Drawing S B
  turn rules pick drawing = with_drawn rules drawing (pick % length drawing.waiting) (slice_get drawing.waiting (pick % length drawing.waiting))

  -- so many turns by these picks
  abbrev pub turns : Rules S B W → ℕ → List ℕ → Drawing S B → Drawing S B
  turns rules zero picks drawing = drawing
  turns rules (suc n) picks drawing = turns rules n (other_picks picks) (turn rules (first_pick picks) drawing)

  -- all parts have begun a round, one after the other
  abbrev pub all_begun : Rules S B W → ℕ → List (Standing S B) → Drawing S B
  all_begun rules round parts =
      record { parts = map (λ part. (begun rules round part).part) parts; waiting = flat_map (λ part. (begun rules round part).letters) parts; drawn = [] }

  -- that all stands right
  abbrev pub IsRight : Rules S B W → Truth S B → Standing S B → Drawing S B → Type 0
  IsRight rules truth default drawing = (length drawing.parts ≡ rules.parts) × Right rules truth (part_at default drawing.parts) drawing.waiting

  -- that these are all parts, and that each begins the round with what it holds there by the truth
  pub record BeginSo (rules : Rules S B W) (truth : Truth S B) (default : Standing S B) (parts : List (Standing S B)) : Type 0 where
    pub all : length parts ≡ rules.parts
    pub numbers : (q : ℕ) → q < rules.parts → (part_at default parts q).me ≡ q
    pub holds : (q : ℕ) → q < rules.parts → rules.begins truth.round (part_at default parts q) ≡ truth.holds 0 q
    pub kept : (q : ℕ) → q < rules.parts → truth.kept 0 q ≡ []

-- where all parts have begun a round, all stands right
abbrev pub StartIsRight : Type 0 → Type 0 → Type 0 → Type 0
StartIsRight S B W = (rules : Rules S B W) (truth : Truth S B) (default : Standing S B) (parts : List (Standing S B))
    → Follows rules truth → BeginSo rules truth default parts → IsRight rules truth default (all_begun rules truth.round parts)

-- where all stands right, it does after any number of turns by any picks
abbrev pub TurnsStayRight : Type 0 → Type 0 → Type 0 → Type 0
TurnsStayRight S B W = (rules : Rules S B W) (truth : Truth S B) (default : Standing S B) → Follows rules truth
    → (n : ℕ) (picks : List ℕ) (drawing : Drawing S B) → IsRight rules truth default drawing → IsRight rules truth default (turns rules n picks drawing)

-- from the start of a round, after as many turns as each part can get letters in all its phases, no letter waits and each part has ended the round with its outcome,
-- whatever the picks
abbrev pub AllEndWhateverIsDrawn : Type 0 → Type 0 → Type 0 → Type 0
AllEndWhateverIsDrawn S B W = (rules : Rules S B W) (truth : Truth S B) (default : Standing S B) (parts : List (Standing S B))
    → Follows rules truth → BeginSo rules truth default parts → (n : ℕ) (picks : List ℕ) → rules.parts * ((rules.last truth.round + 1) * (rules.parts - 1)) ≤ n
    → ((turns rules n picks (all_begun rules truth.round parts)).waiting ≡ [])
    × ((q : ℕ) → q < rules.parts → HasEnded rules truth.end (part_at default (turns rules n picks (all_begun rules truth.round parts)).parts q) (truth.outcome q))

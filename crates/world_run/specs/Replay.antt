-- What letters make of parts, handed one after the other to the part that each names.
use Rattle.std.specs.Prelude.{◌+◌, ℕ, Bool, true, false, nat_lt, List, [], ◌∷◌, map, set, slice_get, Option, Some, None, Result, Ok, Err, if◌then◌else◌}
use Rattle.std.specs.List.{list_all}
use Rattle.ma_geom.specs.Coordinates.{Coordinates}
use Rattle.letters.specs.Letters.{read}
use Rattle.letters.specs.declared.letter.Body.{Body}
use Rattle.letters.specs.declared.letter.Letter.{Letter}
use Rattle.carrier.specs.Carried.{Letters}
use Rattle.part_core.specs.Parts.{PartState, first_part, taken}
use Rattle.part_phases.specs.Inboxes.{below}
use Rattle.part_phases.specs.Phases.{begun, handed}
use Rattle.part_phases.specs.Standings as phases
use Rattle.round_rules.specs.Rounds.{rules}
use Rattle.part_rules.specs.declared.course.Course.{Course}
use Rattle.part_store.specs.Labelled.{LabelledMesh, own_of}
use Rattle.part_store.specs.Stores.{StoreState}

-- a part that is done with its round stands past the last phase
abbrev pub is_done : PartState → Bool
is_done part = nat_lt ((rules part.course).last part.standing.round) part.standing.phase

abbrev pub all_done : List PartState → Bool
all_done parts = list_all is_done parts

-- whether an answer says that there are too many tetrahedra
abbrev pub is_too_many : phases.Answer Coordinates → Bool
is_too_many (phases.Stepped (phases.Over phase total)) = true
is_too_many _ = false

-- whether it refuses a letter
abbrev pub is_refusal : phases.Answer Coordinates → Bool
is_refusal (phases.Stepped step) = false
is_refusal _ = true

-- a part after what comes of a call, where so many rounds are then begun
abbrev pub after_outcome : PartState → ℕ → phases.Outcome StoreState Body Coordinates → PartState
after_outcome part rounds due = record { course = part.course; standing = due.part; begun = rounds; spent = is_too_many due.answer }

-- the parts of a mesh before their first round
abbrev pub first_parts : Course → LabelledMesh → List PartState
first_parts course mesh = map (λ p. first_part p course (own_of mesh p) mesh.marks) (below course.parts)

-- what comes of a part that begins its next round, and the part then
abbrev pub next_outcome : PartState → phases.Outcome StoreState Body Coordinates
next_outcome part = begun (rules part.course) part.begun part.standing

abbrev pub next_begun : PartState → PartState
next_begun part = after_outcome part (part.begun + 1) (next_outcome part)

-- the parts once each has begun its next round
abbrev pub all_next : List PartState → List PartState
all_next parts = map next_begun parts

-- the letter that bytes are, if they are one
abbrev pub letter_in : List ℕ → Option Letter
letter_in bytes = ok_of (read bytes)
  where
    ok_of : {E : Type 0} → Result Letter E → Option Letter
    ok_of (Ok letter) = Some letter
    ok_of (Err fault) = None

-- the part of a number, if there is one that isn't done
abbrev pub unless_done : Option PartState → Option PartState
unless_done None = None
unless_done (Some part) = if is_done part then None else Some part

abbrev pub outcome_at : Letter → Option PartState → Option (phases.Outcome StoreState Body Coordinates)
outcome_at letter None = None
outcome_at letter (Some part) = Some (handed (rules part.course) part.standing (taken letter))

-- what comes of bytes that are a letter to a part that isn't done
abbrev pub outcome_of : List PartState → Option Letter → Option (phases.Outcome StoreState Body Coordinates)
outcome_of parts None = None
outcome_of parts (Some letter) = outcome_at letter (unless_done (slice_get parts letter.target))

abbrev pub refuses : Option (phases.Outcome StoreState Body Coordinates) → Bool
refuses None = true
refuses (Some due) = is_refusal due.answer

-- whether bytes are no letter, name no part or one that is done, or are refused by the part that they name
abbrev pub is_bad : List PartState → List ℕ → Bool
is_bad parts bytes = refuses (outcome_of parts (letter_in bytes))

abbrev pub with_outcome : List PartState → ℕ → Option PartState → Option (phases.Outcome StoreState Body Coordinates) → List PartState
with_outcome parts q (Some part) (Some due) = set parts q (after_outcome part part.begun due)
with_outcome parts q _ _ = parts

-- the parts once bytes were handed to the one that they name
abbrev pub handed_letter : List PartState → Option Letter → List PartState
handed_letter parts None = parts
handed_letter parts (Some letter) = with_outcome parts letter.target (slice_get parts letter.target) (outcome_of parts (Some letter))

abbrev pub handed_bytes : List PartState → List ℕ → List PartState
handed_bytes parts bytes = handed_letter parts (letter_in bytes)

abbrev pub handed_all : List PartState → Letters → List PartState
handed_all parts [] = parts
handed_all parts (bytes ∷ letters) = handed_all (handed_bytes parts bytes) letters

-- the first part that isn't done, with its phase
abbrev pub first_waiting : List PartState → Option (ℕ × ℕ)
first_waiting [] = None
first_waiting (part ∷ parts) = if is_done part then first_waiting parts else Some (part.standing.me, part.standing.phase)

-- Steps of the code: no public contract names them, and nothing here is a promise. How a queue keeps
-- its letters.
--     Kept           a letter that waits: its number among the posted ones, and its bytes
--     letters_of     the letters of such a list
--     IsKept         the posted letter of this number has these bytes
--     AreKept        all that wait are posted letters
--     letters_at     the posted letters of these numbers
use Rattle.std.specs.Prelude.{◌≡◌, ℕ, ◌+◌, ◌<◌, map, slice_index_or, List, [], length, take, Vec}
use Rattle.std.specs.List.{AllByRecursion, flat_map}
use Rattle.carrier.specs.Carried.{Letters}

pub record Kept : Type 0 where
  pub number : ℕ
  pub bytes : List ℕ

-- the bytes of letters
abbrev pub bytes_of : {A : Type 0} → List (Vec ℕ A) → Letters
bytes_of letters = map (λ v. v.items) letters

abbrev pub letters_of : List Kept → Letters
letters_of kept = map (λ k. k.bytes) kept

abbrev pub IsKept : Letters → Kept → Type 0
IsKept posted k = (k.number < length posted) × (slice_index_or posted k.number [] ≡ k.bytes)

abbrev pub AreKept : Letters → List Kept → Type 0
AreKept posted kept = AllByRecursion (IsKept posted) kept

abbrev pub AreBelow : ℕ → List ℕ → Type 0
AreBelow bound numbers = AllByRecursion (λ n. n < bound) numbers

abbrev pub letters_at : Letters → List ℕ → Letters
letters_at posted numbers = map (λ n. slice_index_or posted n []) numbers

-- the letters of all blocks, one block behind the other
abbrev pub all_of : List (List Kept) → List Kept
all_of blocks = flat_map (λ block. block) blocks

-- the place of all letters that is this place of a block
abbrev pub IsAt : List (List Kept) → ℕ → ℕ → ℕ → Type 0
IsAt blocks place number within = (number < length blocks) × (within < length (slice_index_or blocks number [])) × (place ≡ length (all_of (take number blocks)) + within)

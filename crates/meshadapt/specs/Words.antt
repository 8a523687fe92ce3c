-- The words of a job.
use Rattle.std.specs.Prelude.{ℕ, ◌^◌, ◌&&◌, ◌==◌, nat_le, if◌then◌else◌, List, [], ◌∷◌, length, Option, Some, None, codes}
use Rattle.std.specs.Option.{option_and_then}
use Rattle.std.specs.Str.{bytes_eq}
use Rattle.ma_text.specs.Numbers as numbers
use Rattle.one_mesh.specs.Adaptation.{most_passes}

-- the size of edges is the same everywhere, or it stands in the file of this name
pub data Sizes : Type 0 where
  Uniform : ℕ → Sizes
  InFile : List ℕ → Sizes

-- how many parts a mesh is handed out to, the file that tells the part of each tetrahedron, and the file of the picks by which letters are taken
pub record Division : Type 0 where
  pub parts : ℕ
  pub partition : List ℕ
  pub schedule : List ℕ

-- the file of the mesh, the sizes of edges, the division into parts if there is one, how many rounds are run, how many collapse passes and swap passes each has, and the front of the names of what is stored
pub record Job : Type 0 where
  pub mesh : List ℕ
  pub sizes : Sizes
  pub division : Option Division
  pub rounds : ℕ
  pub collapses : ℕ
  pub swaps : ℕ
  pub out : List ℕ

-- how many rounds may be run
abbrev pub most_rounds : ℕ
most_rounds = 30

-- a number from low to high
abbrev pub in_range : ℕ → ℕ → ℕ → Option ℕ
in_range low high n = if nat_le low n && nat_le n high then Some n else None

-- a word of digits alone, with a value from low to high
unfoldable pub number_in : ℕ → ℕ → List ℕ → Option ℕ
number_in low high word = if numbers.are_digits word then in_range low high (numbers.value_of word) else None

-- one step of reading after another, each of which may find nothing
infixl 10 ◌>>=◌
abbrev pub ◌>>=◌ : {A B : Type 0} → Option A → (A → Option B) → Option B
o >>= f = option_and_then f o

-- the words behind this one, if it comes first
abbrev pub after_flag : List ℕ → List (List ℕ) → Option (List (List ℕ))
after_flag name [] = None
after_flag name (word ∷ words) = if bytes_eq word name then Some words else None

-- the first word, and those behind it
abbrev pub first_of : List (List ℕ) → Option (List ℕ × List (List ℕ))
first_of [] = None
first_of (word ∷ words) = Some (word, words)

-- the value of this option, and the words behind it, if the option comes first
unfoldable pub value_of : List ℕ → List (List ℕ) → Option (List ℕ × List (List ℕ))
value_of name words = do
  rest ← after_flag name words
  first_of rest

-- the value as a number, likewise
unfoldable pub number_of : List ℕ → ℕ → ℕ → List (List ℕ) → Option (ℕ × List (List ℕ))
number_of name low high words = do
  value ← value_of name words
  n ← number_in low high value.0
  Some (n, value.1)

-- the first of two that is there
abbrev pub or_else : {A : Type 0} → Option A → Option A → Option A
or_else None other = other
or_else (Some found) other = Some found

-- --uniform H
unfoldable pub uniform_of : List (List ℕ) → Option (Sizes × List (List ℕ))
uniform_of words = do
  size ← number_of (codes "--uniform") 1 (2 ^ 30) words
  Some (Uniform size.0, size.1)

-- --size S
unfoldable pub size_file_of : List (List ℕ) → Option (Sizes × List (List ℕ))
size_file_of words = do
  name ← value_of (codes "--size") words
  Some (InFile name.0, name.1)

-- the sizes, and the words behind them, if they come first
unfoldable pub sizes_of : List (List ℕ) → Option (Sizes × List (List ℕ))
sizes_of words = or_else (uniform_of words) (size_file_of words)

-- --parts P --partition F --schedule Q, in this order
unfoldable pub division_of : List (List ℕ) → Option (Division × List (List ℕ))
division_of words = do
  parts ← number_of (codes "--parts") 1 64 words
  partition ← value_of (codes "--partition") parts.1
  schedule ← value_of (codes "--schedule") partition.1
  Some (record { parts = parts.0; partition = partition.0; schedule = schedule.0 }, schedule.1)

-- what stands behind the mesh, the sizes and the division: --rounds N --collapse C --swap W --out X
unfoldable pub job_with : List ℕ → Sizes → Option Division → List (List ℕ) → Option Job
job_with mesh sizes division words = do
  rounds ← number_of (codes "--rounds") 0 most_rounds words
  collapse ← number_of (codes "--collapse") 0 most_passes rounds.1
  swap ← number_of (codes "--swap") 0 most_passes collapse.1
  out ← value_of (codes "--out") swap.1
  if length out.1 == 0 then Some (record { mesh = mesh; sizes = sizes; division = division; rounds = rounds.0; collapses = collapse.0; swaps = swap.0; out = out.0 }) else None

-- the words --plain --mesh M --uniform H --rounds N --collapse C --swap W --out X, in this order, or with --size S in place of --uniform H
unfoldable pub plain_job_of : List (List ℕ) → Option Job
plain_job_of words = do
  options ← after_flag (codes "--plain") words
  mesh ← value_of (codes "--mesh") options
  sizes ← sizes_of mesh.1
  job_with mesh.0 sizes.0 None sizes.1

-- the words --mesh M --uniform H --parts P --partition F --schedule Q --rounds N --collapse C --swap W --out X, likewise
unfoldable pub divided_job_of : List (List ℕ) → Option Job
divided_job_of words = do
  mesh ← value_of (codes "--mesh") words
  sizes ← sizes_of mesh.1
  division ← division_of sizes.1
  job_with mesh.0 sizes.0 (Some division.0) division.1

-- the job that the words ask for
unfoldable pub job_of : List (List ℕ) → Option Job
job_of words = or_else (plain_job_of words) (divided_job_of words)

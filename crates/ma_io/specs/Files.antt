-- The files of a depot.
--     entry_of         the bytes of a name and of its file
--     files_of         the files of a list of names and files. Where two have one name, the first counts
--     NamesDiffer      no two of the list have one name
use Rattle.std.specs.Prelude.{ℕ, List, map, String, Vec, string_bytes, ◌≢◌, AllPairs}
use Rattle.std.specs.Ordering.{nat_cmp}
use Rattle.std.specs.Cmp.Lexicographic.{slice_cmp}
use Rattle.std.specs.FinMap.{FinMap, from_entries}

-- from names to files, both as their bytes
abbrev pub Files : Type 0
Files = FinMap (slice_cmp nat_cmp) (List ℕ)

abbrev pub entry_of : {A B : Type 0} → String A × Vec ℕ B → List ℕ × List ℕ
entry_of file = (string_bytes file.0, file.1.items)

abbrev pub files_of : {A B : Type 0} → List (String A × Vec ℕ B) → Files
files_of files = from_entries (map entry_of files)

abbrev pub NamesDiffer : {A B : Type 0} → List (String A × Vec ℕ B) → Type 0
NamesDiffer files = AllPairs (λ a b. string_bytes a.0 ≢ string_bytes b.0) files

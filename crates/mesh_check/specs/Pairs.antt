-- Items that have a key and a number, and the first two with one key.
use Rattle.std.specs.Prelude.{ℕ, ◌+◌, if◌then◌else◌, List, [], ◌∷◌, Option, Some, None}
use Rattle.std.specs.declared.cmp.Ordering.{Ordering}
use Rattle.std.specs.Ordering.{eq_by_cmp}

-- the items with numbers that count from n
abbrev pub numbered_from : {X : Type 0} → ℕ → List X → List (X × ℕ)
numbered_from n [] = []
numbered_from n (x ∷ xs) = (x, n) ∷ numbered_from (n + 1) xs

-- the number of the first item that has the key
abbrev pub first_with : {K : Type 0} → (K → K → Ordering) → K → List (K × ℕ) → Option ℕ
first_with R key [] = None
first_with R key (item ∷ items) = if eq_by_cmp R key item.0 then Some item.1 else first_with R key items

-- the number with another, or else what is found later
abbrev pub paired : ℕ → Option ℕ → Option (ℕ × ℕ) → Option (ℕ × ℕ)
paired n (Some m) later = Some (n, m)
paired n None later = later

-- the number of the first item whose key a later one has too, and that of the first such later one
abbrev pub first_pair : {K : Type 0} → (K → K → Ordering) → List (K × ℕ) → Option (ℕ × ℕ)
first_pair R [] = None
first_pair R (item ∷ items) = paired item.1 (first_with R item.0 items) (first_pair R items)

-- No promise: steps of the code, which no public contract names. Neighbours with one key in a list that is sorted by key, then number.
use Rattle.std.specs.Prelude.{ℕ, nat_lt, if◌then◌else◌, List, [], ◌∷◌, Option, Some, None}
use Rattle.std.specs.declared.cmp.Ordering.{Ordering}
use Rattle.std.specs.Ordering.{eq_by_cmp, nat_cmp, ordering_then}

-- by key, then number
abbrev pub numbered_cmp : {K : Type 0} → (K → K → Ordering) → K × ℕ → K × ℕ → Ordering
numbered_cmp R a b = ordering_then (R a.0 b.0) (nat_cmp a.1 b.1)

-- the numbers of two items, if they have one key
abbrev pub tie : {K : Type 0} → (K → K → Ordering) → K × ℕ → K × ℕ → Option (ℕ × ℕ)
tie R a b = if eq_by_cmp R a.0 b.0 then Some (a.1, b.1) else None

-- the pair with the lower first number
abbrev pub lower : Option (ℕ × ℕ) → Option (ℕ × ℕ) → Option (ℕ × ℕ)
lower None q = q
lower (Some p) None = Some p
lower (Some p) (Some q) = if nat_lt q.0 p.0 then Some q else Some p

-- of all neighbours with one key, those with the lowest first number
abbrev pub lowest_tie : {K : Type 0} → (K → K → Ordering) → List (K × ℕ) → Option (ℕ × ℕ)
lowest_tie R [] = None
lowest_tie R (a ∷ []) = None
lowest_tie R (a ∷ b ∷ items) = lower (tie R a b) (lowest_tie R (b ∷ items))

-- No promise: steps of the code, which no public contract names. How the items that stand once are found in a sorted list.
use Rattle.std.specs.Prelude.{Bool, true, not, ◌&&◌, if◌then◌else◌, List, [], ◌∷◌, Option, Some, None}
use Rattle.std.specs.declared.cmp.Ordering.{Ordering}
use Rattle.std.specs.Ordering.{eq_by_cmp}

-- whether x is not the other
abbrev pub differs : {K : Type 0} → (K → K → Ordering) → K → Option K → Bool
differs R x None = true
differs R x (Some y) = not (eq_by_cmp R x y)

abbrev pub first_of : {K : Type 0} → List K → Option K
first_of [] = None
first_of (x ∷ xs) = Some x

-- the items that are neither the one before nor the one behind, where `last` stands before them all
abbrev pub lone_after : {K : Type 0} → (K → K → Ordering) → Option K → List K → List K
lone_after R last [] = []
lone_after R last (x ∷ xs) = if differs R x last && differs R x (first_of xs) then x ∷ lone_after R (Some x) xs else lone_after R (Some x) xs

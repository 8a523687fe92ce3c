-- Sets that are written as strictly ascending lists.
use Rattle.std.specs.Prelude.{Bool, true, cond, not, ◌&&◌, List, [], ◌∷◌}
use Rattle.std.specs.declared.cmp.Ordering.{Ordering}
use Rattle.std.specs.List.{list_any}
use Rattle.std.specs.Ordering.{eq_by_cmp, is_eq, is_lt}

-- x put in its place among ascending items, unless an item ties with it
abbrev pub put : {K : Type 0} → (K → K → Ordering) → K → List K → List K
put R x [] = x ∷ []
put R x (y ∷ ys) = cond (is_lt (R x y)) (x ∷ y ∷ ys) (cond (is_eq (R x y)) (y ∷ ys) (y ∷ put R x ys))

-- the items as a set, written in ascending order
abbrev pub ascending_of : {K : Type 0} → (K → K → Ordering) → List K → List K
ascending_of R [] = []
ascending_of R (x ∷ xs) = put R x (ascending_of R xs)

-- whether an item ties with q
abbrev pub has : {K : Type 0} → (K → K → Ordering) → K → List K → Bool
has R q xs = list_any (eq_by_cmp R q) xs

-- whether no two items tie
abbrev pub are_distinct : {K : Type 0} → (K → K → Ordering) → List K → Bool
are_distinct R [] = true
are_distinct R (x ∷ xs) = not (has R x xs) && are_distinct R xs

-- whether each item is below the next
abbrev pub are_ascending : {K : Type 0} → (K → K → Ordering) → List K → Bool
are_ascending R [] = true
are_ascending R (x ∷ []) = true
are_ascending R (x ∷ y ∷ ys) = is_lt (R x y) && are_ascending R (y ∷ ys)

-- Sets from which some items are taken and to which others are added.
use Rattle.std.specs.Prelude.{◌≡◌, true, false, not, List, [], ◌∷◌, ◌++◌, filter, IsPermutation}
use Rattle.std.specs.declared.cmp.Ordering.{Ordering}
use Rattle.std.specs.List.{AllByRecursion, flat_map}
use Rattle.ma_cells.specs.Ascending.{ascending_of, has}
use Rattle.ma_cells.specs.Tetrahedron.{Tetrahedron, tet_cmp}

-- what is taken and what is added
pub record Change (K : Type 0) : Type 0 where
  pub ended : List K
  pub added : List K

-- the items that aren't among the others
abbrev pub without : {K : Type 0} → (K → K → Ordering) → List K → List K → List K
without R others xs = filter (λ x. not (has R x others)) xs

-- a set once one change is made
abbrev pub changed : {K : Type 0} → (K → K → Ordering) → Change K → List K → List K
changed R c xs = ascending_of R (without R c.ended xs ++ c.added)

-- a set once changes are made one after the other
abbrev pub changed_in_turn : {K : Type 0} → (K → K → Ordering) → List (Change K) → List K → List K
changed_in_turn R [] xs = xs
changed_in_turn R (c ∷ cs) xs = changed_in_turn R cs (changed R c xs)

-- a set once all changes are made at once
abbrev pub changed_at_once : {K : Type 0} → (K → K → Ordering) → List (Change K) → List K → List K
changed_at_once R cs xs = ascending_of R (without R (flat_map (λ c. c.ended) cs) xs ++ flat_map (λ c. c.added) cs)

-- that no change takes what an earlier one adds
abbrev pub AreFree : {K : Type 0} → (K → K → Ordering) → List (Change K) → Type 0
AreFree R [] = Unit {0}
AreFree {K} R (c ∷ cs) = AllByRecursion (λ (d : Change K). (q : K) → has R q c.added ≡ true → has R q d.ended ≡ false) cs × AreFree R cs

-- where that is so in two orders of some changes, those made one after the other in the one order are all those of the other at once
abbrev pub AnyOrderIsAtOnce : Type 0
AnyOrderIsAtOnce = (cs ds : List (Change Tetrahedron)) (tets : List Tetrahedron) → IsPermutation cs ds → AreFree tet_cmp ds
    → changed_in_turn tet_cmp ds (ascending_of tet_cmp tets) ≡ changed_at_once tet_cmp cs tets

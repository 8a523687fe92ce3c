-- Which of many operations are made: those that no other is to come before.
use Rattle.std.specs.Prelude.{◌≡◌, true, Bool, not, ◌&&◌, ◌||◌, List, filter}
use Rattle.std.specs.List.{AllByRecursion, flat_map, list_all, list_any}
use Rattle.std.specs.Ordering.{is_lt}
use Rattle.ma_cells.specs.Ascending.{has}
use Rattle.ma_cells.specs.Faces.{holds_all}
use Rattle.ma_cells.specs.Tetrahedron.{Tetrahedron, tet_cmp}
use Rattle.cavity_rank.specs.Operations.{Operation, rank}

-- whether a tetrahedron is in the cavity of an operation: it has the vertex, the edge or the face
abbrev pub is_in : Operation → Tetrahedron → Bool
is_in op tet = holds_all tet.corners op.at

-- whether none of the operations that have the tetrahedron in their cavity ranks before this one
abbrev pub is_first_on : List Operation → Operation → Tetrahedron → Bool
is_first_on ops op tet = list_all (λ other. not (is_in other tet && is_lt (rank other op))) ops

-- whether an operation is first on each tetrahedron of its cavity
abbrev pub wins : List Operation → List Tetrahedron → Operation → Bool
wins ops tets op = list_all (λ tet. not (is_in op tet) || is_first_on ops op tet) tets

-- those operations that are first on each tetrahedron of their cavity
abbrev pub winners : List Operation → List Tetrahedron → List Operation
winners ops tets = filter (wins ops tets) ops

-- whether a tetrahedron is in the cavity of one of these operations
abbrev pub is_taken : List Operation → Tetrahedron → Bool
is_taken ops tet = list_any (λ op. is_in op tet) ops

-- no tetrahedron is in the cavities of two winners
abbrev pub WinnersAreApart : Type 0
WinnersAreApart = (ops : List Operation) (tets : List Tetrahedron) (o p : Operation) (tet : Tetrahedron)
    → has rank o (winners ops tets) ≡ true → has rank p (winners ops tets) ≡ true
    → has tet_cmp tet tets ≡ true → is_in o tet ≡ true → is_in p tet ≡ true → o ≡ p

-- a part's tetrahedra, and the operations that it knows
pub record Voter : Type 0 where
  pub own : List Tetrahedron
  pub known : List Operation

-- that a part knows the operations on its tetrahedra, and of others none that isn't there
abbrev pub KnowsItsOwn : List Operation → Voter → Type 0
KnowsItsOwn ops voter = (other : Operation) (tet : Tetrahedron) → has tet_cmp tet voter.own ≡ true → is_in other tet ≡ true → has rank other voter.known ≡ has rank other ops

-- where each part knows the operations on its tetrahedra, an operation wins over the tetrahedra of all just if it wins at each
abbrev pub PartsDecide : Type 0
PartsDecide = (ops : List Operation) (voters : List Voter) (op : Operation) → AllByRecursion (KnowsItsOwn ops) voters
    → list_all (λ voter. wins voter.known voter.own op) voters ≡ wins ops (flat_map (λ voter. voter.own) voters) op

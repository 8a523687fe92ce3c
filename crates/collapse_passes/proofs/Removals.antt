-- Collapses of vertices, and cells that have one of these vertices at most.
use Rattle.std.proofs.Common.{◌≡◌, true, false, List, [], ◌∷◌, ◌∙◌}
use Rattle.std.specs.Prelude.{ℕ, pos}
use Rattle.std.specs.List.{AllByRecursion}
use Rattle.std.specs.Ordering.{eq_by_cmp}
use Rattle.std.proofs.lemmas.Bool.{or_from}
use Rattle.ma_geom.specs.Coordinates.{Coordinates, place_cmp}
use Rattle.ma_geom.proofs.PlaceOrder.{place_cmp_total}
use Rattle.ma_cells.specs.Ascending.{ascending_of, has}
use Rattle.ma_cells.proofs.Ascents.{has-ascending_of}
use Rattle.ma_cells.proofs.Passing.{all_weaker}
use Rattle.mesh_laws.proofs.BothSides.{Pairs}
use Rattle.mesh_laws.proofs.Lists.{all_two}
use Rattle.cavity_rank.specs.Operations.{Operation}

-- the vertex that is taken away, the place that it goes to, and the least quality
pub record Removal : Type 0 where
  pub at : Coordinates
  pub apex : Coordinates
  pub worst : ℕ

abbrev pub operation : Removal → Operation
operation c = record { at = c.at ∷ []; apex = c.apex; worst = c.worst }

abbrev pub first_place : List Coordinates → Coordinates
first_place [] = record { x = pos 0; y = pos 0; z = pos 0 }
first_place (a ∷ at) = a

-- an operation on one vertex, as a removal
abbrev pub removal : Operation → Removal
removal op = record { at = first_place op.at; apex = op.apex; worst = op.worst }

-- that none of these vertices is among some places
abbrev pub Lack : List Removal → List Coordinates → Type 0
Lack cs corners = AllByRecursion (λ c. has place_cmp c.at corners ≡ false) cs

-- that one at most is
abbrev pub HasOne : List Removal → List Coordinates → Type 0
HasOne cs corners = Pairs (λ c d. has place_cmp c.at corners ≡ true → has place_cmp d.at corners ≡ false) cs

-- that a vertex doesn't go to any of the others
abbrev pub IsClear : Removal → List Removal → Type 0
IsClear c cs = AllByRecursion (λ d. eq_by_cmp place_cmp d.at c.apex ≡ false) cs

pub lack_one : (cs : List Removal) (l : List Coordinates) → Lack cs l → HasOne cs l
lack_one [] l h = tt
lack_one (c ∷ cs) l h = (
  all_weaker (λ d. has place_cmp d.at l ≡ false) (λ d. has place_cmp c.at l ≡ true → has place_cmp d.at l ≡ false) (λ d e _. e) cs h.1,
  lack_one cs l h.1,
)

-- what has the first of them lacks the others
pub others_lack : (c : Removal) (cs : List Removal) (l : List Coordinates) → HasOne (c ∷ cs) l → has place_cmp c.at l ≡ true → Lack cs l
others_lack c cs l h there =
    all_weaker (λ d. has place_cmp c.at l ≡ true → has place_cmp d.at l ≡ false) (λ d. has place_cmp d.at l ≡ false) (λ d k. k there) cs h.0

-- places that lack them do so with the place to which the first one goes, also in order
pub lack_with_apex : (c : Removal) (cs : List Removal) (l : List Coordinates) → IsClear c cs → Lack cs l → Lack cs (ascending_of place_cmp (c.apex ∷ l))
lack_with_apex c cs l clear lack =
    all_two (λ d. eq_by_cmp place_cmp d.at c.apex ≡ false) (λ d. has place_cmp d.at l ≡ false) (λ d. has place_cmp d.at (ascending_of place_cmp (c.apex ∷ l)) ≡ false)
    (λ d e f. has-ascending_of place_cmp_total d.at (c.apex ∷ l) ∙ or_from (eq_by_cmp place_cmp d.at c.apex) (has place_cmp d.at l) e f) cs clear lack

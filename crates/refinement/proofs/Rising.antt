-- The pieces of a cell whose corners ascend have ascending corners.
use Rattle.std.proofs.Common.{◌≡◌, ℕ, zero, suc, ◌<◌, true, false, cond, ◌&&◌, ◌==◌, List, [], ◌∷◌, length, get_or, sym, subst, arith}
use Rattle.std.specs.Prelude.{Option, Some, None}
use Rattle.std.specs.Cmp.Lexicographic.{slice_cmp}
use Rattle.std.specs.List.{AllByRecursion, flat_map}
use Rattle.std.proofs.lemmas.Bool.{false≢true}
use Rattle.ma_geom.specs.Coordinates.{Coordinates, place_cmp}
use Rattle.ma_geom.specs.Midpoints.{midpoint}
use Rattle.ma_cells.specs.Ascending.{are_ascending, ascending_of}
use Rattle.ma_cells.specs.Bisection.{bisect, replaced}
use Rattle.ma_cells.specs.Faces.{holds_all}
use Rattle.ma_cells.proofs.Bisections.{replaced-ascends}
use Rattle.split_templates.specs.Edges.{edge_cmp}
use Rattle.split_templates.specs.Pieces.{bisected_along, halves, halves_at, pieces_of}
use Rattle.ma_cells.proofs.Passing.{all-flat_map}
use Rattle.ma_cells.proofs.SetItems.{all-ascending_of}

-- that the corners of a piece ascend
abbrev pub Rises : List Coordinates → Type 0
Rises corners = are_ascending place_cmp corners ≡ true

pub bisect_rises : (a b m : Coordinates) (corners : List Coordinates) → Rises corners → AllByRecursion Rises (bisect a b m corners)
bisect_rises a b m corners h =
    elim (holds_all corners (a ∷ b ∷ [])) as (λ there. AllByRecursion Rises (cond there (replaced a m corners ∷ replaced b m corners ∷ []) (corners ∷ []))) [
      | true ↦ (replaced-ascends a m corners, (replaced-ascends b m corners, tt))
      | false ↦ (h, tt)
    ]

halves_at_rise : (a b : Coordinates) (middle : Option Coordinates) (corners : List Coordinates) → Rises corners → AllByRecursion Rises (halves_at a b middle corners)
halves_at_rise a b None corners h = (h, tt)
halves_at_rise a b (Some m) corners h = bisect_rises a b m corners h

halves_rise : (edge corners : List Coordinates) → Rises corners → AllByRecursion Rises (halves edge corners)
halves_rise [] corners h = (h, tt)
halves_rise (a ∷ []) corners h = (h, tt)
halves_rise (a ∷ b ∷ []) corners h = halves_at_rise a b (midpoint a b) corners h
halves_rise (a ∷ b ∷ c ∷ l) corners h = (h, tt)

bisected_rise : (edges pieces : List (List Coordinates)) → AllByRecursion Rises pieces → AllByRecursion Rises (bisected_along edges pieces)
bisected_rise [] pieces h = h
bisected_rise (edge ∷ edges) pieces h = bisected_rise edges (flat_map (halves edge) pieces) (all-flat_map Rises Rises (halves edge) (halves_rise edge) pieces h)

pub pieces_rise : (marked : List (List Coordinates)) (corners : List Coordinates) → Rises corners → AllByRecursion Rises (pieces_of marked corners)
pieces_rise marked corners h =
    all-ascending_of (slice_cmp place_cmp) Rises (bisected_along (ascending_of edge_cmp marked) (corners ∷ [])) (bisected_rise (ascending_of edge_cmp marked) (corners ∷ []) (h, tt))

pub all-at : {X : Type 0} (P : X → Type 0) (xs : List X) (i : ℕ) (d : X) → i < length xs → AllByRecursion P xs → P (get_or xs i d)
all-at P [] i d within h = absurd (omega arith)
all-at P (x ∷ xs) zero d within h = h.0
all-at P (x ∷ xs) (suc i) d within h = all-at P xs i d (omega arith) h.1

-- a cell of so many corners that ascend
pub rising_cell : (n : ℕ) (corners : List Coordinates) → length corners ≡ n → Rises corners → ((length corners == n) && are_ascending place_cmp corners) ≡ true
rising_cell n corners count rises = rw (count, rises) (alike n)
  where
    alike : (n : ℕ) → ((n == n) && true) ≡ true
    alike n = grind arith

pub its_corners_rise : (n : ℕ) (corners : List Coordinates) → ((length corners == n) && are_ascending place_cmp corners) ≡ true → Rises corners
its_corners_rise n corners h =
    elim (length corners == n) as (λ b. (b && are_ascending place_cmp corners) ≡ true → Rises corners) [
      | true ↦ λ k. k
      | false ↦ λ k. absurd (false≢true k)
    ] h

-- what an item is that stands at a place
pub piece_at : (cells pieces : List (List Coordinates)) (i : ℕ) (piece : List Coordinates) → cells ≡ pieces → i < length cells → piece ≡ get_or cells i piece → AllByRecursion Rises pieces → Rises piece
piece_at cells pieces i piece same within is all =
    subst Rises (sym is) (all-at Rises cells i piece within (subst (AllByRecursion Rises) (sym same) all))

-- What holds where a cell stays whole, and where it is bisected at a middle, holds of the pieces that it has at edges, one after the other.
use Rattle.std.proofs.Common.{◌≡◌, ◌≢◌, true, false, ◌&&◌, List, [], ◌∷◌, ◌++◌, Some, None, refl, sym, ap, ◌∙◌}
use Rattle.std.specs.Cmp.{tied_itself}
use Rattle.std.specs.List.{AllByRecursion, flat_map}
use Rattle.std.specs.Ordering.{is_lt}
use Rattle.std.proofs.lemmas.Bool.{false≢true}
use Rattle.ma_geom.specs.Coordinates.{Coordinates, place_cmp}
use Rattle.ma_geom.specs.Midpoints.{midpoint}
use Rattle.ma_geom.specs.Rational.{IsMiddle}
use Rattle.ma_geom.proofs.PlaceOrder.{place_cmp_total}
use Rattle.ma_cells.specs.Ascending.{are_ascending, ascending_of}
use Rattle.ma_cells.specs.Bisection.{bisect}
use Rattle.ma_cells.specs.Faces.{edges_of, holds_all}
use Rattle.ma_cells.proofs.Choices.{choices-ascend}
use Rattle.ma_cells.proofs.Passing.{all-filter, all-flat_map, all_pass}
use Rattle.ma_cells.proofs.SetItems.{all-ascending_of}
use Rattle.size_marks.specs.Field.{Field}
use Rattle.split_templates.specs.Edges.{edge_cmp, is_long_edge}
use Rattle.split_templates.specs.Pieces.{bisected_along, halves, halves_at}
use Rattle.split_templates.proofs.Middles.{midpoint-IsMiddle}
use Rattle.refinement.specs.Refinement.{long_edges}
use Rattle.refinement.proofs.Rising.{Rises}

-- ---- edges with their ends in ascending order
pub ends_differ : (a b : Coordinates) → Rises (a ∷ b ∷ []) → a ≢ b
ends_differ a b rises e =
    let tie : (is_lt (place_cmp a b) && true) ≡ false = ap (λ t. is_lt (place_cmp a t) && true) (sym e) ∙ ap (λ r. is_lt r && true) (tied_itself place_cmp_total a) in
    false≢true (sym tie ∙ rises)

-- the long edges of a cell in their order, and the pieces at them in the order in which they come
module _ (field : Field) (cell : List Coordinates) where
  abbrev pub own_edges : List (List Coordinates)
  own_edges = ascending_of edge_cmp (long_edges field cell)

  abbrev pub bisected : List (List Coordinates)
  bisected = bisected_along own_edges (cell ∷ [])

  pub own_edges_rise : Rises cell → AllByRecursion Rises own_edges
  own_edges_rise up =
      all-ascending_of edge_cmp Rises (long_edges field cell)
      (all-filter Rises (is_long_edge field) (edges_of cell) (all_pass (are_ascending place_cmp) (edges_of cell) (choices-ascend place_cmp_total 2 cell up)))

-- a cell without the edge stays
pub bisect-without : (a b m : Coordinates) (corners : List Coordinates) → holds_all corners (a ∷ b ∷ []) ≡ false → bisect a b m corners ≡ corners ∷ []
bisect-without a b m corners h = rw h refl

-- ---- one edge
pub by_halves : (P : (List Coordinates → List (List Coordinates)) → Type 0) → P (λ c. c ∷ []) → ((m a b : Coordinates) → IsMiddle m a b → a ≢ b → P (bisect a b m)) → (edge : List Coordinates) → Rises edge → P (halves edge)
by_halves P whole halved [] rises = whole
by_halves P whole halved (a ∷ []) rises = whole
by_halves P whole halved (a ∷ b ∷ []) rises =
    elim (midpoint a b) as (λ o. midpoint a b ≡ o → P (halves_at a b o)) [
      | Some m ↦ λ is. halved m a b (midpoint-IsMiddle a b m is) (ends_differ a b rises)
      | None ↦ λ _. whole
    ] refl
by_halves P whole halved (a ∷ b ∷ c ∷ edge) rises = whole

-- ---- cells of a kind that bisection keeps
module _ (S : List Coordinates → Type 0) (kind : (m a b : Coordinates) → IsMiddle m a b → a ≢ b → (c : List Coordinates) → S c → AllByRecursion S (bisect a b m c)) where
  pub kind_halves : (edge : List Coordinates) → Rises edge → (c : List Coordinates) → S c → AllByRecursion S (halves edge c)
  kind_halves = by_halves (λ parts. (c : List Coordinates) → S c → AllByRecursion S (parts c)) (λ c is. (is, tt)) kind

  pub kind_along : (edges : List (List Coordinates)) → AllByRecursion Rises edges → (cells : List (List Coordinates)) → AllByRecursion S cells → AllByRecursion S (bisected_along edges cells)
  kind_along [] rise cells are = are
  kind_along (edge ∷ edges) rise cells are = kind_along edges rise.1 (flat_map (halves edge) cells) (all-flat_map S S (halves edge) (kind_halves edge rise.0) cells are)

  -- what is so of cells and their halves, side by side and one after the other, is so of cells and their pieces
  module _ (Q : List (List Coordinates) → List (List Coordinates) → Type 0) (none : Q [] []) (whole : (c : List Coordinates) → S c → Q (c ∷ []) (c ∷ []))
      (beside : (xs ys zs ws : List (List Coordinates)) → Q xs zs → Q ys ws → Q (xs ++ ys) (zs ++ ws)) (after : (xs ys zs : List (List Coordinates)) → Q xs ys → Q ys zs → Q xs zs)
      (halved : (m a b : Coordinates) → IsMiddle m a b → a ≢ b → (c : List Coordinates) → S c → Q (c ∷ []) (bisect a b m c)) where
    each : (parts : List Coordinates → List (List Coordinates)) → ((c : List Coordinates) → S c → Q (c ∷ []) (parts c)) → (cells : List (List Coordinates)) → AllByRecursion S cells → Q cells (flat_map parts cells)
    each parts one [] are = none
    each parts one (c ∷ cells) are = beside (c ∷ []) cells (parts c) (flat_map parts cells) (one c are.0) (each parts one cells are.1)

    itself : (cells : List (List Coordinates)) → AllByRecursion S cells → Q cells cells
    itself [] are = none
    itself (c ∷ cells) are = beside (c ∷ []) cells (c ∷ []) cells (whole c are.0) (itself cells are.1)

    pub so_along : (edges : List (List Coordinates)) → AllByRecursion Rises edges → (cells : List (List Coordinates)) → AllByRecursion S cells → Q cells (bisected_along edges cells)
    so_along [] rise cells are = itself cells are
    so_along (edge ∷ edges) rise cells are =
        let parts = flat_map (halves edge) cells in
        after cells parts (bisected_along edges parts)
        (each (halves edge) (by_halves (λ parts. (c : List Coordinates) → S c → Q (c ∷ []) (parts c)) whole halved edge rise.0) cells are)
        (so_along edges rise.1 parts (all-flat_map S S (halves edge) (kind_halves edge rise.0) cells are))

-- Points, segments and triangles by the places that are given as their corners.
use Rattle.std.proofs.Common.{◌≡◌, ℕ, true, false, List, [], ◌∷◌, length, eqb, ◌≤◌, Option, Some, None, refl, sym, ap, ◌∙◌, arith}
use Rattle.std.specs.Prelude.{IfSome, cond}
use Rattle.std.proofs.lemmas.Bool.{false≢true}
use Rattle.std.proofs.lemmas.Bool.Decides.{nat_tests}
use Rattle.std.proofs.lemmas.List.Sorted.{length_permutation}
use Rattle.std.specs.List.Sorted.{IsPermutation, IsSorted}
use Rattle.ma_geom.specs.Coordinates.{Coordinates, place_cmp}
use Rattle.ma_geom.proofs.PlaceOrder.{place_cmp_total}
use Rattle.ma_cells.specs.Ascending.{are_ascending, are_distinct, ascending_of}
use Rattle.ma_cells.specs.Cells.{cell_of, cell_on, is_cell}
use Rattle.ma_cells.specs.declared.cell.Cell.{Cell}
use Rattle.ma_cells.specs.declared.cell.Cell.TheVariants.{Seg, Tri}
use Rattle.ma_cells.proofs.Ascents.{ascending_from_distinct, ascending_from_strict, length-ascending_of, sorted-ascending_of}
use Rattle.ma_cells.proofs.Corners.{ascending_is, sorted_corners}

eqb-same : (n : ℕ) → eqb n n ≡ true
eqb-same n = grind (arith, nat_tests)

-- in any order, places are distinct or aren't
distinct-moved : (places moved : List Coordinates) → IsPermutation places moved → are_distinct place_cmp places ≡ are_distinct place_cmp moved
distinct-moved places moved is =
    sym (length-ascending_of place_cmp_total places).1
    ∙ ap (λ set. eqb (length set) (length places)) (sorted_corners places moved is)
    ∙ ap (λ n. eqb (length (ascending_of place_cmp moved)) n) (sym (length_permutation places moved is))
    ∙ (length-ascending_of place_cmp_total moved).1

-- ascending corners are distinct
pub distinct-ascending : (moved : List Coordinates) → are_ascending place_cmp moved ≡ true → are_distinct place_cmp moved ≡ true
distinct-ascending moved rises =
    sym (length-ascending_of place_cmp_total moved).1
    ∙ ap (λ set. eqb (length set) (length moved)) (ascending_is moved rises)
    ∙ eqb-same (length moved)

-- places that sort to an ascending list
pub cell_of-sorted : (places moved : List Coordinates) → IsPermutation places moved → are_ascending place_cmp moved ≡ true → cell_of places ≡ cell_on moved
cell_of-sorted places moved is rises =
    rw (distinct-moved places moved is ∙ distinct-ascending moved rises, sorted_corners places moved is ∙ ascending_is moved rises) refl

-- places that sort to no ascending list aren't distinct
pub cell_of-twice : (places moved : List Coordinates) → IsPermutation places moved → IsSorted place_cmp moved → are_ascending place_cmp moved ≡ false
    → ◌≡◌ {A = Option Cell} None (cell_of places)
cell_of-twice places moved is sorted falls =
    let tied : are_distinct place_cmp moved ≡ false =
    elim (are_distinct place_cmp moved) as (λ b. are_distinct place_cmp moved ≡ b → b ≡ false) [
      | true ↦ λ e. absurd (false≢true (sym falls ∙ ascending_from_distinct place_cmp_total moved sorted e))
      | false ↦ λ _. refl
    ] refl in
    rw (distinct-moved places moved is ∙ tied) refl

pub cell_on-two : (moved : List Coordinates) → length moved ≡ 2 → ◌≡◌ {A = Option Cell} (Some (Seg moved)) (cell_on moved)
cell_on-two [] n = absurd (omega arith)
cell_on-two (a ∷ []) n = absurd (omega arith)
cell_on-two (a ∷ b ∷ []) n = refl
cell_on-two (a ∷ b ∷ c ∷ places) n = absurd (omega arith)

pub cell_on-three : (moved : List Coordinates) → length moved ≡ 3 → ◌≡◌ {A = Option Cell} (Some (Tri moved)) (cell_on moved)
cell_on-three [] n = absurd (omega arith)
cell_on-three (a ∷ []) n = absurd (omega arith)
cell_on-three (a ∷ b ∷ []) n = absurd (omega arith)
cell_on-three (a ∷ b ∷ c ∷ []) n = refl
cell_on-three (a ∷ b ∷ c ∷ d ∷ places) n = absurd (omega arith)

cell_on-many : (places : List Coordinates) → 4 ≤ length places → ◌≡◌ {A = Option Cell} None (cell_on places)
cell_on-many [] n = refl
cell_on-many (a ∷ []) n = absurd (omega arith)
cell_on-many (a ∷ b ∷ []) n = absurd (omega arith)
cell_on-many (a ∷ b ∷ c ∷ []) n = absurd (omega arith)
cell_on-many (a ∷ b ∷ c ∷ d ∷ places) n = refl

as_long : (m n : ℕ) → eqb m n ≡ true → 4 ≤ n → 4 ≤ m
as_long m n e h = grind (arith, nat_tests)

-- places that aren't one to three
pub cell_of-many : (places : List Coordinates) → 4 ≤ length places → ◌≡◌ {A = Option Cell} None (cell_of places)
cell_of-many places n =
    elim (are_distinct place_cmp places) as (λ b. are_distinct place_cmp places ≡ b → ◌≡◌ {A = Option Cell} None (cond b (cell_on (ascending_of place_cmp places)) None)) [
      | true ↦ λ e. cell_on-many (ascending_of place_cmp places) (as_long (length (ascending_of place_cmp places)) (length places) ((length-ascending_of place_cmp_total places).1 ∙ e) n)
      | false ↦ λ _. refl
    ] refl

is_cell-on : (places : List Coordinates) → are_ascending place_cmp places ≡ true → IfSome (cell_on places) (λ cell. is_cell cell ≡ true)
is_cell-on [] rises = tt
is_cell-on (a ∷ []) rises = refl
is_cell-on (a ∷ b ∷ []) rises = rises
is_cell-on (a ∷ b ∷ c ∷ []) rises = rises
is_cell-on (a ∷ b ∷ c ∷ d ∷ places) rises = tt

-- a cell that is made of any places has ascending corners
pub is_cell-of : (places : List Coordinates) → IfSome (cell_of places) (λ cell. is_cell cell ≡ true)
is_cell-of places =
    elim (are_distinct place_cmp places) as (λ b. IfSome (cond b (cell_on (ascending_of place_cmp places)) None) (λ cell. is_cell cell ≡ true)) [
      | true ↦ is_cell-on (ascending_of place_cmp places) (ascending_from_strict place_cmp_total (ascending_of place_cmp places) (sorted-ascending_of place_cmp_total places))
      | false ↦ tt
    ]

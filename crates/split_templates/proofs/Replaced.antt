-- The corners of a half, once they are sorted.
use Rattle.std.proofs.Common.{◌≡◌, true, List, length, sym, ap, ◌∙◌}
use Rattle.std.specs.List.Sorted.{IsPermutation, IsSorted}
use Rattle.std.proofs.lemmas.Bool.{eq-eqb}
use Rattle.std.proofs.lemmas.List.Sorted.{length_permutation}
use Rattle.ma_geom.specs.Coordinates.{Coordinates, place_cmp}
use Rattle.ma_geom.proofs.PlaceOrder.{place_cmp_total}
use Rattle.ma_cells.specs.Ascending.{are_distinct, ascending_of}
use Rattle.ma_cells.proofs.Ascents.{ascending_from_distinct, length-ascending_of}
use Rattle.ma_cells.proofs.Corners.{ascending_is, sorted_corners}

-- places of which none is left out as a repeat are what they sort to
pub sorted_is : (places moved : List Coordinates) → length (ascending_of place_cmp places) ≡ length places → IsPermutation places moved → IsSorted place_cmp moved
    → moved ≡ ascending_of place_cmp places
sorted_is places moved whole is sorted =
    let same = sorted_corners places moved is in
    let count : length (ascending_of place_cmp moved) ≡ length moved = ap length (sym same) ∙ whole ∙ sym (length_permutation places moved is) in
    let distinct : are_distinct place_cmp moved ≡ true = sym (length-ascending_of place_cmp_total moved).1 ∙ eq-eqb (length (ascending_of place_cmp moved)) (length moved) count in
    sym (same ∙ ascending_is moved (ascending_from_distinct place_cmp_total moved sorted distinct))

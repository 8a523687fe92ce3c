-- A marked cell that is no point isn't on a place alone.
use Rattle.std.proofs.Common.{◌≡◌, ◌≢◌, true, false, List, [], ◌∷◌, ◌≤◌, ◌==◌, length, refl, arith}
use Rattle.std.proofs.lemmas.Bool.{and_parts, eqb-true}
use Rattle.std.specs.Cmp.Lexicographic.{slice_cmp}
use Rattle.std.specs.declared.cmp.Ordering.{Ordering}
use Rattle.std.specs.declared.cmp.Ordering.TheVariants.{Less, Equal, Greater}
use Rattle.std.specs.Ordering.{eq_by_cmp, is_eq, ordering_then}
use Rattle.ma_geom.specs.Coordinates.{Coordinates, place_cmp}
use Rattle.ma_cells.specs.Cells.{corners_of, is_cell}
use Rattle.ma_cells.specs.declared.cell.Cell.{Cell}
use Rattle.ma_cells.specs.declared.cell.Cell.TheVariants.{Point, Seg, Tri}

longer : (places : List Coordinates) (a : Coordinates) → 2 ≤ length places → false ≡ eq_by_cmp (slice_cmp place_cmp) places (a ∷ [])
longer [] a h = absurd (omega (arith, h))
longer (p ∷ []) a h = absurd (omega (arith, h))
longer (p ∷ q ∷ places) a h = greater (place_cmp p a)
  where
    greater : (o : Ordering) → false ≡ is_eq (ordering_then o Greater)
    greater Less = refl
    greater Equal = refl
    greater Greater = refl

pub no_point : (cell : Cell) (a : Coordinates) → is_cell cell ≡ true → ((p : Coordinates) → cell ≢ Point p) → false ≡ eq_by_cmp (slice_cmp place_cmp) (corners_of cell) (a ∷ [])
no_point (Point p) a is other = absurd (other p refl)
no_point (Seg s) a is other = let two : length s ≡ 2 = eqb-true (length s) 2 (and_parts (length s == 2) _ is).0 in longer s a (omega (arith, two))
no_point (Tri t) a is other = let three : length t ≡ 3 = eqb-true (length t) 3 (and_parts (length t == 3) _ is).0 in longer t a (omega (arith, three))

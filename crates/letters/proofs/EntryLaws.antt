-- The grammars of entries are lawful.
use Rattle.std.proofs.Common.{◌≡◌, ℕ, ◌+◌, ◌-◌, true, leb, ltb, eqb, ◌&&◌, length, List, [], ◌∷◌, None, refl, ap, arith}
use Rattle.std.specs.Prelude.{ℤ}
use Rattle.std.specs.List.{list_all}
use Rattle.std.proofs.lemmas.Bool.{and_parts, eqb-true, false≢true, le-leb, leb-true, ltb-true}
use Rattle.ma_geom.specs.Coordinates.{Coordinates, place_cmp}
use Rattle.ma_cells.specs.Ascending.{are_ascending}
use Rattle.ma_cells.specs.Cells.{CellMark, corners_of, is_cell}
use Rattle.ma_cells.specs.declared.cell.Cell.{Cell}
use Rattle.ma_cells.specs.declared.cell.Cell.TheVariants.{Point, Seg, Tri}
use Rattle.letters.specs.Entries.{cell_at, corner_count, mark, operation, shared, tet}
use Rattle.letters.specs.Fields.{between, part_before, place, place_before, signed}
use Rattle.letters.specs.Grammar.{are_behind, counted, entries, number, tested, ◌then◌}
use Rattle.letters.proofs.Lawful.{IsLawful}
use Rattle.letters.proofs.Combined.{chain_lawful, renamed_lawful, stands_for_lawful, tested_lawful}
use Rattle.letters.proofs.FieldLaws.{between_lawful, place_lawful, signed_lawful}
use Rattle.letters.proofs.Listed.{counted_lawful, entries_lawful}
use Rattle.letters.proofs.Numbers.{number_lawful}

tag_lawful : IsLawful (signed then signed)
tag_lawful = chain_lawful signed (λ _. signed) signed_lawful (λ _. signed_lawful)

pub tet_lawful : IsLawful tet
tet_lawful =
    tested_lawful _ _ (renamed_lawful _ _ (entries place_before place 4 then signed then signed)
    (chain_lawful (entries place_before place 4) (λ _. signed then signed) (entries_lawful place_before place place_lawful 4) (λ _. tag_lawful)) (λ p h. refl) (λ t. refl))

corner_count_lawful : IsLawful corner_count
corner_count_lawful =
    stands_for_lawful (λ n. leb 1 n) (λ d. d + 1) (λ n. n - 1) (tested (λ d. ltb d 3) (number 1)) (tested_lawful _ (number 1) (number_lawful 1))
    (record { there = λ d h. omega arith; is_proper = λ d h. le-leb 1 (d + 1) (omega arith); back = back })
  where
    back : (n : ℕ) → leb 1 n ≡ true → n - 1 + 1 ≡ n
    back n h = omega (arith, leb-true 1 n h)

-- the corners of the cell at one to three corners are these
corners_again : (corners : List Coordinates) → ltb (length corners - 1) 3 ≡ true → leb 1 (length corners) ≡ true → corners_of (cell_at corners) ≡ corners
corners_again [] h k = absurd (false≢true k)
corners_again (a ∷ []) h k = refl
corners_again (a ∷ b ∷ []) h k = refl
corners_again (a ∷ b ∷ c ∷ corners) h k = refl

segment_again : (s : List Coordinates) → length s ≡ 2 → cell_at s ≡ Seg s
segment_again [] n = absurd (omega arith)
segment_again (a ∷ []) n = absurd (omega arith)
segment_again (a ∷ b ∷ []) n = refl
segment_again (a ∷ b ∷ c ∷ s) n = absurd (omega arith)

triangle_again : (t : List Coordinates) → length t ≡ 3 → cell_at t ≡ Tri t
triangle_again [] n = absurd (omega arith)
triangle_again (a ∷ []) n = absurd (omega arith)
triangle_again (a ∷ b ∷ []) n = absurd (omega arith)
triangle_again (a ∷ b ∷ c ∷ t) n = refl

cell_again : (cell : Cell) → is_cell cell ≡ true → cell_at (corners_of cell) ≡ cell
cell_again (Point p) h = refl
cell_again (Seg s) h = segment_again s (eqb-true (length s) 2 (and_parts (eqb (length s) 2) (are_ascending place_cmp s) h).0)
cell_again (Tri t) h = triangle_again t (eqb-true (length t) 3 (and_parts (eqb (length t) 3) (are_ascending place_cmp t) h).0)

-- corners that are one to three, each behind the one before it, are a cell
are_cell : (corners : List Coordinates) → leb 1 (length corners) ≡ true → ltb (length corners - 1) 3 ≡ true → are_behind place_before None corners ≡ true → is_cell (cell_at corners) ≡ true
are_cell [] h k b = absurd (false≢true h)
are_cell (a ∷ []) h k b = refl
are_cell (a ∷ x ∷ []) h k b = b
are_cell (a ∷ x ∷ y ∷ []) h k b = b
are_cell (a ∷ x ∷ y ∷ z ∷ corners) h k b = absurd (omega (arith, ltb-true (length (a ∷ x ∷ y ∷ z ∷ corners) - 1) 3 k))

pub operation_lawful : IsLawful operation
operation_lawful =
    renamed_lawful _ _ (counted (between 1 3) place_before place then place then number 4)
    (chain_lawful (counted (between 1 3) place_before place) (λ _. place then number 4) (counted_lawful place_before place place_lawful (between 1 3) (between_lawful 1 3))
    (λ _. chain_lawful place (λ _. number 4) place_lawful (λ _. number_lawful 4))) (λ p h. refl) (λ o. refl)

pub shared_lawful : IsLawful shared
shared_lawful =
    renamed_lawful _ _ (place then counted (between 2 64) part_before (number 1))
    (chain_lawful place (λ _. counted (between 2 64) part_before (number 1)) place_lawful (λ _. counted_lawful part_before (number 1) (number_lawful 1) (between 2 64) (between_lawful 2 64))) (λ p h. refl) (λ s. refl)

-- what is known of the corners of a mark that fits
record HasFew (corners : List Coordinates) : Type 0 where
  least : leb 1 (length corners) ≡ true
  most : ltb (length corners - 1) 3 ≡ true
  behind : are_behind place_before None corners ≡ true

pub mark_lawful : IsLawful mark
mark_lawful =
    stands_for_lawful (λ m. is_cell m.cell) _ (λ m. (corners_of m.cell, (m.phys, m.elem))) (counted corner_count place_before place then signed then signed)
    (chain_lawful (counted corner_count place_before place) (λ _. signed then signed) (counted_lawful place_before place place_lawful corner_count corner_count_lawful) (λ _. tag_lawful))
    (record { there = there; is_proper = proper; back = back })
  where
    parts : (p : List Coordinates × (ℤ × ℤ)) → (counted corner_count place_before place then signed then signed).fits p ≡ true → HasFew p.0
    parts p h =
        let a = and_parts ((counted corner_count place_before place).fits p.0) ((signed then signed).fits p.1) h in
        let b = and_parts (corner_count.fits (length p.0)) ((entries place_before place (length p.0)).fits p.0) a.0 in
        let c = and_parts (leb 1 (length p.0)) ((tested (λ d. ltb d 3) (number 1)).fits (length p.0 - 1)) b.0 in
        let d = and_parts ((number 1).fits (length p.0 - 1)) (ltb (length p.0 - 1) 3) c.1 in
        let e = and_parts (eqb (length p.0) (length p.0)) (are_behind place_before None p.0 && list_all place.fits p.0) b.1 in
        record { least = c.0; most = d.1; behind = (and_parts (are_behind place_before None p.0) (list_all place.fits p.0) e.1).0 }

    there : (p : List Coordinates × (ℤ × ℤ)) → (counted corner_count place_before place then signed then signed).fits p ≡ true → (corners_of (cell_at p.0), p.1) ≡ p
    there p h = let q = parts p h in ap (λ (corners : List Coordinates). (corners, p.1)) (corners_again p.0 q.most q.least)

    proper : (p : List Coordinates × (ℤ × ℤ)) → (counted corner_count place_before place then signed then signed).fits p ≡ true → is_cell (cell_at p.0) ≡ true
    proper p h = let q = parts p h in are_cell p.0 q.least q.most q.behind

    back : (m : CellMark) → is_cell m.cell ≡ true → record m { cell = cell_at (corners_of m.cell) } ≡ m
    back m h = ap (λ (c : Cell). record m { cell = c }) (cell_again m.cell h)

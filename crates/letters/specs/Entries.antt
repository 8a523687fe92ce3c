-- Grammars of tetrahedra, marks, operations and shared places.
use Rattle.std.specs.Prelude.{ℕ, ℤ, ◌+◌, ◌-◌, Bool, not, nat_lt, nat_le, List, [], ◌∷◌, Option, Some, None, if◌then◌else◌}
use Rattle.std.specs.Ordering.{is_lt}
use Rattle.ma_geom.specs.Coordinates.{Coordinates}
use Rattle.ma_cells.specs.Cells.{CellMark, corners_of, is_cell, mark_cmp}
use Rattle.ma_cells.specs.Tetrahedron.{Tetrahedron, is_flat, tet_cmp}
use Rattle.ma_cells.specs.declared.cell.Cell.{Cell}
use Rattle.ma_cells.specs.declared.cell.Cell.TheVariants.{Point, Seg, Tri}
use Rattle.cavity_rank.specs.Operations.{Operation, rank}
use Rattle.letters.specs.Fields.{between, part_before, place, place_before, signed}
use Rattle.letters.specs.Grammar.{Grammar, counted, entries, number, renamed, stands_for, tested, ◌then◌}
use Rattle.letters.specs.Sharing.{SharedPlace}

-- a tetrahedron: four corners, each behind the one before it, and the region. It isn't flat
abbrev pub tet : Grammar Tetrahedron
tet = tested (λ t. not (is_flat t.corners))
    (renamed (λ p. record { corners = p.0; phys = p.1.0; elem = p.1.1 }) (λ t. (t.corners, (t.phys, t.elem))) (entries place_before place 4 then signed then signed))

-- the tetrahedron with these corners and this region, unless it is flat
abbrev pub solid_tet : List Coordinates → ℤ × ℤ → Option Tetrahedron
solid_tet corners region = if is_flat corners then None else Some (record { corners = corners; phys = region.0; elem = region.1 })

abbrev pub tet_before : Tetrahedron → Tetrahedron → Bool
tet_before t u = is_lt (tet_cmp t u)

-- the cell with these corners, where they are one to three
abbrev pub cell_at : List Coordinates → Cell
cell_at (a ∷ []) = Point a
cell_at (a ∷ b ∷ []) = Seg (a ∷ b ∷ [])
cell_at corners = Tri corners

-- how many corners a cell has, told by its dimension
abbrev pub corner_count : Grammar ℕ
corner_count = stands_for (λ n. nat_le 1 n) (λ d. d + 1) (λ n. n - 1) (tested (λ d. nat_lt d 3) (number 1))

-- a mark: the cell's dimension, its corners, each behind the one before it, and the tag
abbrev pub mark : Grammar CellMark
mark = stands_for (λ m. is_cell m.cell) (λ p. record { cell = cell_at p.0; phys = p.1.0; elem = p.1.1 }) (λ m. (corners_of m.cell, (m.phys, m.elem)))
    (counted corner_count place_before place then signed then signed)

abbrev pub mark_before : CellMark → CellMark → Bool
mark_before m n = is_lt (mark_cmp m n)

-- an operation: one to three places, each behind the one before it, the apex, and the quality
abbrev pub operation : Grammar Operation
operation = renamed (λ p. record { at = p.0; apex = p.1.0; worst = p.1.1 }) (λ o. (o.at, (o.apex, o.worst))) (counted (between 1 3) place_before place then place then number 4)

abbrev pub operation_before : Operation → Operation → Bool
operation_before o p = is_lt (rank o p)

-- a shared place: the place, and two to 64 parts, each behind the one before it
abbrev pub shared : Grammar SharedPlace
shared = renamed (λ p. record { place = p.0; parts = p.1 }) (λ s. (s.place, s.parts)) (place then counted (between 2 64) part_before (number 1))

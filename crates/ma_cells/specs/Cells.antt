-- Points, segments and triangles, and marks on them.
use Rattle.std.specs.Prelude.{ℤ, Bool, true, ◌&&◌, ◌==◌, length, List, [], ◌∷◌, Option, Some, None, if◌then◌else◌}
use Rattle.std.specs.declared.cmp.Ordering.{Ordering}
use Rattle.std.specs.declared.cmp.Ordering.TheVariants.{Less, Greater}
use Rattle.std.specs.Cmp.Lexicographic.{slice_cmp}
use Rattle.std.specs.Option.{option_map}
use Rattle.std.specs.Ordering.{int_cmp, ordering_then}
use Rattle.ma_geom.specs.Coordinates.{Coordinates, place_cmp}
use Rattle.ma_cells.specs.Ascending.{are_ascending, are_distinct, ascending_of}
use Rattle.ma_cells.specs.declared.cell.Cell.{Cell}
use Rattle.ma_cells.specs.declared.cell.Cell.TheVariants.{Point, Seg, Tri}

abbrev pub corners_of : Cell → List Coordinates
corners_of (Point p) = p ∷ []
corners_of (Seg s) = s
corners_of (Tri t) = t

-- whether a segment has two corners and a triangle three, each below the next
abbrev pub is_cell : Cell → Bool
is_cell (Point p) = true
is_cell (Seg s) = (length s == 2) && are_ascending place_cmp s
is_cell (Tri t) = (length t == 3) && are_ascending place_cmp t

-- the cell with these corners in this order, if they are one to three
abbrev pub cell_on : List Coordinates → Option Cell
cell_on (a ∷ []) = Some (Point a)
cell_on (a ∷ b ∷ []) = Some (Seg (a ∷ b ∷ []))
cell_on (a ∷ b ∷ c ∷ []) = Some (Tri (a ∷ b ∷ c ∷ []))
cell_on _ = None

-- the cell with these corners, given in any order, if they are one to three and no two are equal
abbrev pub cell_of : List Coordinates → Option Cell
cell_of places = if are_distinct place_cmp places then cell_on (ascending_of place_cmp places) else None

-- points, then segments, then triangles, each by corners
abbrev pub cell_cmp : Cell → Cell → Ordering
cell_cmp (Point p) (Point q) = place_cmp p q
cell_cmp (Point p) (Seg t) = Less
cell_cmp (Point p) (Tri t) = Less
cell_cmp (Seg s) (Point q) = Greater
cell_cmp (Seg s) (Seg t) = slice_cmp place_cmp s t
cell_cmp (Seg s) (Tri t) = Less
cell_cmp (Tri s) (Point q) = Greater
cell_cmp (Tri s) (Seg t) = Greater
cell_cmp (Tri s) (Tri t) = slice_cmp place_cmp s t

-- a cell with a tag (phys, elem)
pub record CellMark : Type 0 where
  pub cell : Cell
  pub phys : ℤ
  pub elem : ℤ

-- the mark with this tag on the cell with these corners, if they are one to three and no two are equal
abbrev pub mark_on : List Coordinates → ℤ → ℤ → Option CellMark
mark_on corners phys elem = option_map (λ cell. record { cell = cell; phys = phys; elem = elem }) (cell_of corners)

-- by cell, then phys, then elem
abbrev pub mark_cmp : CellMark → CellMark → Ordering
mark_cmp m n = ordering_then (cell_cmp m.cell n.cell) (ordering_then (int_cmp m.phys n.phys) (int_cmp m.elem n.elem))

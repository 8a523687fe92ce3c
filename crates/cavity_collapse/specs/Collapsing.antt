-- What a collapse of a vertex a to v leaves: v is put in the place of a, and a cell that holds both falls away.
use Rattle.std.specs.Prelude.{Bool, List, [], ◌∷◌, map, if◌then◌else◌}
use Rattle.std.specs.List.{flat_map}
use Rattle.std.specs.Option.{option_to_list}
use Rattle.std.specs.Ordering.{eq_by_cmp}
use Rattle.ma_geom.specs.Coordinates.{Coordinates, place_cmp}
use Rattle.ma_cells.specs.Ascending.{ascending_of}
use Rattle.ma_cells.specs.Cells.{CellMark, corners_of, mark_cmp, mark_on}
use Rattle.ma_cells.specs.Stars.{besides, cone}
use Rattle.ma_cells.specs.Tetrahedron.{Tetrahedron, tet_cmp}

abbrev pub is_same : Coordinates → Coordinates → Bool
is_same p q = eq_by_cmp place_cmp p q

-- what fills the star of a: the tetrahedra from v over the faces across from a
abbrev pub collapsed : (a v : Coordinates) → List Tetrahedron → List Tetrahedron
collapsed a v star = ascending_of tet_cmp (flat_map (λ tet. cone v tet.phys tet.elem (besides (a ∷ []) tet.corners)) star)

-- v in the place of a, in the order of the list
abbrev pub moved_corners : (a v : Coordinates) → List Coordinates → List Coordinates
moved_corners a v corners = map (λ p. if is_same p a then v else p) corners

-- a mark with v in the place of a: nothing if it holds both, and the mark as it is without a
abbrev pub moved_mark : (a v : Coordinates) → CellMark → List CellMark
moved_mark a v mark = option_to_list (mark_on (moved_corners a v (corners_of mark.cell)) mark.phys mark.elem)

abbrev pub moved_marks : (a v : Coordinates) → List CellMark → List CellMark
moved_marks a v marks = ascending_of mark_cmp (flat_map (moved_mark a v) marks)

use Rattle.std.proofs.Common.{ap, ◌∙◌}
use Rattle.ma_cells.specs.Ascending.{has}
use Rattle.ma_cells.specs.Cells.{cell_cmp, corners_of}
use Rattle.ma_cells.specs.Faces.{holds_all}
use Rattle.ma_cells.specs.Tetrahedron.{Tetrahedron}
use Rattle.ma_cells.proofs.Corners.{corners_rise}
use Rattle.ma_cells.proofs.CellLists.{has-cells_of}
use Rattle.ma_cells.proofs.tet.Tet.cells.Goals as goal

pub returns-clause-has : goal.returns-clause-has
returns-clause-has c cell h =
    ap (has cell_cmp cell) c.cells.ensures ∙ has-cells_of c.self.inside.corners (corners_rise c.self.inside.corners c.self.invariant) cell h ∙ ap (λ (t : Tetrahedron). holds_all t.corners (corners_of cell)) c.self.view_is

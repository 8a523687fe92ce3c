-- Marks of a vertex a that goes to v.
use Rattle.std.specs.Prelude.{◌≡◌, Bool, true, not, List, [], ◌∷◌}
use Rattle.std.specs.List.{list_all}
use Rattle.ma_geom.specs.Coordinates.{Coordinates}
use Rattle.ma_geom.specs.Lines.{collinear}
use Rattle.ma_cells.specs.Ascending.{are_distinct}
use Rattle.ma_cells.specs.Cells.{CellMark, is_cell, mark_cmp}
use Rattle.ma_cells.specs.Stars.{marks_at}
use Rattle.ma_cells.specs.declared.cell.Cell.{Cell}
use Rattle.ma_cells.specs.declared.cell.Cell.TheVariants.{Tri}
use Rattle.ma_cover.specs.Classification.{KeepsClassification}
use Rattle.cavity_collapse.specs.Collapsing.{moved_marks}
use Rattle.cavity_collapse.specs.Curves.{curves_are_kept, is_free_point}
use Rattle.cavity_collapse.specs.Surfaces.{planes_are_kept, surfaces_are_kept, turns_are_kept}

-- whether these are no three places on one line
abbrev pub is_bent : List Coordinates → Bool
is_bent (p ∷ q ∷ r ∷ []) = not (collinear p q r)
is_bent _ = true

abbrev pub is_bent_cell : Cell → Bool
is_bent_cell (Tri t) = is_bent t
is_bent_cell _ = true

-- that marks let a go to v: they are different marks, none of their triangles lies on a line, and the tests of a collapse that look at marks pass
pub record MarksAllow (a v : Coordinates) (marks : List CellMark) : Type 0 where
  pub distinct : are_distinct mark_cmp marks ≡ true
  pub bent : list_all (λ m. is_bent_cell m.cell) marks ≡ true
  pub points : is_free_point marks a ≡ true
  pub curves : curves_are_kept marks a v ≡ true
  pub planes : planes_are_kept marks a v ≡ true
  pub surfaces : surfaces_are_kept marks a v ≡ true
  pub turns : turns_are_kept marks a v ≡ true

-- where the marks at a let it go to v, the moved marks classify each point as the marks do
abbrev pub MovedMarksKeepClassification : Type 0
MovedMarksKeepClassification = (a v : Coordinates) (marks : List CellMark) → list_all (λ m. is_cell m.cell) marks ≡ true → MarksAllow a v (marks_at (a ∷ []) marks)
    → KeepsClassification marks (moved_marks a v marks)

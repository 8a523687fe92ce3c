-- The tests of curves and surfaces, as the code asks them.
use Rattle.std.proofs.Common.{◌≡◌, List}
use Rattle.std.specs.List.{list_all}
use Rattle.ma_geom.specs.Coordinates.{Coordinates}
use Rattle.ma_cells.specs.Cells.{CellMark}
use Rattle.cavity_collapse.specs.Curves.{curve_ends, run_straight}
use Rattle.cavity_collapse.specs.Steps.{curve_goes_straight, surface_goes_on, turn_is_kept}
use Rattle.cavity_collapse.specs.Surfaces.{surfaces_are_kept, turns_are_kept}
use Rattle.cavity_collapse.proofs.Listed.{all_kept, all_listed, all_option, any_kept, any_listed}

pub curve_by_steps : (marks : List CellMark) (a v : Coordinates) (m : CellMark) → curve_goes_straight marks a v m ≡ run_straight a v (curve_ends marks a m)
curve_by_steps marks a v m = simp (any_listed, all_listed)

pub surfaces_by_steps : (marks : List CellMark) (a v : Coordinates) → list_all (surface_goes_on marks a v) marks ≡ surfaces_are_kept marks a v
surfaces_by_steps marks a v = simp (any_kept, all_kept, any_listed, all_listed, all_option)

pub turns_by_steps : (marks : List CellMark) (a v : Coordinates) → list_all (turn_is_kept a v) marks ≡ turns_are_kept marks a v
turns_by_steps marks a v = simp all_option

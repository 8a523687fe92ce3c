-- A part of a mesh that is replaced, whatever the rest is.
use Rattle.std.specs.Prelude.{ℤ, ◌≡◌, true, List, ◌++◌}
use Rattle.std.specs.List.{AllByRecursion}
use Rattle.ma_geom.specs.Coordinates.{Coordinates}
use Rattle.ma_cells.specs.Cells.{CellMark}
use Rattle.ma_cells.specs.Incidence.{is_on}
use Rattle.ma_cells.specs.Meshes.{corner_sets}
use Rattle.ma_cells.specs.Tetrahedron.{Tetrahedron, are_tetrahedra}
use Rattle.ma_cover.specs.Sound.{IsSound}
use Rattle.mesh_laws.specs.Covers.{CoverTheSame}
use Rattle.mesh_laws.specs.Parity.{AreSameOddly, region_faces}
use Rattle.mesh_laws.specs.Points.{NoneIsFlat}
use Rattle.cavity_laws.specs.Cavity.{cones}
use Rattle.cavity_laws.specs.Filled.{AreReordered}
use Rattle.cavity_laws.specs.Swap.{IsSwappable, is_between}

-- that a filling can stand in the place of a cavity: none of it is flat; region by region it covers the same and has the same faces an odd number of times;
-- and each marked cell of the cavity is a cell of it
pub record CanReplace (cavity filling : List Tetrahedron) (marks : List CellMark) : Type 0 where
  pub solid : NoneIsFlat filling
  pub cover : CoverTheSame cavity filling
  pub faces : (phys elem : ℤ) → AreSameOddly (region_faces phys elem filling) (region_faces phys elem cavity)
  pub cells : AllByRecursion (λ mark. is_on cavity mark.cell ≡ true → is_on filling mark.cell ≡ true) marks

-- then a sound mesh stays sound and covers the same, whatever the rest is
abbrev pub ReplacedStaysSound : Type 0
ReplacedStaysSound = (cavity filling rest : List Tetrahedron) (marks : List CellMark) → IsSound (rest ++ cavity) marks → NoneIsFlat (rest ++ cavity) → CanReplace cavity filling marks
    → IsSound (rest ++ filling) marks × CoverTheSame (rest ++ cavity) (rest ++ filling)

-- that tetrahedra are of the region (phys, elem)
abbrev pub AreOfRegion : (phys elem : ℤ) → List Tetrahedron → Type 0
AreOfRegion phys elem tets = AllByRecursion (λ tet. (tet.phys ≡ phys) × (tet.elem ≡ elem)) tets

-- in one region what a swap makes can stand in the place of what it takes, if it has the marked cells of that
abbrev pub SwapCanReplace : Type 0
SwapCanReplace = (v : Coordinates) (phys elem : ℤ) (cavity filling : List Tetrahedron) (marks : List CellMark) → AreOfRegion phys elem cavity → AreOfRegion phys elem filling
    → are_tetrahedra cavity ≡ true → are_tetrahedra filling ≡ true → IsSwappable v (corner_sets cavity) → AreReordered (cones v (is_between (corner_sets cavity)) (corner_sets cavity)) (corner_sets filling)
    → AllByRecursion (λ mark. is_on cavity mark.cell ≡ true → is_on filling mark.cell ≡ true) marks → CanReplace cavity filling marks

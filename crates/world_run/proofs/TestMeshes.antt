-- Meshes of which the tests are made: on the grid of 4, with two tetrahedra in ascending order.
use Rattle.std.proofs.Common.{◌≡◌, true, false, List, [], ◌∷◌, None, Some, refl}
use Rattle.std.specs.Prelude.{ℤ, pos, IfOk, if◌then◌else◌}
use Rattle.std.specs.declared.cmp.Ordering.TheVariants.{Less}
use Rattle.std.specs.Cmp.Lexicographic.{slice_cmp}
use Rattle.std.specs.List.{list_all}
use Rattle.std.specs.Option.{ok_or}
use Rattle.ma_geom.specs.Coordinates.{Coordinates, place_cmp}
use Rattle.ma_cells.specs.Ascending.{ascending_of}
use Rattle.ma_cells.specs.Grid.{is_multiple, is_on_grid}
use Rattle.ma_cells.specs.Meshes.{are_listed_once}
use Rattle.ma_cells.specs.Tetrahedron.{Tetrahedron, is_flat, tetrahedron_of}
use Rattle.ma_cells.proofs.Passing.{all_pass, test_all}
use Rattle.ma_cells.proofs.SetItems.{all-ascending_of}

pub near_side : is_multiple 2 (pos 0) ≡ true
unfolding is_multiple
near_side = refl

pub far_side : is_multiple 2 (pos 4) ≡ true
unfolding is_multiple
far_side = refl

pub origin_on_grid : is_on_grid 2 (record { x = pos 0; y = pos 0; z = pos 0 }) ≡ true
unfolding is_multiple
origin_on_grid = refl

-- a tetrahedron is on the grid on which its corners are
pub tet_on_grid : {E : Type 0} (corners : List Coordinates) (phys elem : ℤ) (fault : E) → list_all (is_on_grid 2) corners ≡ true → IfOk (ok_or (tetrahedron_of corners phys elem) fault) (λ tet. list_all (is_on_grid 2) tet.corners ≡ true)
tet_on_grid {E} corners phys elem fault on =
    let sorted = ascending_of place_cmp corners in
    let test = is_on_grid 2 in
    let all : list_all test sorted ≡ true = test_all test sorted (all-ascending_of place_cmp (λ place. test place ≡ true) corners (all_pass test corners on)) in
    elim (is_flat sorted) as (λ b. IfOk {T = Tetrahedron} {E = E} (ok_or (if b then None else Some (record { corners = sorted; phys = phys; elem = elem })) fault) (λ tet. list_all test tet.corners ≡ true)) [
      | true ↦ tt
      | false ↦ all
    ]

pub listed_once : (t u : Tetrahedron) → slice_cmp place_cmp t.corners u.corners ≡ Less → are_listed_once (t ∷ u ∷ []) ≡ true
listed_once t u below = rw below refl

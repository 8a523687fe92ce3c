-- What is left of tetrahedra, and what fills a cavity that is a set.
use Rattle.std.proofs.Common.{◌≡◌, Bool, true, false, cond, not, if◌then◌else◌, List, [], ◌∷◌, ◌++◌, map, filter, refl, sym, ap}
use Rattle.std.specs.List.Sorted.{IsStrictlySortedBy}
use Rattle.ma_cells.specs.Ascending.{ascending_of}
use Rattle.ma_cells.specs.Tetrahedron.{Tetrahedron, tet_cmp}
use Rattle.ma_cells.proofs.Ascents.{is-ascending_of}
use Rattle.ma_cells.proofs.CellOrders.{tet_cmp-IsAntisymmetric, tet_cmp_total}
use Rattle.mesh_passes.specs.Taking.{left_by}

pub left_is : (f : Tetrahedron → Bool) (tets : List Tetrahedron) → left_by (map f tets) tets ≡ filter (λ tet. not (f tet)) tets
left_is f [] = refl
left_is f (tet ∷ tets) =
    elim (f tet) as (λ b. (if b then [] else tet ∷ []) ++ left_by (map f tets) tets ≡ cond (not b) (tet ∷ filter (λ t. not (f t)) tets) (filter (λ t. not (f t)) tets)) [
      | true ↦ left_is f tets
      | false ↦ ap (λ rest. tet ∷ rest) (left_is f tets)
    ]

-- what ascends is its own set
pub set_is : (star : List Tetrahedron) → IsStrictlySortedBy tet_cmp star → ascending_of tet_cmp star ≡ star
set_is star rises = sym (is-ascending_of tet_cmp_total tet_cmp-IsAntisymmetric star star rises (λ q. refl))

-- Changes all at once are the same in whatever order they are listed.
use Rattle.std.proofs.Common.{◌≡◌, not, ◌&&◌, ◌||◌, List, [], ◌∷◌, ◌++◌, refl, sym, ap, ◌∙◌}
use Rattle.std.specs.List.{flat_map, list_any}
use Rattle.std.specs.List.Sorted.{IsPermutation}
use Rattle.std.proofs.lemmas.List.Sorted.{list_any-IsPermutation}
use Rattle.std.specs.Ordering.{eq_by_cmp}
use Rattle.std.proofs.lemmas.List.Folds.{list_any-append}
use Rattle.ma_cells.specs.Ascending.{ascending_of, has}
use Rattle.ma_cells.specs.Tetrahedron.{Tetrahedron, tet_cmp}
use Rattle.ma_cells.proofs.Ascents.{has-ascending_of, is-ascending_of, sorted-ascending_of}
use Rattle.ma_cells.proofs.CellOrders.{tet_cmp-IsAntisymmetric, tet_cmp_total}
use Rattle.pass_rules.specs.Changes.{AnyOrderIsAtOnce, Change, changed_at_once, without}
use Rattle.pass_rules.proofs.AtOnce.{has-without, in_turn}

has-flat_map : (f : Change Tetrahedron → List Tetrahedron) (q : Tetrahedron) (cs : List (Change Tetrahedron)) → has tet_cmp q (flat_map f cs) ≡ list_any (λ c. has tet_cmp q (f c)) cs
has-flat_map f q [] = refl
has-flat_map f q (c ∷ cs) = list_any-append (eq_by_cmp tet_cmp q) (f c) (flat_map f cs) ∙ ap (λ b. has tet_cmp q (f c) || b) (has-flat_map f q cs)

moved : (f : Change Tetrahedron → List Tetrahedron) (q : Tetrahedron) (cs ds : List (Change Tetrahedron)) → IsPermutation cs ds → has tet_cmp q (flat_map f cs) ≡ has tet_cmp q (flat_map f ds)
moved f q cs ds p = has-flat_map f q cs ∙ list_any-IsPermutation (λ c. has tet_cmp q (f c)) cs ds p ∙ sym (has-flat_map f q ds)

at_once_moved : (cs ds : List (Change Tetrahedron)) (tets : List Tetrahedron) → IsPermutation cs ds → changed_at_once tet_cmp ds tets ≡ changed_at_once tet_cmp cs tets
at_once_moved cs ds tets p =
    let all : List (Change Tetrahedron) → List Tetrahedron = λ es. without tet_cmp (flat_map (λ c. c.ended) es) tets ++ flat_map (λ c. c.added) es in
    is-ascending_of tet_cmp_total tet_cmp-IsAntisymmetric (ascending_of tet_cmp (all ds)) (all cs) (sorted-ascending_of tet_cmp_total (all ds))
    (λ q. has-ascending_of tet_cmp_total q (all ds)
    ∙ has-without tet_cmp_total tet_cmp-IsAntisymmetric q (flat_map (λ c. c.ended) ds) tets (flat_map (λ c. c.added) ds)
    ∙ ap (λ b. (has tet_cmp q tets && not b) || has tet_cmp q (flat_map (λ c. c.added) ds)) (sym (moved (λ c. c.ended) q cs ds p))
    ∙ ap (λ b. (has tet_cmp q tets && not (has tet_cmp q (flat_map (λ c. c.ended) cs))) || b) (sym (moved (λ c. c.added) q cs ds p))
    ∙ sym (has-without tet_cmp_total tet_cmp-IsAntisymmetric q (flat_map (λ c. c.ended) cs) tets (flat_map (λ c. c.added) cs)))

pub any_order_is_at_once : AnyOrderIsAtOnce
any_order_is_at_once cs ds tets p free = in_turn tet_cmp_total tet_cmp-IsAntisymmetric ds tets free ∙ at_once_moved cs ds tets p

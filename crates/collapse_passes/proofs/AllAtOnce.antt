-- The tetrahedra of a pass: changes at once are what a pass leaves, and no collapse takes what an earlier one adds.
use Rattle.std.proofs.Common.{◌≡◌, Bool, true, false, not, ◌&&◌, ◌||◌, List, [], ◌∷◌, ◌++◌, filter, refl, sym, ap, ap₂, ◌∙◌}
use Rattle.std.specs.Prelude.{map}
use Rattle.std.specs.List.{AllByRecursion, flat_map, list_any}
use Rattle.std.specs.Ordering.{eq_by_cmp}
use Rattle.std.proofs.lemmas.List.Folds.{flat_map-map, list_any-append}
use Rattle.ma_geom.specs.Coordinates.{place_cmp}
use Rattle.ma_cells.specs.Ascending.{ascending_of, has}
use Rattle.ma_cells.specs.Faces.{holds_all}
use Rattle.ma_cells.specs.Stars.{star_of}
use Rattle.ma_cells.specs.Tetrahedron.{Tetrahedron, tet_cmp}
use Rattle.ma_cells.specs.declared.batch.Batch.{Batch}
use Rattle.ma_cells.proofs.Ascents.{has-ascending_of, is-ascending_of, sorted-ascending_of}
use Rattle.ma_cells.proofs.CellOrders.{tet_cmp-IsAntisymmetric, tet_cmp_total}
use Rattle.ma_cells.proofs.Members.{all-at, has-filter}
use Rattle.ma_cells.proofs.Passing.{all-map, all_weaker}
use Rattle.mesh_laws.proofs.Lists.{all_items}
use Rattle.cavity_rank.specs.Operations.{Operation}
use Rattle.cavity_collapse.specs.Collapsing.{collapsed}
use Rattle.pass_rules.specs.Changes.{AreFree, Change, changed_at_once, without}
use Rattle.pass_rules.specs.Choosing.{is_in, is_taken}
use Rattle.pass_rules.specs.Passes.{applied, change_of, filling}
use Rattle.pass_rules.proofs.AtOnce.{has-without}
use Rattle.collapse_passes.proofs.Each.{any-flat_map, any_alike, transposed}
use Rattle.collapse_passes.proofs.Removals.{HasOne, Removal, operation}
use Rattle.collapse_passes.proofs.Standing.{AllHaveOne, new_lack}
use Rattle.collapse_passes.proofs.Turns.{AreClear}

taken : (h : Bool) (ops : List Operation) (q : Tetrahedron) → (h && not (list_any (λ op. h && is_in op q) ops)) ≡ (h && not (list_any (λ op. is_in op q) ops))
taken true ops q = refl
taken false ops q = refl

-- the changes of some operations, all at once, leave the tetrahedra that the operations do
pub changes_are_applied : (ops : List Operation) (mesh : Batch) → changed_at_once tet_cmp (map (change_of mesh.tets) ops) mesh.tets ≡ (applied ops mesh).tets
changes_are_applied ops mesh =
    is-ascending_of tet_cmp_total tet_cmp-IsAntisymmetric (ascending_of tet_cmp (without tet_cmp ended tets ++ added)) (filter (λ tet. not (is_taken ops tet)) tets ++ fillings)
    (sorted-ascending_of tet_cmp_total (without tet_cmp ended tets ++ added))
    (λ q. has-ascending_of tet_cmp_total q (without tet_cmp ended tets ++ added)
    ∙ has-without tet_cmp_total tet_cmp-IsAntisymmetric q ended tets added
    ∙ ap₂ (λ b l. (has tet_cmp q tets && not b) || has tet_cmp q l) (ends q) (flat_map-map (λ (c : Change Tetrahedron). c.added) (change_of tets) ops)
    ∙ ap (λ b. b || has tet_cmp q fillings) (taken (has tet_cmp q tets) ops q ∙ sym (has-filter tet_cmp-IsAntisymmetric (λ tet. not (is_taken ops tet)) q tets))
    ∙ sym (list_any-append (eq_by_cmp tet_cmp q) (filter (λ tet. not (is_taken ops tet)) tets) fillings))
  where
    tets : List Tetrahedron
    tets = mesh.tets

    ended : List Tetrahedron
    ended = flat_map (λ (c : Change Tetrahedron). c.ended) (map (change_of mesh.tets) ops)

    added : List Tetrahedron
    added = flat_map (λ (c : Change Tetrahedron). c.added) (map (change_of mesh.tets) ops)

    fillings : List Tetrahedron
    fillings = flat_map (filling mesh.tets) ops

    ends : (q : Tetrahedron) → has tet_cmp q (flat_map (λ (c : Change Tetrahedron). c.ended) (map (change_of mesh.tets) ops)) ≡ list_any (λ op. has tet_cmp q mesh.tets && is_in op q) ops
    ends q =
        ap (has tet_cmp q) (flat_map-map (λ (c : Change Tetrahedron). c.ended) (change_of mesh.tets) ops)
        ∙ any-flat_map (eq_by_cmp tet_cmp q) (λ (op : Operation). star_of op.at mesh.tets) ops
        ∙ any_alike (λ (op : Operation). has tet_cmp q (star_of op.at mesh.tets)) (λ op. has tet_cmp q mesh.tets && is_in op q) ops
        (all_items (λ (op : Operation). has tet_cmp q (star_of op.at mesh.tets) ≡ (has tet_cmp q mesh.tets && is_in op q))
        (λ op. has-filter tet_cmp-IsAntisymmetric (λ (tet : Tetrahedron). holds_all tet.corners op.at) q mesh.tets) ops)

and_none : (a b : Bool) → b ≡ false → (a && (b && true)) ≡ false
and_none true b e = ap (λ c. c && true) e
and_none false b e = refl

-- no collapse takes what an earlier one adds
pub are_free : (tets : List Tetrahedron) (cs : List Removal) → AreClear cs → AllHaveOne cs tets → AreFree tet_cmp (map (change_of tets) (map operation cs))
are_free tets [] clear one = tt
are_free tets (c ∷ cs) clear one = (
  all-map (λ (op : Operation). IsFreeOf (change_of tets op)) IsFreeOf (change_of tets) (λ op h. h) (map operation cs)
      (all-map (λ (d : Removal). AllByRecursion (λ (tet : Tetrahedron). has place_cmp d.at tet.corners ≡ false) new) (λ (op : Operation). IsFreeOf (change_of tets op)) operation each cs
      (transposed (λ (tet : Tetrahedron) d. has place_cmp d.at tet.corners ≡ false) new cs (new_lack c cs clear.0 tets one))),
  are_free tets cs clear.1 (all_weaker (λ (tet : Tetrahedron). HasOne (c ∷ cs) tet.corners) (λ tet. HasOne cs tet.corners) (λ tet h. h.1) tets one),
)
  where
    new : List Tetrahedron
    new = collapsed c.at c.apex (star_of (c.at ∷ []) tets)

    IsFreeOf : Change Tetrahedron → Type 0
    IsFreeOf d = (q : Tetrahedron) → has tet_cmp q (collapsed c.at c.apex (star_of (c.at ∷ []) tets)) ≡ true → has tet_cmp q d.ended ≡ false

    each : (d : Removal) → AllByRecursion (λ (tet : Tetrahedron). has place_cmp d.at tet.corners ≡ false) new → IsFreeOf (change_of tets (operation d))
    each d none q there =
        has-filter tet_cmp-IsAntisymmetric (λ (tet : Tetrahedron). holds_all tet.corners (d.at ∷ [])) q tets
        ∙ and_none (has tet_cmp q tets) (has place_cmp d.at q.corners) (all-at tet_cmp-IsAntisymmetric (λ (tet : Tetrahedron). has place_cmp d.at tet.corners ≡ false) q new none there)

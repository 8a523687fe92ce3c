-- Chosen swaps one after the other, in any order, are all at once.
use Rattle.std.proofs.Common.{◌≡◌, true, false, not, ◌&&◌, ◌||◌, List, [], ◌∷◌, ◌++◌, filter, refl, sym, ap, ap₂, subst, ◌∙◌}
use Rattle.std.specs.Prelude.{map}
use Rattle.std.specs.declared.cmp.Ordering.{Ordering}
use Rattle.std.specs.FinMap.{IsAntisymmetric}
use Rattle.std.specs.List.{AllByRecursion, flat_map}
use Rattle.std.specs.Ordering.{eq_by_cmp}
use Rattle.std.proofs.lemmas.Bool.{and_parts, false≢true, false_from_ne_true, or_parts}
use Rattle.std.proofs.lemmas.List.Folds.{flat_map-map, list_any-append}
use Rattle.std.proofs.lemmas.List.Sorted.{IsPermutation-map}
use Rattle.ma_cells.specs.Ascending.{are_distinct, ascending_of, has}
use Rattle.ma_cells.specs.Cells.{mark_cmp}
use Rattle.ma_cells.specs.Stars.{star_of}
use Rattle.ma_cells.specs.Tetrahedron.{Tetrahedron, tet_cmp}
use Rattle.ma_cells.specs.declared.batch.Batch.{Batch}
use Rattle.ma_cells.proofs.CellOrders.{tet_cmp-IsAntisymmetric, tet_cmp_total}
use Rattle.ma_cells.proofs.Members.{has-filter, tied_is}
use Rattle.ma_cells.proofs.Passing.{all-map, all-permutation}
use Rattle.ma_cells.proofs.Permutations.{alone, listed_once-distinct}
use Rattle.mesh_laws.specs.Adapted.{IsSoundMesh}
use Rattle.mesh_laws.proofs.BothSides.{Pairs}
use Rattle.mesh_laws.proofs.Sounds.{conforming_is_listed_once, tetrahedra_not_flat}
use Rattle.cavity_rank.specs.Operations.{Operation}
use Rattle.cavity_rank.specs.declared.verdict.Kind.TheVariants.{Swap}
use Rattle.cavity_swap.specs.Swapping.{swapped}
use Rattle.pass_rules.specs.Changes.{AreFree, Change, changed_at_once, without}
use Rattle.pass_rules.specs.Choosing.{is_in, is_taken}
use Rattle.pass_rules.specs.Passes.{applied, change_of, chosen, filling, made_in_turn, passed}
use Rattle.pass_rules.proofs.AnyOrder.{any_order_is_at_once}
use Rattle.swap_laws.specs.Swaps.{swapped_mesh}
use Rattle.swap_laws.proofs.Adapts.{legal_swap_adapts}
use Rattle.swap_passes.specs.SwapPasses.{SwapsGoInAnyOrder}
use Rattle.swap_passes.proofs.Adapts.{filled_by_swap}
use Rattle.swap_passes.proofs.Cavities.{all_from_members, cavities, filter-alike, left_by}
use Rattle.swap_passes.proofs.Chosen.{AreApart, IsLegalSwap, apart_in_any_order, chosen_are_apart, chosen_are_legal}
use Rattle.swap_passes.proofs.Marks.{all_unchanged, already_ascending, unchanged_in_turn}

-- of distinct items none is in two parts of the list
distinct_parts : {K : Type 0} {R : K → K → Ordering} → IsAntisymmetric R → (q : K) (xs ys : List K) → are_distinct R (xs ++ ys) ≡ true → has R q xs ≡ true → has R q ys ≡ false
distinct_parts exact q [] ys distinct there = absurd (false≢true there)
distinct_parts {R = R} exact q (x ∷ xs) ys distinct there =
    let first = alone (has R x (xs ++ ys)) (are_distinct R (xs ++ ys)) distinct in
    elim (eq_by_cmp R q x) as (λ b. eq_by_cmp R q x ≡ b → (b || has R q xs) ≡ true → has R q ys ≡ false) [
      | true ↦ λ e _. (or_parts (has R q xs) (has R q ys) (sym (list_any-append (eq_by_cmp R q) xs ys) ∙ subst (λ p. has R p (xs ++ ys) ≡ false) (sym (tied_is exact q x e)) first.0)).1
      | false ↦ λ _ later. distinct_parts exact q xs ys first.1 later
    ] refl there

-- ---- what a swap adds is in no cavity of a swap that is apart
module _ (mesh : Batch) (sound : IsSoundMesh mesh) where
  once_after : (op : Operation) → IsLegalSwap mesh op → are_distinct tet_cmp (swapped_mesh op.at op.apex mesh).tets ≡ true
  once_after op is =
      let after = legal_swap_adapts mesh op.at op.apex op.worst sound is.spot.rise is.spot.long is.legal in
      let tets = (swapped_mesh op.at op.apex mesh).tets in
      listed_once-distinct tets (conforming_is_listed_once tets mesh.marks after.sound.sound.conforming (tetrahedra_not_flat tets after.sound.tetrahedra))

  free_of : (op other : Operation) → IsLegalSwap mesh op → AreApart mesh.tets op other → (q : Tetrahedron) → has tet_cmp q (filling mesh.tets op) ≡ true → has tet_cmp q (star_of other.at mesh.tets) ≡ false
  free_of op other is apart q added =
      false_from_ne_true (has tet_cmp q (star_of other.at mesh.tets)) (λ ended.
      let both = and_parts (has tet_cmp q mesh.tets) (is_in other q) (sym (has-filter tet_cmp-IsAntisymmetric (is_in other) q mesh.tets) ∙ ended) in
      let outside = false_from_ne_true (is_in op q) (λ inside. false≢true (sym (apart q both.0 inside) ∙ both.1)) in
      let rest = filter (λ tet. not (is_in op tet)) mesh.tets in
      let stays : has tet_cmp q rest ≡ true = has-filter tet_cmp-IsAntisymmetric (λ tet. not (is_in op tet)) q mesh.tets ∙ ap₂ (λ s t. s && not t) both.0 outside in
      let new : has tet_cmp q (swapped op.apex (star_of op.at mesh.tets)) ≡ true = ap (has tet_cmp q) (sym (filled_by_swap op.at op.apex (star_of op.at mesh.tets) is.spot.long)) ∙ added in
      false≢true (sym (distinct_parts tet_cmp-IsAntisymmetric q rest (swapped op.apex (star_of op.at mesh.tets)) (once_after op is) stays) ∙ new))

  are_free : (ops : List Operation) → AllByRecursion (IsLegalSwap mesh) ops → Pairs (AreApart mesh.tets) ops → AreFree tet_cmp (map (change_of mesh.tets) ops)
  are_free [] legal apart = tt
  are_free (op ∷ ops) legal apart = (
    all-map (AreApart mesh.tets op) (λ (d : Change Tetrahedron). (q : Tetrahedron) → has tet_cmp q (filling mesh.tets op) ≡ true → has tet_cmp q d.ended ≡ false) (change_of mesh.tets)
        (λ other is_apart q added. free_of op other legal.0 is_apart q added) ops apart.0,
    are_free ops legal.1 apart.1,
  )

-- ---- changes all at once are what a pass makes
has-cavities : (tets : List Tetrahedron) (q : Tetrahedron) → has tet_cmp q tets ≡ true → (ops : List Operation) → has tet_cmp q (cavities tets ops) ≡ is_taken ops q
has-cavities tets q there [] = refl
has-cavities tets q there (op ∷ ops) =
    list_any-append (eq_by_cmp tet_cmp q) (star_of op.at tets) (cavities tets ops)
    ∙ ap₂ (λ s t. s || t) (has-filter tet_cmp-IsAntisymmetric (is_in op) q tets ∙ ap (λ b. b && is_in op q) there) (has-cavities tets q there ops)

at_once_is : (mesh : Batch) (ops : List Operation) → changed_at_once tet_cmp (map (change_of mesh.tets) ops) mesh.tets ≡ (applied ops mesh).tets
at_once_is mesh ops =
    let kept : without tet_cmp (flat_map (λ c. c.ended) (map (change_of mesh.tets) ops)) mesh.tets ≡ left_by mesh.tets ops
    = ap (λ l. without tet_cmp l mesh.tets) (flat_map-map (λ (c : Change Tetrahedron). c.ended) (change_of mesh.tets) ops)
    ∙ filter-alike (λ tet. not (has tet_cmp tet (cavities mesh.tets ops))) (λ tet. not (is_taken ops tet)) mesh.tets
    (all_from_members tet_cmp_total (λ tet. not (has tet_cmp tet (cavities mesh.tets ops)) ≡ not (is_taken ops tet)) mesh.tets (λ q there. ap not (has-cavities mesh.tets q there ops))) in
    ap (ascending_of tet_cmp) (ap₂ (λ k l. k ++ l) kept (flat_map-map (λ (c : Change Tetrahedron). c.added) (change_of mesh.tets) ops))

pub swaps_go_in_any_order : SwapsGoInAnyOrder
swaps_go_in_any_order field mesh ops sound rise moved =
    let all = chosen Swap field mesh in
    let legal = chosen_are_legal field mesh sound.tetrahedra in
    let legal_ops = all-permutation (IsLegalSwap mesh) all ops moved legal in
    let apart_ops = apart_in_any_order mesh.tets all ops moved (chosen_are_apart Swap field mesh) in
    let tets : (made_in_turn ops mesh).tets ≡ (passed Swap field mesh).tets
    = any_order_is_at_once (map (change_of mesh.tets) all) (map (change_of mesh.tets) ops) mesh.tets (IsPermutation-map (change_of mesh.tets) all ops moved) (are_free mesh sound ops legal_ops apart_ops)
    ∙ at_once_is mesh all in
    let marks : (made_in_turn ops mesh).marks ≡ (passed Swap field mesh).marks
    = unchanged_in_turn mesh ops legal_ops mesh.marks rise ∙ sym (ap (ascending_of mark_cmp) (all_unchanged mesh all legal mesh.marks) ∙ already_ascending mesh.marks rise) in
    λ i. record { tets = tets i; marks = marks i }

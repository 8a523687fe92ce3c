-- A pass of swaps keeps all.
use Rattle.std.proofs.Common.{◌≡◌, ◌≤◌, true, false, cond, not, ◌&&◌, ◌==◌, List, [], ◌∷◌, ◌++◌, length, refl, sym, subst, arith}
use Rattle.std.specs.List.{AllByRecursion, flat_map}
use Rattle.std.specs.Ordering.{int_eq}
use Rattle.std.proofs.lemmas.List.Sorted.{IsPermutation-sym}
use Rattle.ma_geom.specs.Coordinates.{Coordinates}
use Rattle.ma_cells.specs.Ascending.{ascending_of}
use Rattle.ma_cells.specs.Cells.{CellMark, corners_of, is_cell, mark_cmp}
use Rattle.ma_cells.specs.Stars.{star_of}
use Rattle.ma_cells.specs.Tetrahedron.{Tetrahedron, are_corners, are_tetrahedra, is_flat, tet_cmp}
use Rattle.ma_cells.specs.declared.batch.Batch.{Batch}
use Rattle.ma_cells.proofs.CellOrders.{mark_cmp-IsAntisymmetric}
use Rattle.ma_cells.proofs.Choices.{all-append}
use Rattle.ma_cells.proofs.Passing.{all-filter, all-flat_map, all-permutation, all_pass, all_weaker, test_all}
use Rattle.ma_cells.proofs.Permutations.{listed_once-permutes}
use Rattle.ma_cells.proofs.SetItems.{all-ascending_of}
use Rattle.ma_cover.specs.Classification.{AnyByRecursion, IsOnCell, KeepsClassification, dimension}
use Rattle.ma_cover.proofs.Anys.{any-ascending_of, any-flat_map}
use Rattle.ma_cover.proofs.SoundOrder.{sound_in_any_order}
use Rattle.mesh_laws.specs.Adapted.{IsAdapted, IsSoundMesh}
use Rattle.mesh_laws.proofs.BothSides.{Pairs}
use Rattle.mesh_laws.proofs.Sounds.{conforming_is_listed_once, sound_as_sets, tetrahedra_not_flat}
use Rattle.cavity_laws.specs.Replaced.{CanReplace}
use Rattle.cavity_rank.specs.Operations.{Operation}
use Rattle.cavity_rank.specs.declared.verdict.Kind.TheVariants.{Swap}
use Rattle.cavity_swap.specs.Swapping.{swapped}
use Rattle.pass_rules.specs.Choosing.{is_taken}
use Rattle.pass_rules.specs.Passes.{applied, chosen, filling, filling_at}
use Rattle.swap_laws.proofs.Adapts.{legal_swap_can_replace}
use Rattle.swap_passes.specs.SwapPasses.{SwapPassAdapts}
use Rattle.swap_passes.proofs.Cavities.{IsKept, cavities, in_parts, left_by, replaced_in_turn, same_in_any_order}
use Rattle.swap_passes.proofs.Chosen.{AreApart, IsLegalSwap, chosen_are_apart, chosen_are_legal}
use Rattle.swap_passes.proofs.Marks.{all_unchanged}

-- marks as a set classify as they do as a list
set_classifies : (marks : List CellMark) → KeepsClassification marks (ascending_of mark_cmp marks)
set_classifies marks d phys elem p point =
    let cells = λ (m : CellMark). cond (dimension m.cell == d && (int_eq m.phys phys && int_eq m.elem elem)) (corners_of m.cell ∷ []) [] in
    let IsOnIt = λ (m : CellMark). AnyByRecursion (IsOnCell p) (cells m) in
    let listed = any-flat_map (IsOnCell p) cells marks in
    let set = any-ascending_of mark_cmp-IsAntisymmetric IsOnIt marks in
    let of_set = any-flat_map (IsOnCell p) cells (ascending_of mark_cmp marks) in
    ((λ h. of_set.1 (set.1 (listed.0 h))), (λ h. listed.1 (set.0 (of_set.0 h))))

-- what fills the cavity of a swap
pub filled_by_swap : (at : List Coordinates) (v : Coordinates) (star : List Tetrahedron) → 2 ≤ length at → filling_at at v star ≡ swapped v star
filled_by_swap [] v star long = refl
filled_by_swap (a ∷ []) v star long = absurd (omega (arith, long))
filled_by_swap (a ∷ b ∷ more) v star long = refl

module _ (mesh : Batch) (sound : IsSoundMesh mesh) where
  -- that what an operation leaves can stand in the place of what it takes
  record CanFill (op : Operation) : Type 0 where
    can : CanReplace (star_of op.at mesh.tets) (filling mesh.tets op) mesh.marks
    proper : are_tetrahedra (filling mesh.tets op) ≡ true

  swap_can_fill : (op : Operation) → IsLegalSwap mesh op → CanFill op
  swap_can_fill op is =
      let both = legal_swap_can_replace mesh op.at op.apex op.worst sound is.spot.rise is.spot.long is.legal in
      let same = sym (filled_by_swap op.at op.apex (star_of op.at mesh.tets) is.spot.long) in
      record { can = subst (λ l. CanReplace (star_of op.at mesh.tets) l mesh.marks) same both.0; proper = subst (λ l. are_tetrahedra l ≡ true) same both.1 }

  -- ---- swaps that are apart, all at once
  module _ (ops : List Operation) (legal : AllByRecursion (IsLegalSwap mesh) ops) (apart : Pairs (AreApart mesh.tets) ops) where
    abbrev now : List Tetrahedron
    now = left_by mesh.tets ops ++ flat_map (filling mesh.tets) ops

    fill : AllByRecursion CanFill ops
    fill = all_weaker (IsLegalSwap mesh) CanFill swap_can_fill ops legal

    proper_now : AllByRecursion (λ tet. are_corners tet.corners ≡ true) now
    proper_now =
        let IsProper = λ (tet : Tetrahedron). are_corners tet.corners ≡ true in
        all-append IsProper (left_by mesh.tets ops) (flat_map (filling mesh.tets) ops)
        (all-filter IsProper (λ tet. not (is_taken ops tet)) mesh.tets (all_pass (λ (tet : Tetrahedron). are_corners tet.corners) mesh.tets sound.tetrahedra))
        (all-flat_map CanFill IsProper (filling mesh.tets) (λ op can. all_pass (λ (tet : Tetrahedron). are_corners tet.corners) (filling mesh.tets op) can.proper) ops fill)

    kept : IsKept (left_by mesh.tets ops ++ cavities mesh.tets ops) now mesh.marks
    kept =
        let parts = in_parts mesh.tets ops apart in
        let all = left_by mesh.tets ops ++ cavities mesh.tets ops in
        replaced_in_turn (λ op. star_of op.at mesh.tets) (filling mesh.tets) mesh.marks ops (left_by mesh.tets ops)
        (all_weaker CanFill (λ op. CanReplace (star_of op.at mesh.tets) (filling mesh.tets op) mesh.marks) (λ op can. can.can) ops fill)
        (sound_in_any_order mesh.tets all mesh.marks parts sound.sound)
        (all-permutation (λ tet. is_flat tet.corners ≡ false) mesh.tets all parts (tetrahedra_not_flat mesh.tets sound.tetrahedra))

    -- and with tetrahedra and marks as sets
    as_sets : IsAdapted mesh (record { tets = ascending_of tet_cmp now; marks = ascending_of mark_cmp mesh.marks })
    as_sets =
        let parts = in_parts mesh.tets ops apart in
        let all = left_by mesh.tets ops ++ cavities mesh.tets ops in
        let once = listed_once-permutes now (conforming_is_listed_once now mesh.marks kept.sound.conforming kept.solid) in record {
          sound = record {
            tetrahedra = test_all (λ (tet : Tetrahedron). are_corners tet.corners) (ascending_of tet_cmp now) (all-ascending_of tet_cmp (λ tet. are_corners tet.corners ≡ true) now proper_now);
            cells = test_all (λ (mark : CellMark). is_cell mark.cell) (ascending_of mark_cmp mesh.marks)
                (all-ascending_of mark_cmp (λ mark. is_cell mark.cell ≡ true) mesh.marks (all_pass (λ (mark : CellMark). is_cell mark.cell) mesh.marks sound.cells));
            sound = sound_as_sets now mesh.marks kept.sound kept.solid;
          };
          cover = same_in_any_order all now mesh.tets (ascending_of tet_cmp now) (IsPermutation-sym mesh.tets all parts) once kept.cover;
          classification = set_classifies mesh.marks;
        }

    pub swaps_adapt : IsAdapted mesh (applied ops mesh)
    swaps_adapt = subst (λ l. IsAdapted mesh (record { tets = ascending_of tet_cmp now; marks = ascending_of mark_cmp l })) (sym (all_unchanged mesh ops legal mesh.marks)) as_sets

pub swap_pass_adapts : SwapPassAdapts
swap_pass_adapts field mesh sound = swaps_adapt mesh sound (chosen Swap field mesh) (chosen_are_legal field mesh sound.tetrahedra) (chosen_are_apart Swap field mesh)

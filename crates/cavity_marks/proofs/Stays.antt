-- The marks of chosen cavities are on cells of what fills them.
use Rattle.std.proofs.Common.{◌≡◌, true, not, [], ◌∷◌, ◌++◌, filter, sym, ap₂, subst, ◌∙◌}
use Rattle.std.specs.List.{AllByRecursion, flat_map, list_all}
use Rattle.std.proofs.lemmas.List.Concat.{flat_map-append}
use Rattle.ma_cells.specs.Cells.{CellMark, is_cell}
use Rattle.ma_cells.specs.Faces.{holds_all}
use Rattle.ma_cells.specs.Incidence.{is_on}
use Rattle.ma_cells.specs.Stars.{star_of}
use Rattle.ma_cells.specs.declared.batch.Batch.{Batch}
use Rattle.ma_cells.proofs.CellOrders.{mark_cmp-IsAntisymmetric}
use Rattle.ma_cells.proofs.Passing.{all-filter, all_pass, all_weaker}
use Rattle.ma_cells.proofs.SetItems.{from-ascending_of}
use Rattle.mesh_laws.specs.Adapted.{IsSoundMesh}
use Rattle.mesh_laws.proofs.Lists.{all_split, all_two}
use Rattle.size_marks.specs.Field.{Field}
use Rattle.cavity_rank.specs.Operations.{Operation}
use Rattle.cavity_rank.specs.declared.verdict.Kind.TheVariants.{Collapse, Swap}
use Rattle.cavity_collapse.specs.Collapsing.{collapsed, moved_mark, moved_marks}
use Rattle.cavity_collapse.specs.Judging.{judged_collapse}
use Rattle.cavity_swap.specs.Swapping.{swapped}
use Rattle.collapse_laws.proofs.Collapses.{legal_collapse_keeps_mesh}
use Rattle.collapse_laws.proofs.Filling.{filter_passes}
use Rattle.pass_rules.specs.Passes.{changed_by, chosen}
use Rattle.swap_laws.proofs.Adapts.{legal_swap_can_replace}
use Rattle.collapse_passes.proofs.Chosen.{IsCollapse, chosen_collapse}
use Rattle.collapse_passes.proofs.Marking.{IsMark}
use Rattle.collapse_passes.proofs.Removals.{Removal, operation, removal}
use Rattle.collapse_passes.proofs.Turns.{IsLegal, all_by_one}
use Rattle.swap_passes.proofs.Adapts.{filled_by_swap}
use Rattle.swap_passes.proofs.Chosen.{IsLegalSwap, chosen_are_legal}
use Rattle.swap_passes.proofs.Marks.{all_unchanged}
use Rattle.cavity_marks.specs.MarksLeft.{MarksStayOnCells, StayOnCells, marks_around}
use Rattle.cavity_marks.proofs.OneStar.{alone, alone_is_sound, none_else, rim, same_marks, star, star_again}

module _ (field : Field) (mesh : Batch) (sound : IsSoundMesh mesh) where
  -- the collapse is as legal in the star alone, and keeps that sound
  collapse_stays : (c : Removal) → IsLegal field mesh c → StayOnCells mesh (operation c)
  collapse_stays c legal =
      let marks = marks_around mesh (operation c) in
      let further = rim c.at mesh sound in
      let only = star c.at mesh sound in
      let judged = ap₂ (λ s m. judged_collapse field s m c.at c.apex) (star_again c.at mesh sound) (same_marks c.at mesh sound) ∙ legal in
      let kept = legal_collapse_keeps_mesh field (alone c.at mesh sound) c.at c.apex c.worst (alone_is_sound c.at mesh sound) judged in
      let now = filter (λ tet. not (holds_all tet.corners (c.at ∷ []))) only ++ collapsed c.at c.apex (star_of (c.at ∷ []) only) in
      let filled : now ≡ collapsed c.at c.apex only = ap₂ (λ k s. k ++ collapsed c.at c.apex s) (none_else c.at mesh sound) (star_again c.at mesh sound) in
      let On = λ (mark : CellMark). is_on (collapsed c.at c.apex only) mark.cell ≡ true in
      let all = all_pass (λ mark. is_on (collapsed c.at c.apex only) mark.cell) (moved_marks c.at c.apex (marks ++ further))
      (subst (λ l. list_all (λ (mark : CellMark). is_on l mark.cell) (moved_marks c.at c.apex (marks ++ further)) ≡ true) filled kept.0.sound.conforming.on_cells) in
      let moved = from-ascending_of mark_cmp-IsAntisymmetric On (flat_map (moved_mark c.at c.apex) (marks ++ further)) all in
      subst (AllByRecursion On)
      (all_by_one c [] marks
      (all_weaker (λ mark. is_cell mark.cell ≡ true) (IsMark []) (λ mark is. record { cell = is; one = tt }) marks (all-filter (λ mark. is_cell mark.cell ≡ true) (λ mark. is_on only mark.cell) mesh.marks (all_pass (λ mark. is_cell mark.cell) mesh.marks sound.cells))))
      (all_split On (flat_map (moved_mark c.at c.apex) marks) (flat_map (moved_mark c.at c.apex) further) (subst (AllByRecursion On) (flat_map-append (moved_mark c.at c.apex) marks further) moved)).0

  -- what a legal swap leaves has the marked cells of what it takes
  swap_stays : (op : Operation) → IsLegalSwap mesh op → StayOnCells mesh op
  swap_stays op is =
      let cavity = star_of op.at mesh.tets in
      let On = λ (mark : CellMark). is_on (swapped op.apex cavity) mark.cell ≡ true in
      let can = (legal_swap_can_replace mesh op.at op.apex op.worst sound is.spot.rise is.spot.long is.legal).0 in
      let stay = all_two (λ mark. is_on cavity mark.cell ≡ true) (λ mark. is_on cavity mark.cell ≡ true → On mark) On (λ mark on says. says on) (marks_around mesh op)
      (filter_passes (λ mark. is_on cavity mark.cell) mesh.marks) (all-filter (λ mark. is_on cavity mark.cell ≡ true → On mark) (λ mark. is_on cavity mark.cell) mesh.marks can.cells) in
      subst (λ l. AllByRecursion (λ (mark : CellMark). is_on l mark.cell ≡ true) (flat_map (changed_by (op ∷ [])) (marks_around mesh op))) (sym (filled_by_swap op.at op.apex cavity is.spot.long))
      (subst (AllByRecursion On) (sym (all_unchanged mesh (op ∷ []) (is, tt) (marks_around mesh op))) stay)

pub marks_stay_on_cells : MarksStayOnCells
marks_stay_on_cells Collapse field mesh sound =
    all_weaker (IsCollapse field mesh) (StayOnCells mesh) (λ op is. subst (StayOnCells mesh) (sym is.is) (collapse_stays field mesh sound (removal op) is.legal)) (chosen Collapse field mesh) (chosen_collapse field mesh)
marks_stay_on_cells Swap field mesh sound =
    all_weaker (IsLegalSwap mesh) (StayOnCells mesh) (swap_stays field mesh sound) (chosen Swap field mesh) (chosen_are_legal field mesh sound.tetrahedra)

use Rattle.std.proofs.Common.{◌≡◌, ◌<◌, true, get_or, sym, ◌∙◌}
use Rattle.overlap_check.specs.steps.Cubes.{no_box}
use Rattle.overlap_check.proofs.AtPlaces.{apart_at, below, differ, none_before, overlap_is}
use Rattle.overlap_check.proofs.BoxesApart.{boxes_apart}
use Rattle.overlap_check.proofs.CubeOrder.{differ_not}
use Rattle.overlap_check.proofs.overlaps.overlap.Goals as goal
use Rattle.overlap_check.proofs.overlaps.overlap.Goals.{then-i-j, else-i-j, then-meets, else-meets}

pub returns-then-eq-clause-found : goal.returns-then-eq-clause-found
returns-then-eq-clause-found c h =
    let meets : c.if-i-j.value ≡ true = elim c.if-meets.branch [ then-meets w ↦ w.if-meets.true | else-meets w ↦ absurd (differ _ c.if-eq.true (w.value-is ∙ w.if-meets.false)) ] in
    let before : c.args.touch.now.tet < c.args.other.now.tet = elim c.if-i-j.branch [ then-i-j w ↦ w.if-i-j.true | else-i-j w ↦ below _ _ (sym w.value-is ∙ meets) ] in
    sym (overlap_is c.args.tets.now c.args.touch.now.tet c.args.other.now.tet c.index-tets-i.result c.index-tets-j.result _ before c.requires.other c.index-tets-i.is c.index-tets-j.is c.separated.ensures) ∙ h

pub returns-then-eq-clause-missed : goal.returns-then-eq-clause-missed
returns-then-eq-clause-missed c h home =
    let meets : c.if-i-j.value ≡ true = elim c.if-meets.branch [ then-meets w ↦ w.if-meets.true | else-meets w ↦ absurd (differ _ c.if-eq.true (w.value-is ∙ w.if-meets.false)) ] in
    let before : c.args.touch.now.tet < c.args.other.now.tet = elim c.if-i-j.branch [ then-i-j w ↦ w.if-i-j.true | else-i-j w ↦ below _ _ (sym w.value-is ∙ meets) ] in
    sym (overlap_is c.args.tets.now c.args.touch.now.tet c.args.other.now.tet c.index-tets-i.result c.index-tets-j.result _ before c.requires.other c.index-tets-i.is c.index-tets-j.is c.separated.ensures) ∙ h

pub returns-else-eq-clause-missed : goal.returns-else-eq-clause-missed
returns-else-eq-clause-missed c h home =
    let i = c.args.touch.now.tet in
    let j = c.args.other.now.tet in
    let boxes = c.args.boxes.now in
    elim c.if-meets.branch [
      | then-meets w ↦ absurd (differ_not _ _ (sym w.eq.ensures ∙ sym w.value-is ∙ h) (w.home.ensures ∙ home))
      | else-meets w ↦ elim c.if-i-j.branch [
        | then-i-j v ↦ (
            let apart = boxes_apart _ _ (get_or boxes i no_box) (get_or boxes j no_box) (c.requires.boxes.each i no_box c.requires.touch) (c.requires.boxes.each j no_box c.requires.other) (sym v.meets.ensures ∙ sym v.value-is ∙ w.if-meets.false) in
            apart_at c.args.tets.now i j apart.0
            )
        | else-i-j v ↦ none_before c.args.tets.now i j v.if-i-j.false
      ]
    ]

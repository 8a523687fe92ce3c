use Rattle.std.proofs.Common.{◌≡◌, ◌++◌, [], ◌∷◌, sym, subst, ap, ◌∙◌}
use Rattle.std.specs.List.{flat_map}
use Rattle.std.specs.List.Sorted.{IsStrictlySortedBy}
use Rattle.std.proofs.lemmas.List.Kept.{IsStrictlySortedBy-filter}
use Rattle.ma_cells.specs.Ascending.{ascending_of}
use Rattle.ma_cells.specs.Cells.{mark_cmp}
use Rattle.ma_cells.specs.Faces.{holds_all}
use Rattle.ma_cells.specs.Stars.{star_of}
use Rattle.ma_cells.specs.Tetrahedron.{Tetrahedron, tet_cmp}
use Rattle.pass_rules.specs.Passes.{changed_by, filling, filling_at}
use Rattle.part_store.specs.Labelled.{marks_on}
use Rattle.part_gather.specs.Gathering.{marks_by}
use Rattle.part_gather.proofs.Changing.{filled_is, marks_next, tets_next}
use Rattle.part_gather.proofs.filling.filled.Goals as goal

pub push_filled-requires : goal.push_filled-requires
push_filled-requires c =
    subst (λ star. IsStrictlySortedBy tet_cmp star) (sym (c.as_slice-in-loop-op.ensures.value ∙ c.in_ok-star.ensures))
    (IsStrictlySortedBy-filter tet_cmp (λ (tet : Tetrahedron). holds_all tet.corners c.at.result.now) c.as_slice.result.now c.as_slice.ensures.rises)

pub loop-op-preserved : goal.loop-op-preserved
loop-op-preserved c =
    let op = c.op-item.result in
    let star : c.as_slice-in-loop-op.result.now ≡ star_of op.at c.args.tets.now
    = c.as_slice-in-loop-op.ensures.value ∙ c.in_ok-star.ensures ∙ (λ i. star_of (c.at.ensures.value i) (c.as_slice.ensures.items i)) in
    record {
      tets = tets_next (filling c.args.tets.now) c.loop-op.new_tets.items c.push_filled.new.tets.items c.args.won.now c.loop-op.op-index op _ c.loop-op-test.true c.op-item.is
          (c.in_ok-push_filled.ensures.tets ∙ ap (λ s. c.loop-op.new_tets.items ++ filling_at op.at op.apex s) star) c.loop-op.invariant.tets;
      marks = marks_next (marks_by c.args.tets.now c.args.marks.now) c.loop-op.new_marks.items c.push_filled.new.marks.items c.args.won.now c.loop-op.op-index op _ c.loop-op-test.true c.op-item.is
          (c.in_ok-push_filled.ensures.marks ∙ ap (λ s. c.loop-op.new_marks.items ++ ascending_of mark_cmp (flat_map (changed_by (op ∷ [])) (marks_on s c.args.marks.now))) star) c.loop-op.invariant.marks;
    }

pub returns : goal.returns
returns c =
    filled_is c.args.tets.now c.args.marks.now c.args.won.now c.loop-op.op-index c.loop-op.new_tets.items c.loop-op.new_marks.items c.tet_set.result c.mark_set.result c.loop-op-test.false
    c.loop-op.invariant.tets c.loop-op.invariant.marks c.tet_set.ensures c.mark_set.ensures

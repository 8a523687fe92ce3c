use Rattle.std.proofs.Common.{ℕ, ◌+◌, List, length, ap, sym, subst, ◌∙◌}
use Rattle.std.proofs.lemmas.Bool.{false≢true}
use Rattle.size_marks.specs.steps.Slabs.{MarksFirst}
use Rattle.size_marks.proofs.Rows.{marks_more}
use Rattle.size_marks.proofs.slabs.row_of.Goals as goal
use Rattle.size_marks.proofs.slabs.row_of.Goals.{then-meets, else-meets}

pub loop-k-preserved : goal.loop-k-preserved
loop-k-preserved c =
    let a = c.args in
    let Marks : List ℕ → Type 0 = λ row. MarksFirst a.boxes.now a.axis a.cuts.now a.slab row (c.loop-k.k + 1) in
    let more = marks_more a.boxes.now a.axis a.cuts.now a.slab c.loop-k.row in
    elim c.if-meets.branch [
      | then-meets w ↦ record {
        long = ap length w.row-is ∙ w.mark.ensures.long ∙ c.loop-k.invariant.long;
        marks = subst Marks (sym w.row-is) (more _ c.loop-k.k c.index-boxes-k.result c.loop-k-test.true c.index-boxes-k.is c.loop-k.invariant.marks w.mark.ensures.kept (λ _ _ _. w.mark.ensures.marked));
      }
      | else-meets w ↦ record {
        long = ap length w.row-is ∙ c.loop-k.invariant.long;
        marks = subst Marks (sym w.row-is) (more c.loop-k.row c.loop-k.k c.index-boxes-k.result c.loop-k-test.true c.index-boxes-k.is c.loop-k.invariant.marks (λ _ h. h)
            (λ x in_slab met. absurd (false≢true (sym w.if-meets.false ∙ c.meets.ensures x in_slab met))));
      }
    ]

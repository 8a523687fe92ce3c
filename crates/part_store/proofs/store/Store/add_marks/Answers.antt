use Rattle.std.proofs.Common.{◌≡◌, ◌++◌, refl, rules}
use Rattle.ma_cells.specs.Ascending.{ascending_of}
use Rattle.ma_cells.specs.Cells.{mark_cmp}
use Rattle.part_store.specs.Labelled.{marks_on}
use Rattle.part_store.proofs.OwnMarks.{joined_own, named}
use Rattle.part_store.proofs.store.Store.add_marks.Goals as goal

pub invariant_of-self : goal.invariant_of-self
invariant_of-self c =
    let own = c.self.inside.own in
    let old = c.self.inside.marks in
    let marks = c.args.marks.now in
    let kept : c.self.inside.own_marks ≡ marks_on own old = c.self.invariant.1 in
    let made : c.in_ok-all.all ≡ ascending_of mark_cmp (marks_on own old ++ marks_on own marks) = search rules in
    (c.self.invariant.0, named own own c.in_ok-all.all (ascending_of mark_cmp (marks_on own old ++ marks_on own marks)) c.in_ok-own_marks.own_marks refl made c.in_ok-own_marks.ensures (joined_own own old marks))

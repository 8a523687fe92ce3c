use Rattle.std.proofs.Common.{◌≡◌, ◌++◌, map, rules, subst}
use Rattle.ma_cells.specs.Ascending.{ascending_of}
use Rattle.ma_cells.specs.Cells.{mark_cmp}
use Rattle.ma_cells.specs.Views.{ghost_cmp}
use Rattle.part_store.specs.Labelled.{marks_on, tet_of}
use Rattle.part_store.specs.Stores.{StoreState, marks_got, tets_got, with_ghosts}
use Rattle.part_store.proofs.OwnMarks.{came, came_own}
use Rattle.part_store.proofs.store.Store.set_ghosts.Goals as goal

pub invariant_of-self : goal.invariant_of-self
invariant_of-self c =
    let own = c.self.inside.own in
    let old = c.self.inside.marks in
    let others = map tet_of (tets_got c.args.ghosts.now) in
    let sent = marks_got c.args.ghosts.now in
    let kept : c.self.inside.own_marks ≡ marks_on own old = c.self.invariant.1 in
    let one : c.in_ok-own_marks.own_marks ≡ ascending_of mark_cmp (marks_on own old ++ marks_on own sent) = search rules in
    let two : c.in_ok-marks.marks ≡ ascending_of mark_cmp (c.in_ok-own_marks.own_marks ++ marks_on others sent) = search rules in
    (c.self.invariant.0, came_own own others old sent c.in_ok-own_marks.own_marks c.in_ok-marks.marks one two)

pub returns-clause-ok : goal.returns-clause-ok
returns-clause-ok c =
    let s : StoreState = record { part = c.self.inside.part; own = c.self.inside.own; ghosts = c.self.inside.ghosts; marks = c.self.inside.marks; shared = c.self.inside.shared.items } in
    let batches = c.args.ghosts.now in
    let kept : c.self.inside.own_marks ≡ marks_on s.own s.marks = c.self.invariant.1 in
    let ghosts : c.ghost_set.result ≡ ascending_of ghost_cmp (tets_got batches) = search rules in
    let one : c.in_ok-own_marks.own_marks ≡ ascending_of mark_cmp (marks_on s.own s.marks ++ marks_on s.own (marks_got batches)) = search rules in
    let two : c.in_ok-marks.marks ≡ ascending_of mark_cmp (c.in_ok-own_marks.own_marks ++ marks_on (map tet_of (tets_got batches)) (marks_got batches)) = search rules in
    subst (λ (t : StoreState). record s { ghosts = c.ghost_set.result; marks = c.in_ok-marks.marks } ≡ with_ghosts t batches) c.self.view_is (came s batches c.ghost_set.result c.in_ok-own_marks.own_marks c.in_ok-marks.marks ghosts one two)

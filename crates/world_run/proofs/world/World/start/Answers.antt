use Rattle.std.proofs.Common.{rules, ◌≡◌, ◌+◌, ◌<◌, ◌^◌, ◌∙◌, true, false, List, length, ap, subst, sym, arith}
use Rattle.std.specs.List.{AllByRecursion}
use Rattle.std.specs.Vec.{with_items}
use Rattle.std.proofs.lemmas.List.{with_items_is}
use Rattle.std.proofs.lemmas.Result.{err_from_is_err_and}
use Rattle.ma_cells.specs.Tetrahedron.{are_corners}
use Rattle.part_core.specs.Parts.{PartState}
use Rattle.world_run.specs.Meshes.{labelled_mesh}
use Rattle.world_run.specs.Replay.{all_next, first_parts}
use Rattle.world_run.specs.Rounds.{AreDone}
use Rattle.world_run.specs.Told.{WorldState}
use Rattle.world_run.specs.steps.Beginning.{MayAllBegin, owed_all}
use Rattle.world_run.proofs.Between.{between_first}
use Rattle.world_run.proofs.DoneRounds.{done-first, few_next, letters_next-done, may-first, next-of}
use Rattle.world_run.proofs.FromLabels.{MayStart, begin_on, first, is_whole, marks_first}
use Rattle.world_run.proofs.Worlds.{drawn_err, drawn_ok, ends_err, ends_ok, told_err, told_ok}
use Rattle.world_run.proofs.world.World.start.Goals as goal

pub run_next-requires-clause-may : goal.run_next-requires-clause-may
run_next-requires-clause-may g c =
    let whole = labelled_mesh c.args.mesh.now c.args.labels.now in
    let is : c.as_mut_slice.result.now ≡ first_parts c.args.course whole = search rules in
    subst MayAllBegin (sym is) (may-first c.args.course whole)

pub run_next-requires-clause-few : goal.run_next-requires-clause-few
run_next-requires-clause-few g c =
    let whole = labelled_mesh c.args.mesh.now c.args.labels.now in
    let is : c.as_mut_slice.result.now ≡ first_parts c.args.course whole = search rules in
    subst (λ ps. owed_all (all_next ps) < 2 ^ 64) (sym is) (few_next c.args.course 0 (first_parts c.args.course whole) (done-first c.args.course whole) c.requires.parts c.requires.collapses c.requires.swaps)

pub returns-clause-whole : goal.returns-clause-whole
returns-clause-whole g c =
    let course = c.args.course in
    let mesh = c.args.mesh.now in
    let labels = c.args.labels.now in
    let solid = subst (AllByRecursion (λ tet. are_corners tet.corners ≡ true)) c.tets.ensures.value c.tell_solid.ensures in
    let may : MayStart course mesh labels = record { some = c.requires.some; each = c.requires.each; tets = c.requires.tets; marks = c.requires.marks; below = c.requires.below; listed = c.marks.result.now; are = c.marks.ensures.value; rise = c.marks.ensures.rise; cells = c.tell_cells.ensures; solid = solid } in
    is_whole course mesh labels may

pub returns-clause-told : goal.returns-clause-told
returns-clause-told g c =
    let course = c.args.course in
    let mesh = c.args.mesh.now in
    let labels = c.args.labels.now in
    let parts = c.as_mut_slice.result.now in
    let is : parts ≡ first_parts course (labelled_mesh mesh labels) = search rules in
    let new = c.run_next.new.parts in
    let old = g.C.Carrier.carried c.args.carrier.now in
    let now = g.C.Carrier.carried c.run_next.new.carrier in
    let all : List PartState = (with_items c.in_ok-parts.parts new).items in
    let as_long : length new ≡ c.in_ok-parts.parts.len = search rules in
    let kept : all ≡ new = with_items_is c.in_ok-parts.parts new as_long in
    let letters = c.in_ok-letters.letters in
    let world : WorldState = record { parts = all; letters = letters; spent = false } in
    let all_letters : letters ≡ 0 + letters = omega arith in
    told_ok (first_parts course (labelled_mesh mesh labels)) parts new is 0 old.given now.given letters c.in_ok-letters.ensures.told world kept all_letters

pub returns-in_err-letters-clause-told : goal.returns-in_err-letters-clause-told
returns-in_err-letters-clause-told g c =
    let course = c.args.course in
    let mesh = c.args.mesh.now in
    let labels = c.args.labels.now in
    let parts = c.as_mut_slice.result.now in
    let is : parts ≡ first_parts course (labelled_mesh mesh labels) = search rules in
    let new = c.run_next.new.parts in
    let old = g.C.Carrier.carried c.args.carrier.now in
    let now = g.C.Carrier.carried c.run_next.new.carrier in
    let p = err_from_is_err_and c.from_residual-in_err-letters.result c.from_residual-in_err-letters.ensures.1 in
    rw (p.1, p.2) (told_err (first_parts course (labelled_mesh mesh labels)) parts new is 0 old.given now.given c.in_err-letters.field-0.0 c.in_err-letters.ensures.told)

pub returns-clause-drawn : goal.returns-clause-drawn
returns-clause-drawn g c before held given told =
    let course = c.args.course in
    let mesh = c.args.mesh.now in
    let labels = c.args.labels.now in
    let solid = subst (AllByRecursion (λ tet. are_corners tet.corners ≡ true)) c.tets.ensures.value c.tell_solid.ensures in
    let may : MayStart course mesh labels = record { some = c.requires.some; each = c.requires.each; tets = c.requires.tets; marks = c.requires.marks; below = c.requires.below; listed = c.marks.result.now; are = c.marks.ensures.value; rise = c.marks.ensures.rise; cells = c.tell_cells.ensures; solid = solid } in
    let parts = c.as_mut_slice.result.now in
    let is : parts ≡ first_parts course (labelled_mesh mesh labels) = search rules in
    let new = c.run_next.new.parts in
    let old = g.C.Carrier.carried c.args.carrier.now in
    let now = g.C.Carrier.carried c.run_next.new.carrier in
    let all : List PartState = (with_items c.in_ok-parts.parts new).items in
    let as_long : length new ≡ c.in_ok-parts.parts.len = search rules in
    let kept : all ≡ new = with_items_is c.in_ok-parts.parts new as_long in
    let letters = c.in_ok-letters.letters in
    let world : WorldState = record { parts = all; letters = letters; spent = false } in
    let all_letters : letters ≡ 0 + letters = omega arith in
    drawn_ok course (labelled_mesh mesh labels) (marks_first course mesh labels may) 0 (first course mesh labels may) (first_parts course (labelled_mesh mesh labels)) (begin_on course mesh labels may told) parts new is old now
    c.args.schedule.now 0 before held given letters c.in_ok-letters.ensures.drawn c.in_ok-letters.ensures.told c.in_ok-letters.ensures.kept world kept all_letters

pub returns-in_err-letters-clause-drawn : goal.returns-in_err-letters-clause-drawn
returns-in_err-letters-clause-drawn g c before held given told =
    let course = c.args.course in
    let mesh = c.args.mesh.now in
    let labels = c.args.labels.now in
    let solid = subst (AllByRecursion (λ tet. are_corners tet.corners ≡ true)) c.tets.ensures.value c.tell_solid.ensures in
    let may : MayStart course mesh labels = record { some = c.requires.some; each = c.requires.each; tets = c.requires.tets; marks = c.requires.marks; below = c.requires.below; listed = c.marks.result.now; are = c.marks.ensures.value; rise = c.marks.ensures.rise; cells = c.tell_cells.ensures; solid = solid } in
    let parts = c.as_mut_slice.result.now in
    let is : parts ≡ first_parts course (labelled_mesh mesh labels) = search rules in
    let new = c.run_next.new.parts in
    let old = g.C.Carrier.carried c.args.carrier.now in
    let now = g.C.Carrier.carried c.run_next.new.carrier in
    let p = err_from_is_err_and c.from_residual-in_err-letters.result c.from_residual-in_err-letters.ensures.1 in
    rw (p.1, p.2)
    (drawn_err course (labelled_mesh mesh labels) (marks_first course mesh labels may) 0 (first course mesh labels may) (first_parts course (labelled_mesh mesh labels)) (begin_on course mesh labels may told) parts new is old now
    c.args.schedule.now 0 before held given c.in_err-letters.field-0.0 c.in_err-letters.ensures.drawn)

pub returns-clause-alone : goal.returns-clause-alone
returns-clause-alone g c one told =
    let course = c.args.course in
    let mesh = c.args.mesh.now in
    let labels = c.args.labels.now in
    let solid = subst (AllByRecursion (λ tet. are_corners tet.corners ≡ true)) c.tets.ensures.value c.tell_solid.ensures in
    let may : MayStart course mesh labels = record { some = c.requires.some; each = c.requires.each; tets = c.requires.tets; marks = c.requires.marks; below = c.requires.below; listed = c.marks.result.now; are = c.marks.ensures.value; rise = c.marks.ensures.rise; cells = c.tell_cells.ensures; solid = solid } in
    let parts = c.as_mut_slice.result.now in
    let is : parts ≡ first_parts course (labelled_mesh mesh labels) = search rules in
    let new = c.run_next.new.parts in
    let old = g.C.Carrier.carried c.args.carrier.now in
    let now = g.C.Carrier.carried c.run_next.new.carrier in
    let all : List PartState = (with_items c.in_ok-parts.parts new).items in
    let as_long : length new ≡ c.in_ok-parts.parts.len = search rules in
    let kept : all ≡ new = with_items_is c.in_ok-parts.parts new as_long in
    let letters = c.in_ok-letters.letters in
    let world : WorldState = record { parts = all; letters = letters; spent = false } in
    ends_ok course (labelled_mesh mesh labels) (marks_first course mesh labels may) 0 (first course mesh labels may) (first_parts course (labelled_mesh mesh labels)) (begin_on course mesh labels may told) parts new is old now
    one letters c.in_ok-letters.ensures.alone world kept

pub returns-in_err-letters-clause-alone : goal.returns-in_err-letters-clause-alone
returns-in_err-letters-clause-alone g c one told =
    let course = c.args.course in
    let mesh = c.args.mesh.now in
    let labels = c.args.labels.now in
    let solid = subst (AllByRecursion (λ tet. are_corners tet.corners ≡ true)) c.tets.ensures.value c.tell_solid.ensures in
    let may : MayStart course mesh labels = record { some = c.requires.some; each = c.requires.each; tets = c.requires.tets; marks = c.requires.marks; below = c.requires.below; listed = c.marks.result.now; are = c.marks.ensures.value; rise = c.marks.ensures.rise; cells = c.tell_cells.ensures; solid = solid } in
    let parts = c.as_mut_slice.result.now in
    let is : parts ≡ first_parts course (labelled_mesh mesh labels) = search rules in
    let new = c.run_next.new.parts in
    let old = g.C.Carrier.carried c.args.carrier.now in
    let now = g.C.Carrier.carried c.run_next.new.carrier in
    let p = err_from_is_err_and c.from_residual-in_err-letters.result c.from_residual-in_err-letters.ensures.1 in
    rw (p.1, p.2)
    (ends_err course (labelled_mesh mesh labels) (marks_first course mesh labels may) 0 (first course mesh labels may) (first_parts course (labelled_mesh mesh labels)) (begin_on course mesh labels may told) parts new is old now
    one c.in_err-letters.field-0.0 c.in_err-letters.ensures.alone)

pub returns-clause-done : goal.returns-clause-done
returns-clause-done g c =
    let course = c.args.course in
    let mesh = c.args.mesh.now in
    let labels = c.args.labels.now in
    let parts = c.as_mut_slice.result.now in
    let is : parts ≡ first_parts course (labelled_mesh mesh labels) = search rules in
    let new = c.run_next.new.parts in
    let old = g.C.Carrier.carried c.args.carrier.now in
    let now = g.C.Carrier.carried c.run_next.new.carrier in
    let all : List PartState = (with_items c.in_ok-parts.parts new).items in
    let as_long : length new ≡ c.in_ok-parts.parts.len = search rules in
    let kept : all ≡ new = with_items_is c.in_ok-parts.parts new as_long in
    let letters = c.in_ok-letters.letters in
    let world : WorldState = record { parts = all; letters = letters; spent = false } in
    subst (AreDone course 1) (sym kept) (next-of course 0 (first_parts course (labelled_mesh mesh labels)) (done-first course (labelled_mesh mesh labels)) parts new is c.in_ok-letters.ensures.kept c.in_ok-letters.ensures.done c.in_ok-letters.ensures.unspent)

pub returns-clause-letters : goal.returns-clause-letters
returns-clause-letters g c =
    let course = c.args.course in
    let mesh = c.args.mesh.now in
    let labels = c.args.labels.now in
    let parts = c.as_mut_slice.result.now in
    let is : parts ≡ first_parts course (labelled_mesh mesh labels) = search rules in
    c.in_ok-letters.ensures.letters ∙ ap (λ ps. owed_all (all_next ps)) is ∙ letters_next-done course 0 (first_parts course (labelled_mesh mesh labels)) (done-first course (labelled_mesh mesh labels))

pub invariant_of-result : goal.invariant_of-result
invariant_of-result g c _ =
    let course = c.args.course in
    let mesh = c.args.mesh.now in
    let labels = c.args.labels.now in
    let parts = c.as_mut_slice.result.now in
    let is : parts ≡ first_parts course (labelled_mesh mesh labels) = search rules in
    let new = c.run_next.new.parts in
    let all : List PartState = (with_items c.in_ok-parts.parts new).items in
    let as_long : length new ≡ c.in_ok-parts.parts.len = search rules in
    let kept : all ≡ new = with_items_is c.in_ok-parts.parts new as_long in
    let letters = c.in_ok-letters.letters in
    let world : WorldState = record { parts = all; letters = letters; spent = false } in
    let before = done-first course (labelled_mesh mesh labels) in
    let done = subst (AreDone course 1) (sym kept) (next-of course 0 (first_parts course (labelled_mesh mesh labels)) before parts new is c.in_ok-letters.ensures.kept c.in_ok-letters.ensures.done c.in_ok-letters.ensures.unspent) in
    between_first course world c.requires.some c.requires.parts c.requires.grid c.requires.collapses c.requires.swaps done
    (c.in_ok-letters.ensures.letters ∙ ap (λ ps. owed_all (all_next ps)) is ∙ letters_next-done course 0 (first_parts course (labelled_mesh mesh labels)) before)

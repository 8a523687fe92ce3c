use Rattle.std.proofs.Common.{◌≡◌, ◌∙◌, filter, eqb-true, length, rules, sym}
use Rattle.std.proofs.lemmas.List.{nil_from_length}
use Rattle.ma_geom.specs.Coordinates.{place_cmp}
use Rattle.ma_cells.specs.Ascending.{has}
use Rattle.part_store.proofs.FoundMarks.{found_near, found_none}
use Rattle.part_store.proofs.marks.push_found.Goals as goal

pub returns-in_ok-push_wanted : goal.returns-in_ok-push_wanted
returns-in_ok-push_wanted c =
    let places = c.as_slice-then-not-is_empty.result.now in
    let near : places ≡ filter (λ place. has place_cmp place c.args.corners.now) c.args.tet.now.corners = search rules in
    found_near c.args.wanted.now c.args.found.now.items c.push_wanted.new.found.items c.cells.result c.args.corners.now c.args.tet.now.corners places c.requires near c.in_ok-push_wanted.ensures c.cells.ensures.has

pub returns-else-not-is_empty : goal.returns-else-not-is_empty
returns-else-not-is_empty c =
    let places = c.as_slice.result.now in
    let near : places ≡ filter (λ place. has place_cmp place c.args.corners.now) c.args.tet.now.corners = search rules in
    found_none c.args.wanted.now c.args.found.now.items c.args.corners.now c.args.tet.now.corners places c.requires near
    (nil_from_length places (eqb-true (length places) 0 (sym c.is_empty.ensures ∙ c.if-not-is_empty.false)))

use Rattle.std.proofs.Common.{ap, ◌∙◌}
use Rattle.part_store.specs.Labelled.{marks_on}
use Rattle.ghost_layer.specs.GhostRule.{is_shared_with}
use Rattle.ghost_layer.proofs.SharedWith.{nothing_shown, shown_is}
use Rattle.ghost_layer.proofs.showing.ghosts_among.Goals as goal

pub returns-then-is_empty : goal.returns-then-is_empty
returns-then-is_empty c =
    nothing_shown c.args.store.now c.args.target c.in_ok-places.places c.new.result c.new-then-is_empty.result
    (λ x. c.in_ok-places.ensures x ∙ ap (λ shared. is_shared_with shared c.args.target x) c.shared.ensures)
    (c.is_empty.ensures.0 c.if-is_empty.true)
    c.new.ensures c.new-then-is_empty.ensures

pub returns : goal.returns
returns c =
    shown_is c.args.store.now c.args.target c.args.own.now c.in_ok-tets.tets c.in_ok-places.places c.in_ok-marks.marks c.requires
    (λ x. c.in_ok-places.ensures x ∙ ap (λ shared. is_shared_with shared c.args.target x) c.shared.ensures)
    c.in_ok-tets.ensures (c.in_ok-marks.ensures ∙ ap (λ tets. marks_on tets c.args.store.now.marks) c.as_slice.ensures.items)

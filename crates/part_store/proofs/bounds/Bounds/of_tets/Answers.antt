use Rattle.std.proofs.Common.{◌≡◌, ◌∙◌, ap, drop_of_length-le, sym, subst, true}
use Rattle.std.specs.List.{list_all}
use Rattle.part_store.specs.declared.bounds.Bounds.{Bounds}
use Rattle.part_store.specs.declared.bounds.Bounds.TheVariants.{Nothing}
use Rattle.part_store.specs.steps.Boxes.{are_within, with_tets}
use Rattle.part_store.proofs.BoxedPlaces.{tets_in}
use Rattle.part_store.proofs.bounds.Bounds.of_tets.Goals as goal

pub returns : goal.returns
returns c =
    let whole : with_tets Nothing c.args.tets.now ≡ c.loop-tet.bounds
    = sym c.loop-tet.invariant ∙ ap (with_tets c.loop-tet.bounds) (drop_of_length-le c.args.tets.now c.loop-tet-test.false) in
    subst (λ (bounds : Bounds). list_all (λ tet. are_within bounds tet.corners) c.args.tets.now ≡ true) whole (tets_in Nothing c.args.tets.now)

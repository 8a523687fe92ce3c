use Rattle.std.proofs.Common.{◌≡◌, ◌∙◌, List, subst, sym}
use Rattle.ma_geom.specs.Coordinates.{Coordinates, place_cmp}
use Rattle.ma_cells.specs.Ascending.{has}
use Rattle.part_store.proofs.Sieved.{held_back}
use Rattle.part_store.proofs.sieve.SievedSet.has.Goals as goal

pub returns-else-may_have : goal.returns-else-may_have
returns-else-may_have c =
    let set = c.self.inside in
    subst (λ (places : List Coordinates). c.may_have.result ≡ has place_cmp c.args.place places) c.self.view_is
    (c.if-may_have.false ∙ sym (held_back set.sieve set.places c.args.place c.self.invariant (sym c.may_have.ensures ∙ c.if-may_have.false)))

use Rattle.std.proofs.Common.{rules, ◌≡◌, ◌<◌, ◌∙◌, true, Bool, List, length, subst, sym}
use Rattle.std.specs.List.{list_all}
use Rattle.std.specs.Vec.{with_items}
use Rattle.std.proofs.lemmas.List.{with_items_is}
use Rattle.part_store.specs.steps.Sieves.{passes}
use Rattle.part_store.proofs.Sieved.{all_pass}
use Rattle.part_store.proofs.sieve.Sieve.of.Goals as goal

pub returns : goal.returns
returns c =
    let new = c.raise_all.new.flags in
    let as_long : length new ≡ c.in_ok-flags.flags.len = search rules in
    let some : 0 < length c.as_mut_slice.result.now = search rules in
    let written : (with_items c.in_ok-flags.flags new).items ≡ new = with_items_is c.in_ok-flags.flags new as_long in
    subst (λ (flags : List Bool). list_all (passes flags) c.args.places.now ≡ true) (sym (written ∙ c.raise_all.ensures)) (all_pass c.as_mut_slice.result.now c.args.places.now some)

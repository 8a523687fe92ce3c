use Rattle.std.proofs.Common.{◌≡◌, ◌++◌, OnOk, rules, subst, ◌∙◌}
use Rattle.std.specs.List.{flat_map}
use Rattle.part_store.specs.Stores.{replaced}
use Rattle.part_gather.specs.Gathering.{cavity, filled, marks_with, tets_with}
use Rattle.part_gather.proofs.applying.apply.Goals as goal

pub returns-clause-ok : goal.returns-clause-ok
returns-clause-ok c =
    let store = c.args.store.now in
    let won = c.args.won.now in
    let tets : c.in_ok-tets.tets ≡ tets_with store c.args.got.now = search rules in
    let marks : c.in_ok-marks.marks ≡ marks_with store c.args.got.now = search rules in
    let ended : c.as_slice-3.result.now ≡ c.args.given.now ++ flat_map (cavity c.in_ok-tets.tets) won = search rules in
    let added : c.in_ok-added.added ≡ filled c.in_ok-tets.tets c.in_ok-marks.marks won = search rules in
    subst (λ new. OnOk c.replace.result (c.replace.new.self ≡ new))
    (λ i. replaced store ((ended ∙ (λ j. c.args.given.now ++ flat_map (cavity (tets j)) won)) i) ((added ∙ (λ j. filled (tets j) (marks j) won)) i)) c.replace.ensures.ok

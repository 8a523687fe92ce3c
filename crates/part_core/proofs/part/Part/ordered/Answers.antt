use Rattle.std.proofs.Common.{◌≡◌, ap, ◌∙◌}
use Rattle.part_core.specs.Parts.{PartState}
use Rattle.part_store.specs.Stores.{view_in}
use Rattle.part_vote.specs.Voting.{ordered_to}
use Rattle.round_rules.specs.Bodies.{sent_by}
use Rattle.part_core.proofs.part.Part.ordered.Goals as goal

pub returns : goal.returns
returns c = λ part.
    let s = c.args.self.now.standing in
    let store : c.self.inside.store ≡ s.holds = ap (λ (p : PartState). p.standing.holds) c.self.view_is in
    let lists = c.in_ok-lists.ensures in
    let votes = c.in_ok-votes.ensures in
    c.in_ok-letters.ensures part
    ∙ (λ i. ordered_to (view_in (store i)) (sent_by (lists i) (store i).part) (sent_by (votes i) (store i).part) (votes i) part)

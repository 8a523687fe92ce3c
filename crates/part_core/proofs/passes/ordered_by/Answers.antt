use Rattle.std.proofs.Common.{◌≡◌, ◌∙◌}
use Rattle.part_store.specs.Stores.{view_in}
use Rattle.part_vote.specs.Voting.{ordered_to}
use Rattle.round_rules.specs.Bodies.{sent_by}
use Rattle.part_core.proofs.passes.ordered_by.Goals as goal

pub returns : goal.returns
returns c = λ part.
    let led : c.in_ok-led.led ≡ sent_by c.args.lists.now.items c.args.store.now.part = c.in_ok-led.ensures ∙ (λ i. sent_by (c.as_slice.ensures.value i) (c.part-me.ensures i)) in
    let mine : c.in_ok-mine.mine ≡ sent_by c.args.votes.now.items c.args.store.now.part = c.in_ok-mine.ensures ∙ (λ i. sent_by (c.as_slice-2.ensures.value i) (c.part-me.ensures i)) in
    c.in_ok-letters.ensures part ∙ (λ i. ordered_to (view_in c.args.store.now) (led i) (mine i) (c.as_slice-3.ensures.value i) part)

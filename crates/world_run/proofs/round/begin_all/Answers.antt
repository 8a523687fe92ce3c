use Rattle.std.proofs.Common.{rules, ◌≡◌, ◌∙◌, ◌+◌, ◌<◌, ◌++◌, get_or, length, set, take, ap, subst, sym}
use Rattle.std.specs.Prelude.{map}
use Rattle.part_core.specs.Parts.{PartState, sent}
use Rattle.world_run.specs.Replay.{all_next, next_begun, next_outcome}
use Rattle.world_run.specs.steps.Beginning.{SaysAll}
use Rattle.world_run.proofs.Nexts.{letters_more, partly-at, partly-more, says_next}
use Rattle.world_run.proofs.round.begin_all.Goals as goal

pub loop-number-preserved : goal.loop-number-preserved
loop-number-preserved c =
    let old = c.args.parts.now in
    let number = c.loop-number.number in
    let so_far = c.loop-number.invariant in
    let first = c.index-parts-number.result in
    let new : PartState = c.begin.new.part in
    let out = c.loop-number.out.items in
    let within : number < length old = search rules in
    let here : get_or c.loop-number.parts number first ≡ get_or old number first = ap (λ ps. get_or ps number first) so_far.parts ∙ partly-at old number first in
    let new_is : new ≡ next_begun (get_or old number first) = c.in_ok-said.ensures.begun ∙ ap next_begun here in
    record {
      parts = ap (λ ps. set ps number new) so_far.parts ∙ partly-more old number first new within new_is;
      says = subst (SaysAll (all_next (take (number + 1) old))) (sym c.or-excess.ensures) (says_next old number first new c.loop-number.excess c.in_ok-said.said within new_is so_far.says c.in_ok-said.ensures.says);
      letters =
          letters_more old number first c.args.out.now.items out c.begin.new.out.items within so_far.letters
          (c.in_ok-said.ensures.letters ∙ ap (λ p. out ++ map sent (next_outcome p).letters) here);
    }

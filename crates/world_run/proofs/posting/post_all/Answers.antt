use Rattle.std.proofs.Common.{◌∙◌, refl, arith}
use Rattle.world_run.proofs.Postings.{all_wait, none_more, one_more}
use Rattle.world_run.proofs.posting.post_all.Goals as goal

pub loop-letter-init : goal.loop-letter-init
loop-letter-init g c = record {
  held = none_more (g.C.Carrier.carried c.args.carrier.now).held;
  given = refl;
  faults = omega arith;
  dry = omega arith;
}

pub loop-letter-preserved : goal.loop-letter-preserved
loop-letter-preserved g c =
    let first = (g.C.Carrier.carried c.args.carrier.now).held in
    let mid = (g.C.Carrier.carried c.loop-letter.carrier).held in
    let now = (g.C.Carrier.carried c.post.new.carrier).held in
    let so_far = c.loop-letter.invariant in
    let posted = c.in_ok-post.ensures in
    record {
      held = one_more first mid now c.args.letters.now c.loop-letter.letter-index c.letter-item.result (omega arith) c.letter-item.is so_far.held posted.held;
      given = posted.given ∙ so_far.given;
      faults = omega (arith, so_far.faults, posted.faults);
      dry = omega (arith, so_far.dry, posted.dry);
    }

pub returns-clause-held : goal.returns-clause-held
returns-clause-held g c =
    let first = (g.C.Carrier.carried c.args.carrier.now).held in
    let now = (g.C.Carrier.carried c.loop-letter.carrier).held in
    all_wait first now c.args.letters.now c.loop-letter.letter-index (omega arith) c.loop-letter.invariant.held

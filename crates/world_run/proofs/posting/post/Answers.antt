use Rattle.world_run.proofs.Postings.{one_waits}
use Rattle.world_run.proofs.posting.post.Goals as goal

pub returns-in-Ok-clause-held : goal.returns-in-Ok-clause-held
returns-in-Ok-clause-held g c =
    let first = (g.C.Carrier.carried c.args.carrier.now).held in
    let now = (g.C.Carrier.carried c.post.new.self).held in
    one_waits first now c.args.letter.now c.in_ok-bytes.bytes.items c.in_ok-bytes.ensures.text c.in_ok-bytes.ensures.letter c.in-Ok.ensures.held

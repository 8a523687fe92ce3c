use Rattle.std.proofs.Common.{◌∙◌, ap, subst}
use Rattle.std.specs.Prelude.{map}
use Rattle.world_run.specs.steps.Beginning.{known_of}
use Rattle.world_run.specs.steps.Handing.{Reads}
use Rattle.world_run.proofs.Keeping.{kept-handed}
use Rattle.world_run.proofs.Reading.{reads_last}
use Rattle.world_run.proofs.running.turn.Goals as goal

pub returns-in-Taken-clause-reads : goal.returns-in-Taken-clause-reads
returns-in-Taken-clause-reads g c =
    reads_last (g.C.Carrier.carried c.args.carrier.now).given (g.C.Carrier.carried c.post_all.new.carrier).given (g.C.Carrier.carried c.take.new.carrier).given c.args.waiting c.in_ok-bytes.bytes
    c.in_ok-post_all.ensures.given c.in_ok-bytes.ensures.told (subst Reads c.deref-2.ensures.value c.in-Taken.ensures.reads)

pub returns-in-Refused-clause-reads : goal.returns-in-Refused-clause-reads
returns-in-Refused-clause-reads g c =
    reads_last (g.C.Carrier.carried c.args.carrier.now).given (g.C.Carrier.carried c.post_all.new.carrier).given (g.C.Carrier.carried c.take.new.carrier).given c.args.waiting c.in_ok-bytes.bytes
    c.in_ok-post_all.ensures.given c.in_ok-bytes.ensures.told (subst Reads c.deref-2.ensures.value c.in-Refused.ensures.reads)

pub returns-in-TooMany-clause-reads : goal.returns-in-TooMany-clause-reads
returns-in-TooMany-clause-reads g c =
    rw c.fault.ensures
    (reads_last (g.C.Carrier.carried c.args.carrier.now).given (g.C.Carrier.carried c.post_all.new.carrier).given (g.C.Carrier.carried c.take.new.carrier).given c.args.waiting c.in_ok-bytes.bytes
    c.in_ok-post_all.ensures.given c.in_ok-bytes.ensures.told (subst Reads c.deref-2.ensures.value c.in-TooMany.ensures.reads))

pub returns-in-Taken-clause-kept : goal.returns-in-Taken-clause-kept
returns-in-Taken-clause-kept g c = ap (map known_of) c.in-Taken.ensures.hands.0 ∙ kept-handed c.args.parts.now c.deref-2.result.now

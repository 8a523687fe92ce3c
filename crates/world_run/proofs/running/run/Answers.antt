use Rattle.std.proofs.Common.{rules, ◌≡◌, ◌∙◌, Some, None, ap, arith}
use Rattle.std.proofs.lemmas.Result.{err_from_is_err_and}
use Rattle.carrier.specs.Schedule.{after_pick}
use Rattle.world_run.specs.Replay.{first_waiting}
use Rattle.world_run.proofs.Along.{along_failed, along_further, along_to_end}
use Rattle.world_run.proofs.FirstWaiting.{none_owed, waits_not}
use Rattle.world_run.proofs.Handings.{none_waits}
use Rattle.world_run.proofs.Runnings.{ended, finished, kept, used_more}
use Rattle.world_run.proofs.Tracking.{tracks_further, tracks_to_end}
use Rattle.world_run.proofs.running.run.Goals as goal

pub returns-in_err-turn-clause-told : goal.returns-in_err-turn-clause-told
returns-in_err-turn-clause-told g c =
    let given = (g.C.Carrier.carried c.args.carrier.now).given in
    let mid = (g.C.Carrier.carried c.loop-waiting.carrier).given in
    let now = (g.C.Carrier.carried c.turn.new.carrier).given in
    let p = err_from_is_err_and c.from_residual.result c.from_residual.ensures.1 in
    rw (p.1, p.2) (ended c.args.parts.now c.loop-waiting.parts c.turn.new.parts c.loop-waiting.letters (Unit {0}) given mid now c.in_err-turn.field-0.0 c.loop-waiting.invariant.told c.in_err-turn.ensures.told)

pub loop-waiting-preserved : goal.loop-waiting-preserved
loop-waiting-preserved g c =
    let given = (g.C.Carrier.carried c.args.carrier.now).given in
    let mid = (g.C.Carrier.carried c.loop-waiting.carrier).given in
    let now = (g.C.Carrier.carried c.turn.new.carrier).given in
    let so_far = c.loop-waiting.invariant in
    let turn = c.in_ok-turn.ensures in
    let open_still : first_waiting c.loop-waiting.parts ≡ Some c.in-Some.waiting = search rules in
    record {
      unspent = turn.unspent;
      kept = turn.kept ∙ so_far.kept;
      sum = omega (arith, so_far.sum, turn.lower);
      told = kept c.args.parts.now c.loop-waiting.parts c.turn.new.parts c.loop-waiting.letters given mid now c.in_ok-turn.field-0 so_far.told turn.told;
      picks = turn.schedule ∙ ap after_pick so_far.picks ∙ used_more c.args.schedule.now c.loop-waiting.letters;
      draws = λ course truth default.
          along_further course truth default c.args.parts.now c.loop-waiting.parts c.turn.new.parts c.args.sent.items c.loop-waiting.sent.items c.turn.new.sent.items (g.C.Carrier.carried c.args.carrier.now)
          (g.C.Carrier.carried c.loop-waiting.carrier) (g.C.Carrier.carried c.turn.new.carrier) c.args.schedule.now c.loop-waiting.schedule c.turn.new.schedule (so_far.draws course truth default)
          c.in_ok-turn.field-0 turn.tells turn.reads turn.schedule turn.lower;
      tracks = λ course.
          tracks_further course c.args.parts.now c.loop-waiting.parts c.turn.new.parts c.args.sent.items c.loop-waiting.sent.items c.turn.new.sent.items (g.C.Carrier.carried c.args.carrier.now)
          (g.C.Carrier.carried c.loop-waiting.carrier) (g.C.Carrier.carried c.turn.new.carrier) c.args.schedule.now c.loop-waiting.schedule c.turn.new.schedule (so_far.tracks course)
          c.in_ok-turn.field-0 turn.tells turn.reads turn.schedule turn.lower;
      rests = λ none. absurd (waits_not c.loop-waiting.parts c.in-Some.waiting open_still (ap first_waiting (so_far.rests none).0 ∙ none));
      faults = omega (arith, so_far.faults, turn.faults);
      dry = omega (arith, so_far.dry, turn.dry);
    }

pub returns-in_err-turn-clause-draws : goal.returns-in_err-turn-clause-draws
returns-in_err-turn-clause-draws g c course truth default =
    let p = err_from_is_err_and c.from_residual.result c.from_residual.ensures.1 in
    let open_still : first_waiting c.loop-waiting.parts ≡ Some c.in-Some.waiting = search rules in
    rw (p.1, p.2)
    (along_failed course truth default c.args.parts.now c.loop-waiting.parts c.turn.new.parts c.args.sent.items c.loop-waiting.sent.items c.turn.new.sent.items (g.C.Carrier.carried c.args.carrier.now)
    (g.C.Carrier.carried c.loop-waiting.carrier) (g.C.Carrier.carried c.turn.new.carrier) c.args.schedule.now c.loop-waiting.schedule c.turn.new.schedule (c.loop-waiting.invariant.draws course truth default)
    (Unit {0}) c.in-Some.waiting c.in_err-turn.field-0.0 c.in_err-turn.ensures.tells c.in_err-turn.ensures.reads open_still)

pub returns-clause-draws : goal.returns-clause-draws
returns-clause-draws g c course truth default =
    let none : first_waiting c.loop-waiting.parts ≡ None = search rules in
    along_to_end course truth default c.args.parts.now c.loop-waiting.parts c.args.sent.items c.loop-waiting.sent.items (g.C.Carrier.carried c.args.carrier.now) (g.C.Carrier.carried c.loop-waiting.carrier)
    c.args.schedule.now c.loop-waiting.schedule c.loop-waiting.letters (c.loop-waiting.invariant.draws course truth default) none

pub returns-in_err-turn-clause-tracks : goal.returns-in_err-turn-clause-tracks
returns-in_err-turn-clause-tracks g c course =
    let p = err_from_is_err_and c.from_residual.result c.from_residual.ensures.1 in
    rw p.1 tt

pub returns-clause-tracks : goal.returns-clause-tracks
returns-clause-tracks g c course =
    let none : first_waiting c.loop-waiting.parts ≡ None = search rules in
    tracks_to_end course c.args.parts.now c.loop-waiting.parts c.args.sent.items c.loop-waiting.sent.items (g.C.Carrier.carried c.args.carrier.now) (g.C.Carrier.carried c.loop-waiting.carrier)
    c.args.schedule.now c.loop-waiting.schedule c.loop-waiting.letters (c.loop-waiting.invariant.tracks course) c.loop-waiting.invariant.sum none

pub returns-clause-told : goal.returns-clause-told
returns-clause-told g c =
    let given = (g.C.Carrier.carried c.args.carrier.now).given in
    let now = (g.C.Carrier.carried c.loop-waiting.carrier).given in
    let none : first_waiting c.loop-waiting.parts ≡ None = search rules in
    finished c.args.parts.now c.loop-waiting.parts c.loop-waiting.letters given now none c.loop-waiting.invariant.told

pub returns-clause-done : goal.returns-clause-done
returns-clause-done g c =
    let none : first_waiting c.loop-waiting.parts ≡ None = search rules in
    none_waits c.loop-waiting.parts none

pub returns-clause-letters : goal.returns-clause-letters
returns-clause-letters g c =
    let none : first_waiting c.loop-waiting.parts ≡ None = search rules in
    let all = none_owed c.loop-waiting.parts none in
    let so_far = c.loop-waiting.invariant.sum in
    omega (arith, all, so_far)

pub returns-in_err-turn-clause-rests : goal.returns-in_err-turn-clause-rests
returns-in_err-turn-clause-rests g c none =
    let open_still : first_waiting c.loop-waiting.parts ≡ Some c.in-Some.waiting = search rules in
    absurd (waits_not c.loop-waiting.parts c.in-Some.waiting open_still (ap first_waiting (c.loop-waiting.invariant.rests none).0 ∙ none))

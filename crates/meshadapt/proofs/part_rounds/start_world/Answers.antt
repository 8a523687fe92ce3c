use Rattle.meshadapt.proofs.Begun.{may_start, starts_so, stops_so}
use Rattle.meshadapt.proofs.part_rounds.start_world.Goals as goal

pub start-requires-clause-some : goal.start-requires-clause-some
start-requires-clause-some g c = (may_start c.args.job.now c.args.accepted.now c.args.handout.now c.requires.right c.requires.runs c.requires.fits c.requires.finer c.args.course.field c.args.course c.requires.course c.as_slice-labels.result.now c.as_slice-labels.ensures.value).some

pub start-requires-clause-parts : goal.start-requires-clause-parts
start-requires-clause-parts g c = (may_start c.args.job.now c.args.accepted.now c.args.handout.now c.requires.right c.requires.runs c.requires.fits c.requires.finer c.args.course.field c.args.course c.requires.course c.as_slice-labels.result.now c.as_slice-labels.ensures.value).most

pub start-requires-clause-grid : goal.start-requires-clause-grid
start-requires-clause-grid g c = (may_start c.args.job.now c.args.accepted.now c.args.handout.now c.requires.right c.requires.runs c.requires.fits c.requires.finer c.args.course.field c.args.course c.requires.course c.as_slice-labels.result.now c.as_slice-labels.ensures.value).grid_fits

pub start-requires-clause-collapses : goal.start-requires-clause-collapses
start-requires-clause-collapses g c = (may_start c.args.job.now c.args.accepted.now c.args.handout.now c.requires.right c.requires.runs c.requires.fits c.requires.finer c.args.course.field c.args.course c.requires.course c.as_slice-labels.result.now c.as_slice-labels.ensures.value).collapses

pub start-requires-clause-swaps : goal.start-requires-clause-swaps
start-requires-clause-swaps g c = (may_start c.args.job.now c.args.accepted.now c.args.handout.now c.requires.right c.requires.runs c.requires.fits c.requires.finer c.args.course.field c.args.course c.requires.course c.as_slice-labels.result.now c.as_slice-labels.ensures.value).swaps

pub start-requires-clause-each : goal.start-requires-clause-each
start-requires-clause-each g c = (may_start c.args.job.now c.args.accepted.now c.args.handout.now c.requires.right c.requires.runs c.requires.fits c.requires.finer c.args.course.field c.args.course c.requires.course c.as_slice-labels.result.now c.as_slice-labels.ensures.value).each

pub start-requires-clause-tets : goal.start-requires-clause-tets
start-requires-clause-tets g c = (may_start c.args.job.now c.args.accepted.now c.args.handout.now c.requires.right c.requires.runs c.requires.fits c.requires.finer c.args.course.field c.args.course c.requires.course c.as_slice-labels.result.now c.as_slice-labels.ensures.value).tets

pub start-requires-clause-marks : goal.start-requires-clause-marks
start-requires-clause-marks g c = (may_start c.args.job.now c.args.accepted.now c.args.handout.now c.requires.right c.requires.runs c.requires.fits c.requires.finer c.args.course.field c.args.course c.requires.course c.as_slice-labels.result.now c.as_slice-labels.ensures.value).marks

pub start-requires-clause-below : goal.start-requires-clause-below
start-requires-clause-below g c = (may_start c.args.job.now c.args.accepted.now c.args.handout.now c.requires.right c.requires.runs c.requires.fits c.requires.finer c.args.course.field c.args.course c.requires.course c.as_slice-labels.result.now c.as_slice-labels.ensures.value).below

pub returns-in-Ok : goal.returns-in-Ok
returns-in-Ok g c =
    let e = c.in-Ok.ensures in
    starts_so c.args.job.now c.args.accepted.now c.args.handout.now c.requires.right c.requires.runs c.requires.fits c.requires.finer c.args.course.field c.args.course c.requires.course c.as_slice-labels.result.now c.as_slice-labels.ensures.value
    c.start.new.schedule (g.C.Carrier.carried c.args.carrier.now) (g.C.Carrier.carried c.start.new.carrier) c.in-Ok.world
    (record {
      tells = record { told = e.told; drawn = e.drawn; alone = e.alone };
      is_whole = e.whole;
      done = e.done;
      letters = e.letters;
      unspent = e.unspent;
      picks = e.used;
      faults = e.faults;
      dry = e.dry;
    })

pub returns-in-Err : goal.returns-in-Err
returns-in-Err g c =
    let e = c.in-Err.ensures in
    stops_so c.args.job.now c.args.accepted.now c.args.handout.now c.requires.right c.requires.runs c.requires.fits c.requires.finer c.args.course.field c.args.course c.requires.course c.as_slice-labels.result.now c.as_slice-labels.ensures.value
    c.start.new.schedule (g.C.Carrier.carried c.args.carrier.now) (g.C.Carrier.carried c.start.new.carrier) c.in-Err.fault
    (record { told = e.told; drawn = e.drawn; alone = e.alone }) e.cause

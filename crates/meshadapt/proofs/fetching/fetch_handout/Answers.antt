use Rattle.std.proofs.Common.{List, ℕ, Option, ap}
use Rattle.std.specs.Option.{option_map}
use Rattle.std.proofs.lemmas.Result.{err_from_is_err_and}
use Rattle.carrier.specs.Schedule.{Picks}
use Rattle.meshadapt.specs.Verdict.{Handout}
use Rattle.meshadapt.specs.steps.Asking.{asked, division_asked}
use Rattle.meshadapt.proofs.Handouts.{picks_read, picks_refused, picks_unread}
use Rattle.meshadapt.proofs.fetching.fetch_handout.Goals as goal

pub returns-in_err-bytes-clause-fetches : goal.returns-in_err-bytes-clause-fetches
returns-in_err-bytes-clause-fetches g c mesh =
    let p = err_from_is_err_and c.from_residual.result c.from_residual.ensures.1 in
    rw (p.1, p.2, c.in-Some-labels.is)
    (picks_unread (asked c.args.job.now) (division_asked c.in-Some.division) (ap (option_map division_asked) c.in-Some.is) mesh c.in-Some-labels.labels.items (λ (bytes : List ℕ). bytes) (λ (handout : Option Handout). handout) c.in_err-bytes.field-0.0
    (g.D.Depot.held c.args.depot.now) (g.D.Depot.held c.fetch_file.new.depot) c.in_err-bytes.ensures.fetches)

pub returns-in_err-schedule-clause-fetches : goal.returns-in_err-schedule-clause-fetches
returns-in_err-schedule-clause-fetches g c mesh =
    let p = err_from_is_err_and c.from_residual-in_err-schedule.result c.from_residual-in_err-schedule.ensures.1 in
    rw (p.1, p.2, c.in-Some-labels.is)
    (picks_refused (asked c.args.job.now) (division_asked c.in-Some.division) (ap (option_map division_asked) c.in-Some.is) mesh c.in-Some-labels.labels.items (λ (picks : Picks). picks) (λ (handout : Option Handout). handout) c.in_err-schedule.field-0.0 c.in_ok-bytes.bytes.items c.as_slice.result.now c.as_slice.ensures.value
    (g.D.Depot.held c.args.depot.now) (g.D.Depot.held c.fetch_file.new.depot) c.in_ok-bytes.ensures.fetches c.in_ok-bytes.ensures.files c.in_ok-bytes.ensures.counts c.in_err-schedule.ensures)

pub returns-clause-fetches : goal.returns-clause-fetches
returns-clause-fetches g c mesh =
    rw (c.in-Some-labels.is)
    (picks_read (asked c.args.job.now) (division_asked c.in-Some.division) (ap (option_map division_asked) c.in-Some.is) mesh c.in-Some-labels.labels.items c.in_ok-bytes.bytes.items c.as_slice.result.now c.as_slice.ensures.value c.in_ok-schedule.schedule
    (g.D.Depot.held c.args.depot.now).files c.in_ok-bytes.ensures.fetches c.in_ok-schedule.ensures)

use Rattle.std.proofs.Common.{List, ℕ, Option, Some, ap, sym, subst}
use Rattle.std.specs.Option.{option_map}
use Rattle.std.proofs.lemmas.Result.{err_from_is_err_and}
use Rattle.meshadapt.specs.declared.words.Division.{Division}
use Rattle.meshadapt.specs.steps.Asking.{asked, division_asked}
use Rattle.meshadapt.specs.steps.Fetching.{LabelsFit}
use Rattle.meshadapt.proofs.Handouts.{labels_read, labels_refused, labels_unread}
use Rattle.meshadapt.proofs.fetching.fetch_labels.Goals as goal

pub returns-in_err-bytes-clause-fetches : goal.returns-in_err-bytes-clause-fetches
returns-in_err-bytes-clause-fetches g c =
    let p = err_from_is_err_and c.from_residual.result c.from_residual.ensures.1 in
    rw (p.1, p.2)
    (labels_unread (asked c.args.job.now) (division_asked c.in-Some.division) (ap (option_map division_asked) c.in-Some.is) c.args.tets (λ (bytes : List ℕ). bytes) (λ (labels : Option (List ℕ)). labels) c.in_err-bytes.field-0.0
    (g.D.Depot.held c.args.depot.now) (g.D.Depot.held c.fetch_file.new.depot) c.in_err-bytes.ensures.fetches)

pub returns-in_err-labels-clause-fetches : goal.returns-in_err-labels-clause-fetches
returns-in_err-labels-clause-fetches g c =
    let p = err_from_is_err_and c.from_residual-in_err-labels.result c.from_residual-in_err-labels.ensures.1 in
    rw (p.1, p.2)
    (labels_refused (asked c.args.job.now) (division_asked c.in-Some.division) (ap (option_map division_asked) c.in-Some.is) c.args.tets (λ (bytes : List ℕ). bytes) (λ (labels : Option (List ℕ)). labels) c.in_err-labels.field-0.0 c.in_ok-bytes.bytes.items c.as_slice.result.now c.as_slice.ensures.value
    (g.D.Depot.held c.args.depot.now) (g.D.Depot.held c.fetch_file.new.depot) c.in_ok-bytes.ensures.fetches c.in_ok-bytes.ensures.files c.in_ok-bytes.ensures.counts c.in_err-labels.ensures.value)

pub returns-clause-fetches : goal.returns-clause-fetches
returns-clause-fetches g c =
    labels_read (asked c.args.job.now) (division_asked c.in-Some.division) (ap (option_map division_asked) c.in-Some.is) c.args.tets c.in_ok-bytes.bytes.items c.as_slice.result.now c.as_slice.ensures.value c.in_ok-labels.labels.items
    (g.D.Depot.held c.args.depot.now).files c.in_ok-bytes.ensures.fetches c.in_ok-labels.ensures.value

pub returns-clause-fit : goal.returns-clause-fit
returns-clause-fit g c = subst (λ (d : Option Division). LabelsFit d c.args.tets (Some c.in_ok-labels.labels.items)) (sym c.in-Some.is) c.in_ok-labels.ensures.fit

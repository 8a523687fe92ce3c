use Rattle.std.proofs.Common.{ℕ, List, Option, length, ap, subst, sym, ◌≡◌}
use Rattle.std.specs.Prelude.{Err, IfSome, Ok}
use Rattle.std.specs.Option.{option_map}
use Rattle.std.proofs.lemmas.Result.{err_from_is_err_and}
use Rattle.meshadapt.specs.steps.Asking.{asked}
use Rattle.meshadapt.specs.steps.Fetching.{CanRun, LabelsFit, accepted_mesh, handout_of, inputs_of}
use Rattle.size_marks.specs.Field.{Field}
use Rattle.meshadapt.specs.Verdict.{AcceptedMesh, Handout, labels_for}
use Rattle.meshadapt.proofs.Fetchings.{all_fetched, field_halts, handout_halts, hands_fit, labels_halt, mesh_halts}
use Rattle.meshadapt.proofs.fetching.fetch_inputs.Goals as goal

pub returns-in_err-accepted-clause-fetches : goal.returns-in_err-accepted-clause-fetches
returns-in_err-accepted-clause-fetches g c =
    let p = err_from_is_err_and c.from_residual.result c.from_residual.ensures.1 in
    rw (p.1, p.2) (mesh_halts (asked c.args.job.now) inputs_of (λ (accepted : AcceptedMesh). accepted) c.in_err-accepted.field-0.0 (g.D.Depot.held c.args.depot.now) (g.D.Depot.held c.fetch_mesh.new.depot) c.in_err-accepted.ensures.fetches)

pub returns-in_err-labels-clause-fetches : goal.returns-in_err-labels-clause-fetches
returns-in_err-labels-clause-fetches g c =
    let p = err_from_is_err_and c.from_residual-in_err-labels.result c.from_residual-in_err-labels.ensures.1 in
    let accepted = accepted_mesh c.in_ok-accepted.accepted in
    let tets : length c.tets-tets.result.now ≡ length accepted.mesh.tets = ap length c.tets-tets.ensures.value in
    rw (p.1, p.2)
    (labels_halt (asked c.args.job.now) inputs_of accepted (g.D.Depot.held c.args.depot.now) (g.D.Depot.held c.fetch_mesh.new.depot) c.in_ok-accepted.ensures.fetches c.in_ok-accepted.ensures.files c.in_ok-accepted.ensures.counts (λ (labels : Option (List ℕ)). labels) c.in_err-labels.field-0.0 (g.D.Depot.held c.fetch_labels.new.depot)
    (length c.tets-tets.result.now) tets c.in_err-labels.ensures.fetches)

pub returns-in_err-field-clause-fetches : goal.returns-in_err-field-clause-fetches
returns-in_err-field-clause-fetches g c =
    let p = err_from_is_err_and c.from_residual-in_err-field.result c.from_residual-in_err-field.ensures.1 in
    let accepted = accepted_mesh c.in_ok-accepted.accepted in
    let tets : length c.tets-tets.result.now ≡ length accepted.mesh.tets = ap length c.tets-tets.ensures.value in
    let labels : Option (List ℕ) = option_map (λ l. l.items) c.in_ok-labels.labels in
    let labels_read : IfSome (g.D.Depot.held c.fetch_mesh.new.depot).files (λ files. labels_for (asked c.args.job.now).division (length accepted.mesh.tets) files ≡ Ok labels) =
    subst (λ (n : ℕ). IfSome (g.D.Depot.held c.fetch_mesh.new.depot).files (λ files. labels_for (asked c.args.job.now).division n files ≡ Ok labels)) tets c.in_ok-labels.ensures.fetches
    in
    rw (p.1, p.2) (field_halts (asked c.args.job.now) inputs_of accepted (g.D.Depot.held c.args.depot.now) (g.D.Depot.held c.fetch_mesh.new.depot) c.in_ok-accepted.ensures.fetches c.in_ok-accepted.ensures.files c.in_ok-accepted.ensures.counts labels (g.D.Depot.held c.fetch_labels.new.depot) labels_read c.in_ok-labels.ensures.files c.in_ok-labels.ensures.counts (λ (field : Field). field) c.in_err-field.field-0.0 (g.D.Depot.held c.fetch_sizes.new.depot) c.in_err-field.ensures.fetches)

pub returns-in_err-handout-clause-fetches : goal.returns-in_err-handout-clause-fetches
returns-in_err-handout-clause-fetches g c =
    let p = err_from_is_err_and c.from_residual-in_err-handout.result c.from_residual-in_err-handout.ensures.1 in
    let accepted = accepted_mesh c.in_ok-accepted.accepted in
    let tets : length c.tets-tets.result.now ≡ length accepted.mesh.tets = ap length c.tets-tets.ensures.value in
    let labels : Option (List ℕ) = option_map (λ l. l.items) c.in_ok-labels.labels in
    let labels_read : IfSome (g.D.Depot.held c.fetch_mesh.new.depot).files (λ files. labels_for (asked c.args.job.now).division (length accepted.mesh.tets) files ≡ Ok labels) =
    subst (λ (n : ℕ). IfSome (g.D.Depot.held c.fetch_mesh.new.depot).files (λ files. labels_for (asked c.args.job.now).division n files ≡ Ok labels)) tets c.in_ok-labels.ensures.fetches
    in
    rw (p.1, p.2)
    (handout_halts (asked c.args.job.now) inputs_of accepted (g.D.Depot.held c.args.depot.now) (g.D.Depot.held c.fetch_mesh.new.depot) c.in_ok-accepted.ensures.fetches c.in_ok-accepted.ensures.files c.in_ok-accepted.ensures.counts labels (g.D.Depot.held c.fetch_labels.new.depot) labels_read c.in_ok-labels.ensures.files c.in_ok-labels.ensures.counts c.in_ok-field.field (g.D.Depot.held c.fetch_sizes.new.depot) c.in_ok-field.ensures.fetches c.in_ok-field.ensures.files c.in_ok-field.ensures.counts (λ (handout : Option Handout). handout) c.in_err-handout.field-0.0 (g.D.Depot.held c.fetch_handout.new.depot)
    (c.in_err-handout.ensures.fetches accepted.mesh))

pub returns-in_err-within-clause-fetches : goal.returns-in_err-within-clause-fetches
returns-in_err-within-clause-fetches g c =
    let p = err_from_is_err_and c.from_residual-in_err-within.result c.from_residual-in_err-within.ensures.1 in
    let accepted = accepted_mesh c.in_ok-accepted.accepted in
    let tets : length c.tets-tets.result.now ≡ length accepted.mesh.tets = ap length c.tets-tets.ensures.value in
    let labels : Option (List ℕ) = option_map (λ l. l.items) c.in_ok-labels.labels in
    let labels_read : IfSome (g.D.Depot.held c.fetch_mesh.new.depot).files (λ files. labels_for (asked c.args.job.now).division (length accepted.mesh.tets) files ≡ Ok labels) =
    subst (λ (n : ℕ). IfSome (g.D.Depot.held c.fetch_mesh.new.depot).files (λ files. labels_for (asked c.args.job.now).division n files ≡ Ok labels)) tets c.in_ok-labels.ensures.fetches
    in
    rw (p.1, p.2)
    (all_fetched (asked c.args.job.now) inputs_of accepted (g.D.Depot.held c.args.depot.now) (g.D.Depot.held c.fetch_mesh.new.depot) c.in_ok-accepted.ensures.fetches c.in_ok-accepted.ensures.files c.in_ok-accepted.ensures.counts labels (g.D.Depot.held c.fetch_labels.new.depot) labels_read c.in_ok-labels.ensures.files c.in_ok-labels.ensures.counts c.in_ok-field.field (g.D.Depot.held c.fetch_sizes.new.depot) c.in_ok-field.ensures.fetches c.in_ok-field.ensures.files c.in_ok-field.ensures.counts (option_map (handout_of accepted.mesh) c.in_ok-handout.handout) (g.D.Depot.held c.fetch_handout.new.depot) (c.in_ok-handout.ensures.fetches accepted.mesh) c.in_ok-handout.ensures.files c.in_ok-handout.ensures.counts
    (Err c.in_err-within.field-0.0) c.in_err-within.ensures.value)

pub returns-clause-fetches : goal.returns-clause-fetches
returns-clause-fetches g c =
    let accepted = accepted_mesh c.in_ok-accepted.accepted in
    let tets : length c.tets-tets.result.now ≡ length accepted.mesh.tets = ap length c.tets-tets.ensures.value in
    let labels : Option (List ℕ) = option_map (λ l. l.items) c.in_ok-labels.labels in
    let labels_read : IfSome (g.D.Depot.held c.fetch_mesh.new.depot).files (λ files. labels_for (asked c.args.job.now).division (length accepted.mesh.tets) files ≡ Ok labels) =
    subst (λ (n : ℕ). IfSome (g.D.Depot.held c.fetch_mesh.new.depot).files (λ files. labels_for (asked c.args.job.now).division n files ≡ Ok labels)) tets c.in_ok-labels.ensures.fetches
    in
    all_fetched (asked c.args.job.now) inputs_of accepted (g.D.Depot.held c.args.depot.now) (g.D.Depot.held c.fetch_mesh.new.depot) c.in_ok-accepted.ensures.fetches c.in_ok-accepted.ensures.files c.in_ok-accepted.ensures.counts labels (g.D.Depot.held c.fetch_labels.new.depot) labels_read c.in_ok-labels.ensures.files c.in_ok-labels.ensures.counts c.in_ok-field.field (g.D.Depot.held c.fetch_sizes.new.depot) c.in_ok-field.ensures.fetches c.in_ok-field.ensures.files c.in_ok-field.ensures.counts (option_map (handout_of accepted.mesh) c.in_ok-handout.handout) (g.D.Depot.held c.fetch_handout.new.depot) (c.in_ok-handout.ensures.fetches accepted.mesh) c.in_ok-handout.ensures.files c.in_ok-handout.ensures.counts
    (Ok c.in_ok-within.within) c.in_ok-within.ensures.value

pub returns-clause-runnable : goal.returns-clause-runnable
returns-clause-runnable g c =
    let division = c.args.job.now.division in
    let accepted = c.in_ok-accepted.accepted in
    let tets : length c.tets-tets.result.now ≡ length accepted.mesh.tets = ap length c.tets-tets.ensures.value in
    let labels : Option (List ℕ) = option_map (λ l. l.items) c.in_ok-labels.labels in
    let fit : LabelsFit division (length accepted.mesh.tets) labels = subst (λ (n : ℕ). LabelsFit division n labels) tets c.in_ok-labels.ensures.fit in
    subst (CanRun division) (sym c.in_ok-within.ensures.same)
    (record { mesh = c.in_ok-accepted.ensures.fit; handout = hands_fit division (length accepted.mesh.tets) labels c.in_ok-handout.handout fit c.in_ok-handout.ensures.hands })

pub returns-clause-finer : goal.returns-clause-finer
returns-clause-finer g c = c.in_ok-within.ensures.finer

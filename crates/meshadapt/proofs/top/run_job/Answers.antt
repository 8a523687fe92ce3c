use Rattle.std.proofs.Common.{◌≡◌, ◌∙◌, Option, Some, length, subst, sym}
use Rattle.std.specs.Prelude.{IfSome, Ok}
use Rattle.std.specs.Option.{option_map}
use Rattle.std.proofs.lemmas.Result.{err_from_is_err_and}
use Rattle.ma_io.specs.Files.{Files}
use Rattle.size_marks.specs.Field.{Field}
use Rattle.meshadapt.specs.declared.fetching.Accepted.{Accepted}
use Rattle.meshadapt.specs.declared.fetching.Fetched.{Fetched}
use Rattle.meshadapt.specs.declared.fetching.Handout.{Handout as FetchedHandout}
use Rattle.meshadapt.specs.Verdict.{Inputs, inputs_with, verdict}
use Rattle.meshadapt.specs.Words.{Job}
use Rattle.meshadapt.specs.steps.Asking.{asked}
use Rattle.meshadapt.specs.steps.Fetching.{HandoutFits, accepted_mesh, handout_of, inputs_of}
use Rattle.meshadapt.proofs.Ending.{fetch_halts}
use Rattle.meshadapt.proofs.HandedOut.{not_alone}
use Rattle.meshadapt.proofs.top.run_job.Goals as goal

abbrev started : Accepted → Field → Option FetchedHandout → Inputs
started accepted field handout = inputs_with (accepted_mesh accepted) field (option_map (handout_of accepted.mesh) handout)

-- the verdict on what was fetched, once the handout is known
verdict_with : (told : Option Files) (job : Job) (accepted : Accepted) (field : Field) (before after : Option FetchedHandout) → before ≡ after
    → IfSome told (λ files. verdict files job ≡ Ok (started accepted field before)) → IfSome told (λ files. verdict files job ≡ Ok (started accepted field after))
verdict_with told job accepted field before after same v = subst (λ (handout : Option FetchedHandout). IfSome told (λ files. verdict files job ≡ Ok (started accepted field handout))) same v

pub returns-in_err-fetched-clause-runs : goal.returns-in_err-fetched-clause-runs
returns-in_err-fetched-clause-runs g c =
    let p = err_from_is_err_and c.from_residual.result c.from_residual.ensures.1 in
    rw (p.1, p.2)
    (fetch_halts Fetched (Unit {0}) inputs_of (asked c.args.job.now) (g.D.Depot.held c.args.depot.now) (g.D.Depot.held c.fetch_inputs.new.depot) (g.C.Carrier.carried c.args.carrier.now) (g.S.Sink.received c.args.out.now)
    c.in_err-fetched.field-0.0 c.in_err-fetched.ensures.files c.in_err-fetched.ensures.fetches)

pub returns-in-None-clause-runs : goal.returns-in-None-clause-runs
returns-in-None-clause-runs g c =
    let fetched = c.in_ok-fetched.fetched in
    let told = (g.D.Depot.held c.args.depot.now).files in
    c.run_plain.ensures (g.C.Carrier.carried c.args.carrier.now) (g.D.Depot.held c.args.depot.now) c.in_ok-fetched.ensures.files c.in_ok-fetched.ensures.store_faults
    (verdict_with told (asked c.args.job.now) fetched.accepted fetched.field fetched.handout c.take.new.self (sym c.take.ensures.value ∙ c.in-None.is ∙ sym c.take.ensures.after) c.in_ok-fetched.ensures.fetches)

pub run_parts-requires-clause-fits : goal.run_parts-requires-clause-fits
run_parts-requires-clause-fits g c =
    let fetched = c.in_ok-fetched.fetched in
    subst (HandoutFits c.args.job.now.division (length fetched.accepted.mesh.tets)) (sym c.take.ensures.value ∙ c.in-Some.is) c.in_ok-fetched.ensures.runnable.handout

pub returns-in-Some-clause-runs : goal.returns-in-Some-clause-runs
returns-in-Some-clause-runs g c =
    let fetched = c.in_ok-fetched.fetched in
    let told = (g.D.Depot.held c.args.depot.now).files in
    c.run_parts.ensures (g.D.Depot.held c.args.depot.now) c.in_ok-fetched.ensures.files c.in_ok-fetched.ensures.store_faults
    (verdict_with told (asked c.args.job.now) fetched.accepted fetched.field fetched.handout (Some c.in-Some.handout) (sym c.take.ensures.value ∙ c.in-Some.is) c.in_ok-fetched.ensures.fetches)

pub returns-in-Some-clause-carrier : goal.returns-in-Some-clause-carrier
returns-in-Some-clause-carrier g c over =
    let fetched = c.in_ok-fetched.fetched in
    absurd (not_alone c.args.job.now.division (length fetched.accepted.mesh.tets) c.in-Some.handout
    (subst (HandoutFits c.args.job.now.division (length fetched.accepted.mesh.tets)) (sym c.take.ensures.value ∙ c.in-Some.is) c.in_ok-fetched.ensures.runnable.handout) over)

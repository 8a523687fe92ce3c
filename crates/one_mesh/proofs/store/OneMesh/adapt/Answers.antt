use Rattle.std.proofs.Common.{◌≡◌, ℕ, ◌+◌, ◌≤◌, ◌<◌, ap, ap₂, subst, arith, length, false, ◌∙◌}
use Rattle.std.specs.Prelude.{Err}
use Rattle.std.proofs.lemmas.Result.{err_from_is_err_and}
use Rattle.ma_cells.specs.declared.batch.Batch.{Batch}
use Rattle.pass_rules.specs.Passes.{passed}
use Rattle.one_mesh.specs.Adaptation.{Plan, last_stage, most_adapted_tets, staged}
use Rattle.one_mesh.specs.Holding.{Holding}
use Rattle.one_mesh.specs.steps.Stages.{EndsStage}
use Rattle.one_mesh.proofs.Stages.{ends_there, next_stage, up_to}
use Rattle.one_mesh.proofs.store.OneMesh.adapt.Goals as goal

pub returns-in_err-pass_within : goal.returns-in_err-pass_within
returns-in_err-pass_within c =
    let plan : Plan = record { field = c.args.field.now; collapses = c.args.collapse; swaps = c.args.swap } in
    let before = c.loop-before.before in
    let mesh : Batch = c.args.self.now.mesh in
    let after : passed c.kind_of_pass-kind.result c.args.field.now c.loop-before.self.mesh ≡ staged plan (before + 1) mesh
    = ap₂ (λ k (m : Batch). passed k c.args.field.now m) c.kind_of_pass-kind.ensures (ap (λ (h : Holding). h.mesh) c.loop-before.invariant.held) ∙ next_stage plan mesh before in
    let stage_ends : EndsStage {X = Unit {0}} (Err c.in_err-pass_within.field-0.0) c.args.round (before + 1) (passed c.kind_of_pass-kind.result c.args.field.now c.loop-before.self.mesh) c.pass_within.new.self = c.in_err-pass_within.ensures in
    let round_ends = ends_there (Unit {0}) (Unit {0}) c.in_err-pass_within.field-0.0 c.args.round (before + 1) plan mesh c.pass_within.new.self (let test = c.loop-before-test.true in omega arith)
    (λ earlier less. c.loop-before.invariant.within earlier (omega arith)) (subst (λ (m : Batch). EndsStage {X = Unit {0}} (Err c.in_err-pass_within.field-0.0) c.args.round (before + 1) m c.pass_within.new.self) after stage_ends) in
    let p = err_from_is_err_and c.from_residual-in_err-pass_within.result c.from_residual-in_err-pass_within.ensures.1 in
    rw (p.1, p.2) round_ends

pub loop-before-preserved : goal.loop-before-preserved
loop-before-preserved c =
    let plan : Plan = record { field = c.args.field.now; collapses = c.args.collapse; swaps = c.args.swap } in
    let before = c.loop-before.before in
    let mesh : Batch = c.args.self.now.mesh in
    let after : passed c.kind_of_pass-kind.result c.args.field.now c.loop-before.self.mesh ≡ staged plan (before + 1) mesh
    = ap₂ (λ k (m : Batch). passed k c.args.field.now m) c.kind_of_pass-kind.ensures (ap (λ (h : Holding). h.mesh) c.loop-before.invariant.held) ∙ next_stage plan mesh before in
    record {
      held = c.in_ok-pass_within.ensures.0 ∙ ap (λ (m : Batch). record { mesh = m; spent = false }) after;
      within = up_to plan mesh before c.loop-before.invariant.within (subst (λ (m : Batch). length m.tets ≤ most_adapted_tets) after c.in_ok-pass_within.ensures.1);
    }

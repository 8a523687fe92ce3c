-- Without its labels, a labelled mesh is adapted as a mesh in one piece.
use Rattle.std.proofs.Common.{◌≡◌, ℕ, zero, suc, ◌-◌, refl, sym, ap, subst, ◌∙◌, arith}
use Rattle.mesh_laws.specs.Adapted.{IsAdapted}
use Rattle.refinement.specs.Refinement.{refine}
use Rattle.pass_rules.specs.Passes.{passed}
use Rattle.one_mesh.specs.Adaptation.{Plan, adapted, kind_of_pass, last_stage, staged}
use Rattle.one_mesh.proofs.Rounds.{rounds_adapt, stages_adapt}
use Rattle.part_store.specs.Labelled.{LabelledMesh}
use Rattle.gather_laws.proofs.After.{unlabelled}
use Rattle.refined_views.specs.Refined.{without_labels}
use Rattle.refined_views.proofs.RefinedMesh.{refined_is_refinement}
use Rattle.staged_meshes.specs.Laws.{RoundsAreAdapted, RoundsAreOne, StagesAreAdapted, StagesAreOne}
use Rattle.staged_meshes.specs.Staged.{adapted_times, opened, passed_times, staged_in}

module _ (plan : Plan) (mesh : LabelledMesh) where
  -- of a round after so many, if that is so before it
  stage : (round passes : ℕ) → without_labels (adapted_times plan mesh round) ≡ adapted plan round (without_labels mesh) → without_labels (staged_in plan mesh (suc round) passes) ≡ staged plan passes (adapted plan round (without_labels mesh))
  stage round zero before = refined_is_refinement plan.field (adapted_times plan mesh round) ∙ ap (refine plan.field) before
  stage round (suc passes) before =
      unlabelled (kind_of_pass plan passes) plan.field (passed_times plan (opened plan mesh (suc round)) passes) ∙ ap (passed (kind_of_pass plan passes) plan.field) (stage round passes before)

pub rounds_are_one : RoundsAreOne
rounds_are_one plan mesh zero = refl
rounds_are_one plan mesh (suc round) = stage plan mesh round (last_stage plan) (rounds_are_one plan mesh round)

pub stages_are_one : StagesAreOne
stages_are_one plan mesh round passes = stage plan mesh round passes (rounds_are_one plan mesh round)

pub rounds_are_adapted : RoundsAreAdapted
rounds_are_adapted plan mesh rounds sound = subst (IsAdapted (without_labels mesh)) (sym (rounds_are_one plan mesh rounds)) (rounds_adapt rounds plan (without_labels mesh) sound)

pub stages_are_adapted : StagesAreAdapted
stages_are_adapted plan mesh round passes sound =
    subst (IsAdapted (without_labels mesh)) (ap (λ n. staged plan passes (adapted plan n (without_labels mesh))) (before round) ∙ sym (stages_are_one plan mesh round passes))
    (stages_adapt (suc round) passes plan (without_labels mesh) sound)
  where
    before : (n : ℕ) → suc n - 1 ≡ n
    before n = omega arith

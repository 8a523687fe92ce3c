-- What parts that have adapted their mesh together have: the mesh as one part makes it, with as many tetrahedra at each stage.
use Rattle.std.proofs.Common.{◌≡◌, ℕ, zero, suc, ◌+◌, ◌-◌, ◌≤◌, List, length, refl, sym, subst, ap, ◌∙◌, add-one, arith}
use Rattle.std.specs.Prelude.{map}
use Rattle.ma_cells.specs.Tetrahedron.{are_corners}
use Rattle.ma_cells.specs.declared.batch.Batch.{Batch}
use Rattle.mesh_laws.specs.Adapted.{IsSoundMesh}
use Rattle.one_mesh.specs.Adaptation.{IsFirstPast, IsFirstStagePast, Plan, RoundStaysWithin, StaysWithin, adapted, kind_of_pass, last_stage, staged}
use Rattle.part_core.specs.Parts.{PartState}
use Rattle.part_rules.specs.Ends.{most_tets}
use Rattle.part_rules.specs.Owed.{IsLabelled}
use Rattle.part_rules.specs.declared.course.Course.{Course}
use Rattle.part_store.specs.Labelled.{LabelledMesh, tet_of}
use Rattle.gather_laws.proofs.Next.{labelled_after}
use Rattle.refined_views.specs.Refined.{without_labels}
use Rattle.refined_views.proofs.RefinedMesh.{refined_is_labelled}
use Rattle.round_laws.specs.Truths.{StaysWithinUpTo}
use Rattle.round_rules.specs.Stages.{passes_in}
use Rattle.staged_meshes.specs.Staged.{opened, passed_times, staged_in}
use Rattle.staged_meshes.proofs.OneLabel.{stages_are_as_many}
use Rattle.staged_meshes.proofs.OneStage.{rounds_are_adapted, rounds_are_one, stages_are_one}
use Rattle.staged_meshes.proofs.Sets.{as_list}
use Rattle.staged_meshes.proofs.StagesShared.{opened_marks_stay}
use Rattle.world_run.specs.Drawn.{IsFirstExcess}
use Rattle.world_run.specs.Rounds.{HaveAdapted, IsOnce, IsWhole}
use Rattle.world_run.specs.Union.{union_in}
use Rattle.world_run.proofs.Together.{parts_make_mesh}
use Rattle.meshadapt.specs.Acts.{adapted_by, course_of, whole, whole_after}
use Rattle.meshadapt.specs.Verdict.{Handout, Inputs, plan_of}
use Rattle.meshadapt.specs.Words.{Job}
use Rattle.meshadapt.specs.steps.OverRounds.{MayRun}

module _ (job : Job) (inputs : Inputs) (handout : Handout) (may : MayRun job inputs handout) where
  abbrev plan : Plan
  plan = plan_of job inputs

  abbrev course : Course
  course = course_of job inputs handout

  -- what a round begins with once it has refined
  abbrev begins : ℕ → LabelledMesh
  begins round = opened plan (whole handout) round

  pub is_once : IsOnce (whole handout)
  is_once = record { sound = subst IsSoundMesh (sym may.mesh_is) may.sound; as_many = may.as_many ∙ ap (λ (mesh : Batch). length mesh.tets) (sym may.mesh_is) }

  without_is : (round : ℕ) → without_labels (whole_after job inputs handout round) ≡ adapted_by job inputs round
  without_is round = rounds_are_one plan (whole handout) round ∙ ap (adapted plan round) may.mesh_is

  -- it is what the last stage leaves
  pub ends_with : (round : ℕ) → passed_times plan (begins round) (passes_in course round) ≡ whole_after job inputs handout round
  ends_with zero = refl
  ends_with (suc round) = refl

  -- each stage of a later round has as many tetrahedra
  as_many : (round stage : ℕ) → length (staged_in plan (whole handout) (suc round) stage).tets ≡ length (staged plan stage (adapted_by job inputs round)).tets
  as_many round stage =
      let same : without_labels (staged_in plan (whole handout) (suc round) stage) ≡ staged plan stage (adapted_by job inputs round)
      = stages_are_one plan (whole handout) round stage ∙ ap (λ (mesh : Batch). staged plan stage (adapted plan round mesh)) may.mesh_is in
      stages_are_as_many plan (whole handout) round stage is_once.sound is_once.as_many ∙ ap (λ (mesh : Batch). length mesh.tets) same

  pub round_within : (round : ℕ) → StaysWithinUpTo course (begins (round + 1)) (passes_in course (round + 1) + 1) → RoundStaysWithin plan (adapted_by job inputs round)
  round_within round within = λ stage last.
      let few : StaysWithinUpTo course (begins (suc round)) (passes_in course (suc round) + 1) = subst (λ (n : ℕ). StaysWithinUpTo course (begins n) (passes_in course n + 1)) (add-one round) within in
      let most : length (staged_in plan (whole handout) (suc round) stage).tets ≤ most_tets = few stage (omega (arith, last)) in
      let many = as_many round stage in
      omega (arith, most, many)

  pub first_past : (round over stage count : ℕ) → round + 1 ≤ job.rounds → over ≡ round + 1 → IsFirstExcess course (round + 1) (begins (round + 1)) stage count → StaysWithin plan round inputs.mesh → IsFirstPast plan job.rounds inputs.mesh over stage count
  first_past round over stage count more is excess before =
      let first : IsFirstExcess course (suc round) (begins (suc round)) stage count = subst (λ (n : ℕ). IsFirstExcess course n (begins n) stage count) (add-one round) excess in
      let back : round ≡ over - 1 = omega (arith, is) in
      let stage_past : IsFirstStagePast plan (adapted_by job inputs round) stage count = record {
        stage_is = first.upto;
        count_is = first.count_is ∙ as_many round stage;
        past = first.much;
        earlier = λ earlier less. let few = first.earlier earlier less in let many = as_many round earlier in omega (arith, few, many);
      } in
      record {
        least = omega (arith, is);
        greatest = omega (arith, is, more);
        in_round = subst (λ (n : ℕ). IsFirstStagePast plan (adapted_by job inputs n) stage count) back stage_past;
        before = subst (λ (n : ℕ). StaysWithin plan n inputs.mesh) back before;
      }

  -- ---- the parts
  module _ (right : IsWhole course (whole handout)) where
    labelled_in : (round passes : ℕ) → IsLabelled course.parts (begins (suc round)) → IsLabelled course.parts (staged_in plan (whole handout) (suc round) passes)
    labelled_in round zero labelled = labelled
    labelled_in round (suc before) labelled =
        labelled_after (kind_of_pass plan before) plan.field (staged_in plan (whole handout) (suc round) before) course.parts (labelled_in round before labelled)
        (opened_marks_stay plan (whole handout) round (suc before) is_once.sound before (omega arith))

    is_labelled : (round : ℕ) → IsLabelled course.parts (whole_after job inputs handout round)
    is_labelled zero = right.labelled
    is_labelled (suc round) =
        let last : LabelledMesh = whole_after job inputs handout round in
        labelled_in round (last_stage plan)
        (refined_is_labelled inputs.field course.parts last (is_labelled round) (as_list (λ tet. are_corners tet.corners) (map tet_of last.tets) (rounds_are_adapted plan (whole handout) round is_once.sound).sound.tetrahedra))

    pub union_is : (round : ℕ) (parts : List PartState) → HaveAdapted course (whole handout) round parts → union_in parts ≡ adapted_by job inputs round
    union_is round parts have =
        let labelled : IsLabelled (length parts) (whole_after job inputs handout round) = subst (λ (n : ℕ). IsLabelled n (whole_after job inputs handout round)) (sym have.done.all) (is_labelled round) in
        parts_make_mesh (whole_after job inputs handout round) parts labelled have.see ∙ without_is round

-- What a round keeps, stage by stage, any number of rounds keeps.
use Rattle.std.proofs.Common.{◌≡◌, ℕ, zero, suc, ◌+◌, ◌-◌, true, List, subst, arith}
use Rattle.std.specs.List.{flat_map}
use Rattle.ma_cells.specs.Ascending.{are_ascending, ascending_of}
use Rattle.ma_cells.specs.Cells.{CellMark, mark_cmp}
use Rattle.ma_cells.specs.Grid.{mesh_is_on_grid}
use Rattle.ma_cells.specs.Tetrahedron.{are_tetrahedra}
use Rattle.ma_cells.specs.declared.batch.Batch.{Batch}
use Rattle.ma_cells.proofs.Ascents.{ascending_from_strict, sorted-ascending_of}
use Rattle.ma_cells.proofs.CellOrders.{mark_cmp_total}
use Rattle.mesh_laws.specs.Adapted.{IsAdapted, IsSoundMesh}
use Rattle.mesh_laws.proofs.Adapted.{adapted_composes, sound_is_adapted}
use Rattle.refinement.specs.Refinement.{refine, refined_mark}
use Rattle.refine_laws.proofs.Sound.{refinement_adapts}
use Rattle.refinement.proofs.Gridded.{refinement_halves_the_grid}
use Rattle.refinement.proofs.NotFlat.{refinement_is_not_flat}
use Rattle.cavity_rank.specs.declared.verdict.Kind.{Kind}
use Rattle.cavity_rank.specs.declared.verdict.Kind.TheVariants.{Collapse, Swap}
use Rattle.size_marks.specs.Field.{Field}
use Rattle.collapse_passes.proofs.Adapts.{collapse_pass_adapts}
use Rattle.swap_passes.proofs.Adapts.{swap_pass_adapts}
use Rattle.pass_rules.specs.Passes.{changed_by, chosen, passed}
use Rattle.pass_rules.proofs.Kept.{passes_are_not_flat, passes_stay_on_the_grid}
use Rattle.one_mesh.specs.Adaptation.{Plan, adapted, after_stage, kind_of_pass, last_stage, staged}
use Rattle.one_mesh.specs.Laws.{RoundsAdapt, RoundsAreNotFlat, RoundsHalveTheGrid, StagesAdapt}

-- ---- not flat
stages_are_not_flat : (stage : ℕ) (plan : Plan) (mesh : Batch) → are_tetrahedra mesh.tets ≡ true → are_tetrahedra (staged plan stage mesh).tets ≡ true
stages_are_not_flat zero plan mesh h = refinement_is_not_flat plan.field mesh h
stages_are_not_flat (suc before) plan mesh h = passes_are_not_flat (kind_of_pass plan before) plan.field (staged plan before mesh) (stages_are_not_flat before plan mesh h)

pub rounds_are_not_flat : RoundsAreNotFlat
rounds_are_not_flat zero plan mesh h = h
rounds_are_not_flat (suc round) plan mesh h = stages_are_not_flat (last_stage plan) plan (adapted plan round mesh) (rounds_are_not_flat round plan mesh h)

-- ---- grids
stages_halve_the_grid : (stage k : ℕ) (plan : Plan) (mesh : Batch) → mesh_is_on_grid (suc k) mesh ≡ true → mesh_is_on_grid k (staged plan stage mesh) ≡ true
stages_halve_the_grid zero k plan mesh h = refinement_halves_the_grid k plan.field mesh h
stages_halve_the_grid (suc before) k plan mesh h = passes_stay_on_the_grid k (kind_of_pass plan before) plan.field (staged plan before mesh) (stages_halve_the_grid before k plan mesh h)

one_finer : (k rounds : ℕ) → k + suc rounds ≡ suc k + rounds
one_finer k rounds = omega arith

pub rounds_halve_the_grid : RoundsHalveTheGrid
rounds_halve_the_grid k zero plan mesh h = subst (λ n. mesh_is_on_grid n mesh ≡ true) (without k) h
  where
    without : (k : ℕ) → k + 0 ≡ k
    without k = omega arith
rounds_halve_the_grid k (suc rounds) plan mesh h =
    stages_halve_the_grid (last_stage plan) k plan (adapted plan rounds mesh) (rounds_halve_the_grid (suc k) rounds plan mesh (subst (λ n. mesh_is_on_grid n mesh ≡ true) (one_finer k rounds) h))

-- ---- sound meshes
pub pass_adapts : (kind : Kind) (field : Field) (mesh : Batch) → IsSoundMesh mesh → are_ascending mark_cmp mesh.marks ≡ true → IsAdapted mesh (passed kind field mesh)
pass_adapts Collapse field mesh is rise = collapse_pass_adapts field mesh is rise
pass_adapts Swap field mesh is rise = swap_pass_adapts field mesh is

-- the marks after refinement and after a pass are listed in their order
set_rises : (marks : List CellMark) → are_ascending mark_cmp (ascending_of mark_cmp marks) ≡ true
set_rises marks = ascending_from_strict mark_cmp_total (ascending_of mark_cmp marks) (sorted-ascending_of mark_cmp_total marks)

pub refined_rises : (field : Field) (mesh : Batch) → are_ascending mark_cmp (refine field mesh).marks ≡ true
refined_rises field mesh = set_rises (flat_map (refined_mark field) mesh.marks)

pub passed_rises : (kind : Kind) (field : Field) (mesh : Batch) → are_ascending mark_cmp (passed kind field mesh).marks ≡ true
passed_rises kind field mesh = set_rises (flat_map (changed_by (chosen kind field mesh)) mesh.marks)

marks_rise : (stage : ℕ) (plan : Plan) (mesh : Batch) → are_ascending mark_cmp (staged plan stage mesh).marks ≡ true
marks_rise zero plan mesh = refined_rises plan.field mesh
marks_rise (suc before) plan mesh = passed_rises (kind_of_pass plan before) plan.field (staged plan before mesh)

stage_adapts : (stage : ℕ) (plan : Plan) (mesh : Batch) → IsSoundMesh mesh → IsAdapted mesh (staged plan stage mesh)
stage_adapts zero plan mesh is = refinement_adapts plan.field mesh is
stage_adapts (suc before) plan mesh is =
    let so_far = stage_adapts before plan mesh is in
    let last = staged plan before mesh in
    adapted_composes mesh last (passed (kind_of_pass plan before) plan.field last) is so_far (pass_adapts (kind_of_pass plan before) plan.field last so_far.sound (marks_rise before plan mesh))

pub rounds_adapt : RoundsAdapt
rounds_adapt zero plan mesh is = sound_is_adapted mesh is
rounds_adapt (suc rounds) plan mesh is =
    let before = adapted plan rounds mesh in
    let so_far = rounds_adapt rounds plan mesh is in
    adapted_composes mesh before (staged plan (last_stage plan) before) is so_far (stage_adapts (last_stage plan) plan before so_far.sound)

pub stages_adapt : StagesAdapt
stages_adapt round stage plan mesh is =
    let before = adapted plan (round - 1) mesh in
    let so_far = rounds_adapt (round - 1) plan mesh is in
    adapted_composes mesh before (staged plan stage before) is so_far (stage_adapts stage plan before so_far.sound)

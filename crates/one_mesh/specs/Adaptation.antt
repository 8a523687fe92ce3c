-- Plans, rounds of adaptation by a plan, and how many tetrahedra a mesh may have.
use Rattle.std.specs.Prelude.{◌≡◌, ℕ, zero, suc, ◌+◌, ◌-◌, ◌≤◌, ◌<◌, length, nat_lt, if◌then◌else◌}
use Rattle.ma_cells.specs.declared.batch.Batch.{Batch}
use Rattle.size_marks.specs.Field.{Field}
use Rattle.cavity_rank.specs.declared.verdict.Kind.{Kind}
use Rattle.cavity_rank.specs.declared.verdict.Kind.TheVariants.{Collapse, Swap}
use Rattle.pass_rules.specs.Passes.{passed}
use Rattle.refinement.specs.Refinement.{refine}

-- the size of edges, and how many collapse passes and swap passes a round has
pub record Plan : Type 0 where
  pub field : Field
  pub collapses : ℕ
  pub swaps : ℕ

-- how many tetrahedra a mesh may have after a stage
abbrev pub most_adapted_tets : ℕ
most_adapted_tets = 1000000

-- how many passes of a kind a round may have
abbrev pub most_passes : ℕ
most_passes = 16

-- a round refines the mesh in stage 0, and has a stage for each pass: for those that collapse edges, and then for those that swap
abbrev pub last_stage : Plan → ℕ
last_stage plan = plan.collapses + plan.swaps

-- what the pass behind so many others does
abbrev pub kind_of_pass : Plan → ℕ → Kind
kind_of_pass plan before = if nat_lt before plan.collapses then Collapse else Swap

-- the mesh after this stage of a round that starts with a mesh
abbrev pub staged : Plan → ℕ → Batch → Batch
staged plan zero mesh = refine plan.field mesh
staged plan (suc before) mesh = passed (kind_of_pass plan before) plan.field (staged plan before mesh)

-- the mesh after so many rounds
abbrev pub adapted : Plan → ℕ → Batch → Batch
adapted plan zero mesh = mesh
adapted plan (suc round) mesh = staged plan (last_stage plan) (adapted plan round mesh)

-- the mesh after this stage of this round, counted from 1
abbrev pub after_stage : Plan → ℕ → ℕ → Batch → Batch
after_stage plan round stage mesh = staged plan stage (adapted plan (round - 1) mesh)

-- no stage of a round that starts with this mesh is past the limit
abbrev pub RoundStaysWithin : Plan → Batch → Type 0
RoundStaysWithin plan mesh = (stage : ℕ) → stage ≤ last_stage plan → length (staged plan stage mesh).tets ≤ most_adapted_tets

-- no stage of one of so many rounds is past the limit
abbrev pub StaysWithin : Plan → ℕ → Batch → Type 0
StaysWithin plan rounds mesh = (round stage : ℕ) → 1 ≤ round → round ≤ rounds → stage ≤ last_stage plan → length (after_stage plan round stage mesh).tets ≤ most_adapted_tets

-- of a round that starts with this mesh, this stage is the first after which it is past the limit, with this many tetrahedra
pub record IsFirstStagePast (plan : Plan) (mesh : Batch) (stage count : ℕ) : Type 0 where
  pub stage_is : stage ≤ last_stage plan
  pub count_is : count ≡ length (staged plan stage mesh).tets
  pub past : most_adapted_tets < count
  pub earlier : (earlier : ℕ) → earlier < stage → length (staged plan earlier mesh).tets ≤ most_adapted_tets

-- of so many rounds, this one is the first with such a stage
pub record IsFirstPast (plan : Plan) (rounds : ℕ) (mesh : Batch) (round stage count : ℕ) : Type 0 where
  pub least : 1 ≤ round
  pub greatest : round ≤ rounds
  pub in_round : IsFirstStagePast plan (adapted plan (round - 1) mesh) stage count
  pub before : StaysWithin plan (round - 1) mesh

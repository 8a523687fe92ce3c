-- How a round ends, by how its last stage ended.
use Rattle.std.proofs.Common.{◌≡◌, ℕ, suc, ◌+◌, ◌<◌, ◌≤◌, ◌⊎◌, inl, inr, true, false, length, refl, subst, sym, arith}
use Rattle.std.specs.Prelude.{Err, nat_le}
use Rattle.std.proofs.lemmas.Bool.Decides.{nat_tests}
use Rattle.ma_cells.specs.declared.batch.Batch.{Batch}
use Rattle.pass_rules.specs.Passes.{passed}
use Rattle.one_mesh.specs.Adaptation.{IsFirstStagePast, Plan, kind_of_pass, last_stage, most_adapted_tets, staged}
use Rattle.one_mesh.specs.Holding.{Holding}
use Rattle.one_mesh.specs.Rounds.{EndsRound}
use Rattle.one_mesh.specs.steps.Stages.{EndsStage}
use Rattle.one_mesh.specs.declared.fault.OneFault.{OneFault}
use Rattle.one_mesh.specs.declared.fault.OneFault.TheVariants.{Over, Memory}

-- a round ends with a stage that doesn't end well, where all stages before it did
pub ends_there : (X Y : Type 0) (fault : OneFault) (round stage : ℕ) (plan : Plan) (mesh : Batch) (new : Holding) → stage ≤ last_stage plan
    → ((earlier : ℕ) → earlier < stage → length (staged plan earlier mesh).tets ≤ most_adapted_tets) → EndsStage {X = X} (Err fault) round stage (staged plan stage mesh) new → EndsRound {X = Y} (Err fault) round plan mesh new
ends_there X Y (Over r s count) round stage plan mesh new at earlier h = (h.0, there s h.1, h.4)
  where
    there : (s : ℕ) → s ≡ stage → IsFirstStagePast plan mesh s count
    there s e = subst (λ n. IsFirstStagePast plan mesh n count) (sym e) (record { stage_is = at; count_is = h.2; past = h.3; earlier = earlier })
ends_there X Y Memory round stage plan mesh new at earlier h = h

-- the stages up to one are those before it, and that one
pub up_to : (plan : Plan) (mesh : Batch) (before : ℕ) → ((stage : ℕ) → stage ≤ before → length (staged plan stage mesh).tets ≤ most_adapted_tets)
    → length (staged plan (before + 1) mesh).tets ≤ most_adapted_tets → (stage : ℕ) → stage ≤ before + 1 → length (staged plan stage mesh).tets ≤ most_adapted_tets
up_to plan mesh before earlier here stage at =
    elim (last_or_less stage before at) [
      | inl less ↦ earlier stage less
      | inr is ↦ subst (λ n. length (staged plan n mesh).tets ≤ most_adapted_tets) (sym is) here
    ]
  where
    last_or_less : (stage before : ℕ) → stage ≤ before + 1 → (stage ≤ before) ⊎ (stage ≡ before + 1)
    last_or_less stage before at = elim (nat_le stage before) as (λ b. nat_le stage before ≡ b → (stage ≤ before) ⊎ (stage ≡ before + 1)) [
      | true ↦ λ e. inl (grind (arith, nat_tests))
      | false ↦ λ e. inr (grind (arith, nat_tests))
    ] refl

pub next_stage : (plan : Plan) (mesh : Batch) (before : ℕ) → passed (kind_of_pass plan before) plan.field (staged plan before mesh) ≡ staged plan (before + 1) mesh
next_stage plan mesh before = subst (λ n. staged plan (suc before) mesh ≡ staged plan n mesh) (one_more before) refl
  where
    one_more : (n : ℕ) → suc n ≡ n + 1
    one_more n = omega arith

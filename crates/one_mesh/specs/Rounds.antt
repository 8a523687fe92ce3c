-- What a round of adaptation leaves, by its answer.
use Rattle.std.specs.Prelude.{◌≡◌, ℕ, false, true, Result, Ok, Err}
use Rattle.ma_cells.specs.declared.batch.Batch.{Batch}
use Rattle.one_mesh.specs.Adaptation.{IsFirstStagePast, Plan, RoundStaysWithin, last_stage, staged}
use Rattle.one_mesh.specs.Holding.{Holding}
use Rattle.one_mesh.specs.declared.fault.OneFault.{OneFault}
use Rattle.one_mesh.specs.declared.fault.OneFault.TheVariants.{Over, Memory}

-- The round of this number goes through all stages of the plan within the limit. Where one is past it, the answer tells the round, the first such stage, and how many tetrahedra there are. After a refusal the value is spent
abbrev pub EndsRound : {X : Type 0} → Result X OneFault → ℕ → Plan → Batch → Holding → Type 0
EndsRound (Ok _) round plan mesh new = (new ≡ record { mesh = staged plan (last_stage plan) mesh; spent = false }) × RoundStaysWithin plan mesh
EndsRound (Err (Over r stage count)) round plan mesh new = (r ≡ round) × IsFirstStagePast plan mesh stage count × (new.spent ≡ true)
EndsRound (Err Memory) round plan mesh new = new.spent ≡ true

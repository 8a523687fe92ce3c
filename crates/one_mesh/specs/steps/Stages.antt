-- What one stage of a round leaves, by its answer. No public contract names this.
use Rattle.std.specs.Prelude.{◌≡◌, ℕ, ◌≤◌, ◌<◌, false, true, length, Result, Ok, Err}
use Rattle.ma_cells.specs.declared.batch.Batch.{Batch}
use Rattle.one_mesh.specs.Adaptation.{most_adapted_tets}
use Rattle.one_mesh.specs.Holding.{Holding}
use Rattle.one_mesh.specs.declared.fault.OneFault.{OneFault}
use Rattle.one_mesh.specs.declared.fault.OneFault.TheVariants.{Over, Memory}

-- that a stage of a round which is to leave a mesh left it, within the limit; or that the value is spent, where that mesh is past it or memory ran out
abbrev pub EndsStage : {X : Type 0} → Result X OneFault → (round stage : ℕ) → (after : Batch) → Holding → Type 0
EndsStage (Ok _) round stage after new = (new ≡ record { mesh = after; spent = false }) × (length after.tets ≤ most_adapted_tets)
EndsStage (Err (Over r s count)) round stage after new = (r ≡ round) × (s ≡ stage) × (count ≡ length after.tets) × (most_adapted_tets < count) × (new.spent ≡ true)
EndsStage (Err Memory) round stage after new = new.spent ≡ true

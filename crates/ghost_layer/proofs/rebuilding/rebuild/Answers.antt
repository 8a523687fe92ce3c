use Rattle.std.proofs.Common.{◌≡◌, ℕ, List, map, sym, subst, ◌∙◌}
use Rattle.std.specs.Prelude.{◌≢◌}
use Rattle.std.specs.List.{All}
use Rattle.std.proofs.lemmas.List.Elements.{All-from_recursion, recursion_from_All}
use Rattle.ma_cells.specs.declared.batch.Batch.{Batch}
use Rattle.ma_cells.proofs.Passing.{all-map}
use Rattle.ghost_layer.specs.GhostRule.{near}
use Rattle.ghost_layer.proofs.rebuilding.rebuild.Goals as goal

pub set_ghosts-requires : goal.set_ghosts-requires
set_ghosts-requires c =
    let IsOther = λ (batch : ℕ × Batch). batch.0 ≢ c.args.store.now.part in
    subst (λ (batches : List (ℕ × Batch)). All IsOther batches) (sym (c.as_slice.ensures.value ∙ c.in_ok-near_own.ensures))
    (All-from_recursion IsOther (map (near c.in_ok-corners.corners) c.args.got.now)
    (all-map IsOther IsOther (near c.in_ok-corners.corners) (λ batch other. other) c.args.got.now (recursion_from_All IsOther c.args.got.now c.requires)))

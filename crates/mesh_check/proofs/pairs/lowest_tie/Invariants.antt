use Rattle.std.proofs.Common.{◌≡◌, ◌∷◌, drop}
use Rattle.mesh_check.specs.steps.Ties.{lower, lowest_tie}
use Rattle.mesh_check.proofs.pairs.lowest_tie.Given as goal

abbrev pub invariant-loop-item : goal.invariant-loop-item
invariant-loop-item g l = lower l.lowest (lowest_tie g.K.Ord.cmp (l.last ∷ drop l.item-index l.rest)) ≡ lowest_tie g.K.Ord.cmp l.fn.items

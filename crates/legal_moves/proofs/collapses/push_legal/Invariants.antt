use Rattle.std.proofs.Common.{◌≡◌, ◌++◌, [], ◌∷◌, drop}
use Rattle.std.specs.List.{flat_map}
use Rattle.pass_rules.specs.Moves.{operations_from, quality_at}
use Rattle.legal_moves.proofs.collapses.push_legal.Given as goal

-- the collapses so far, and those to the places that are left
abbrev pub invariant-loop-v : goal.invariant-loop-v
invariant-loop-v l =
    l.ops.items ++ flat_map (λ v. operations_from (l.a ∷ []) v (quality_at l.field l.star l.marks (l.a ∷ []) v)) (drop l.v-index l.others)
    ≡ l.fn.ops.items ++ flat_map (λ v. operations_from (l.a ∷ []) v (quality_at l.field l.star l.marks (l.a ∷ []) v)) l.others

use Rattle.std.proofs.Common.{◌≡◌, ◌++◌, drop}
use Rattle.std.specs.List.{flat_map}
use Rattle.legal_moves.specs.Around.{swaps_from}
use Rattle.legal_moves.proofs.swaps.push_from.Given as goal

-- the swaps so far, and those to the places that are left
abbrev pub invariant-loop-v : goal.invariant-loop-v
invariant-loop-v l = l.ops.items ++ flat_map (swaps_from l.star l.at) (drop l.v-index l.apexes) ≡ l.fn.ops.items ++ flat_map (swaps_from l.star l.at) l.apexes

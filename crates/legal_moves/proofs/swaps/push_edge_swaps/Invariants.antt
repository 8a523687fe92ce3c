use Rattle.std.proofs.Common.{◌≡◌, ◌++◌, drop}
use Rattle.std.specs.List.{flat_map}
use Rattle.legal_moves.specs.Around.{AreAt, swaps_around}
use Rattle.legal_moves.proofs.swaps.push_edge_swaps.Given as goal

-- the swaps so far, and those of the edges that are left
abbrev pub invariant-loop-ends : goal.invariant-loop-ends
invariant-loop-ends l = record {
  near : AreAt l.mesh l.around.first l.around.tets_at_first.items l.around.marks_at_first.items;
  pushed : l.ops.items ++ flat_map (swaps_around l.mesh) (drop l.ends-index l.edges) ≡ l.fn.ops.items ++ flat_map (swaps_around l.mesh) l.edges;
}

use Rattle.std.proofs.Common.{◌≡◌, flat_map, take}
use Rattle.refinement.specs.Refinement.{refined_tet}
use Rattle.refinement.specs.steps.Recent.{AreRecent}
use Rattle.refinement.proofs.pieces.tet_pieces.Given as goal

abbrev pub invariant-loop-tet : goal.invariant-loop-tet
invariant-loop-tet l = (l.pieces.items ≡ flat_map (refined_tet l.field) (take l.tet-index l.tets)) × AreRecent l.field l.entries.items

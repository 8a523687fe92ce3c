use Rattle.std.proofs.Common.{◌≡◌, flat_map, take}
use Rattle.refinement.specs.Refinement.{refined_mark}
use Rattle.refinement.proofs.pieces.mark_pieces.Given as goal

abbrev pub invariant-loop-mark : goal.invariant-loop-mark
invariant-loop-mark l = l.pieces.items ≡ flat_map (refined_mark l.field) (take l.mark-index l.marks)

use Rattle.std.proofs.Common.{◌≡◌, ◌+◌, ◌++◌, length}
use Rattle.std.specs.List.Sorted.{IsStrictlySortedBy}
use Rattle.ma_cells.specs.Ascending.{ascending_of}
use Rattle.ma_cells.proofs.ascending.merge.Given as goal

abbrev pub invariant-loop-first : goal.invariant-loop-first
invariant-loop-first g l = record {
  first : IsStrictlySortedBy g.T.Ord.cmp l.first;
  second : IsStrictlySortedBy g.T.Ord.cmp l.second;
  both : l.both.items ++ ascending_of g.T.Ord.cmp (l.first ++ l.second) ≡ ascending_of g.T.Ord.cmp (l.fn.first ++ l.fn.second);
}

abbrev pub decreases-loop-first : goal.decreases-loop-first
decreases-loop-first g l = length l.first + length l.second

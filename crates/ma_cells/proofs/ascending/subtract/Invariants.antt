use Rattle.std.proofs.Common.{◌≡◌, ◌+◌, ◌++◌, filter, length, not}
use Rattle.std.specs.List.Sorted.{IsStrictlySortedBy}
use Rattle.ma_cells.specs.Ascending.{has}
use Rattle.ma_cells.proofs.ascending.subtract.Given as goal

abbrev pub invariant-loop-first : goal.invariant-loop-first
invariant-loop-first g l = record {
  first : IsStrictlySortedBy g.T.Ord.cmp l.first;
  second : IsStrictlySortedBy g.T.Ord.cmp l.second;
  rest : l.rest.items ++ filter (λ x. not (has g.T.Ord.cmp x l.second)) l.first ≡ filter (λ x. not (has g.T.Ord.cmp x l.fn.second)) l.fn.first;
}

abbrev pub decreases-loop-first : goal.decreases-loop-first
decreases-loop-first g l = length l.first + length l.second

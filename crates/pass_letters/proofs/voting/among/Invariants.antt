use Rattle.std.proofs.Common.{◌≡◌, ◌++◌, drop, filter}
use Rattle.ma_cells.specs.Ascending.{has}
use Rattle.cavity_rank.specs.Operations.{Operation, rank}
use Rattle.pass_letters.proofs.voting.among.Given as goal

-- those so far, and those of the operations that are left
abbrev pub invariant-loop-op : goal.invariant-loop-op
invariant-loop-op l = l.kept.items ++ filter (λ (op : Operation). has rank op l.set) (drop l.op-index l.ops) ≡ filter (λ (op : Operation). has rank op l.set) l.ops

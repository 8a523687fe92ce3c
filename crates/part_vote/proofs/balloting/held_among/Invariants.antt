use Rattle.std.proofs.Common.{◌≡◌, ◌++◌, drop, filter}
use Rattle.std.specs.List.{list_any}
use Rattle.cavity_rank.specs.Operations.{Operation}
use Rattle.pass_rules.specs.Choosing.{is_in}
use Rattle.part_vote.proofs.balloting.held_among.Given as goal

-- those so far, and those of the operations that are left
abbrev pub invariant-loop-op : goal.invariant-loop-op
invariant-loop-op l =
    l.held.items ++ filter (λ (op : Operation). list_any (is_in op) l.tets) (drop l.op-index l.ops) ≡ filter (λ (op : Operation). list_any (is_in op) l.tets) l.ops

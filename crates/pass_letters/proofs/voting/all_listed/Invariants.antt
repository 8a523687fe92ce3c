use Rattle.std.proofs.Common.{◌≡◌, ℕ, List, ◌++◌, drop}
use Rattle.std.specs.List.{flat_map}
use Rattle.cavity_rank.specs.Operations.{Operation}
use Rattle.pass_letters.proofs.voting.all_listed.Given as goal

-- those so far, and those of the lists that are left
abbrev pub invariant-loop-list : goal.invariant-loop-list
invariant-loop-list l = l.ops.items ++ flat_map (λ (list : ℕ × List Operation). list.1) (drop l.list-index l.lists) ≡ flat_map (λ (list : ℕ × List Operation). list.1) l.lists

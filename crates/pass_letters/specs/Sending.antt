-- What a part sends to the other parts, kept once for all of them.
use Rattle.std.specs.Prelude.{ℕ, List, filter, map}
use Rattle.std.specs.Ordering.{nat_cmp}
use Rattle.ma_cells.specs.Ascending.{has}
use Rattle.cavity_rank.specs.Operations.{Operation}
use Rattle.part_vote.specs.Voting.{is_from}

-- operations, each with the labels of its cavity
pub record AddressedState : Type 0 where
  pub entries : List (Operation × List ℕ)

-- what goes to a part: the operations with its label
abbrev pub addressed_to : AddressedState → ℕ → List Operation
addressed_to letters part = map (λ entry. entry.0) (filter (λ entry. has nat_cmp part entry.1) letters.entries)

-- a part's ballots, and what was proposed, each list with its sender
pub record VotesState : Type 0 where
  pub ballots : List Operation
  pub proposed : List (ℕ × List Operation)

-- what goes to a part: the ballots for what it proposed
abbrev pub votes_to : VotesState → ℕ → List Operation
votes_to votes part = filter (λ op. is_from votes.proposed op part) votes.ballots

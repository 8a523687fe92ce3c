-- What parts propose, vote for and win, each by what it sees of a mesh with labels, is what a pass over the one mesh chooses.
use Rattle.std.specs.Prelude.{◌≡◌, ◌<◌, ℕ, List, filter}
use Rattle.std.specs.List.{flat_map}
use Rattle.ma_cells.specs.Ascending.{ascending_of}
use Rattle.size_marks.specs.Field.{Field}
use Rattle.cavity_rank.specs.Operations.{Operation, rank}
use Rattle.cavity_rank.specs.declared.verdict.Kind.{Kind}
use Rattle.part_phases.specs.Inboxes.{Inbox, below, gathered}
use Rattle.part_rules.specs.Owed.{IsLabelled}
use Rattle.part_store.specs.Labelled.{LabelledMesh, view_of}
use Rattle.part_vote.specs.Leading.{leads, legal_in}
use Rattle.part_vote.specs.OwedVotes.{chosen_in, owed_orders, owed_proposals, owed_votes}
use Rattle.part_vote.specs.Voting.{ordered_to, proposals, proposed_to, voted_to, won}

module _ (parts : ℕ) (kind : Kind) (field : Field) (mesh : LabelledMesh) where
  -- what all parts, itself among them, owe a part as proposals
  abbrev pub proposals_for : ℕ → Inbox (List Operation)
  proposals_for p = gathered parts (λ r. owed_proposals kind field mesh r p)

  -- and as votes
  abbrev pub votes_for : ℕ → Inbox (List Operation)
  votes_for p = gathered parts (λ r. owed_votes kind field mesh r p)

  -- what a part wins by the proposals and the votes that are owed to it
  abbrev pub won_by : ℕ → List Operation
  won_by p = won (view_of mesh p) (owed_proposals kind field mesh p p) (owed_votes kind field mesh p p) (votes_for p)

-- a part proposes the legal operations of the mesh that it leads
abbrev pub ProposalsAreLed : Type 0
ProposalsAreLed = (parts : ℕ) (kind : Kind) (field : Field) (mesh : LabelledMesh) → IsLabelled parts mesh
    → (p : ℕ) → proposals kind field (view_of mesh p) ≡ filter (leads mesh.tets p) (legal_in kind field mesh)

-- to each part those that it owes it
abbrev pub ProposalsAreOwed : Type 0
ProposalsAreOwed = (parts : ℕ) (kind : Kind) (field : Field) (mesh : LabelledMesh) → IsLabelled parts mesh
    → (p q : ℕ) → proposed_to kind field (view_of mesh p) q ≡ owed_proposals kind field mesh p q

-- by what was proposed to it, it votes for those operations of each part for which it owes a vote
abbrev pub VotesAreOwed : Type 0
VotesAreOwed = (parts : ℕ) (kind : Kind) (field : Field) (mesh : LabelledMesh) → IsLabelled parts mesh
    → (p q : ℕ) → q < parts → voted_to (view_of mesh p) (proposals_for parts kind field mesh p) q ≡ owed_votes kind field mesh p q

-- by the votes that come, it wins the chosen operations of the mesh that it leads
abbrev pub WonAreLed : Type 0
WonAreLed = (parts : ℕ) (kind : Kind) (field : Field) (mesh : LabelledMesh) → IsLabelled parts mesh
    → (p : ℕ) → won_by parts kind field mesh p ≡ filter (leads mesh.tets p) (chosen_in kind field mesh)

-- and orders of each part those that it owes it
abbrev pub OrdersAreOwed : Type 0
OrdersAreOwed = (parts : ℕ) (kind : Kind) (field : Field) (mesh : LabelledMesh) → IsLabelled parts mesh
    → (p q : ℕ) → ordered_to (view_of mesh p) (owed_proposals kind field mesh p p) (owed_votes kind field mesh p p) (votes_for parts kind field mesh p) q ≡ owed_orders kind field mesh p q

-- what all parts win is what the pass chooses
abbrev pub WonAreChosen : Type 0
WonAreChosen = (parts : ℕ) (kind : Kind) (field : Field) (mesh : LabelledMesh) → IsLabelled parts mesh
    → ascending_of rank (flat_map (won_by parts kind field mesh) (below parts)) ≡ chosen_in kind field mesh

-- Which operations a part proposes, votes for and wins, by what it sees of the mesh and by what was sent to it. What it would send to itself counts as sent.
use Rattle.std.specs.Prelude.{ℕ, Bool, ◌&&◌, ◌||◌, ◌==◌, List, filter}
use Rattle.std.specs.List.{flat_map, list_all, list_any}
use Rattle.ma_cells.specs.Ascending.{ascending_of, has}
use Rattle.ma_cells.specs.Tetrahedron.{Tetrahedron}
use Rattle.ma_cells.specs.declared.view.View.{View}
use Rattle.size_marks.specs.Field.{Field}
use Rattle.cavity_rank.specs.Operations.{Operation, rank}
use Rattle.cavity_rank.specs.declared.verdict.Kind.{Kind}
use Rattle.part_store.specs.Agreement.{all_in}
use Rattle.part_store.specs.Labelled.{LabelledMesh}
use Rattle.pass_rules.specs.Choosing.{is_in, winners}
use Rattle.part_vote.specs.Leading.{cavity_labels, leads, legal_in, reaches}

-- what a part sees, as a mesh
abbrev pub mesh_in : View → LabelledMesh
mesh_in view = record { tets = all_in view; marks = view.marks }

-- the legal operations that the part leads
abbrev pub proposals : Kind → Field → View → List Operation
proposals kind field view = filter (leads (all_in view) view.part) (legal_in kind field (mesh_in view))

-- of these operations those that have an own tetrahedron in their cavity and are first of all on each such tetrahedron
abbrev pub ballots : View → List Operation → List Operation
ballots view ops = filter (λ op. list_any (is_in op) view.own) (winners ops view.own)

-- whether a part sent an operation, by lists of operations with their senders
abbrev pub is_from : List (ℕ × List Operation) → Operation → ℕ → Bool
is_from lists op part = list_any (λ list. (list.0 == part) && has rank op list.1) lists

-- whether an operation is in a part's own vote, and each other part in the cavity has voted for it
abbrev pub has_all_votes : List (Tetrahedron × ℕ) → ℕ → List Operation → List (ℕ × List Operation) → Operation → Bool
has_all_votes tets part mine votes op = has rank op mine && list_all (λ label. (label == part) || is_from votes op label) (cavity_labels tets op)

-- of the operations that the part leads those that have all votes
abbrev pub won : View → List Operation → List Operation → List (ℕ × List Operation) → List Operation
won view led mine votes = filter (has_all_votes (all_in view) view.part mine votes) led

-- ---- what it sends to another part
-- the proposals that have a tetrahedron of the other in their cavity
abbrev pub proposed_to : Kind → Field → View → ℕ → List Operation
proposed_to kind field view part = filter (reaches (all_in view) part) (proposals kind field view)

-- all operations of some lists, as a set
abbrev pub all_sent : List (ℕ × List Operation) → List Operation
all_sent lists = ascending_of rank (flat_map (λ list. list.1) lists)

-- of the ballots over all that was proposed those that the other proposed
abbrev pub voted_to : View → List (ℕ × List Operation) → ℕ → List Operation
voted_to view proposed part = filter (λ op. is_from proposed op part) (ballots view (all_sent proposed))

-- the operations won that have a tetrahedron of the other in their cavity
abbrev pub ordered_to : View → List Operation → List Operation → List (ℕ × List Operation) → ℕ → List Operation
ordered_to view led mine votes part = filter (reaches (all_in view) part) (won view led mine votes)

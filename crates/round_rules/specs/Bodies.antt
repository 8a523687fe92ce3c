-- The bodies of letters by kind.
use Rattle.std.specs.Prelude.{ℕ, Bool, true, false, ◌==◌, List, [], ◌∷◌, if◌then◌else◌}
use Rattle.std.specs.List.{flat_map}
use Rattle.ma_cells.specs.declared.batch.Batch.{Batch}
use Rattle.cavity_rank.specs.Operations.{Operation}
use Rattle.letters.specs.declared.letter.Body.{Body}
use Rattle.letters.specs.declared.letter.Body.TheVariants as bodies
use Rattle.letters.specs.declared.letter.LetterKind.{LetterKind}
use Rattle.letters.specs.declared.letter.LetterKind.TheVariants as kinds
use Rattle.part_phases.specs.Inboxes.{Inbox}

-- whether a body is of a kind
abbrev pub is_of_kind : LetterKind → Body → Bool
is_of_kind kinds.Post (bodies.Post post) = true
is_of_kind kinds.Reply (bodies.Reply reply) = true
is_of_kind kinds.Ghosts (bodies.Ghosts batch) = true
is_of_kind kinds.Propose (bodies.Propose ops) = true
is_of_kind kinds.Vote (bodies.Vote ops) = true
is_of_kind kinds.Order (bodies.Order ops) = true
is_of_kind kinds.Deliver (bodies.Deliver batch) = true
is_of_kind _ _ = false

-- the bodies of one kind in an inbox, with their senders
abbrev pub proposal_from : ℕ → Body → Inbox (List Operation)
proposal_from p (bodies.Propose ops) = (p, ops) ∷ []
proposal_from p _ = []

abbrev pub vote_from : ℕ → Body → Inbox (List Operation)
vote_from p (bodies.Vote ops) = (p, ops) ∷ []
vote_from p _ = []

abbrev pub order_from : ℕ → Body → Inbox (List Operation)
order_from p (bodies.Order ops) = (p, ops) ∷ []
order_from p _ = []

abbrev pub delivery_from : ℕ → Body → Inbox Batch
delivery_from p (bodies.Deliver batch) = (p, batch) ∷ []
delivery_from p _ = []

abbrev pub proposals_in : Inbox Body → Inbox (List Operation)
proposals_in inbox = flat_map (λ entry. proposal_from entry.0 entry.1) inbox

abbrev pub votes_in : Inbox Body → Inbox (List Operation)
votes_in inbox = flat_map (λ entry. vote_from entry.0 entry.1) inbox

abbrev pub orders_in : Inbox Body → Inbox (List Operation)
orders_in inbox = flat_map (λ entry. order_from entry.0 entry.1) inbox

abbrev pub deliveries_in : Inbox Body → Inbox Batch
deliveries_in inbox = flat_map (λ entry. delivery_from entry.0 entry.1) inbox

-- the operations of one sender, none where there is no list of it
abbrev pub sent_by : Inbox (List Operation) → ℕ → List Operation
sent_by [] part = []
sent_by (list ∷ lists) part = if list.0 == part then list.1 else sent_by lists part

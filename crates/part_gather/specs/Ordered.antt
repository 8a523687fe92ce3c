-- What a part delivers, what it gives away and what it has in the end, by the orders and the batches that came, each with its sender. What it ordered of itself counts as come.
use Rattle.std.specs.Prelude.{ℕ, not, ◌==◌, List, [], filter, map, if◌then◌else◌}
use Rattle.std.specs.List.{flat_map}
use Rattle.ma_cells.specs.Tetrahedron.{Tetrahedron}
use Rattle.ma_cells.specs.declared.batch.Batch.{Batch}
use Rattle.cavity_rank.specs.Operations.{Operation}
use Rattle.part_store.specs.Stores.{StoreState}
use Rattle.pass_rules.specs.Choosing.{is_taken}
use Rattle.part_gather.specs.Gathering.{applied_to, deliveries}

-- the operations that a part ordered
abbrev pub ordered_by : List (ℕ × List Operation) → ℕ → List Operation
ordered_by orders part = flat_map (λ order. order.1) (filter (λ order. order.0 == part) orders)

-- those that all other parts ordered
abbrev pub ordered_by_others : List (ℕ × List Operation) → ℕ → List Operation
ordered_by_others orders part = flat_map (λ order. order.1) (filter (λ order. not (order.0 == part)) orders)

-- what goes to another part by its orders. Nothing goes to oneself
abbrev pub delivered_to : StoreState → List (ℕ × List Operation) → ℕ → Batch
delivered_to s orders part = if part == s.part then record { tets = []; marks = [] } else deliveries s (ordered_by orders part)

-- the own tetrahedra that others ordered
abbrev pub given_away : StoreState → List (ℕ × List Operation) → List Tetrahedron
given_away s orders = filter (is_taken (ordered_by_others orders s.part)) s.own

-- the batches of all other parts
abbrev pub batches_of_others : List (ℕ × Batch) → ℕ → List Batch
batches_of_others batches part = map (λ batch. batch.1) (filter (λ batch. not (batch.0 == part)) batches)

-- the store once the cavities that it ordered of itself are filled, with what the others delivered, and without what it gives away
abbrev pub after_orders : StoreState → List (ℕ × List Operation) → List (ℕ × Batch) → StoreState
after_orders s orders batches = applied_to s (ordered_by orders s.part) (batches_of_others batches s.part) (given_away s orders)

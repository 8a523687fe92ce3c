-- What parts deliver to each other and what they have after all deliveries, each by what it sees of a mesh with labels, is what a pass over the one mesh leaves.
use Rattle.std.specs.Prelude.{◌≡◌, ◌<◌, ℕ, true, false, List, [], ◌∷◌}
use Rattle.ma_geom.specs.Coordinates.{Coordinates, place_cmp}
use Rattle.ma_cells.specs.Ascending.{has}
use Rattle.ma_cells.specs.Tetrahedron.{Tetrahedron}
use Rattle.ma_cells.specs.Views.{ghost_cmp}
use Rattle.ma_cells.specs.declared.batch.Batch.{Batch}
use Rattle.size_marks.specs.Field.{Field}
use Rattle.cavity_rank.specs.Operations.{Operation, rank}
use Rattle.cavity_rank.specs.declared.verdict.Kind.{Kind}
use Rattle.part_phases.specs.Inboxes.{Inbox, gathered}
use Rattle.part_rules.specs.Owed.{AreCarried, IsLabelled, holding}
use Rattle.part_store.specs.Labelled.{LabelledMesh, view_of}
use Rattle.part_store.specs.Stores.{StoreState, view_in}
use Rattle.pass_rules.specs.Passes.{passed}
use Rattle.part_vote.specs.Leading.{without_labels}
use Rattle.part_vote.specs.OwedVotes.{chosen_in, owed_orders}
use Rattle.part_gather.specs.Ordered.{after_orders, delivered_to}
use Rattle.part_gather.specs.OwedGathering.{MarksStay, carried_after, mesh_after, owed_deliveries}

module _ (parts : ℕ) (kind : Kind) (field : Field) (mesh : LabelledMesh) where
  -- what all parts, itself among them, owe a part as orders
  abbrev pub orders_for : ℕ → Inbox (List Operation)
  orders_for p = gathered parts (λ r. owed_orders kind field mesh r p)

  -- and as deliveries
  abbrev pub deliveries_for : ℕ → Inbox Batch
  deliveries_for p = gathered parts (λ r. owed_deliveries kind field mesh r p)

-- by the orders that came, a part that sees its view of the mesh delivers to each part what it owes it
abbrev pub DeliveriesAreOwed : Type 0
DeliveriesAreOwed = (parts : ℕ) (kind : Kind) (field : Field) (mesh : LabelledMesh)
    → (p q : ℕ) (s : StoreState) → q < parts → view_in s ≡ view_of mesh p → delivered_to s (orders_for parts kind field mesh p) q ≡ owed_deliveries kind field mesh p q

-- and by the deliveries, it has its tetrahedra of the mesh after the pass and what is carried of its marks, as at the beginning of a round
abbrev pub DeliveriesLeave : Type 0
DeliveriesLeave = (parts : ℕ) (kind : Kind) (field : Field) (mesh : LabelledMesh) (home : Coordinates → ℕ) → IsLabelled parts mesh
    → (p : ℕ) (s : StoreState) → p < parts → view_in s ≡ view_of mesh p
    → after_orders s (orders_for parts kind field mesh p) (deliveries_for parts kind field mesh p) ≡ holding parts home (mesh_after kind field mesh) (carried_after kind field mesh) 0 p

-- without labels, the mesh after the pass is what the pass leaves of the mesh without labels
abbrev pub PassesAreOne : Type 0
PassesAreOne = (kind : Kind) (field : Field) (mesh : LabelledMesh) → without_labels (mesh_after kind field mesh) ≡ passed kind field (without_labels mesh)

-- where the marks of the cavities stay on cells, it is a labelled mesh, and its marks are those that the parts carry
abbrev pub PassesLead : Type 0
PassesLead = (parts : ℕ) (kind : Kind) (field : Field) (mesh : LabelledMesh) → IsLabelled parts mesh → MarksStay kind field mesh
    → IsLabelled parts (mesh_after kind field mesh) × AreCarried parts (mesh_after kind field mesh) (carried_after kind field mesh)

-- no tetrahedron of it has a vertex that a chosen operation takes away
abbrev pub NoneIsLeft : Type 0
NoneIsLeft = (kind : Kind) (field : Field) (mesh : LabelledMesh) (op : Operation) (a : Coordinates) → has rank op (chosen_in kind field mesh) ≡ true → op.at ≡ a ∷ []
    → (tet : Tetrahedron) (label : ℕ) → has ghost_cmp (tet, label) (mesh_after kind field mesh).tets ≡ true → has place_cmp a tet.corners ≡ false

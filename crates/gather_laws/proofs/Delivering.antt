-- What a part delivers by the orders that came is what it owes.
use Rattle.std.proofs.Common.{◌≡◌, ℕ, ◌<◌, Bool, true, List, [], ap, subst, ◌∙◌, eqb-true, refl}
use Rattle.std.specs.Prelude.{◌==◌, filter, map, if◌then◌else◌}
use Rattle.std.specs.Cmp.{both_ways}
use Rattle.std.proofs.lemmas.Bool.{eq-eqb}
use Rattle.ma_cells.specs.Cells.{CellMark}
use Rattle.ma_cells.specs.Incidence.{is_on}
use Rattle.ma_cells.specs.Tetrahedron.{Tetrahedron}
use Rattle.ma_cells.specs.declared.batch.Batch.{Batch}
use Rattle.ma_cells.specs.declared.view.View.{View}
use Rattle.size_marks.specs.Field.{Field}
use Rattle.cavity_rank.specs.Operations.{Operation}
use Rattle.cavity_rank.specs.declared.verdict.Kind.{Kind}
use Rattle.part_phases.specs.Inboxes.{gathered}
use Rattle.part_store.specs.Labelled.{LabelledMesh, ghosts_of, marks_on, own_of, seen_by, tet_of, view_of}
use Rattle.part_store.specs.Stores.{StoreState, view_in}
use Rattle.part_store.proofs.Agreeing.{from-own}
use Rattle.part_store.proofs.Members.{In, any-in, from-any, in-filter, from-filter, filter-agree, filter-filter, in-flat_map, from-flat_map, in-append_left}
use Rattle.pass_rules.specs.Choosing.{is_in, is_taken}
use Rattle.part_vote.specs.Leading.{reaches}
use Rattle.part_vote.specs.OwedVotes.{owed_orders}
use Rattle.part_gather.specs.Ordered.{delivered_to, ordered_by}
use Rattle.part_gather.specs.OwedGathering.{led_by, owed_deliveries, owed_tets}
use Rattle.view_laws.proofs.MeshItems.{on-more}
use Rattle.view_laws.proofs.Numbered.{in-gathered, from-gathered}
use Rattle.vote_laws.proofs.Leads.{in-labels, in-reaches}
use Rattle.gather_laws.specs.Gathered.{orders_for}

-- ---- what one part ordered
module _ (parts : ℕ) (sends : ℕ → List Operation) (q : ℕ) (op : Operation) where
  abbrev is_sender : ℕ × List Operation → Bool
  is_sender order = order.0 == q

  pub in-ordered : q < parts → In op (sends q) → In op (ordered_by (gathered parts sends) q)
  in-ordered within h =
      in-flat_map (λ order. order.1) (filter is_sender (gathered parts sends)) (q, sends q) op (in-filter is_sender (gathered parts sends) (q, sends q) (in-gathered sends parts q within) (eq-eqb q q refl)) h

  pub from-ordered : In op (ordered_by (gathered parts sends) q) → In op (sends q)
  from-ordered h =
      let e = from-flat_map (λ order. order.1) (filter is_sender (gathered parts sends)) op h in
      let k = from-filter is_sender (gathered parts sends) e.0 e.1 in
      subst (λ ops. In op ops) ((from-gathered sends parts e.0 k.0).1 ∙ ap sends (eqb-true e.0.0 q k.1)) e.2

-- more operations take more
taken-more : (some more : List Operation) (t : Tetrahedron) → ((op : Operation) → In op some → is_in op t ≡ true → In op more) → is_taken some t ≡ true → is_taken more t ≡ true
taken-more some more t within h = let o = from-any (λ op. is_in op t) some h in any-in (λ op. is_in op t) more o.0 (within o.0 o.1 o.2) o.2

-- a store that sees this
abbrev pub store_of : View → StoreState
store_of view = record { part = view.part; own = view.own; ghosts = view.ghosts; marks = view.marks; shared = [] }

module _ (parts : ℕ) (kind : Kind) (field : Field) (mesh : LabelledMesh) where
  pub from-orders : (r p : ℕ) (op : Operation) → In op (owed_orders kind field mesh r p) → In op (led_by kind field mesh r)
  from-orders r p op h = (from-filter (reaches mesh.tets p) (led_by kind field mesh r) op h).0

  -- a part that leads an operation orders each tetrahedron of its cavity
  pub in-orders : (r p : ℕ) (op : Operation) (t : Tetrahedron) → In op (led_by kind field mesh r) → In (t, p) mesh.tets → is_in op t ≡ true → In op (owed_orders kind field mesh r p)
  in-orders r p op t h own inside = in-filter (reaches mesh.tets p) (led_by kind field mesh r) op h (in-reaches mesh.tets op p (in-labels mesh.tets op t p own inside))

  module _ (p q : ℕ) (within : q < parts) where
    abbrev own : List Tetrahedron
    own = own_of mesh p

    abbrev ordered : List Operation
    ordered = ordered_by (orders_for parts kind field mesh p) q

    abbrev due : List Tetrahedron
    due = owed_tets kind field mesh p q

    tets_due : filter (is_taken ordered) own ≡ due
    tets_due =
        let sends = λ (r : ℕ). owed_orders kind field mesh r p in
        let led = led_by kind field mesh q in
        filter-agree (is_taken ordered) (is_taken led) own (λ t h.
        both_ways (is_taken ordered t) (is_taken led t) (taken-more ordered led t (λ op k _. from-orders q p op (from-ordered parts sends q op k)))
        (taken-more led ordered t (λ op k inside. in-ordered parts sends q op within (in-orders q p op t k (from-own mesh p t h) inside))))

    marks_due : marks_on due (marks_on (seen_by mesh p) mesh.marks) ≡ marks_on due mesh.marks
    marks_due =
        filter-filter (λ m. is_on (seen_by mesh p) m.cell) (λ m. is_on due m.cell) mesh.marks
        (λ m _ h. on-more due (seen_by mesh p) m.cell (λ t k. in-append_left own (map tet_of (ghosts_of mesh p)) t (from-filter (is_taken (led_by kind field mesh q)) own t k).0) h)

    abbrev batch : List Tetrahedron → List CellMark → Batch
    batch tets marks = record { tets = tets; marks = marks }

    pub delivered_are : (s : StoreState) → view_in s ≡ view_of mesh p → delivered_to s (orders_for parts kind field mesh p) q ≡ owed_deliveries kind field mesh p q
    delivered_are s seen =
        let seen_marks = marks_on (seen_by mesh p) mesh.marks in
        ap (λ view. delivered_to (store_of view) (orders_for parts kind field mesh p) q) seen
        ∙ ap (λ sent. if q == p then batch [] [] else sent) (ap (λ tets. batch tets (marks_on tets seen_marks)) tets_due ∙ ap (batch due) marks_due)

-- All parts together win what the pass chooses.
use Rattle.std.proofs.Common.{◌≡◌, ℕ, ◌<◌, true, List, sym, subst}
use Rattle.std.specs.List.{flat_map}
use Rattle.std.proofs.lemmas.List.Kept.{IsStrictlySortedBy-filter}
use Rattle.ma_cells.specs.Ascending.{ascending_of}
use Rattle.size_marks.specs.Field.{Field}
use Rattle.cavity_rank.specs.Operations.{Operation, rank}
use Rattle.cavity_rank.specs.declared.verdict.Kind.{Kind}
use Rattle.cavity_rank.proofs.Ranked.{rank_total, rank-IsAntisymmetric}
use Rattle.part_phases.specs.Inboxes.{below}
use Rattle.part_rules.specs.Owed.{IsLabelled}
use Rattle.part_store.specs.Labelled.{LabelledMesh}
use Rattle.part_store.proofs.Members.{In, in-filter, from-filter, in-flat_map, from-flat_map, is_made}
use Rattle.pass_rules.specs.Choosing.{wins}
use Rattle.part_vote.specs.Leading.{leads, legal_in, without_labels}
use Rattle.part_vote.specs.OwedVotes.{chosen_in}
use Rattle.view_laws.proofs.Numbered.{in-below}
use Rattle.vote_laws.specs.Chosen.{won_by}
use Rattle.vote_laws.proofs.Leads.{in-labels, leads-in, some_leader}
use Rattle.vote_laws.proofs.Legal.{from-legal, sorted-legal, spot-held}
use Rattle.vote_laws.proofs.Seen.{from-all}
use Rattle.vote_laws.proofs.Votes.{label_within, won_are}

module _ (parts : ℕ) (kind : Kind) (field : Field) (mesh : LabelledMesh) (right : IsLabelled parts mesh) where
  abbrev legal : List Operation
  legal = legal_in kind field mesh

  abbrev picked : List Operation
  picked = chosen_in kind field mesh

  -- each legal operation is led by a part
  led_by_some : (op : Operation) → In op legal → (q : ℕ) × (q < parts) × (leads mesh.tets q op ≡ true)
  led_by_some op h =
      let f = from-legal kind field (without_labels mesh) op h in
      let r = from-all mesh f.0 f.1 in
      let q = some_leader mesh.tets op r.0 (in-labels mesh.tets op f.0 r.0 r.1 (spot-held kind f.0.corners op.at f.2).0) in
      (q.0, label_within parts kind field mesh right op q.0 (leads-in mesh.tets op q.0 q.1), q.1)

  pub won_are_chosen : ascending_of rank (flat_map (won_by parts kind field mesh) (below parts)) ≡ picked
  won_are_chosen =
      let win = wins legal (without_labels mesh).tets in
      is_made rank_total rank-IsAntisymmetric (flat_map (won_by parts kind field mesh) (below parts)) picked
      (IsStrictlySortedBy-filter rank win legal (sorted-legal kind field (without_labels mesh)))
      (λ op h.
      let p = from-flat_map (won_by parts kind field mesh) (below parts) op h in
      (from-filter (leads mesh.tets p.0) picked op (subst (λ ops. In op ops) (won_are parts kind field mesh right p.0) p.2)).0)
      (λ op h.
      let q = led_by_some op (from-filter win legal op h).0 in
      in-flat_map (won_by parts kind field mesh) (below parts) q.0 op (in-below parts q.0 q.1)
      (subst (λ ops. In op ops) (sym (won_are parts kind field mesh right q.0)) (in-filter (leads mesh.tets q.0) picked op h q.2)))

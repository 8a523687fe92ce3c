-- What parts propose, vote for and win is what the mesh says.
use Rattle.std.proofs.Common.{◌≡◌, ℕ, ◌<◌, inl, inr, Bool, true, false, not, ◌&&◌, ◌||◌, List, refl, sym, ap, subst, ◌∙◌, eqb-true}
use Rattle.std.specs.Prelude.{◌==◌, map}
use Rattle.std.specs.List.{filter, flat_map, list_all, list_any}
use Rattle.std.specs.Cmp.{both_ways}
use Rattle.std.proofs.lemmas.Bool.{false≢true, and_from, and_parts, eq-eqb, or_cases, or_right}
use Rattle.std.proofs.lemmas.List.Kept.{IsStrictlySortedBy-filter}
use Rattle.ma_geom.specs.Coordinates.{Coordinates}
use Rattle.ma_cells.specs.Ascending.{has}
use Rattle.ma_cells.specs.Cells.{CellMark}
use Rattle.ma_cells.specs.Incidence.{is_on}
use Rattle.ma_cells.specs.Tetrahedron.{Tetrahedron}
use Rattle.ma_cells.proofs.Ascents.{sorted-ascending_of}
use Rattle.ma_cells.proofs.CellOrders.{tet_cmp_total, tet_cmp-IsAntisymmetric}
use Rattle.ma_cells.proofs.Members.{all_alike}
use Rattle.ma_cells.proofs.Passing.{all_pass, test_all}
use Rattle.size_marks.specs.Field.{Field}
use Rattle.cavity_rank.specs.Operations.{Operation, rank}
use Rattle.cavity_rank.specs.declared.verdict.Kind.{Kind}
use Rattle.cavity_rank.proofs.Ranked.{rank_total, rank-IsAntisymmetric}
use Rattle.part_phases.specs.Inboxes.{Inbox, gathered}
use Rattle.part_rules.specs.Owed.{IsLabelled}
use Rattle.part_store.specs.Labelled.{LabelledMesh, own_of, tet_of, view_of}
use Rattle.part_store.proofs.Agreeing.{from-own, in-own, listed-from}
use Rattle.part_store.proofs.Members.{In, all-in, all-from_in, any-in, from-any, in-filter, from-filter, filter-agree, in-flat_map, from-flat_map, in-has, from-has, in-ascending_of, from-ascending_of, same_set}
use Rattle.pass_rules.specs.Choosing.{is_first_on, is_in, winners, wins}
use Rattle.pass_rules.proofs.Apart.{first_alike}
use Rattle.part_vote.specs.Leading.{cavity_labels, leads, legal_in, reaches, without_labels}
use Rattle.part_vote.specs.OwedVotes.{chosen_in, owed_orders, owed_proposals, owed_votes}
use Rattle.part_vote.specs.Voting.{all_sent, ballots, has_all_votes, is_from, ordered_to, proposals, proposed_to, voted_to, won}
use Rattle.view_laws.proofs.MeshItems.{label-below}
use Rattle.view_laws.proofs.Numbered.{in-gathered, from-gathered}
use Rattle.vote_laws.proofs.Leads.{from-labels, from-reaches, in-labels, in-reaches, leads-in, some_leader}
use Rattle.vote_laws.proofs.Legal.{from-legal, in-legal, sorted-legal, spot-held}
use Rattle.vote_laws.proofs.Seen.{from-all, in-all, labels_same, leads_same, legal_same, listed, reaches_same, seen, there_too}

-- ---- operations that win
implied : (a b : Bool) → (not a || b) ≡ true → a ≡ true → b ≡ true
implied true b h e = h
implied false b h e = absurd (false≢true e)

implies : (a b : Bool) → (a ≡ true → b ≡ true) → (not a || b) ≡ true
implies true b h = h refl
implies false b h = refl

module _ (ops : List Operation) (tets : List Tetrahedron) (op : Operation) where
  abbrev first_if_in : Tetrahedron → Bool
  first_if_in t = not (is_in op t) || is_first_on ops op t

  -- a winner is first on each tetrahedron of its cavity
  wins-at : (t : Tetrahedron) → wins ops tets op ≡ true → In t tets → is_in op t ≡ true → is_first_on ops op t ≡ true
  wins-at t w there inside = implied (is_in op t) (is_first_on ops op t) (all-in (λ t. first_if_in t ≡ true) tets t (all_pass first_if_in tets w) there) inside

  wins-from : ((t : Tetrahedron) → In t tets → is_in op t ≡ true → is_first_on ops op t ≡ true) → wins ops tets op ≡ true
  wins-from h = test_all first_if_in tets (all-from_in (λ t. first_if_in t ≡ true) tets (λ t k. implies (is_in op t) (is_first_on ops op t) (h t k)))

in-ops : (ops : List Operation) (op : Operation) → In op ops → has rank op ops ≡ true
in-ops = in-has rank_total rank-IsAntisymmetric

from-ops : (ops : List Operation) (op : Operation) → has rank op ops ≡ true → In op ops
from-ops = from-has rank_total rank-IsAntisymmetric

-- ---- what was sent
module _ (parts : ℕ) (sends : ℕ → List Operation) (op : Operation) where
  abbrev lists : Inbox (List Operation)
  lists = gathered parts sends

  in-from : (q : ℕ) → q < parts → In op (sends q) → is_from lists op q ≡ true
  in-from q within h =
      any-in (λ list. (list.0 == q) && has rank op list.1) lists (q, sends q) (in-gathered sends parts q within) (and_from (q == q) (has rank op (sends q)) (eq-eqb q q refl) (in-ops (sends q) op h))

  from-from : (q : ℕ) → is_from lists op q ≡ true → In op (sends q)
  from-from q h =
      let e = from-any (λ list. (list.0 == q) && has rank op list.1) lists h in
      let both = and_parts (e.0.0 == q) (has rank op e.0.1) e.2 in
      let list = from-gathered sends parts e.0 e.1 in
      from-ops (sends q) op (ap (has rank op) (ap sends (sym (eqb-true e.0.0 q both.0)) ∙ sym list.1) ∙ both.1)

  in-all_sent : (q : ℕ) → q < parts → In op (sends q) → In op (all_sent lists)
  in-all_sent q within h =
      in-ascending_of rank_total rank-IsAntisymmetric (flat_map (λ list. list.1) lists) op (in-flat_map (λ list. list.1) lists (q, sends q) op (in-gathered sends parts q within) h)

  from-all_sent : In op (all_sent lists) → (q : ℕ) × In op (sends q)
  from-all_sent h =
      let e = from-flat_map (λ list. list.1) lists op (from-ascending_of rank_total rank-IsAntisymmetric (flat_map (λ list. list.1) lists) op h) in
      (e.0.0, subst (λ ops. In op ops) (from-gathered sends parts e.0 e.1).1 e.2)

module _ (parts : ℕ) (kind : Kind) (field : Field) (mesh : LabelledMesh) (right : IsLabelled parts mesh) where
  abbrev legal : List Operation
  legal = legal_in kind field mesh

  on_cells : (m : CellMark) → In m mesh.marks → is_on (map tet_of mesh.tets) m.cell ≡ true
  on_cells m = all-in (λ m. is_on (map tet_of mesh.tets) m.cell ≡ true) mesh.marks m right.on_cells

  -- a legal operation takes some place away
  some_place : (op : Operation) → In op legal → (x : Coordinates) × In x op.at
  some_place op h = let f = from-legal kind field (without_labels mesh) op h in (spot-held kind f.0.corners op.at f.2).1

  -- ---- proposals
  module _ (p : ℕ) where
    abbrev seen_legal : List Operation
    seen_legal = legal_in kind field (seen mesh p)

    pub proposals_are : proposals kind field (view_of mesh p) ≡ filter (leads mesh.tets p) legal
    proposals_are =
        same_set rank_total rank-IsAntisymmetric (filter (leads (listed mesh p) p) seen_legal) (filter (leads mesh.tets p) legal)
        (IsStrictlySortedBy-filter rank (leads (listed mesh p) p) seen_legal (sorted-legal kind field (without_labels (seen mesh p))))
        (IsStrictlySortedBy-filter rank (leads mesh.tets p) legal (sorted-legal kind field (without_labels mesh)))
        (λ op h.
        let k = from-filter (leads (listed mesh p) p) seen_legal op h in
        let own = from-labels (listed mesh p) op p (leads-in (listed mesh p) op p k.1) in
        let there = listed-from mesh p (own.0, p) own.1 in
        let f = from-legal kind field (without_labels (seen mesh p)) op k.0 in
        let x = (spot-held kind f.0.corners op.at f.2).1 in
        let r = from-all (seen mesh p) f.0 f.1 in
        in-filter (leads mesh.tets p) legal op
        (in-legal kind field (without_labels mesh) op f.0 (in-all mesh (f.0, r.0) (listed-from mesh p (f.0, r.0) r.1)) f.2 f.3
        (subst (λ ops. In op ops) (legal_same mesh p op.at own.0 x.0 there own.2 x.1 on_cells field op.apex) f.4))
        (sym (leads_same mesh p op own.0 x.0 there own.2 x.1 p) ∙ k.1))
        (λ op h.
        let k = from-filter (leads mesh.tets p) legal op h in
        let own = from-labels mesh.tets op p (leads-in mesh.tets op p k.1) in
        let f = from-legal kind field (without_labels mesh) op k.0 in
        let spot = spot-held kind f.0.corners op.at f.2 in
        let x = spot.1 in
        let r = from-all mesh f.0 f.1 in
        in-filter (leads (listed mesh p) p) seen_legal op
        (in-legal kind field (without_labels (seen mesh p)) op f.0 (in-all (seen mesh p) (f.0, r.0) (there_too mesh p op.at own.0 x.0 own.1 own.2 x.1 (f.0, r.0) r.1 spot.0)) f.2 f.3
        (subst (λ ops. In op ops) (sym (legal_same mesh p op.at own.0 x.0 own.1 own.2 x.1 on_cells field op.apex)) f.4))
        (leads_same mesh p op own.0 x.0 own.1 own.2 x.1 p ∙ k.1))

    -- a part knows which parts an operation reaches that it leads
    reaches_alike : (op : Operation) (q : ℕ) → In op legal → leads mesh.tets p op ≡ true → reaches (listed mesh p) q op ≡ reaches mesh.tets q op
    reaches_alike op q h led =
        let own = from-labels mesh.tets op p (leads-in mesh.tets op p led) in
        let x = some_place op h in
        reaches_same mesh p op own.0 x.0 own.1 own.2 x.1 q

    pub proposed_are : (q : ℕ) → proposed_to kind field (view_of mesh p) q ≡ owed_proposals kind field mesh p q
    proposed_are q =
        ap (filter (reaches (listed mesh p) q)) proposals_are
        ∙ filter-agree (reaches (listed mesh p) q) (reaches mesh.tets q) (filter (leads mesh.tets p) legal) (λ op h. let k = from-filter (leads mesh.tets p) legal op h in reaches_alike op q k.0 k.1)

  -- ---- votes
  in-proposed : (p q : ℕ) (op : Operation) → In op legal → leads mesh.tets p op ≡ true → In q (cavity_labels mesh.tets op) → In op (owed_proposals kind field mesh p q)
  in-proposed p q op h led reached = in-filter (reaches mesh.tets q) (filter (leads mesh.tets p) legal) op (in-filter (leads mesh.tets p) legal op h led) (in-reaches mesh.tets op q reached)

  from-proposed : (p q : ℕ) (op : Operation) → In op (owed_proposals kind field mesh p q) → In op legal × (leads mesh.tets p op ≡ true) × In q (cavity_labels mesh.tets op)
  from-proposed p q op h =
      let a = from-filter (reaches mesh.tets q) (filter (leads mesh.tets p) legal) op h in
      let b = from-filter (leads mesh.tets p) legal op a.0 in
      (b.0, b.1, from-reaches mesh.tets op q a.1)

  pub label_within : (op : Operation) (q : ℕ) → In q (cavity_labels mesh.tets op) → q < parts
  label_within op q h = let t = from-labels mesh.tets op q h in label-below parts mesh right (t.0, q) t.1

  module _ (p : ℕ) where
    abbrev pub proposed : Inbox (List Operation)
    proposed = gathered parts (λ r. owed_proposals kind field mesh r p)

    abbrev known : List Operation
    known = all_sent proposed

    abbrev own : List Tetrahedron
    own = own_of mesh p

    -- the legal operations on its tetrahedra are proposed to a part
    in-known : (op : Operation) → In op legal → In p (cavity_labels mesh.tets op) → In op known
    in-known op h reached =
        let q = some_leader mesh.tets op p reached in
        in-all_sent parts (λ r. owed_proposals kind field mesh r p) op q.0 (label_within op q.0 (leads-in mesh.tets op q.0 q.1)) (in-proposed q.0 p op h q.1 reached)

    from-known : (op : Operation) → In op known → In op legal
    from-known op h = let q = from-all_sent parts (λ r. owed_proposals kind field mesh r p) op h in (from-proposed q.0 p op q.1).0

    -- and so it votes as if it knew all
    wins_alike : (op : Operation) → wins known own op ≡ wins legal own op
    wins_alike op =
        all_alike tet_cmp_total _ _ own (λ tet there. ap (λ b. not (is_in op tet) || b) (first_alike legal known op tet (λ other inside.
        let its = from-own mesh p tet (from-has tet_cmp_total tet_cmp-IsAntisymmetric own tet there) in
        both_ways (has rank other known) (has rank other legal)
        (λ h. in-ops legal other (from-known other (from-ops known other h)))
        (λ h. in-ops known other (in-known other (from-ops legal other h) (in-labels mesh.tets other tet p its inside))))))

    pub voted_are : (q : ℕ) → q < parts → voted_to (view_of mesh p) proposed q ≡ owed_votes kind field mesh p q
    voted_are q within =
        let asked = λ (op : Operation). is_from proposed op q in
        let has_own = λ (op : Operation). list_any (is_in op) own in
        let sends = λ (r : ℕ). owed_proposals kind field mesh r p in
        let sorted_known = sorted-ascending_of rank_total (flat_map (λ (list : ℕ × List Operation). list.1) proposed) in
        same_set rank_total rank-IsAntisymmetric (filter asked (ballots (view_of mesh p) known)) (owed_votes kind field mesh p q)
        (IsStrictlySortedBy-filter rank asked _ (IsStrictlySortedBy-filter rank has_own (winners known own) (IsStrictlySortedBy-filter rank (wins known own) known sorted_known)))
        (IsStrictlySortedBy-filter rank (wins legal own) (sends q) (IsStrictlySortedBy-filter rank (reaches mesh.tets p) _ (IsStrictlySortedBy-filter rank (leads mesh.tets q) legal (sorted-legal kind field (without_labels mesh)))))
        (λ op h.
        let k = from-filter asked (ballots (view_of mesh p) known) op h in
        let w = from-filter (wins known own) known op (from-filter has_own (winners known own) op k.0).0 in
        in-filter (wins legal own) (sends q) op (from-from parts sends op q k.1) (sym (wins_alike op) ∙ w.1))
        (λ op h.
        let k = from-filter (wins legal own) (sends q) op h in
        let f = from-proposed q p op k.0 in
        let t = from-labels mesh.tets op p f.2 in
        in-filter asked (ballots (view_of mesh p) known) op
        (in-filter has_own (winners known own) op (in-filter (wins known own) known op (in-all_sent parts sends op q within k.0) (wins_alike op ∙ k.1)) (any-in (is_in op) own t.0 (in-own mesh p t.0 t.1) t.2))
        (in-from parts sends op q within k.0))

  -- ---- what is won
  module _ (p : ℕ) where
    abbrev pub votes : Inbox (List Operation)
    votes = gathered parts (λ r. owed_votes kind field mesh r p)

    abbrev pub led : List Operation
    led = owed_proposals kind field mesh p p

    abbrev pub mine : List Operation
    mine = owed_votes kind field mesh p p

    abbrev agrees : Operation → ℕ → Bool
    agrees op label = (label == p) || is_from votes op label

    abbrev agreed : Operation → Bool
    agreed = has_all_votes (listed mesh p) p mine votes

    abbrev all_tets : List Tetrahedron
    all_tets = (without_labels mesh).tets

    vote-wins : (r : ℕ) (op : Operation) → In op (owed_votes kind field mesh r p) → wins legal (own_of mesh r) op ≡ true
    vote-wins r op h = (from-filter (wins legal (own_of mesh r)) (owed_proposals kind field mesh p r) op h).1

    wins-vote : (r : ℕ) (op : Operation) → In op legal → leads mesh.tets p op ≡ true → In r (cavity_labels mesh.tets op) → wins legal all_tets op ≡ true → In op (owed_votes kind field mesh r p)
    wins-vote r op h l reached w =
        in-filter (wins legal (own_of mesh r)) (owed_proposals kind field mesh p r) op (in-proposed p r op h l reached)
        (wins-from legal (own_of mesh r) op (λ u its inside. wins-at legal all_tets op u w (in-all mesh (u, r) (from-own mesh r u its)) inside))

    module _ (op : Operation) (h : In op legal) (l : leads mesh.tets p op ≡ true) where
      known_labels : cavity_labels (listed mesh p) op ≡ cavity_labels mesh.tets op
      known_labels =
          let its = from-labels mesh.tets op p (leads-in mesh.tets op p l) in
          let x = some_place op h in
          labels_same mesh p op its.0 x.0 its.1 its.2 x.1

      -- what all parts of the cavity say holds in the mesh
      agreed-wins : agreed op ≡ true → wins legal all_tets op ≡ true
      agreed-wins a =
          let both = and_parts (has rank op mine) (list_all (agrees op) (cavity_labels (listed mesh p) op)) a in
          wins-from legal all_tets op (λ u there inside.
          let r = from-all mesh u there in
          let reached = in-labels mesh.tets op u r.0 r.1 inside in
          let says = all-in (λ label. agrees op label ≡ true) (cavity_labels (listed mesh p) op) r.0 (all_pass (agrees op) (cavity_labels (listed mesh p) op) both.1) (subst (λ z. In r.0 z) (sym known_labels) reached) in
          let voted : In op (owed_votes kind field mesh r.0 p) = elim (or_cases (r.0 == p) (is_from votes op r.0) says) [
            | inl same ↦ subst (λ q. In op (owed_votes kind field mesh q p)) (sym (eqb-true r.0 p same)) (from-ops mine op both.0)
            | inr sent ↦ from-from parts (λ q. owed_votes kind field mesh q p) op r.0 sent
          ] in
          wins-at legal (own_of mesh r.0) op u (vote-wins r.0 op voted) (in-own mesh r.0 u r.1) inside)

      wins-agreed : wins legal all_tets op ≡ true → agreed op ≡ true
      wins-agreed w =
          and_from (has rank op mine) (list_all (agrees op) (cavity_labels (listed mesh p) op)) (in-ops mine op (wins-vote p op h l (leads-in mesh.tets op p l) w))
          (test_all (agrees op) (cavity_labels (listed mesh p) op) (all-from_in (λ label. agrees op label ≡ true) (cavity_labels (listed mesh p) op) (λ r k.
          let reached = subst (λ z. In r z) known_labels k in
          or_right (r == p) (is_from votes op r) (in-from parts (λ q. owed_votes kind field mesh q p) op r (label_within op r reached) (wins-vote r op h l reached w)))))

    pub won_are : won (view_of mesh p) led mine votes ≡ filter (leads mesh.tets p) (chosen_in kind field mesh)
    won_are =
        let sorted = sorted-legal kind field (without_labels mesh) in
        same_set rank_total rank-IsAntisymmetric (filter agreed led) (filter (leads mesh.tets p) (chosen_in kind field mesh))
        (IsStrictlySortedBy-filter rank agreed led (IsStrictlySortedBy-filter rank (reaches mesh.tets p) _ (IsStrictlySortedBy-filter rank (leads mesh.tets p) legal sorted)))
        (IsStrictlySortedBy-filter rank (leads mesh.tets p) (chosen_in kind field mesh) (IsStrictlySortedBy-filter rank (wins legal all_tets) legal sorted))
        (λ op h.
        let k = from-filter agreed led op h in
        let f = from-proposed p p op k.0 in
        in-filter (leads mesh.tets p) (chosen_in kind field mesh) op (in-filter (wins legal all_tets) legal op f.0 (agreed-wins op f.0 f.1 k.1)) f.1)
        (λ op h.
        let k = from-filter (leads mesh.tets p) (chosen_in kind field mesh) op h in
        let c = from-filter (wins legal all_tets) legal op k.0 in
        in-filter agreed led op (in-proposed p p op c.0 k.1 (leads-in mesh.tets op p k.1)) (wins-agreed op c.0 k.1 c.1))

    pub ordered_are : (q : ℕ) → ordered_to (view_of mesh p) led mine votes q ≡ owed_orders kind field mesh p q
    ordered_are q =
        ap (filter (reaches (listed mesh p) q)) won_are
        ∙ filter-agree (reaches (listed mesh p) q) (reaches mesh.tets q) (filter (leads mesh.tets p) (chosen_in kind field mesh)) (λ op h.
        let k = from-filter (leads mesh.tets p) (chosen_in kind field mesh) op h in
        reaches_alike p op q (from-filter (wins legal all_tets) legal op k.0).0 k.1)

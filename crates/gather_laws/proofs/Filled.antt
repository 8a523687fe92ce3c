-- Who leads a chosen operation, and which corners what fills its cavity has.
use Rattle.std.proofs.Common.{◌≡◌, ℕ, ◌⊎◌, inl, inr, Bool, true, false, cond, not, ℤ, List, [], ◌∷◌, ◌++◌, Option, Some, None, refl, sym, ap, subst, ◌∙◌, eqb-true}
use Rattle.std.specs.Prelude.{◌==◌, filter}
use Rattle.std.specs.List.{flat_map}
use Rattle.std.specs.Option.{option_map_or, option_to_list}
use Rattle.std.proofs.lemmas.Bool.{false≢true, and_from, eq-eqb, false_from_ne_true, not-true}
use Rattle.ma_geom.specs.Coordinates.{Coordinates, place_cmp}
use Rattle.ma_geom.specs.Lines.{is_flat}
use Rattle.ma_geom.proofs.PlaceOrder.{place_cmp-IsAntisymmetric, place_cmp_total}
use Rattle.ma_cells.specs.Ascending.{ascending_of, has}
use Rattle.ma_cells.specs.Faces.{choices, faces_of, holds_all}
use Rattle.ma_cells.specs.Stars.{besides, cone, star_of}
use Rattle.ma_cells.specs.Tetrahedron.{Tetrahedron}
use Rattle.ma_cells.proofs.CellOrders.{ghost_cmp_total, ghost_cmp-IsAntisymmetric, tet_cmp_total, tet_cmp-IsAntisymmetric}
use Rattle.ma_cells.proofs.Choices.{all-choices}
use Rattle.size_marks.specs.Field.{Field}
use Rattle.cavity_rank.specs.Operations.{Operation}
use Rattle.cavity_rank.specs.declared.verdict.Kind.{Kind}
use Rattle.cavity_rank.proofs.Ranked.{rank-IsAntisymmetric, rank_total}
use Rattle.cavity_collapse.specs.Collapsing.{collapsed}
use Rattle.cavity_swap.specs.Swapping.{had_by, outer_faces, swapped}
use Rattle.part_store.specs.Labelled.{LabelledMesh, labelled}
use Rattle.part_store.proofs.Members.{In, all-in, all-from_in, any-in, from-filter, in-map, from-map, in-flat_map, from-flat_map, from-append, in-has, from-ascending_of}
use Rattle.pass_rules.specs.Choosing.{is_in, is_taken, wins}
use Rattle.pass_rules.specs.Passes.{filling, filling_at}
use Rattle.pass_rules.proofs.Apart.{winners_are_apart}
use Rattle.part_vote.specs.Leading.{leader, leads, legal_in, without_labels}
use Rattle.part_vote.specs.OwedVotes.{chosen_in}
use Rattle.part_gather.specs.OwedGathering.{labelled_filling, mesh_after}
use Rattle.view_laws.proofs.MeshItems.{from-places, in-places}
use Rattle.vote_laws.proofs.Leads.{in-labels, some_leader}
use Rattle.vote_laws.proofs.Legal.{from-legal, spot-held}
use Rattle.vote_laws.proofs.Seen.{from-all}

-- ---- labels of what fills a cavity
from-option : {X : Type 0} (o : Option X) (x : X) → In x (option_to_list o) → o ≡ Some x
from-option None x h = absurd h
from-option (Some y) x h = elim h [ inl e ↦ ap Some (sym e) | inr none ↦ absurd none ]

from-first : (o : Option ℕ) (q : ℕ) → option_map_or (λ label. label == q) o false ≡ true → o ≡ Some q
from-first None q h = absurd (false≢true h)
from-first (Some n) q h = ap Some (eqb-true n q h)

module _ (mesh : LabelledMesh) (op : Operation) where
  abbrev fills : List Tetrahedron
  fills = filling (without_labels mesh).tets op

  -- each has the label of the part that leads the operation
  pub in-labelled : (t : Tetrahedron) (r : ℕ) → leads mesh.tets r op ≡ true → In t fills → In {X = Tetrahedron × ℕ} (t, r) (labelled_filling mesh op)
  in-labelled t r led h =
      in-flat_map (λ label. labelled label fills) (option_to_list (leader mesh.tets op)) r (t, r)
      (subst (λ o. In r (option_to_list o)) (sym (from-first (leader mesh.tets op) r led)) (inl refl)) (in-map (λ tet. (tet, r)) fills t h)

  pub from-labelled : (t : Tetrahedron) (r : ℕ) → In {X = Tetrahedron × ℕ} (t, r) (labelled_filling mesh op) → (leads mesh.tets r op ≡ true) × In t fills
  from-labelled t r h =
      let l = from-flat_map (λ label. labelled label fills) (option_to_list (leader mesh.tets op)) (t, r) h in
      let u = from-map (λ tet. (tet, l.0)) fills (t, r) l.2 in
      let tet : t ≡ u.0 = ap (λ (z : Tetrahedron × ℕ). z.0) u.2 in
      let label : r ≡ l.0 = ap (λ (z : Tetrahedron × ℕ). z.1) u.2 in
      let first : leader mesh.tets op ≡ Some r = from-option (leader mesh.tets op) l.0 l.1 ∙ ap Some (sym label) in
      (ap (λ o. option_map_or (λ n. n == r) o false) first ∙ eq-eqb r r refl, subst (λ z. In z fills) (sym tet) u.1)

-- ---- corners of what fills a cavity
from-cone : (v : Coordinates) (phys elem : ℤ) (face : List Coordinates) (t : Tetrahedron) (x : Coordinates) → In t (cone v phys elem face) → In x t.corners → In x (v ∷ face)
from-cone v phys elem face t x h k =
    let corners = ascending_of place_cmp (v ∷ face) in
    elim (is_flat corners) as (λ b. In t (option_to_list (cond b None (Some (record { corners = corners; phys = phys; elem = elem })))) → In x (v ∷ face)) [
      | true ↦ λ j. absurd j
      | false ↦ λ j. elim j [
        | inl e ↦ from-ascending_of place_cmp_total place_cmp-IsAntisymmetric (v ∷ face) x (subst (λ (z : Tetrahedron). In x z.corners) e k)
        | inr none ↦ absurd none
      ]
    ] h

-- whether cells with these corners lose one if these places are taken away: a vertex goes, an edge or a face does not
abbrev pub loses : List Coordinates → List Coordinates → Bool
loses (a ∷ []) corners = has place_cmp a corners
loses _ corners = false

pub from-loses : (at corners : List Coordinates) → loses at corners ≡ true → (a : Coordinates) × (at ≡ a ∷ []) × In a corners
from-loses [] corners h = absurd (false≢true h)
from-loses (a ∷ []) corners h = (a, refl, from-places corners a h)
from-loses (a ∷ b ∷ at) corners h = absurd (false≢true h)

pub loses-from : (at corners : List Coordinates) (a : Coordinates) → at ≡ a ∷ [] → In a corners → loses at corners ≡ true
loses-from at corners a e h = subst (λ z. loses z corners ≡ true) (sym e) (in-places corners a h)

pub held-one : (at corners : List Coordinates) (a : Coordinates) → at ≡ a ∷ [] → In a corners → holds_all corners at ≡ true
held-one at corners a e h = subst (λ z. holds_all corners z ≡ true) (sym e) (and_from (has place_cmp a corners) true (in-places corners a h) refl)

-- a corner is the apex, or one of the cavity that is not taken away
abbrev IsFrom : List Coordinates → Coordinates → List Tetrahedron → Coordinates → Type 0
IsFrom at v star x = (x ≡ v) ⊎ ((u : Tetrahedron) × In u star × In x u.corners × (loses at (x ∷ []) ≡ false))

not-lost : (a x : Coordinates) → not (has place_cmp x (a ∷ [])) ≡ true → loses (a ∷ []) (x ∷ []) ≡ false
not-lost a x h =
    false_from_ne_true (loses (a ∷ []) (x ∷ [])) (λ e. elim (from-places (x ∷ []) a e) [
      | inl same ↦ false≢true (sym (not-true (has place_cmp x (a ∷ [])) h) ∙ in-places (a ∷ []) x (inl (sym same)))
      | inr none ↦ none
    ])

collapsed-corners : (a v : Coordinates) (star : List Tetrahedron) (t : Tetrahedron) (x : Coordinates) → In t (collapsed a v star) → In x t.corners → IsFrom (a ∷ []) v star x
collapsed-corners a v star t x h k =
    let cones : Tetrahedron → List Tetrahedron = λ tet. cone v tet.phys tet.elem (besides (a ∷ []) tet.corners) in
    let u = from-flat_map cones star t (from-ascending_of tet_cmp_total tet_cmp-IsAntisymmetric (flat_map cones star) t h) in
    elim (from-cone v u.0.phys u.0.elem (besides (a ∷ []) u.0.corners) t x u.2 k) [
      | inl e ↦ inl e
      | inr j ↦ let kept = from-filter (λ p. not (has place_cmp p (a ∷ []))) u.0.corners x j in inr (u.0, u.1, kept.0, not-lost a x kept.1)
    ]

-- what is chosen from corners are corners
chosen-corner : (n : ℕ) (corners face : List Coordinates) (x : Coordinates) → In face (choices n corners) → In x face → In x corners
chosen-corner n corners face x h k =
    let Corner = λ (y : Coordinates). In y corners in
    all-in Corner face x (all-in _ (choices n corners) face (all-choices Corner n corners (all-from_in Corner corners (λ y j. j))) h) k

swapped-corners : (at : List Coordinates) (v : Coordinates) (star : List Tetrahedron) (t : Tetrahedron) (x : Coordinates) → ((y : Coordinates) → loses at (y ∷ []) ≡ false) → In t (swapped v star) → In x t.corners → IsFrom at v star x
swapped-corners at v [] t x none h k = absurd h
swapped-corners at v (first ∷ rest) t x none h k =
    let star = first ∷ rest in
    let cones : Tetrahedron → List Tetrahedron = λ tet. flat_map (cone v first.phys first.elem) (outer_faces star tet) in
    let u = from-flat_map cones star t (from-ascending_of tet_cmp_total tet_cmp-IsAntisymmetric (flat_map cones star) t h) in
    let f = from-flat_map (cone v first.phys first.elem) (outer_faces star u.0) t u.2 in
    elim (from-cone v first.phys first.elem f.0 t x f.2 k) [
      | inl e ↦ inl e
      | inr j ↦ inr (u.0, u.1, chosen-corner 3 u.0.corners f.0 x (from-filter (λ face. had_by star face == 1) (faces_of u.0.corners) f.0 f.1).0 j, none x)
    ]

filling-corners : (at : List Coordinates) (v : Coordinates) (star : List Tetrahedron) (t : Tetrahedron) (x : Coordinates) → In t (filling_at at v star) → In x t.corners → IsFrom at v star x
filling-corners [] v star t x h k = swapped-corners [] v star t x (λ y. refl) h k
filling-corners (a ∷ []) v star t x h k = collapsed-corners a v star t x h k
filling-corners (a ∷ b ∷ at) v star t x h k = swapped-corners (a ∷ b ∷ at) v star t x (λ y. refl) h k

module _ (kind : Kind) (field : Field) (mesh : LabelledMesh) where
  abbrev ops : List Operation
  ops = chosen_in kind field mesh

  abbrev all : List Tetrahedron
  all = (without_labels mesh).tets

  from-chosen : (op : Operation) → In op ops → In op (legal_in kind field mesh) × (wins (legal_in kind field mesh) all op ≡ true)
  from-chosen op h = from-filter (wins (legal_in kind field mesh) all) (legal_in kind field mesh) op h

  -- the cavities of chosen operations share no tetrahedron
  pub apart : (o p : Operation) (t : Tetrahedron) → In o ops → In p ops → In t all → is_in o t ≡ true → is_in p t ≡ true → o ≡ p
  apart o p t a b there in_o in_p =
      winners_are_apart (legal_in kind field mesh) all o p t (in-has rank_total rank-IsAntisymmetric ops o a) (in-has rank_total rank-IsAntisymmetric ops p b)
      (in-has tet_cmp_total tet_cmp-IsAntisymmetric all t there) in_o in_p

  -- a tetrahedron of the cavity has the apex, which is not taken away
  around : (op : Operation) → In op ops → (t : Tetrahedron) × In t all × (is_in op t ≡ true) × In op.apex t.corners × (has place_cmp op.apex op.at ≡ false)
  around op h =
      let f = from-legal kind field (without_labels mesh) op (from-chosen op h).0 in
      let apex = from-filter (λ p. not (has place_cmp p op.at)) f.0.corners op.apex f.3 in
      (f.0, f.1, (spot-held kind f.0.corners op.at f.2).0, apex.0, not-true (has place_cmp op.apex op.at) apex.1)

  -- a part leads it
  pub led_by_some : (op : Operation) → In op ops → (q : ℕ) × (leads mesh.tets q op ≡ true)
  led_by_some op h =
      let t = around op h in
      let r = from-all mesh t.0 t.1 in
      some_leader mesh.tets op r.0 (in-labels mesh.tets op t.0 r.0 r.1 t.2)

  same_spot : (o p : Operation) (a : Coordinates) → o ≡ p → o.at ≡ a ∷ [] → p.at ≡ a ∷ []
  same_spot o p a e at = ap (λ (z : Operation). z.at) (sym e) ∙ at

  -- what fills the cavity of one does not have the vertex of another
  none_filled : (op o : Operation) (t : Tetrahedron) → In op ops → In o ops → In t (filling all o) → loses op.at t.corners ≡ false
  none_filled op o t there h k =
      false_from_ne_true (loses op.at t.corners) (λ lost.
      let a = from-loses op.at t.corners lost in
      elim (filling-corners o.at o.apex (star_of o.at all) t a.0 k a.2) [
        | inl e ↦
            let w = around o h in
            let it_is = apart op o w.0 there h w.1 (held-one op.at w.0.corners a.0 a.1 (subst (λ z. In z w.0.corners) (sym e) w.3)) w.2 in
            false≢true (sym w.4 ∙ in-places o.at o.apex (subst (λ z. In o.apex z) (sym (same_spot op o a.0 it_is a.1)) (inl (sym e))))
        | inr w ↦
            let star = from-filter (λ (tet : Tetrahedron). holds_all tet.corners o.at) all w.0 w.1 in
            let it_is = apart op o w.0 there h star.0 (held-one op.at w.0.corners a.0 a.1 w.2) star.1 in
            false≢true (sym w.3 ∙ loses-from o.at (a.0 ∷ []) a.0 (same_spot op o a.0 it_is a.1) (inl refl))
      ])

  -- and so no tetrahedron has one afterwards
  pub none_left : (t : Tetrahedron) (r : ℕ) (op : Operation) → In {X = Tetrahedron × ℕ} (t, r) (mesh_after kind field mesh).tets → In op ops → loses op.at t.corners ≡ false
  none_left t r op h there =
      let stays = λ (entry : Tetrahedron × ℕ). not (is_taken ops entry.0) in
      let kept = filter stays mesh.tets in
      elim (from-append kept (flat_map (labelled_filling mesh) ops) (t, r) (from-ascending_of ghost_cmp_total ghost_cmp-IsAntisymmetric (kept ++ flat_map (labelled_filling mesh) ops) (t, r) h)) [
        | inl k ↦
            false_from_ne_true (loses op.at t.corners) (λ lost.
            let a = from-loses op.at t.corners lost in
            let untaken = not-true (is_taken ops t) (from-filter stays mesh.tets (t, r) k).1 in
            false≢true (sym untaken ∙ any-in (λ o. is_in o t) ops op there (held-one op.at t.corners a.0 a.1 a.2)))
        | inr k ↦
            let o = from-flat_map (labelled_filling mesh) ops (t, r) k in
            none_filled op o.0 t there o.1 (from-labelled mesh o.0 t r o.2).1
      ]

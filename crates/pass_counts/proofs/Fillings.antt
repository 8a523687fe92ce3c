-- What fills a cavity has at most four tetrahedra for each one of the cavity.
use Rattle.std.proofs.Common.{◌≡◌, ◌≤◌, ◌<◌, ◌==◌, ◌*◌, ◌+◌, ℕ, Bool, true, false, cond, not, ◌&&◌, ◌||◌, List, [], ◌∷◌, length, nat_le, inl, inr, refl, sym, ap, subst, ◌∙◌, arith}
use Rattle.std.specs.Prelude.{ℤ, Some, None}
use Rattle.std.specs.List.{AllByRecursion, flat_map, list_all, list_any}
use Rattle.std.specs.Option.{option_to_list}
use Rattle.std.specs.Ordering.{eq_by_cmp}
use Rattle.std.proofs.lemmas.Bool.{and_from, and_parts, cases_lt, false≢true, not-true, not_from_false, or_cases}
use Rattle.std.proofs.lemmas.List.Elements.{filter_passes, recursion_from_All}
use Rattle.std.proofs.lemmas.List.Sums.{sum_by-cons}
use Rattle.ma_geom.specs.Coordinates.{Coordinates, place_cmp}
use Rattle.ma_geom.specs.Signs.{same_sign, side_of}
use Rattle.ma_geom.proofs.PlaceOrder.{place_cmp-IsAntisymmetric, place_cmp_total}
use Rattle.ma_cells.specs.Ascending.{are_distinct, ascending_of, has}
use Rattle.ma_cells.specs.Faces.{choices, faces_of, holds_all}
use Rattle.ma_cells.specs.Stars.{besides, cone}
use Rattle.ma_cells.specs.Tetrahedron.{Tetrahedron, tet_cmp}
use Rattle.ma_cells.proofs.Ascents.{length-ascending_of}
use Rattle.ma_cells.proofs.CellOrders.{tet_cmp-IsAntisymmetric, tet_cmp_total}
use Rattle.ma_cells.proofs.Members.{all_members, at_member, has-filter}
use Rattle.ma_cells.proofs.Passing.{all-filter, all-flat_map, all_pass, all_weaker, test_all}
use Rattle.cavity_collapse.specs.Collapsing.{collapsed}
use Rattle.cavity_swap.specs.Judging.{outer_faces_are_seen}
use Rattle.cavity_swap.specs.Rings.{closes, edges_across, is_along, is_path, is_ring, joins, starts_least}
use Rattle.cavity_swap.specs.Swapping.{had_by, outer_faces, swapped}
use Rattle.pass_rules.specs.Moves.{are_a_pair, make_a_ring, sequences}
use Rattle.pass_counts.proofs.Counts.{GivesWithin, all_within, few_given, from_filter, set_within}
use Rattle.pass_counts.proofs.Cones.{IsFaceOf, both_hold, cone_is_over, faces_are, cones_over, few_cones_over, one_cone, others}
use Rattle.pass_counts.proofs.Outer.{flat_over}
use Rattle.pass_counts.proofs.Sides.{IsSeen, same_signs}

-- ---- a collapse
pub few_collapsed : (a v : Coordinates) (star : List Tetrahedron) → length (collapsed a v star) ≤ 4 * length star
few_collapsed a v star =
    let across = λ (tet : Tetrahedron). cone v tet.phys tet.elem (besides (a ∷ []) tet.corners) in
    let set = (length-ascending_of tet_cmp_total (flat_map across star)).0 in
    let all = few_given across (λ tet. at_most_four tet.phys tet.elem (besides (a ∷ []) tet.corners)) star in
    omega (arith, set, all)
  where
    at_most_four : (phys elem : ℤ) (face : List Coordinates) → length (cone v phys elem face) ≤ 4
    at_most_four phys elem face = let one = one_cone v phys elem face in omega (arith, one)

-- ---- a swap, where over the outer faces of each tetrahedron there are few
module _ (v : Coordinates) (phys elem : ℤ) (star : List Tetrahedron) where
  abbrev over : Tetrahedron → List Tetrahedron
  over tet = flat_map (cone v phys elem) (outer_faces star tet)

  abbrev cones : Tetrahedron → List Tetrahedron
  cones tet = cones_over v phys elem (others v phys elem tet.corners)

  abbrev pub HasFew : Tetrahedron → Type 0
  HasFew = GivesWithin tet_cmp over cones

  -- where the tetrahedron has at most four corners besides v
  pub by_corners : (tet : Tetrahedron) → length (others v phys elem tet.corners) ≤ 4 → HasFew tet
  by_corners tet few =
      all-flat_map (IsFaceOf tet.corners) (λ made. has tet_cmp made (cones tet) ≡ true) (cone v phys elem) (λ face is. cone_is_over v phys elem tet.corners face few is)
      (outer_faces star tet) (all-filter (IsFaceOf tet.corners) (λ face. had_by star face == 1) (faces_of tet.corners) (faces_are tet.corners))

  few_over : AllByRecursion HasFew star → length (ascending_of tet_cmp (flat_map over star)) ≤ 4 * length star
  few_over h =
      let set = set_within tet_cmp_total tet_cmp-IsAntisymmetric (flat_map over star) (flat_map cones star) (all_within tet_cmp over cones star h) in
      let all = few_given cones (λ tet. few_cones_over v phys elem (others v phys elem tet.corners)) star in
      omega (arith, set, all)

pub few_swapped : (v : Coordinates) (star : List Tetrahedron) → ((phys elem : ℤ) → AllByRecursion (HasFew v phys elem star) star) → length (swapped v star) ≤ 4 * length star
few_swapped v [] h = omega arith
few_swapped v (first ∷ rest) h = few_over v first.phys first.elem (first ∷ rest) (h first.phys first.elem)

-- ---- a ring around an edge
any_gives : {X : Type 0} (P : Type 0) (test : X → Bool) → ((x : X) → test x ≡ true → P) → (xs : List X) → list_any test xs ≡ true → P
any_gives P test gives [] h = absurd (false≢true h)
any_gives P test gives (x ∷ xs) h = elim (or_cases (test x) (list_any test xs) h) [ inl e ↦ gives x e | inr e ↦ any_gives P test gives xs e ]

joins_two : (p q : Coordinates) (edge : List Coordinates) → joins p q edge ≡ true → length edge ≡ 2
joins_two p q [] h = absurd (false≢true h)
joins_two p q (x ∷ []) h = absurd (false≢true h)
joins_two p q (x ∷ y ∷ []) h = refl
joins_two p q (x ∷ y ∷ z ∷ rest) h = absurd (false≢true h)

along_two : (end : Coordinates) (path edge : List Coordinates) → is_along end path edge ≡ true → length edge ≡ 2
along_two end [] edge h = absurd (false≢true h)
along_two end (p ∷ []) edge h = joins_two p end edge h
along_two end (p ∷ q ∷ rest) edge h = elim (or_cases (joins p q edge) (is_along end (q ∷ rest) edge) h) [ inl e ↦ joins_two p q edge e | inr e ↦ along_two end (q ∷ rest) edge e ]

closed_two : (edges : List (List Coordinates)) (corners : List Coordinates) → closes edges corners ≡ true → AllByRecursion (λ edge. length edge ≡ 2) edges
closed_two edges [] h = absurd (false≢true h)
closed_two edges (p ∷ rest) h =
    all_weaker (λ edge. is_along p (p ∷ rest) edge ≡ true) (λ edge. length edge ≡ 2) (λ edge e. along_two p (p ∷ rest) edge e) edges
    (all_pass (is_along p (p ∷ rest)) edges (and_parts (is_path edges p (p ∷ rest)) (list_all (is_along p (p ∷ rest)) edges) h).1)

ring_two : (edges : List (List Coordinates)) → make_a_ring edges ≡ true → AllByRecursion (λ edge. length edge ≡ 2) edges
ring_two edges h =
    any_gives (AllByRecursion (λ edge. length edge ≡ 2) edges) (is_ring edges)
    (λ corners is.
    let counted = (nat_le 3 (length corners) && nat_le (length corners) 7) && length edges == length corners in
    let order = and_parts counted (are_distinct place_cmp corners && (starts_least corners && closes edges corners)) is in
    let start = and_parts (are_distinct place_cmp corners) (starts_least corners && closes edges corners) order.1 in
    closed_two edges corners (and_parts (starts_least corners) (closes edges corners) start.1).1)
    (sequences (length edges) (flat_map (λ edge. edge) edges)) h

across_two : (ends : List Coordinates) (star : List Tetrahedron) → AllByRecursion (λ edge. length edge ≡ 2) (edges_across ends star) → AllByRecursion (λ tet. length (besides ends tet.corners) ≡ 2) star
across_two ends [] h = tt
across_two ends (tet ∷ star) h = (h.0, across_two ends star h.1)

-- a cell with two corners besides a and b has at most four
four_corners : (v a b : Coordinates) (phys elem : ℤ) (corners : List Coordinates) → length (besides (a ∷ b ∷ []) corners) ≡ 2 → length (others v phys elem corners) ≤ 4
four_corners v a b phys elem corners two =
    let across = besides (a ∷ b ∷ []) corners in
    let four = set_within place_cmp_total place_cmp-IsAntisymmetric (besides (v ∷ []) corners) (a ∷ b ∷ across)
    (all-filter (λ q. has place_cmp q (a ∷ b ∷ across) ≡ true) (λ q. not (has place_cmp q (v ∷ []))) corners
    (all_pass (λ q. has place_cmp q (a ∷ b ∷ across)) corners (all_members place_cmp_total (λ q. has place_cmp q (a ∷ b ∷ across)) corners (λ q there.
    ap (λ t. eq_by_cmp place_cmp q a || (eq_by_cmp place_cmp q b || t)) (has-filter place_cmp-IsAntisymmetric (λ p. not (has place_cmp p (a ∷ b ∷ []))) q corners)
    ∙ one_of (eq_by_cmp place_cmp q a) (eq_by_cmp place_cmp q b) (has place_cmp q corners) there)))) in
    omega (arith, four, two)
  where
    one_of : (s t h : Bool) → h ≡ true → (s || (t || (h && not (s || (t || false))))) ≡ true
    one_of true t h e = refl
    one_of false true h e = refl
    one_of false false true e = refl
    one_of false false false e = absurd (false≢true e)

pub few_around : (a b v : Coordinates) (star : List Tetrahedron) → make_a_ring (edges_across (a ∷ b ∷ []) star) ≡ true → length (swapped v star) ≤ 4 * length star
few_around a b v star ring =
    few_swapped v star (λ phys elem. all_weaker (λ tet. length (besides (a ∷ b ∷ []) tet.corners) ≡ 2) (HasFew v phys elem star)
    (λ tet two. by_corners v phys elem star tet (four_corners v a b phys elem tet.corners two)) star (across_two (a ∷ b ∷ []) star (ring_two (edges_across (a ∷ b ∷ []) star) ring)))

-- ---- a face between two tetrahedra
module _ (v : Coordinates) (star : List Tetrahedron) (tet other : Tetrahedron) where
  abbrev sees : List Coordinates → Bool
  sees face = has place_cmp v face || list_all (λ d. same_sign (side_of face v) (side_of face d)) (besides face tet.corners)

  -- a face of the first is outer just where the other hasn't it
  abbrev AreTwo : Type 0
  AreTwo = (face : List Coordinates) → holds_all tet.corners face ≡ true → (had_by star face == 1) ≡ not (holds_all other.corners face)

  held : (face : List Coordinates) → IsFaceOf tet.corners face → holds_all tet.corners face ≡ true
  held face is = test_all (λ p. has place_cmp p tet.corners) face is.within

  seen_by_corners : AreTwo → list_all sees (outer_faces star tet) ≡ true → AllByRecursion (IsSeen v tet.corners other.corners) (choices 3 tet.corners)
  seen_by_corners two h =
      both_hold (IsFaceOf tet.corners) (λ face. (had_by star face == 1) ≡ true → sees face ≡ true) (IsSeen v tet.corners other.corners)
      (λ face is passes off outer d there apart.
      let seen = passes (two face (held face is) ∙ not_from_false (holds_all other.corners face) outer) in
      same_signs (side_of face v) (side_of face d)
      (at_member place_cmp-IsAntisymmetric (λ p. same_sign (side_of face v) (side_of face p)) d (besides face tet.corners)
      (sym (ap (λ b. b || list_all (λ p. same_sign (side_of face v) (side_of face p)) (besides face tet.corners)) off) ∙ seen)
      (has-filter place_cmp-IsAntisymmetric (λ p. not (has place_cmp p face)) d tet.corners ∙ and_from (has place_cmp d tet.corners) (not (has place_cmp d face)) there (not_from_false (has place_cmp d face) apart))))
      (choices 3 tet.corners) (faces_are tet.corners) (from_filter (λ face. sees face ≡ true) (λ face. had_by star face == 1) (choices 3 tet.corners) (all_pass sees (outer_faces star tet) h))

  pub by_sides : (phys elem : ℤ) → AreTwo → list_all sees (outer_faces star tet) ≡ true → HasFew v phys elem star tet
  by_sides phys elem two h =
      elim (cases_lt 4 (length (others v phys elem tet.corners))) [
        | inl many ↦ all-flat_map Outside (λ made. has tet_cmp made (cones v phys elem star tet) ≡ true) (cone v phys elem) (λ face out. none (seen_by_corners two h) many face out) (outer_faces star tet) outside
        | inr few ↦ by_corners v phys elem star tet few
      ]
    where
      Outside : List Coordinates → Type 0
      Outside face = IsFaceOf tet.corners face × (holds_all other.corners face ≡ false)

      outside : AllByRecursion Outside (outer_faces star tet)
      outside =
          both_hold (IsFaceOf tet.corners) (λ face. (had_by star face == 1) ≡ true) Outside
          (λ face is outer. (is, not-true (holds_all other.corners face) (sym (two face (held face is)) ∙ outer)))
          (outer_faces star tet) (all-filter (IsFaceOf tet.corners) (λ face. had_by star face == 1) (choices 3 tet.corners) (faces_are tet.corners))
          (recursion_from_All (λ face. (had_by star face == 1) ≡ true) (outer_faces star tet) (filter_passes (λ face. had_by star face == 1) (choices 3 tet.corners)))

      none : AllByRecursion (IsSeen v tet.corners other.corners) (choices 3 tet.corners) → 4 < length (others v phys elem tet.corners) → (face : List Coordinates) → Outside face
          → AllByRecursion (λ made. has tet_cmp made (cones v phys elem star tet) ≡ true) (cone v phys elem face)
      none seen many face out =
          let made : Tetrahedron = record { corners = ascending_of place_cmp (v ∷ face); phys = phys; elem = elem } in
          subst (λ b. AllByRecursion (λ tetra. has tet_cmp tetra (cones v phys elem star tet) ≡ true) (option_to_list (cond b None (Some made))))
          (sym (flat_over v tet.corners other.corners seen (omega (arith, many)) face out.0 out.1)) tt

-- how many of two tetrahedra have a face
had_by_two : (s t : Tetrahedron) (face : List Coordinates) → had_by (s ∷ t ∷ []) face ≡ cond (holds_all s.corners face) 1 0 + (cond (holds_all t.corners face) 1 0 + 0)
had_by_two s t face =
    let has_it : Tetrahedron → ℕ = λ tet. cond (holds_all tet.corners face) 1 0 in
    sum_by-cons has_it s (t ∷ []) ∙ ap (λ n. has_it s + n) (sum_by-cons has_it t [])

-- where one has it, it alone has it just if the other hasn't it
alone_first : (b c : Bool) → b ≡ true → ((cond b 1 0 + (cond c 1 0 + 0)) == 1) ≡ not c
alone_first true true e = refl
alone_first true false e = refl
alone_first false c e = absurd (false≢true e)

alone_second : (b c : Bool) → c ≡ true → ((cond b 1 0 + (cond c 1 0 + 0)) == 1) ≡ not b
alone_second true true e = refl
alone_second false true e = refl
alone_second b false e = absurd (false≢true e)

pub few_beside : (v : Coordinates) (star : List Tetrahedron) → are_a_pair star ≡ true → outer_faces_are_seen star v ≡ true → length (swapped v star) ≤ 4 * length star
few_beside v [] pair seen = absurd (false≢true pair)
few_beside v (s ∷ []) pair seen = absurd (false≢true pair)
few_beside v (s ∷ t ∷ []) pair seen =
    let star : List Tetrahedron = s ∷ t ∷ [] in
    let each = all_pass (λ tet. list_all (sees v star tet s) (outer_faces star tet)) star seen in
    few_swapped v star (λ phys elem. (
      by_sides v star s t phys elem (λ face h. ap (λ n. n == 1) (had_by_two s t face) ∙ alone_first (holds_all s.corners face) (holds_all t.corners face) h) each.0,
      (by_sides v star t s phys elem (λ face h. ap (λ n. n == 1) (had_by_two s t face) ∙ alone_second (holds_all s.corners face) (holds_all t.corners face) h) each.1.0, tt),
    ))
few_beside v (s ∷ t ∷ u ∷ rest) pair seen = absurd (false≢true pair)

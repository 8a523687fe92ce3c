-- Whether tetrahedra are a closed ring around an edge, or a pair at a face.
use Rattle.std.proofs.Common.{◌≡◌, ◌==◌, ℕ, Bool, true, false, ◌&&◌, List, [], ◌∷◌, length, get_or, map, nat_le, not, inl, inr, refl, sym, ap, subst, ◌∙◌, arith}
use Rattle.std.specs.declared.cmp.Ordering.TheVariants.{Less, Equal, Greater}
use Rattle.std.specs.Cmp.{tied_itself}
use Rattle.std.specs.Cmp.Lexicographic.{slice_cmp}
use Rattle.std.specs.List.{flat_map, list_all, list_any}
use Rattle.std.specs.List.Sorted.{IsStrictlySortedBy}
use Rattle.std.specs.Ordering.{eq_by_cmp, is_eq, is_lt, ordering_reverse}
use Rattle.std.proofs.lemmas.Bool.{false≢true, and_from, and_parts, or_right}
use Rattle.std.proofs.lemmas.Bool.Decides.{nat_tests}
use Rattle.ma_geom.specs.Coordinates.{Coordinates, place_cmp}
use Rattle.ma_geom.proofs.PlaceOrder.{place_cmp-IsAntisymmetric, place_cmp_total}
use Rattle.ma_cells.specs.Ascending.{are_ascending, are_distinct, ascending_of, has}
use Rattle.ma_cells.specs.Tetrahedron.{Tetrahedron, tet_cmp}
use Rattle.ma_cells.proofs.Ascents.{has-head, is-ascending_of}
use Rattle.ma_cells.proofs.CellOrders.{tet_cmp-IsAntisymmetric, tet_cmp_total}
use Rattle.ma_cells.proofs.Members.{any-at}
use Rattle.ma_cells.proofs.Passing.{any-map, any-weaker}
use Rattle.cavity_swap.specs.Rings.{IsNoRing, IsNoRingOf, IsRing, IsRingOf, RingAround, closes, edges_across, in_order, is_along, is_path, is_ring, joins, starts_least}
use Rattle.cavity_swap.proofs.Rounds.{ends}
use Rattle.pass_rules.specs.Moves.{are_a_pair, make_a_ring, sequences}
use Rattle.legal_moves.specs.Around.{spot_cmp}
use Rattle.legal_moves.proofs.Around.{any-flat_map, spot_exact, spot_total}

-- ---- the places of an edge are among those of all
end_there : (p q : Coordinates) (edge : List Coordinates) → joins p q edge ≡ true → has place_cmp p edge ≡ true
end_there p q edge h =
    elim (ends p q edge h) [
      | inl e ↦ subst (λ xs. has place_cmp p xs ≡ true) (sym e) (has-head place_cmp_total p (q ∷ []))
      | inr e ↦ subst (λ xs. has place_cmp p xs ≡ true) (sym e) (or_right (eq_by_cmp place_cmp p q) (has place_cmp p (p ∷ [])) (has-head place_cmp_total p []))
    ]

abbrev places_of : List (List Coordinates) → List Coordinates
places_of edges = flat_map (λ edge. edge) edges

joined_there : (p q : Coordinates) (edges : List (List Coordinates)) → list_any (joins p q) edges ≡ true → has place_cmp p (places_of edges) ≡ true
joined_there p q edges h =
    any-flat_map (eq_by_cmp place_cmp p) (λ (edge : List Coordinates). edge) edges ∙ any-weaker (joins p q) (has place_cmp p) (end_there p q) edges h

path_there : (edges : List (List Coordinates)) (end : Coordinates) (path : List Coordinates) → is_path edges end path ≡ true → list_all (λ p. has place_cmp p (places_of edges)) path ≡ true
path_there edges end [] h = refl
path_there edges end (p ∷ []) h = and_from _ _ (joined_there p end edges h) refl
path_there edges end (p ∷ q ∷ rest) h =
    let both = and_parts (list_any (joins p q) edges) (is_path edges end (q ∷ rest)) h in
    and_from _ _ (joined_there p q edges both.0) (path_there edges end (q ∷ rest) both.1)

closed_there : (edges : List (List Coordinates)) (corners : List Coordinates) → closes edges corners ≡ true → list_all (λ p. has place_cmp p (places_of edges)) corners ≡ true
closed_there edges [] h = refl
closed_there edges (p ∷ rest) h = path_there edges p (p ∷ rest) (and_parts (is_path edges p (p ∷ rest)) (list_all (is_along p (p ∷ rest)) edges) h).0

-- ---- each list of places is among the sequences of so many
with_head : (p : Coordinates) (rest : List Coordinates) (lists : List (List Coordinates)) → has spot_cmp rest lists ≡ true → has spot_cmp (p ∷ rest) (map (λ xs. p ∷ xs) lists) ≡ true
with_head p rest lists there =
    any-map (eq_by_cmp spot_cmp (p ∷ rest)) (λ xs. p ∷ xs) lists
    ∙ any-at spot_exact (λ xs. eq_by_cmp spot_cmp (p ∷ rest) (p ∷ xs)) rest lists there (ap is_eq (tied_itself spot_total (p ∷ rest)))

in_sequences : (places corners : List Coordinates) → list_all (λ p. has place_cmp p places) corners ≡ true → has spot_cmp corners (sequences (length corners) places) ≡ true
in_sequences places [] h = refl
in_sequences places (p ∷ rest) h =
    let both = and_parts (has place_cmp p places) (list_all (λ q. has place_cmp q places) rest) h in
    any-flat_map (eq_by_cmp spot_cmp (p ∷ rest)) (λ q. map (λ xs. q ∷ xs) (sequences (length rest) places)) places
    ∙ any-at place_cmp-IsAntisymmetric (λ q. has spot_cmp (p ∷ rest) (map (λ xs. q ∷ xs) (sequences (length rest) places))) p places both.0
    (with_head p rest (sequences (length rest) places) (in_sequences places rest both.1))

same_number : (m n : ℕ) → (m == n) ≡ true → n ≡ m
same_number m n h = grind (arith, nat_tests)

pub ring_there : (edges : List (List Coordinates)) (corners : List Coordinates) → IsRing edges corners → make_a_ring edges ≡ true
ring_there edges corners h =
    let halves = and_parts (nat_le 3 (length corners) && nat_le (length corners) 7 && length edges == length corners) _ h in
    let counts = and_parts (nat_le 3 (length corners) && nat_le (length corners) 7) (length edges == length corners) halves.0 in
    let shape = and_parts (are_distinct place_cmp corners) _ halves.1 in
    let closing = (and_parts (starts_least corners) (closes edges corners) shape.1).1 in
    any-at spot_exact (is_ring edges) corners (sequences (length edges) (places_of edges))
    (subst (λ n. has spot_cmp corners (sequences n (places_of edges)) ≡ true) (same_number (length edges) (length corners) counts.1) (in_sequences (places_of edges) corners (closed_there edges corners closing))) h

none_passes : {X : Type 0} (f : X → Bool) (xs : List X) → ((x : X) → f x ≡ false) → list_any f xs ≡ false
none_passes f [] h = refl
none_passes f (x ∷ xs) h = rw (h x) (none_passes f xs h)

pub no_ring : (edges : List (List Coordinates)) → IsNoRing edges → make_a_ring edges ≡ false
no_ring edges none = none_passes (is_ring edges) (sequences (length edges) (places_of edges)) none

-- ---- by the tetrahedra around an edge, which ascend
ordered : (a b : Coordinates) → are_ascending place_cmp (a ∷ b ∷ []) ≡ true → in_order a b ≡ a ∷ b ∷ []
ordered a b h =
    elim (place_cmp a b) as (λ r. place_cmp a b ≡ r → (is_lt r && true) ≡ true → in_order a b ≡ a ∷ b ∷ []) [
      | Less ↦ λ e _. rw (place_cmp_total.antisymm b a ∙ ap ordering_reverse e) refl
      | Equal ↦ λ _ k. absurd (false≢true k)
      | Greater ↦ λ _ k. absurd (false≢true k)
    ] refl h

module _ (star : List Tetrahedron) (a b : Coordinates) (rises : IsStrictlySortedBy tet_cmp star) (apart : are_ascending place_cmp (a ∷ b ∷ []) ≡ true) where
  edges_are : (ends : List Coordinates) → ends ≡ in_order a b → edges_across ends (ascending_of tet_cmp star) ≡ edges_across (a ∷ b ∷ []) star
  edges_are ends e =
      ap (λ xs. edges_across xs (ascending_of tet_cmp star)) (e ∙ ordered a b apart) ∙ ap (edges_across (a ∷ b ∷ [])) (sym (is-ascending_of tet_cmp_total tet_cmp-IsAntisymmetric star star rises (λ _. refl)))

  pub found_ring : (ring : RingAround) → IsRingOf star ring → ring.ends ≡ in_order a b → true ≡ make_a_ring (edges_across (a ∷ b ∷ []) star)
  found_ring ring is e = sym (ap make_a_ring (sym (edges_are ring.ends e)) ∙ ring_there (edges_across ring.ends (ascending_of tet_cmp star)) ring.corners is)

  pub found_none : IsNoRingOf star (in_order a b) → false ≡ make_a_ring (edges_across (a ∷ b ∷ []) star)
  found_none none = sym (ap make_a_ring (sym (edges_are (in_order a b) refl)) ∙ no_ring (edges_across (in_order a b) (ascending_of tet_cmp star)) none)

-- ---- two tetrahedra
pub pair_is : (star : List Tetrahedron) (s t : Tetrahedron) → length star ≡ 2 → s ≡ get_or star 0 s → t ≡ get_or star 1 t → not (eq_by_cmp (slice_cmp place_cmp) s.corners t.corners) ≡ are_a_pair star
pair_is [] s t n e f = absurd (omega arith)
pair_is (u ∷ []) s t n e f = absurd (omega arith)
pair_is (u ∷ v ∷ w ∷ tets) s t n e f = absurd (omega arith)
pair_is (u ∷ v ∷ []) s t n e f = ap (λ x. not (eq_by_cmp (slice_cmp place_cmp) x.corners t.corners)) e ∙ ap (λ x. not (eq_by_cmp (slice_cmp place_cmp) u.corners x.corners)) f

-- A binary search finds a node's number, and each corner of a tetrahedron is a node.
use Rattle.std.proofs.Common.{◌≡◌, ℕ, zero, suc, ◌+◌, ◌<◌, true, false, List, [], ◌∷◌, length, get_or, All, Contains, flat_map, refl, subst, ◌∙◌, arith}
use Rattle.std.specs.declared.cmp.Ordering.TheVariants.{Less, Equal}
use Rattle.std.specs.Cmp.{eq_by_cmp_equiv}
use Rattle.std.specs.List.{HoldsAt, filter, list_any}
use Rattle.std.specs.List.Sorted.{IsStrictlySortedBy}
use Rattle.std.specs.Ordering.{eq_by_cmp}
use Rattle.std.proofs.lemmas.Bool.{or_parts}
use Rattle.std.proofs.lemmas.List.Elements.{All-filter, All-get_or, Contains-append_left, Contains-append_right, Contains-get_or}
use Rattle.std.proofs.lemmas.List.Sums.{AllPass-from_list_all}
use Rattle.std.proofs.lemmas.Map.Keys.{Less-from_sorted}
use Rattle.std.proofs.lemmas.Map.Views.{list_any-from_Contains}
use Rattle.ma_geom.specs.Coordinates.{Coordinates, place_cmp}
use Rattle.ma_geom.proofs.PlaceOrder.{place_cmp-IsAntisymmetric, place_cmp_total}
use Rattle.ma_cells.specs.Ascending.{has}
use Rattle.ma_cells.specs.Cells.{CellMark, corners_of}
use Rattle.ma_cells.specs.Faces.{holds_all}
use Rattle.ma_cells.specs.Incidence.{is_on}
use Rattle.ma_cells.specs.Tetrahedron.{Tetrahedron}
use Rattle.ma_cells.proofs.Ascents.{has-ascending_of}
use Rattle.msh_write.specs.Text.{is_tagged, nodes_of, number_among}
use Rattle.msh_write.proofs.Sets.{any-flat_map}
use Rattle.ma_cells.proofs.Passing.{any-weaker}

-- a node that ties with p has p's number, since all before it are below it
pub number_among-at : (nodes : List Coordinates) (k : ℕ) (p : Coordinates) → IsStrictlySortedBy place_cmp nodes → k < length nodes → HoldsAt (λ q. place_cmp q p ≡ Equal) nodes k → k + 1 ≡ number_among nodes p
unfolding IsStrictlySortedBy
number_among-at [] k p s h e = absurd (omega arith)
number_among-at (node ∷ nodes) zero p s h e = rw (e p) refl
number_among-at (node ∷ nodes) (suc k) p s h e =
    let below : place_cmp node (get_or nodes k p) ≡ Less = Less-from_sorted place_cmp (node ∷ nodes) 0 (suc k) p s (omega arith) h in
    let is : get_or nodes k p ≡ p = place_cmp-IsAntisymmetric (get_or nodes k p) p (e p) in
    let first : place_cmp node p ≡ Less = subst (λ q. place_cmp node q ≡ Less) is below in
    let rest : k + 1 ≡ number_among nodes p = number_among-at nodes k p s.1 (omega arith) e in
    rw first (omega arith)

-- what isn't among the nodes has the number behind the last
pub number_behind : (nodes : List Coordinates) (p : Coordinates) → has place_cmp p nodes ≡ false → length nodes + 1 ≡ number_among nodes p
number_behind [] p none = refl
number_behind (node ∷ nodes) p none =
    let apart = or_parts (eq_by_cmp place_cmp p node) (has place_cmp p nodes) none in
    let other : eq_by_cmp place_cmp node p ≡ false = (eq_by_cmp_equiv place_cmp_total).symm node p ∙ apart.0 in
    let rest : length nodes + 1 ≡ number_among nodes p = number_behind nodes p apart.1 in
    rw other (omega arith)

corner-among : (tets : List Tetrahedron) (i : ℕ) (t : Tetrahedron) (p : Coordinates) → i < length tets → t ≡ get_or tets i t → Contains t.corners p → Contains (flat_map (λ u. u.corners) tets) p
corner-among [] i t p h is there = absurd (omega arith)
corner-among (u ∷ us) zero t p h is there = Contains-append_left u.corners (flat_map (λ v. v.corners) us) p (subst (λ v. Contains v.corners p) is there)
corner-among (u ∷ us) (suc i) t p h is there = Contains-append_right u.corners (flat_map (λ v. v.corners) us) p (corner-among us i t p (omega arith) is there)

-- each corner of a tetrahedron is a node
pub corners-there : (tets : List Tetrahedron) (i : ℕ) (t : Tetrahedron) → i < length tets → t ≡ get_or tets i t → All (λ p. has place_cmp p (nodes_of tets) ≡ true) t.corners
corners-there tets i t h is =
    λ k d below. has-ascending_of place_cmp_total (get_or t.corners k d) (flat_map (λ u. u.corners) tets)
    ∙ list_any-from_Contains (eq_by_cmp_equiv place_cmp_total) (get_or t.corners k d) (flat_map (λ u. u.corners) tets) (corner-among tets i t (get_or t.corners k d) h is (Contains-get_or t.corners k d below))

-- each corner of a cell of a tetrahedron is a node
pub held-there : (tets : List Tetrahedron) (places : List Coordinates) → list_any (λ t. holds_all t.corners places) tets ≡ true → All (λ p. has place_cmp p (nodes_of tets) ≡ true) places
held-there tets places held =
    λ k d below. has-ascending_of place_cmp_total (get_or places k d) (flat_map (λ t. t.corners) tets)
    ∙ any-flat_map (eq_by_cmp place_cmp (get_or places k d)) (λ t. t.corners) tets
    ∙ any-weaker (λ t. holds_all t.corners places) (λ t. has place_cmp (get_or places k d) t.corners)
    (λ t h. All-get_or (λ p. has place_cmp p t.corners ≡ true) places k d below (AllPass-from_list_all (λ p. has place_cmp p t.corners) places h)) tets held

-- each corner of the marks that are written is a node
pub marks-there : (tets : List Tetrahedron) (marks : List CellMark) → All (λ m. is_on tets m.cell ≡ true) marks
    → All (λ m. All (λ p. has place_cmp p (nodes_of tets) ≡ true) (corners_of m.cell)) (filter is_tagged marks)
marks-there tets marks on =
    All-filter is_tagged (λ m. All (λ p. has place_cmp p (nodes_of tets) ≡ true) (corners_of m.cell)) marks
    (λ k d below. held-there tets (corners_of (get_or marks k d).cell) (on k d below))

-- Items that are listed in ascending order, and corners with some of them first.
use Rattle.std.proofs.Common.{◌≡◌, ◌≢◌, Bool, true, false, cond, not, ◌&&◌, ◌||◌, List, [], ◌∷◌, length, refl, sym, ap, subst, ◌∙◌, arith}
use Rattle.std.specs.declared.cmp.Ordering.{Ordering}
use Rattle.std.specs.declared.cmp.Ordering.TheVariants.{Less, Equal, Greater}
use Rattle.std.specs.Cmp.{IsTotalOrder, Equal-is, tied_itself}
use Rattle.std.specs.Cmp.Lexicographic.{slice_cmp}
use Rattle.std.specs.List.Sorted.{IsPermutation}
use Rattle.std.proofs.lemmas.Bool.{false≢true}
use Rattle.std.proofs.lemmas.List.Sorted.{IsPermutation-cons, IsPermutation-refl, IsPermutation-swap, IsPermutation-trans, length_permutation}
use Rattle.std.specs.Ordering.{eq_by_cmp, int_cmp, is_eq, is_lt, ordering_then}
use Rattle.ma_geom.specs.Coordinates.{Coordinates, place_cmp}
use Rattle.ma_geom.proofs.PlaceOrder.{place_cmp_total, place_cmp-IsAntisymmetric}
use Rattle.ma_cells.specs.Ascending.{are_distinct, ascending_of, has, put}
use Rattle.ma_cells.specs.Faces.{holds_all}
use Rattle.ma_cells.specs.Meshes.{are_listed_once, corner_sets}
use Rattle.ma_cells.specs.Tetrahedron.{Tetrahedron, tet_cmp}
use Rattle.ma_cells.proofs.Ascents.{has-ascending_of}
use Rattle.ma_cells.proofs.CellOrders.{tet_cmp_total}
use Rattle.ma_cells.proofs.Corners.{sorted_corners}

-- ---- places that tie are equal
pub same : (p q : Coordinates) → eq_by_cmp place_cmp p q ≡ true → p ≡ q
same p q t = place_cmp-IsAntisymmetric p q ((Equal-is (place_cmp p q)).0 t)

pub tied : (p : Coordinates) → eq_by_cmp place_cmp p p ≡ true
tied p = ap is_eq (tied_itself place_cmp_total p)

pub apart : (p q : Coordinates) → p ≢ q → eq_by_cmp place_cmp p q ≡ false
apart p q differ =
    elim (eq_by_cmp place_cmp p q) as (λ b. eq_by_cmp place_cmp p q ≡ b → b ≡ false) [
      | true ↦ λ e. absurd (differ (same p q e))
      | false ↦ λ _. refl
    ] refl

pub alone : (h d : Bool) → (not h && d) ≡ true → (h ≡ false) × (d ≡ true)
alone true d e = absurd (false≢true e)
alone false d e = (refl, e)

-- ---- ascending order
exchanged : {K : Type 0} (x y : K) (l : List K) → IsPermutation (x ∷ y ∷ l) (y ∷ x ∷ l)
exchanged x y l = IsPermutation-swap (x ∷ y ∷ l) (y ∷ x ∷ l) 0 1 (omega arith) (omega arith) refl

put-permutes : {K : Type 0} (R : K → K → Ordering) (x : K) (ys : List K) → has R x ys ≡ false → IsPermutation (x ∷ ys) (put R x ys)
put-permutes R x [] new = IsPermutation-refl (x ∷ [])
put-permutes R x (y ∷ ys) new =
    elim (R x y) as (λ r. (is_eq r || has R x ys) ≡ false
    → IsPermutation (x ∷ y ∷ ys) (cond (is_lt r) (x ∷ y ∷ ys) (cond (is_eq r) (y ∷ ys) (y ∷ put R x ys)))) [
      | Less ↦ λ _. IsPermutation-refl (x ∷ y ∷ ys)
      | Equal ↦ λ e. absurd (false≢true (sym e))
      | Greater ↦ λ e. IsPermutation-trans (x ∷ y ∷ ys) (y ∷ x ∷ ys) (y ∷ put R x ys) (exchanged x y ys) (IsPermutation-cons y (x ∷ ys) (put R x ys) (put-permutes R x ys e))
    ] new

-- distinct items, put in order, are the same items
pub distinct-permutes : {K : Type 0} {R : K → K → Ordering} → IsTotalOrder R → (xs : List K) → are_distinct R xs ≡ true → IsPermutation xs (ascending_of R xs)
distinct-permutes o [] distinct = IsPermutation-refl []
distinct-permutes {R = R} o (x ∷ xs) distinct =
    let first = alone (has R x xs) (are_distinct R xs) distinct in
    IsPermutation-trans (x ∷ xs) (x ∷ ascending_of R xs) (ascending_of R (x ∷ xs))
    (IsPermutation-cons x xs (ascending_of R xs) (distinct-permutes o xs first.1))
    (put-permutes R x (ascending_of R xs) (has-ascending_of o x xs ∙ first.0))

-- the same of places
pub ascending_of-permutes : (xs : List Coordinates) → are_distinct place_cmp xs ≡ true → IsPermutation xs (ascending_of place_cmp xs)
ascending_of-permutes = distinct-permutes place_cmp_total

-- ---- tetrahedra that are listed once
other_corners : (t : Tetrahedron) (ts : List Tetrahedron) → has (slice_cmp place_cmp) t.corners (corner_sets ts) ≡ false → has tet_cmp t ts ≡ false
other_corners t [] new = refl
other_corners t (u ∷ us) new =
    elim (slice_cmp place_cmp t.corners u.corners) as (λ r. (is_eq r || has (slice_cmp place_cmp) t.corners (corner_sets us)) ≡ false
    → (is_eq (ordering_then r (ordering_then (int_cmp t.phys u.phys) (int_cmp t.elem u.elem))) || has tet_cmp t us) ≡ false) [
      | Less ↦ λ e. other_corners t us e
      | Equal ↦ λ e. absurd (false≢true (sym e))
      | Greater ↦ λ e. other_corners t us e
    ] new

-- tetrahedra whose corners differ are distinct
pub listed_once-distinct : (tets : List Tetrahedron) → are_listed_once tets ≡ true → are_distinct tet_cmp tets ≡ true
listed_once-distinct [] once = refl
listed_once-distinct (t ∷ ts) once =
    let first = alone (has (slice_cmp place_cmp) t.corners (corner_sets ts)) (are_listed_once ts) once in
    rw (other_corners t ts first.0) (listed_once-distinct ts first.1)

-- so in ascending order they are the same tetrahedra
pub listed_once-permutes : (tets : List Tetrahedron) → are_listed_once tets ≡ true → IsPermutation tets (ascending_of tet_cmp tets)
listed_once-permutes tets once = distinct-permutes tet_cmp_total tets (listed_once-distinct tets once)

-- ---- places that are held
-- the same places are held in any order
pub has-permutation : (q : Coordinates) (xs ys : List Coordinates) → IsPermutation xs ys → has place_cmp q xs ≡ has place_cmp q ys
has-permutation q xs ys moved =
    sym (has-ascending_of place_cmp_total q xs) ∙ ap (has place_cmp q) (sorted_corners xs ys moved) ∙ has-ascending_of place_cmp_total q ys

-- ---- a place that is held, listed first
pub listed_first : (q : Coordinates) (xs : List Coordinates) → has place_cmp q xs ≡ true → (rest : List Coordinates) × IsPermutation xs (q ∷ rest)
listed_first q [] there = absurd (false≢true there)
listed_first q (x ∷ xs) there =
    elim (eq_by_cmp place_cmp q x) as (λ b. eq_by_cmp place_cmp q x ≡ b → (b || has place_cmp q xs) ≡ true → (rest : List Coordinates) × IsPermutation (x ∷ xs) (q ∷ rest)) [
      | true ↦ λ e _. (xs, subst (λ y. IsPermutation (x ∷ xs) (y ∷ xs)) (sym (same q x e)) (IsPermutation-refl (x ∷ xs)))
      | false ↦ λ _ h.
          let more = listed_first q xs h in (
            x ∷ more.0,
            IsPermutation-trans (x ∷ xs) (x ∷ q ∷ more.0) (q ∷ x ∷ more.0) (IsPermutation-cons x xs (q ∷ more.0) more.1) (exchanged x q more.0),
          )
    ] refl there

pub both : (s t : Bool) → (s && (t && true)) ≡ true → (s ≡ true) × (t ≡ true)
both true true e = (refl, refl)
both true false e = absurd (false≢true e)
both false t e = absurd (false≢true e)

in_rest : (s t : Bool) → (s || t) ≡ true → s ≡ false → t ≡ true
in_rest true t e f = absurd (false≢true (sym f))
in_rest false t e f = e

two_left : (corners : List Coordinates) (a b : Coordinates) (rest : List Coordinates) → length corners ≡ 4 → IsPermutation corners (a ∷ b ∷ rest)
    → (c : Coordinates) × (d : Coordinates) × IsPermutation corners (a ∷ b ∷ c ∷ d ∷ [])
two_left corners a b (c ∷ d ∷ []) four moved = (c, d, moved)
two_left corners a b [] four moved = let long = length_permutation corners (a ∷ b ∷ []) moved in absurd (omega arith)
two_left corners a b (c ∷ []) four moved = let long = length_permutation corners (a ∷ b ∷ c ∷ []) moved in absurd (omega arith)
two_left corners a b (c ∷ d ∷ e ∷ l) four moved = let long = length_permutation corners (a ∷ b ∷ c ∷ d ∷ e ∷ l) moved in absurd (omega arith)

-- corners with those of an edge first
pub ends_first : (a b : Coordinates) (corners : List Coordinates) → a ≢ b → holds_all corners (a ∷ b ∷ []) ≡ true → (rest : List Coordinates) × IsPermutation corners (a ∷ b ∷ rest)
ends_first a b corners differ there =
    let held = both (has place_cmp a corners) (has place_cmp b corners) there in
    let first = listed_first a corners held.0 in
    let still : (eq_by_cmp place_cmp b a || has place_cmp b first.0) ≡ true = sym (has-permutation b corners (a ∷ first.0) first.1) ∙ held.1 in
    let next = listed_first b first.0 (in_rest (eq_by_cmp place_cmp b a) (has place_cmp b first.0) still (apart b a (λ e. differ (sym e)))) in
    (next.0, IsPermutation-trans corners (a ∷ first.0) (a ∷ b ∷ next.0) first.1 (IsPermutation-cons a first.0 (b ∷ next.0) next.1))

-- the same of four corners
pub edge_first : (a b : Coordinates) (corners : List Coordinates) → a ≢ b → length corners ≡ 4 → holds_all corners (a ∷ b ∷ []) ≡ true
    → (c : Coordinates) × (d : Coordinates) × IsPermutation corners (a ∷ b ∷ c ∷ d ∷ [])
edge_first a b corners differ four there =
    let found = ends_first a b corners differ there in
    two_left corners a b found.0 four found.1

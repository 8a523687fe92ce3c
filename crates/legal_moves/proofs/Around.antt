-- The legal operations, by the places that they take away and tetrahedron by tetrahedron.
use Rattle.std.proofs.Common.{◌≡◌, Bool, true, false, cond, ◌&&◌, ◌||◌, List, [], ◌∷◌, filter, refl, sym, ap, ◌∙◌}
use Rattle.std.specs.declared.cmp.Ordering.{Ordering}
use Rattle.std.specs.declared.cmp.Ordering.TheVariants.{Less, Equal, Greater}
use Rattle.std.specs.Cmp.{IsTotalOrder, both_ways}
use Rattle.std.specs.Cmp.Lexicographic.{lists_total}
use Rattle.std.specs.FinMap.{IsAntisymmetric, slice_cmp-IsAntisymmetric}
use Rattle.std.specs.List.{flat_map, list_any}
use Rattle.std.specs.Ordering.{eq_by_cmp, is_eq, is_lt}
use Rattle.std.proofs.lemmas.Bool.{false≢true, and_from, and_parts, or_right}
use Rattle.std.proofs.lemmas.List.Folds.{list_any-append}
use Rattle.ma_geom.specs.Coordinates.{Coordinates}
use Rattle.ma_geom.proofs.PlaceOrder.{place_cmp-IsAntisymmetric, place_cmp_total}
use Rattle.ma_cells.specs.Ascending.{ascending_of, has, put}
use Rattle.ma_cells.specs.Faces.{holds_all}
use Rattle.ma_cells.specs.Stars.{besides, star_of}
use Rattle.ma_cells.specs.Tetrahedron.{Tetrahedron, tet_cmp}
use Rattle.ma_cells.specs.declared.batch.Batch.{Batch}
use Rattle.ma_cells.proofs.Ascents.{has-ascending_of, has-head, is-ascending_of, sorted-ascending_of}
use Rattle.ma_cells.proofs.CellOrders.{tet_cmp-IsAntisymmetric, tet_cmp_total}
use Rattle.ma_cells.proofs.Members.{any-at}
use Rattle.size_marks.specs.Field.{Field}
use Rattle.cavity_rank.specs.Operations.{Operation, rank}
use Rattle.cavity_rank.specs.declared.verdict.Kind.{Kind}
use Rattle.cavity_rank.proofs.Ranked.{rank-IsAntisymmetric, rank_total}
use Rattle.legal_moves.specs.Around.{legal_around, others_of, spot_cmp}
use Rattle.pass_rules.specs.Moves.{legal_from, legal_operations, legal_within, spots_of}

-- ---- what some item passes, of lists that are made of others
pub any-flat_map : {X Y : Type 0} (f : Y → Bool) (h : X → List Y) (xs : List X) → list_any f (flat_map h xs) ≡ list_any (λ x. list_any f (h x)) xs
any-flat_map f h [] = refl
any-flat_map f h (x ∷ xs) = list_any-append f (h x) (flat_map h xs) ∙ ap (λ b. list_any f (h x) || b) (any-flat_map f h xs)

pub any-filter : {X : Type 0} (f p : X → Bool) (xs : List X) → list_any f (filter p xs) ≡ list_any (λ x. p x && f x) xs
any-filter f p [] = refl
any-filter f p (x ∷ xs) =
    elim (p x) as (λ b. list_any f (cond b (x ∷ filter p xs) (filter p xs)) ≡ ((b && f x) || list_any (λ y. p y && f y) xs)) [
      | true ↦ ap (λ b. f x || b) (any-filter f p xs)
      | false ↦ any-filter f p xs
    ]

module _ {K : Type 0} {R : K → K → Ordering} (exact : IsAntisymmetric R) (f : K → Bool) where
  twice : (a b : Bool) → (a || b) ≡ (a || (a || b))
  twice true b = refl
  twice false b = refl

  swapped : (a b c : Bool) → (a || (b || c)) ≡ (b || (a || c))
  swapped true true c = refl
  swapped true false c = refl
  swapped false b c = refl

  any-put : (x : K) (ys : List K) → list_any f (put R x ys) ≡ (f x || list_any f ys)
  any-put x [] = refl
  any-put x (y ∷ ys) =
      elim (R x y) as (λ r. R x y ≡ r → list_any f (cond (is_lt r) (x ∷ y ∷ ys) (cond (is_eq r) (y ∷ ys) (y ∷ put R x ys))) ≡ (f x || (f y || list_any f ys))) [
        | Less ↦ λ _. refl
        | Equal ↦ λ tie. twice (f y) (list_any f ys) ∙ ap (λ z. f z || (f y || list_any f ys)) (sym (exact x y tie))
        | Greater ↦ λ _. ap (λ b. f y || b) (any-put x ys) ∙ swapped (f y) (f x) (list_any f ys)
      ] refl

  pub any-ascending_of : (xs : List K) → list_any f (ascending_of R xs) ≡ list_any f xs
  any-ascending_of [] = refl
  any-ascending_of (x ∷ xs) = any-put x (ascending_of R xs) ∙ ap (λ b. f x || b) (any-ascending_of xs)

-- an item that passes
pub found : {K : Type 0} {R : K → K → Ordering} → IsTotalOrder R → (f : K → Bool) (xs : List K) → list_any f xs ≡ true → (x : K) × (has R x xs ≡ true) × (f x ≡ true)
found o f [] h = absurd (false≢true h)
found {R = R} o f (x ∷ xs) h =
    elim (f x) as (λ b. f x ≡ b → (b || list_any f xs) ≡ true → (y : _) × (has R y (x ∷ xs) ≡ true) × (f y ≡ true)) [
      | true ↦ λ e _. (x, has-head o x xs, e)
      | false ↦ λ _ k. let later = found o f xs k in (later.0, or_right (eq_by_cmp R later.0 x) (has R later.0 xs) later.1, later.2)
    ] refl h

pub spot_total : IsTotalOrder spot_cmp
spot_total = lists_total place_cmp_total

pub spot_exact : IsAntisymmetric spot_cmp
spot_exact at other e = slice_cmp-IsAntisymmetric place_cmp-IsAntisymmetric at other e

-- ---- where some spots are among those of a pass, and have all legal operations, the legal operations are those around them
module _ (kind : Kind) (field : Field) (mesh : Batch) (spots : List (List Coordinates))
    (theirs : (at : List Coordinates) (tet : Tetrahedron) → has spot_cmp at spots ≡ true → has tet_cmp tet mesh.tets ≡ true → holds_all tet.corners at ≡ true → has spot_cmp at (spots_of kind tet.corners) ≡ true)
    (held : (at : List Coordinates) (tet : Tetrahedron) → has tet_cmp tet mesh.tets ≡ true → has spot_cmp at (spots_of kind tet.corners) ≡ true → holds_all tet.corners at ≡ true)
    (among : (at : List Coordinates) (v : Coordinates) (q : Operation) (tet : Tetrahedron) → has tet_cmp tet mesh.tets ≡ true → has spot_cmp at (spots_of kind tet.corners) ≡ true → has rank q (legal_from field mesh at v) ≡ true → has spot_cmp at spots ≡ true) where
  abbrev within : Operation → List Coordinates → Tetrahedron → Bool
  within q at tet = list_any (λ v. has rank q (legal_from field mesh at v)) (besides at tet.corners)

  abbrev around : Operation → List Coordinates → Bool
  around q at = list_any (λ tet. holds_all tet.corners at && within q at tet) mesh.tets

  abbrev inside : Operation → Tetrahedron → Bool
  inside q tet = list_any (λ at. within q at tet) (spots_of kind tet.corners)

  has-around : (q : Operation) (at : List Coordinates) → has rank q (legal_around field mesh at) ≡ around q at
  has-around q at =
      any-flat_map (eq_by_cmp rank q) (legal_from field mesh at) (others_of at (star_of at mesh.tets))
      ∙ any-ascending_of place_cmp-IsAntisymmetric (λ v. has rank q (legal_from field mesh at v)) (flat_map (λ tet. besides at tet.corners) (star_of at mesh.tets))
      ∙ any-flat_map (λ v. has rank q (legal_from field mesh at v)) (λ (tet : Tetrahedron). besides at tet.corners) (star_of at mesh.tets)
      ∙ any-filter (within q at) (λ tet. holds_all tet.corners at) mesh.tets

  has-inside : (q : Operation) (tet : Tetrahedron) → has rank q (legal_within kind field mesh tet) ≡ inside q tet
  has-inside q tet =
      any-flat_map (eq_by_cmp rank q) (λ at. flat_map (legal_from field mesh at) (besides at tet.corners)) (spots_of kind tet.corners)
      ∙ ap (λ f. list_any f (spots_of kind tet.corners)) (λ i at. any-flat_map (eq_by_cmp rank q) (legal_from field mesh at) (besides at tet.corners) i)

  forward : (q : Operation) → list_any (around q) spots ≡ true → list_any (inside q) mesh.tets ≡ true
  forward q h =
      let at = found spot_total (around q) spots h in
      let tet = found tet_cmp_total (λ tet. holds_all tet.corners at.0 && within q at.0 tet) mesh.tets at.2 in
      let both = and_parts (holds_all tet.0.corners at.0) (within q at.0 tet.0) tet.2 in
      any-at tet_cmp-IsAntisymmetric (inside q) tet.0 mesh.tets tet.1 (any-at spot_exact (λ at. within q at tet.0) at.0 (spots_of kind tet.0.corners) (theirs at.0 tet.0 at.1 tet.1 both.0) both.1)

  backward : (q : Operation) → list_any (inside q) mesh.tets ≡ true → list_any (around q) spots ≡ true
  backward q h =
      let tet = found tet_cmp_total (inside q) mesh.tets h in
      let at = found spot_total (λ at. within q at tet.0) (spots_of kind tet.0.corners) tet.2 in
      let v = found place_cmp_total (λ v. has rank q (legal_from field mesh at.0 v)) (besides at.0 tet.0.corners) at.2 in
      any-at spot_exact (around q) at.0 spots (among at.0 v.0 q tet.0 tet.1 at.1 v.2)
      (any-at tet_cmp-IsAntisymmetric (λ tet. holds_all tet.corners at.0 && within q at.0 tet) tet.0 mesh.tets tet.1 (and_from _ _ (held at.0 tet.0 tet.1 at.1) at.2))

  pub legal_by_spots : ascending_of rank (flat_map (legal_around field mesh) spots) ≡ legal_operations kind field mesh
  legal_by_spots =
      is-ascending_of rank_total rank-IsAntisymmetric (ascending_of rank (flat_map (legal_around field mesh) spots)) (flat_map (legal_within kind field mesh) mesh.tets)
      (sorted-ascending_of rank_total (flat_map (legal_around field mesh) spots))
      (λ q. has-ascending_of rank_total q (flat_map (legal_around field mesh) spots) ∙ left q ∙ both_ways _ _ (forward q) (backward q) ∙ sym (right q))
    where
      left : (q : Operation) → has rank q (flat_map (legal_around field mesh) spots) ≡ list_any (around q) spots
      left q = any-flat_map (eq_by_cmp rank q) (legal_around field mesh) spots ∙ ap (λ f. list_any f spots) (λ i at. has-around q at i)

      right : (q : Operation) → has rank q (flat_map (legal_within kind field mesh) mesh.tets) ≡ list_any (inside q) mesh.tets
      right q = any-flat_map (eq_by_cmp rank q) (legal_within kind field mesh) mesh.tets ∙ ap (λ f. list_any f mesh.tets) (λ i tet. has-inside q tet i)

-- Items with their numbers, which rise.
use Rattle.std.proofs.Common.{◌≡◌, ℕ, ◌+◌, ◌<◌, true, false, cond, not, ◌&&◌, ◌||◌, List, [], ◌∷◌, ◌++◌, length, get_or, take, Some, None, refl, sym, ap, ◌∙◌, arith, Bool}
use Rattle.std.specs.Prelude.{map, nat_lt, Result, Ok, Err, ℤ}
use Rattle.std.specs.List.{AllByRecursion, list_all}
use Rattle.std.specs.List.Sorted.{IsStrictlySortedBy}
use Rattle.std.specs.Ordering.{eq_by_cmp, nat_cmp}
use Rattle.std.specs.declared.cmp.Ordering.{Ordering}
use Rattle.std.specs.declared.cmp.Ordering.TheVariants.{Less}
use Rattle.std.proofs.lemmas.Bool.Decides.{nat_tests}
use Rattle.std.proofs.lemmas.List.{length-map, length-take, map_more}
use Rattle.ma_geom.specs.Coordinates.{Coordinates, place_cmp}
use Rattle.ma_cells.specs.Ascending.{are_ascending, are_distinct, ascending_of, has}
use Rattle.ma_cells.specs.Meshes.{corner_sets}
use Rattle.ma_cells.specs.Tetrahedron.{Tetrahedron, are_corners, is_flat, tetrahedron_of}
use Rattle.msh_read.specs.Trying.{◌>>=◌, each, or_fault}
use Rattle.mesh_check.specs.declared.fault.MeshFault.TheVariants.{Flat, TooFar}
use Rattle.mesh_check.specs.Pairs.{first_pair, first_with, numbered_from, paired}
use Rattle.std.specs.Option.{option_and_then}
use Rattle.msh_read.specs.declared.raw.RawTet.{RawTet}
use Rattle.ma_geom.proofs.PlaceOrder.{place_cmp_total}
use Rattle.ma_cells.proofs.Ascents.{ascending_from_strict, sorted-ascending_of}
use Rattle.mesh_check.specs.steps.Tetrahedra.{numbered_tet, places_of, found_tet}
use Rattle.mesh_check.specs.steps.ShiftedPlaces.{numbered_place, place_of}
use Rattle.mesh_check.proofs.Tied.{less_lt}

less_from_lt : (m n : ℕ) → m < n → nat_cmp m n ≡ Less
less_from_lt m n h = let e : nat_lt m n ≡ true = grind (arith, nat_tests) in rw e refl

lt_from_less : (m n : ℕ) → nat_cmp m n ≡ Less → m < n
lt_from_less m n e = let f = less_lt m n e in grind (arith, nat_tests)

above : {X : Type 0} (n m : ℕ) (xs : List X) → n < m → AllByRecursion (λ k. nat_cmp n k ≡ Less) (map (λ (item : X × ℕ). item.1) (numbered_from m xs))
above n m [] h = tt
above n m (x ∷ xs) h = (less_from_lt n m h, above n (m + 1) xs (omega arith))

-- numbers that count rise
pub numbered-rise : {X : Type 0} (n : ℕ) (xs : List X) → IsStrictlySortedBy nat_cmp (map (λ (item : X × ℕ). item.1) (numbered_from n xs))
unfolding IsStrictlySortedBy
numbered-rise n [] = tt
numbered-rise n (x ∷ xs) = (above n (n + 1) xs (omega arith), numbered-rise (n + 1) xs)

pub numbered-push : {X : Type 0} (n : ℕ) (xs : List X) (x : X) → numbered_from n (xs ++ x ∷ []) ≡ numbered_from n xs ++ (x, n + length xs) ∷ []
numbered-push n [] x = let e : n ≡ n + 0 = omega arith in ap (λ k. (x, k) ∷ []) e
numbered-push n (y ∷ xs) x =
    let e : n + 1 + length xs ≡ n + length (y ∷ xs) = omega arith in
    ap (λ items. (y, n) ∷ items) (numbered-push (n + 1) xs x ∙ ap (λ k. numbered_from (n + 1) xs ++ (x, k) ∷ []) e)

-- what follows of a step that went well
pub then_ok : {A B E : Type 0} (first : Result A E) (next : A → Result B E) (y : B) → (first >>= next) ≡ Ok y → (x : A) × (first ≡ Ok x) × (next x ≡ Ok y)
then_ok (Ok x) next y e = (x, refl, e)
then_ok (Err fault) next y e = absurd cc

place-number : (nodes : List Coordinates) (shift at : ℕ) (item : Coordinates × ℕ) → numbered_place nodes shift at ≡ Ok item → item.1 ≡ at + 1
unfolding numbered_place
place-number nodes shift at item e =
    elim (place_of nodes shift at) as (λ found. (or_fault (TooFar (at + 1)) found >>= λ place. Ok (place, at + 1)) ≡ Ok item → item.1 ≡ at + 1) [
      | Some place ↦ λ k. cc
      | None ↦ λ k. absurd cc
    ] e

-- the items that the numbered_from places at positions are
places-above : (nodes : List Coordinates) (shift n : ℕ) (ps : List ℕ) (items : List (Coordinates × ℕ)) → each (numbered_place nodes shift) ps ≡ Ok items
    → AllByRecursion (λ k. nat_cmp n k ≡ Less) ps → AllByRecursion (λ k. nat_cmp (n + 1) k ≡ Less) (map (λ item. item.1) items)
places-above nodes shift n [] [] e h = tt
places-above nodes shift n [] (item ∷ items) e h = absurd cc
places-above nodes shift n (p ∷ ps) [] e h =
    let first = then_ok (numbered_place nodes shift p) _ [] e in
    let others = then_ok (each (numbered_place nodes shift) ps) _ [] first.2 in absurd (cc others.2)
places-above nodes shift n (p ∷ ps) (item ∷ items) e h =
    let first = then_ok (numbered_place nodes shift p) _ (item ∷ items) e in
    let others = then_ok (each (numbered_place nodes shift) ps) _ (item ∷ items) first.2 in
    let here : first.0 ≡ item = cc (others.2) in
    let there : others.0 ≡ items = cc (others.2) in
    let number = place-number nodes shift p item (first.1 ∙ ap (λ x. Ok x) here) in
    let less : n + 1 < item.1 = let k = lt_from_less n p h.0 in omega arith in
    (less_from_lt (n + 1) item.1 less, places-above nodes shift n ps items (others.1 ∙ ap (λ x. Ok x) there) h.1)

-- numbers of places at positions that rise
pub places-rise : (nodes : List Coordinates) (shift : ℕ) (ps : List ℕ) (items : List (Coordinates × ℕ)) → each (numbered_place nodes shift) ps ≡ Ok items → IsStrictlySortedBy nat_cmp ps
    → IsStrictlySortedBy nat_cmp (map (λ item. item.1) items)
unfolding IsStrictlySortedBy
places-rise nodes shift [] [] e s = tt
places-rise nodes shift [] (item ∷ items) e s = absurd cc
places-rise nodes shift (p ∷ ps) [] e s =
    let first = then_ok (numbered_place nodes shift p) _ [] e in
    let others = then_ok (each (numbered_place nodes shift) ps) _ [] first.2 in absurd (cc others.2)
places-rise nodes shift (p ∷ ps) (item ∷ items) e s =
    let first = then_ok (numbered_place nodes shift p) _ (item ∷ items) e in
    let others = then_ok (each (numbered_place nodes shift) ps) _ (item ∷ items) first.2 in
    let here : first.0 ≡ item = cc (others.2) in
    let there : others.0 ≡ items = cc (others.2) in
    let rest : each (numbered_place nodes shift) ps ≡ Ok items = others.1 ∙ ap (λ x. Ok x) there in
    let number = place-number nodes shift p item (first.1 ∙ ap (λ x. Ok x) here) in
    (rw number (places-above nodes shift p ps items rest s.0), places-rise nodes shift ps items rest s.1)

-- a step of a loop that numbers the corners of tetrahedra
pub corners_on : (sets : List (List Coordinates × ℕ)) (tetrahedra : List Tetrahedron) (i : ℕ) (tetrahedron : Tetrahedron) → i < length tetrahedra → tetrahedron ≡ get_or tetrahedra i tetrahedron
    → sets ≡ numbered_from 1 (corner_sets (take i tetrahedra)) → sets ++ (tetrahedron.corners, i + 1) ∷ [] ≡ numbered_from 1 (corner_sets (take (i + 1) tetrahedra))
corners_on sets tetrahedra i tetrahedron within at so_far =
    let count : 1 + length (corner_sets (take i tetrahedra)) ≡ i + 1 = simp (length-map, length-take) (omega arith) in
    rw so_far (ap (λ k. numbered_from 1 (corner_sets (take i tetrahedra)) ++ (tetrahedron.corners, k) ∷ []) (sym count)
    ∙ sym (numbered-push 1 (corner_sets (take i tetrahedra)) tetrahedron.corners)
    ∙ ap (λ (t : Tetrahedron). numbered_from 1 (corner_sets (take i tetrahedra) ++ t.corners ∷ [])) at
    ∙ ap (numbered_from 1) (sym (map_more (λ (t : Tetrahedron). t.corners) tetrahedra i tetrahedron within)))

has-first_with : {K : Type 0} (R : K → K → Ordering) (x : K) (n : ℕ) (xs : List K) → first_with R x (numbered_from n xs) ≡ None → has R x xs ≡ false
has-first_with R x n [] e = refl
has-first_with R x n (y ∷ ys) e =
    elim (eq_by_cmp R x y) as (λ b. cond b (Some n) (first_with R x (numbered_from (n + 1) ys)) ≡ None → (b || has R x ys) ≡ false) [
      | true ↦ λ k. absurd cc
      | false ↦ λ k. has-first_with R x (n + 1) ys k
    ] e

-- where no two items have one key, the keys are distinct
pub distinct-no_pair : {K : Type 0} (R : K → K → Ordering) (n : ℕ) (xs : List K) → first_pair R (numbered_from n xs) ≡ None → are_distinct R xs ≡ true
distinct-no_pair R n [] e = refl
distinct-no_pair R n (x ∷ xs) e =
    elim (first_with R x (numbered_from (n + 1) xs)) as (λ found. first_with R x (numbered_from (n + 1) xs) ≡ found → paired n found (first_pair R (numbered_from (n + 1) xs)) ≡ None → (not (has R x xs) && are_distinct R xs) ≡ true) [
      | Some m ↦ λ _ k. absurd cc
      | None ↦ λ f k. rw (has-first_with R x (n + 1) xs f) (distinct-no_pair R (n + 1) xs k)
    ] refl e

-- what each item that is read passes
pub each-pass : {A B E : Type 0} (test : B → Bool) (read : A → Result B E) → ((x : A) (y : B) → read x ≡ Ok y → test y ≡ true) → (xs : List A) (ys : List B) → each read xs ≡ Ok ys → list_all test ys ≡ true
each-pass test read passes [] [] e = refl
each-pass test read passes [] (y ∷ ys) e = absurd cc
each-pass test read passes (x ∷ xs) [] e = refl
each-pass test read passes (x ∷ xs) (y ∷ ys) e =
    let first = then_ok (read x) _ (y ∷ ys) e in
    let others = then_ok (each read xs) _ (y ∷ ys) first.2 in
    let here : first.0 ≡ y = cc (others.2) in
    let there : others.0 ≡ ys = cc (others.2) in
    rw (passes x y (first.1 ∙ ap (λ z. Ok z) here)) (each-pass test read passes xs ys (others.1 ∙ ap (λ zs. Ok zs) there))

solid_corners : (corners : List Coordinates) (phys elem : ℤ) (tet : Tetrahedron) → tetrahedron_of corners phys elem ≡ Some tet → are_corners tet.corners ≡ true
solid_corners corners phys elem tet e =
    let set : List Coordinates = ascending_of place_cmp corners in
    let tetrahedron : Tetrahedron = record { corners = set; phys = phys; elem = elem } in
    elim (is_flat set) as (λ b. is_flat set ≡ b → cond b None (Some tetrahedron) ≡ Some tet → are_corners tet.corners ≡ true) [
      | true ↦ λ _ k. absurd cc
      | false ↦ λ flat k.
          let is : tetrahedron ≡ tet = cc in
          let rises : are_ascending place_cmp set ≡ true = ascending_from_strict place_cmp_total set (sorted-ascending_of place_cmp_total corners) in
          let whole : are_corners set ≡ true = rw (rises, flat) refl in
          ap (λ (t : Tetrahedron). are_corners t.corners) (sym is) ∙ whole
    ] refl e

pub numbered_tet-corners : (nodes : List Coordinates) (shift : ℕ) (item : RawTet × ℕ) (tet : Tetrahedron) → numbered_tet nodes shift item ≡ Ok tet → are_corners tet.corners ≡ true
unfolding found_tet
numbered_tet-corners nodes shift item tet e =
    elim (places_of nodes shift item.0.at) as (λ found. or_fault (Flat item.1) (option_and_then (λ corners. tetrahedron_of corners item.0.phys item.0.elem) found) ≡ Ok tet → are_corners tet.corners ≡ true) [
      | None ↦ λ k. absurd cc
      | Some corners ↦ λ k. elim (tetrahedron_of corners item.0.phys item.0.elem) as (λ made. tetrahedron_of corners item.0.phys item.0.elem ≡ made → or_fault (Flat item.1) made ≡ Ok tet → are_corners tet.corners ≡ true) [
        | None ↦ λ _ j. absurd cc
        | Some made ↦ λ is j. let same : made ≡ tet = cc in solid_corners corners item.0.phys item.0.elem tet (is ∙ ap (λ t. Some t) same)
      ] refl k
    ] e

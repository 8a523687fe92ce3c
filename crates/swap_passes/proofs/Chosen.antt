-- The chosen operations of a pass are legal, and share no tetrahedron.
use Rattle.std.proofs.Common.{◌≡◌, ℕ, zero, suc, ◌≤◌, Bool, true, false, cond, List, [], ◌∷◌, length, None, refl, sym, ap, ◌∙◌, arith}
use Rattle.std.specs.Prelude.{map}
use Rattle.std.specs.declared.cmp.Ordering.TheVariants.{Less}
use Rattle.std.specs.List.{AllByRecursion, flat_map}
use Rattle.std.specs.List.Sorted.{IsPermutation, IsStrictlySortedBy}
use Rattle.std.specs.Ordering.{eq_by_cmp, is_lt}
use Rattle.std.proofs.lemmas.Bool.{false≢true, false_from_ne_true, or_right}
use Rattle.std.proofs.lemmas.List.Kept.{IsStrictlySortedBy-filter}
use Rattle.ma_geom.specs.Coordinates.{Coordinates, place_cmp}
use Rattle.ma_geom.proofs.PlaceOrder.{place_cmp_total}
use Rattle.ma_cells.specs.Ascending.{are_ascending, has}
use Rattle.ma_cells.specs.Faces.{choices}
use Rattle.ma_cells.specs.Stars.{besides, marks_at, star_of}
use Rattle.ma_cells.specs.Tetrahedron.{Tetrahedron, are_corners, are_tetrahedra, tet_cmp}
use Rattle.ma_cells.specs.declared.batch.Batch.{Batch}
use Rattle.ma_cells.proofs.Ascents.{has-head, sorted-ascending_of}
use Rattle.ma_cells.proofs.Choices.{all-append, choices-ascend}
use Rattle.ma_cells.proofs.Corners.{corners_rise}
use Rattle.ma_cells.proofs.Passing.{all-filter, all-flat_map, all-map, all_anyway, all_pass}
use Rattle.ma_cells.proofs.SetItems.{all-ascending_of}
use Rattle.ma_cover.proofs.SoundOrder.{AllPairs-IsPermutation}
use Rattle.mesh_laws.proofs.BothSides.{Pairs, pairs_from, pairs_to}
use Rattle.mesh_laws.proofs.Lists.{all_two}
use Rattle.size_marks.specs.Field.{Field}
use Rattle.cavity_rank.specs.Operations.{Operation, rank}
use Rattle.cavity_rank.specs.declared.verdict.Kind.{Kind}
use Rattle.cavity_rank.specs.declared.verdict.Kind.TheVariants.{Swap}
use Rattle.cavity_rank.specs.declared.verdict.Verdict.{Verdict}
use Rattle.cavity_rank.specs.declared.verdict.Verdict.TheVariants.{Illegal, Legal}
use Rattle.cavity_rank.proofs.Ranked.{rank_total, ties}
use Rattle.cavity_collapse.specs.Judging.{legal_quality}
use Rattle.cavity_swap.specs.Judging.{judged_swap}
use Rattle.cavity_swap.specs.Rings.{edges_across}
use Rattle.pass_rules.specs.Choosing.{is_in, winners, wins}
use Rattle.pass_rules.specs.Moves.{are_a_pair, legal_from, legal_operations, legal_within, make_a_ring, operations_from, spots_of}
use Rattle.pass_rules.specs.Passes.{chosen}
use Rattle.pass_rules.proofs.Apart.{winners_are_apart}

-- that places are those of an edge or a face, each below the next
pub record IsSwapSpot (at : List Coordinates) : Type 0 where
  pub rise : are_ascending place_cmp at ≡ true
  pub long : 2 ≤ length at

-- that an operation is a legal swap of an edge or a face in a mesh
pub record IsLegalSwap (mesh : Batch) (op : Operation) : Type 0 where
  pub spot : IsSwapSpot op.at
  pub legal : judged_swap (star_of op.at mesh.tets) (marks_at op.at mesh.marks) op.at op.apex ≡ Legal op.worst

-- ---- spots
choices_long : {K : Type 0} (n : ℕ) (xs : List K) → AllByRecursion (λ c. length c ≡ n) (choices n xs)
choices_long zero xs = (refl, tt)
choices_long (suc n) [] = tt
choices_long {K} (suc n) (x ∷ xs) =
    all-append (λ (c : List K). length c ≡ suc n) (map (λ rest. x ∷ rest) (choices n xs)) (choices (suc n) xs)
    (all-map (λ (c : List K). length c ≡ n) (λ (c : List K). length c ≡ suc n) (λ rest. x ∷ rest) (λ c e. ap suc e) (choices n xs) (choices_long n xs)) (choices_long (suc n) xs)

swap_spots : (corners : List Coordinates) → are_corners corners ≡ true → AllByRecursion IsSwapSpot (spots_of Swap corners)
swap_spots corners are = all-append IsSwapSpot (choices 2 corners) (choices 3 corners) (some 2 (omega arith)) (some 3 (omega arith))
  where
    long : (m n : ℕ) → m ≡ n → 2 ≤ n → 2 ≤ m
    long m n e two = omega arith

    some : (n : ℕ) → 2 ≤ n → AllByRecursion IsSwapSpot (choices n corners)
    some n two =
        all_two (λ c. are_ascending place_cmp c ≡ true) (λ c. length c ≡ n) IsSwapSpot (λ c rise e. record { rise = rise; long = long (length c) n e two }) (choices n corners)
        (all_pass (are_ascending place_cmp) (choices n corners) (choices-ascend place_cmp_total n corners (corners_rise corners are))) (choices_long n corners)

-- ---- what is listed as legal
module _ (field : Field) (mesh : Batch) where
  abbrev judged : List Coordinates → Coordinates → Verdict
  judged at v = judged_swap (star_of at mesh.tets) (marks_at at mesh.marks) at v

  told : (at : List Coordinates) (v : Coordinates) → IsSwapSpot at → (verdict : Verdict) → judged at v ≡ verdict → AllByRecursion (IsLegalSwap mesh) (operations_from at v (legal_quality verdict))
  told at v spot (Legal worst) e = (record { spot = spot; legal = e }, tt)
  told at v spot (Illegal n) e = tt

  told_if : (at : List Coordinates) (v : Coordinates) → IsSwapSpot at → (b : Bool) → AllByRecursion (IsLegalSwap mesh) (operations_from at v (cond b (legal_quality (judged at v)) None))
  told_if at v spot true = told at v spot (judged at v) refl
  told_if at v spot false = tt

  legal_there : (at : List Coordinates) (v : Coordinates) → IsSwapSpot at → AllByRecursion (IsLegalSwap mesh) (legal_from field mesh at v)
  legal_there [] v spot = tt
  legal_there (a ∷ []) v spot = absurd (omega (arith, spot.long))
  legal_there (a ∷ b ∷ []) v spot = told_if (a ∷ b ∷ []) v spot (make_a_ring (edges_across (a ∷ b ∷ []) (star_of (a ∷ b ∷ []) mesh.tets)))
  legal_there (a ∷ b ∷ c ∷ []) v spot = told_if (a ∷ b ∷ c ∷ []) v spot (are_a_pair (star_of (a ∷ b ∷ c ∷ []) mesh.tets))
  legal_there (a ∷ b ∷ c ∷ d ∷ rest) v spot = tt

  -- the chosen swaps are legal
  pub chosen_are_legal : are_tetrahedra mesh.tets ≡ true → AllByRecursion (IsLegalSwap mesh) (chosen Swap field mesh)
  chosen_are_legal are =
      all-filter (IsLegalSwap mesh) (wins (legal_operations Swap field mesh) mesh.tets) (legal_operations Swap field mesh)
      (all-ascending_of rank (IsLegalSwap mesh) (flat_map (legal_within Swap field mesh) mesh.tets)
      (all-flat_map (λ (tet : Tetrahedron). are_corners tet.corners ≡ true) (IsLegalSwap mesh) (legal_within Swap field mesh)
      (λ tet is. all-flat_map IsSwapSpot (IsLegalSwap mesh) (λ at. flat_map (legal_from field mesh at) (besides at tet.corners))
      (λ at spot. all-flat_map (λ (v : Coordinates). Unit {0}) (IsLegalSwap mesh) (legal_from field mesh at) (λ v _. legal_there at v spot) (besides at tet.corners) (all_anyway (besides at tet.corners)))
      (spots_of Swap tet.corners) (swap_spots tet.corners is))
      mesh.tets (all_pass (λ (tet : Tetrahedron). are_corners tet.corners) mesh.tets are)))

-- ---- cavities without a common tetrahedron
-- that none of the tetrahedra is in the cavities of both operations
abbrev pub AreApart : List Tetrahedron → Operation → Operation → Type 0
AreApart tets o p = (tet : Tetrahedron) → has tet_cmp tet tets ≡ true → is_in o tet ≡ true → is_in p tet ≡ false

apart_turned : (tets : List Tetrahedron) (o p : Operation) → AreApart tets o p → AreApart tets p o
apart_turned tets o p apart tet there in_p = false_from_ne_true (is_in o tet) (λ in_o. false≢true (sym (apart tet there in_o) ∙ in_p))

below_differs : (o p : Operation) → rank o p ≡ Less → o ≡ p → ⊥
below_differs o p below same = false≢true (sym (ap is_lt ((ties o p).1 same)) ∙ ap is_lt below)

module _ (ops : List Operation) (tets : List Tetrahedron) where
  abbrev AreWinners : List Operation → Type 0
  AreWinners xs = (q : Operation) → has rank q xs ≡ true → has rank q (winners ops tets) ≡ true

  apart_from : (x : Operation) → has rank x (winners ops tets) ≡ true → (ys : List Operation) → AreWinners ys → AllByRecursion (λ y. rank x y ≡ Less) ys → AllByRecursion (AreApart tets x) ys
  apart_from x won [] others below = tt
  apart_from x won (y ∷ ys) others below = (
    (λ tet there in_x. false_from_ne_true (is_in y tet) (λ in_y. below_differs x y below.0 (winners_are_apart ops tets x y tet won (others y (has-head rank_total y ys)) there in_x in_y))),
    apart_from x won ys (λ q e. others q (or_right (eq_by_cmp rank q y) (has rank q ys) e)) below.1,
  )

  all_apart : (xs : List Operation) → AreWinners xs → IsStrictlySortedBy rank xs → Pairs (AreApart tets) xs
  unfolding IsStrictlySortedBy
  all_apart [] won sorted = tt
  all_apart (x ∷ xs) won sorted =
      let others = λ (q : Operation) (e : has rank q xs ≡ true). won q (or_right (eq_by_cmp rank q x) (has rank q xs) e) in
      (apart_from x (won x (has-head rank_total x xs)) xs others sorted.0, all_apart xs others sorted.1)

-- each chosen operation is apart from each later one
pub chosen_are_apart : (kind : Kind) (field : Field) (mesh : Batch) → Pairs (AreApart mesh.tets) (chosen kind field mesh)
chosen_are_apart kind field mesh =
    let ops = legal_operations kind field mesh in
    all_apart ops mesh.tets (chosen kind field mesh) (λ q e. e)
    (IsStrictlySortedBy-filter rank (wins ops mesh.tets) ops (sorted-ascending_of rank_total (flat_map (legal_within kind field mesh) mesh.tets)))

-- in any order
pub apart_in_any_order : (tets : List Tetrahedron) (ops others : List Operation) → IsPermutation ops others → Pairs (AreApart tets) ops → Pairs (AreApart tets) others
apart_in_any_order tets ops others moved apart =
    pairs_from (AreApart tets) others (AllPairs-IsPermutation (AreApart tets) (apart_turned tets) ops others moved (pairs_to (AreApart tets) ops apart))

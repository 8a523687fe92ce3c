-- A pass leaves at most four times as many tetrahedra as there were.
use Rattle.std.proofs.Common.{◌≡◌, ◌≤◌, ◌*◌, ℕ, Bool, true, false, cond, not, List, [], ◌∷◌, ◌++◌, filter, length, length-append, nat_lt, refl, sym, ap, ◌∙◌, arith}
use Rattle.std.specs.Prelude.{Option, Some, None}
use Rattle.std.specs.declared.cmp.Ordering.TheVariants.{Less}
use Rattle.std.specs.List.{AllByRecursion, flat_map}
use Rattle.std.specs.List.Sorted.{IsStrictlySortedBy}
use Rattle.std.specs.Ordering.{eq_by_cmp, is_lt}
use Rattle.std.proofs.lemmas.Bool.{false≢true, false_from_ne_true, or_from, or_right}
use Rattle.std.proofs.lemmas.Cmp.{tied_itself}
use Rattle.std.proofs.lemmas.List.Filters.{length-filter_both}
use Rattle.std.proofs.lemmas.List.Kept.{IsStrictlySortedBy-filter}
use Rattle.ma_geom.specs.Coordinates.{Coordinates}
use Rattle.ma_cells.specs.Ascending.{has}
use Rattle.ma_cells.specs.Stars.{besides, marks_at, star_of}
use Rattle.ma_cells.specs.Tetrahedron.{Tetrahedron, tet_cmp}
use Rattle.ma_cells.specs.declared.batch.Batch.{Batch}
use Rattle.ma_cells.proofs.Ascents.{has-head, length-ascending_of, sorted-ascending_of}
use Rattle.ma_cells.proofs.CellOrders.{tet_cmp_total}
use Rattle.ma_cells.proofs.Passing.{all-filter, all-flat_map, all_anyway}
use Rattle.ma_cells.proofs.SetItems.{all-ascending_of}
use Rattle.ma_cells.specs.Worst.{worst}
use Rattle.size_marks.specs.Field.{Field}
use Rattle.cavity_rank.specs.Operations.{Operation, rank}
use Rattle.cavity_rank.specs.Verdicts.{first_failing, verdict_of}
use Rattle.cavity_rank.specs.declared.verdict.Kind.{Kind}
use Rattle.cavity_rank.proofs.Ranked.{rank_total}
use Rattle.cavity_collapse.specs.Judging.{legal_quality}
use Rattle.cavity_swap.specs.Judging.{has_one_region, is_bad, is_bare, judged_swap, outer_faces_are_seen}
use Rattle.cavity_swap.specs.Rings.{edges_across}
use Rattle.cavity_swap.specs.Swapping.{swapped}
use Rattle.pass_rules.specs.Choosing.{is_in, is_taken, winners, wins}
use Rattle.pass_rules.specs.Moves.{are_a_pair, legal_from, legal_operations, legal_within, make_a_ring, operations_from, quality_at, spots_of}
use Rattle.pass_rules.specs.Passes.{chosen, filling, filling_at}
use Rattle.pass_rules.proofs.Apart.{winners_are_apart}
use Rattle.pass_counts.specs.Fourfold.{PassesAreAtMostFourfold}
use Rattle.pass_counts.proofs.Counts.{all_given, filter_parts}
use Rattle.pass_counts.proofs.Fillings.{few_around, few_beside, few_collapsed}

-- ---- the cavity of one operation
-- that what fills it has at most four tetrahedra for each one of it
abbrev FillsFew : List Tetrahedron → Operation → Type 0
FillsFew tets op = length (filling tets op) ≤ 4 * length (star_of op.at tets)

module _ (field : Field) (mesh : Batch) where
  abbrev FewAt : List Coordinates → Coordinates → Type 0
  FewAt at v = length (filling_at at v (star_of at mesh.tets)) ≤ 4 * length (star_of at mesh.tets)

  told : (at : List Coordinates) (v : Coordinates) → FewAt at v → (quality : Option ℕ) → AllByRecursion (FillsFew mesh.tets) (operations_from at v quality)
  told at v few None = tt
  told at v few (Some n) = (few, tt)

  -- a swap that is legal is seen from its place
  told_if_seen : (at : List Coordinates) (v : Coordinates) → (outer_faces_are_seen (star_of at mesh.tets) v ≡ true → FewAt at v)
      → AllByRecursion (FillsFew mesh.tets) (operations_from at v (legal_quality (judged_swap (star_of at mesh.tets) (marks_at at mesh.marks) at v)))
  told_if_seen at v few =
      let star = star_of at mesh.tets in
      let new = worst (swapped v star) in
      by (has_one_region star) (is_bare (marks_at at mesh.marks) at star) (outer_faces_are_seen star v) (is_bad (worst star)) (nat_lt (worst star) new) new few
    where
      by : (one bare seen bad more : Bool) (w : ℕ) → (seen ≡ true → FewAt at v)
          → AllByRecursion (FillsFew mesh.tets) (operations_from at v (legal_quality (verdict_of w (first_failing 1 (one ∷ bare ∷ seen ∷ bad ∷ more ∷ [])))))
      by false bare seen bad more w h = tt
      by true false seen bad more w h = tt
      by true true false bad more w h = tt
      by true true true bad more w h = told at v (h refl) (legal_quality (verdict_of w (first_failing 1 (true ∷ true ∷ true ∷ bad ∷ more ∷ []))))

  told_there : (at : List Coordinates) (v : Coordinates) → AllByRecursion (FillsFew mesh.tets) (legal_from field mesh at v)
  told_there [] v = tt
  told_there (a ∷ []) v = told (a ∷ []) v (few_collapsed a v (star_of (a ∷ []) mesh.tets)) (quality_at field (star_of (a ∷ []) mesh.tets) (marks_at (a ∷ []) mesh.marks) (a ∷ []) v)
  told_there (a ∷ b ∷ []) v =
      let at : List Coordinates = a ∷ b ∷ [] in
      let star = star_of at mesh.tets in
      let quality = legal_quality (judged_swap star (marks_at at mesh.marks) at v) in
      elim (make_a_ring (edges_across at star)) as (λ s. make_a_ring (edges_across at star) ≡ s → AllByRecursion (FillsFew mesh.tets) (operations_from at v (cond s quality None))) [
        | true ↦ λ ring. told at v (few_around a b v star ring) quality
        | false ↦ λ _. tt
      ] refl
  told_there (a ∷ b ∷ c ∷ []) v =
      let at : List Coordinates = a ∷ b ∷ c ∷ [] in
      let star = star_of at mesh.tets in
      let quality = legal_quality (judged_swap star (marks_at at mesh.marks) at v) in
      elim (are_a_pair star) as (λ s. are_a_pair star ≡ s → AllByRecursion (FillsFew mesh.tets) (operations_from at v (cond s quality None))) [
        | true ↦ λ pair. told_if_seen at v (λ seen. few_beside v star pair seen)
        | false ↦ λ _. tt
      ] refl
  told_there (a ∷ b ∷ c ∷ d ∷ rest) v = tt

  chosen_fill_few : (kind : Kind) → AllByRecursion (FillsFew mesh.tets) (chosen kind field mesh)
  chosen_fill_few kind =
      let Few = FillsFew mesh.tets in
      let all = flat_map (legal_within kind field mesh) mesh.tets in
      let Anything = λ (at : List Coordinates). Unit {0} in
      let Anywhere = λ (v : Coordinates). Unit {0} in
      let Any = λ (tet : Tetrahedron). Unit {0} in
      all-filter Few (wins (legal_operations kind field mesh) mesh.tets) (legal_operations kind field mesh) (all-ascending_of rank Few all
      (all-flat_map Any Few (legal_within kind field mesh)
      (λ tet _. all-flat_map Anything Few (λ at. flat_map (legal_from field mesh at) (besides at tet.corners))
      (λ at _. all-flat_map Anywhere Few (legal_from field mesh at) (λ v _. told_there at v) (besides at tet.corners) (all_anyway (besides at tet.corners)))
      (spots_of kind tet.corners) (all_anyway (spots_of kind tet.corners))) mesh.tets (all_anyway mesh.tets)))

-- ---- all cavities
module _ (ops : List Operation) (tets : List Tetrahedron) where
  abbrev AreWinners : List Operation → Type 0
  AreWinners xs = (q : Operation) → has rank q xs ≡ true → has rank q (winners ops tets) ≡ true

  later : (x : Operation) (xs : List Operation) → AreWinners (x ∷ xs) → AreWinners xs
  later x xs won q there = won q (or_right (eq_by_cmp rank q x) (has rank q xs) there)

  -- a tetrahedron of a winner's cavity is in none of others that rank after it
  in_no_other : (o : Operation) (tet : Tetrahedron) → has rank o (winners ops tets) ≡ true → has tet_cmp tet tets ≡ true → is_in o tet ≡ true
      → (xs : List Operation) → AreWinners xs → AllByRecursion (λ p. rank o p ≡ Less) xs → is_taken xs tet ≡ false
  in_no_other o tet won there inside [] others below = refl
  in_no_other o tet won there inside (p ∷ xs) others below =
      or_from (is_in p tet) (is_taken xs tet)
      (false_from_ne_true (is_in p tet) (λ in_p.
      false≢true (sym (ap is_lt (tied_itself rank_total o)) ∙ ap (λ q. is_lt (rank o q)) (winners_are_apart ops tets o p tet won (others p (has-head rank_total p xs)) there inside in_p) ∙ ap is_lt below.0)))
      (in_no_other o tet won there inside xs (later p xs others) below.1)

  -- what fills the cavities has at most four tetrahedra for each one that is in a cavity
  fill_few : (xs : List Operation) → AreWinners xs → IsStrictlySortedBy rank xs → AllByRecursion (FillsFew tets) xs → length (flat_map (filling tets) xs) ≤ 4 * length (filter (is_taken xs) tets)
  unfolding IsStrictlySortedBy
  fill_few [] won sorted few = omega arith
  fill_few (o ∷ xs) won sorted few =
      let rest = fill_few xs (later o xs won) sorted.1 few.1 in
      let first = few.0 in
      let all = length-append (filling tets o) (flat_map (filling tets) xs) in
      let parts = filter_parts (is_in o) (is_taken xs) tets
      (all_given tet_cmp_total (λ tet. is_in o tet ≡ true → is_taken xs tet ≡ false) tets (λ tet there inside. in_no_other o tet (won o (has-head rank_total o xs)) there inside xs (later o xs won) sorted.0)) in
      omega (arith, rest, first, all, parts)

pub passes_are_at_most_fourfold : PassesAreAtMostFourfold
passes_are_at_most_fourfold kind field mesh =
    let ops = legal_operations kind field mesh in
    let won = chosen kind field mesh in
    let kept = filter (λ tet. not (is_taken won tet)) mesh.tets in
    let made = flat_map (filling mesh.tets) won in
    let sorted = IsStrictlySortedBy-filter rank (wins ops mesh.tets) ops (sorted-ascending_of rank_total (flat_map (legal_within kind field mesh) mesh.tets)) in
    let few = fill_few ops mesh.tets won (λ q there. there) sorted (chosen_fill_few field mesh kind) in
    let parts = length-filter_both (is_taken won) (λ tet. not (is_taken won tet)) (λ tet. refl) mesh.tets in
    let all = length-append kept made in
    let set = (length-ascending_of tet_cmp_total (kept ++ made)).0 in
    omega (arith, few, parts, all, set)

-- The operations of a pass of collapses: each is a legal collapse of a vertex, and no tetrahedron has the vertices of two.
use Rattle.std.proofs.Common.{◌≡◌, Bool, true, false, List, [], ◌∷◌, refl, sym, ap, subst, ◌∙◌}
use Rattle.std.specs.declared.cmp.Ordering.{Ordering}
use Rattle.std.specs.declared.cmp.Ordering.TheVariants.{Less, Equal}
use Rattle.std.specs.Cmp.{IsTotalOrder, tied_itself}
use Rattle.std.specs.List.{AllByRecursion, flat_map}
use Rattle.std.specs.List.Sorted.{IsPermutation, IsStrictlySortedBy}
use Rattle.std.specs.Ordering.{eq_by_cmp, is_eq}
use Rattle.std.proofs.lemmas.Bool.{false_from_ne_true, false≢true, or_right}
use Rattle.std.proofs.lemmas.List.Kept.{IsStrictlySortedBy-filter}
use Rattle.ma_geom.specs.Coordinates.{Coordinates}
use Rattle.ma_cells.specs.Ascending.{has}
use Rattle.ma_cells.specs.Faces.{choices}
use Rattle.ma_cells.specs.Stars.{besides, marks_at, star_of}
use Rattle.ma_cells.specs.Tetrahedron.{Tetrahedron, tet_cmp}
use Rattle.ma_cells.specs.declared.batch.Batch.{Batch}
use Rattle.ma_cells.proofs.Ascents.{has-head, sorted-ascending_of}
use Rattle.ma_cells.proofs.CellOrders.{tet_cmp_total}
use Rattle.ma_cells.proofs.Passing.{all-filter, all-flat_map, all-permutation, all_anyway, all_weaker}
use Rattle.ma_cells.proofs.SetItems.{all-ascending_of}
use Rattle.ma_cover.proofs.SoundOrder.{AllPairs-IsPermutation}
use Rattle.mesh_laws.proofs.BothSides.{Pairs, pairs_from, pairs_to}
use Rattle.mesh_laws.proofs.Lists.{all_two}
use Rattle.size_marks.specs.Field.{Field}
use Rattle.cavity_rank.specs.Operations.{Operation, rank}
use Rattle.cavity_rank.specs.declared.verdict.Kind.TheVariants.{Collapse}
use Rattle.cavity_rank.specs.declared.verdict.Verdict.{Verdict}
use Rattle.cavity_rank.specs.declared.verdict.Verdict.TheVariants.{Illegal, Legal}
use Rattle.cavity_rank.proofs.Ranked.{rank_total}
use Rattle.cavity_collapse.specs.Judging.{judged_collapse, legal_quality}
use Rattle.pass_rules.specs.Choosing.{is_in, winners, wins}
use Rattle.pass_rules.specs.Moves.{legal_from, legal_operations, legal_within, operations_from}
use Rattle.pass_rules.specs.Passes.{chosen}
use Rattle.pass_rules.proofs.Apart.{winners_are_apart}
use Rattle.collapse_passes.proofs.Removals.{operation, removal}
use Rattle.collapse_passes.proofs.Turns.{IsLegal}

-- ---- what is listed as legal
-- that an operation collapses one vertex, and is legal
pub record IsCollapse (field : Field) (mesh : Batch) (op : Operation) : Type 0 where
  pub is : op ≡ operation (removal op)
  pub legal : IsLegal field mesh (removal op)

single_choices : (P : List Coordinates → Type 0) → ((a : Coordinates) → P (a ∷ [])) → (xs : List Coordinates) → AllByRecursion P (choices 1 xs)
single_choices P each [] = tt
single_choices P each (x ∷ xs) = (each x, single_choices P each xs)

module _ (field : Field) (mesh : Batch) where
  from_vertex : (a v : Coordinates) → AllByRecursion (IsCollapse field mesh) (legal_from field mesh (a ∷ []) v)
  from_vertex a v = by (judged_collapse field (star_of (a ∷ []) mesh.tets) (marks_at (a ∷ []) mesh.marks) a v) refl
    where
      by : (told : Verdict) → judged_collapse field (star_of (a ∷ []) mesh.tets) (marks_at (a ∷ []) mesh.marks) a v ≡ told → AllByRecursion (IsCollapse field mesh) (operations_from (a ∷ []) v (legal_quality told))
      by (Legal w) e = (record { is = refl; legal = e }, tt)
      by (Illegal n) e = tt

  abbrev GivesCollapses : List Coordinates → Type 0
  GivesCollapses at = (v : Coordinates) → AllByRecursion (IsCollapse field mesh) (legal_from field mesh at v)

  within : (tet : Tetrahedron) → AllByRecursion (IsCollapse field mesh) (legal_within Collapse field mesh tet)
  within tet =
      all-flat_map GivesCollapses (IsCollapse field mesh) (λ at. flat_map (legal_from field mesh at) (besides at tet.corners))
      (λ at gives. all-flat_map (λ (v : Coordinates). Unit {0}) (IsCollapse field mesh) (legal_from field mesh at) (λ v _. gives v) (besides at tet.corners) (all_anyway (besides at tet.corners)))
      (choices 1 tet.corners) (single_choices GivesCollapses from_vertex tet.corners)

  pub chosen_collapse : AllByRecursion (IsCollapse field mesh) (chosen Collapse field mesh)
  chosen_collapse =
      all-filter (IsCollapse field mesh) (wins (legal_operations Collapse field mesh) mesh.tets) (legal_operations Collapse field mesh)
      (all-ascending_of rank (IsCollapse field mesh) (flat_map (legal_within Collapse field mesh) mesh.tets)
      (all-flat_map (λ (tet : Tetrahedron). Unit {0}) (IsCollapse field mesh) (legal_within Collapse field mesh) (λ tet _. within tet) mesh.tets (all_anyway mesh.tets)))

-- ---- no tetrahedron is in two cavities
-- items of a list, each a member of it
members : {K : Type 0} {R : K → K → Ordering} (o : IsTotalOrder R) (all xs : List K) → ((q : K) → has R q xs ≡ true → has R q all ≡ true) → AllByRecursion (λ x. has R x all ≡ true) xs
members o all [] h = tt
members {R = R} o all (x ∷ xs) h = (h x (has-head o x xs), members o all xs (λ q e. h q (or_right (eq_by_cmp R q x) (has R q xs) e)))

abbrev pub ShareNone : List Tetrahedron → Operation → Operation → Type 0
ShareNone tets o p = AllByRecursion (λ (tet : Tetrahedron). is_in o tet ≡ true → is_in p tet ≡ false) tets

below_not : (o p : Operation) → rank o p ≡ Less → o ≡ p → ⊥
below_not o p h e = by (rank o o) (subst (λ q. rank o q ≡ Less) (sym e) h) (tied_itself rank_total o)
  where
    by : (r : Ordering) → r ≡ Less → r ≡ Equal → ⊥
    by r e f = false≢true (sym (ap is_eq e) ∙ ap is_eq f)

module _ (ops : List Operation) (tets : List Tetrahedron) where
  two_share_none : (o p : Operation) → has rank o (winners ops tets) ≡ true → has rank p (winners ops tets) ≡ true → rank o p ≡ Less → ShareNone tets o p
  two_share_none o p first second below =
      all_weaker (λ (tet : Tetrahedron). has tet_cmp tet tets ≡ true) (λ tet. is_in o tet ≡ true → is_in p tet ≡ false)
      (λ tet there in_o. false_from_ne_true (is_in p tet) (λ in_p. below_not o p below (winners_are_apart ops tets o p tet first second there in_o in_p)))
      tets (members tet_cmp_total tets tets (λ q e. e))

  each_two : (xs : List Operation) → AllByRecursion (λ o. has rank o (winners ops tets) ≡ true) xs → IsStrictlySortedBy rank xs → Pairs (ShareNone tets) xs
  unfolding IsStrictlySortedBy
  each_two [] are rises = tt
  each_two (o ∷ xs) are rises = (
    all_two (λ p. has rank p (winners ops tets) ≡ true) (λ p. rank o p ≡ Less) (ShareNone tets o) (λ p there below. two_share_none o p are.0 there below) xs are.1 rises.0,
    each_two xs are.1 rises.1,
  )

turned : (tets : List Tetrahedron) (o p : Operation) → ShareNone tets o p → ShareNone tets p o
turned tets o p h =
    all_weaker (λ (tet : Tetrahedron). is_in o tet ≡ true → is_in p tet ≡ false) (λ tet. is_in p tet ≡ true → is_in o tet ≡ false) (λ tet k e. by (is_in o tet) (is_in p tet) k e) tets h
  where
    by : (s t : Bool) → (s ≡ true → t ≡ false) → t ≡ true → s ≡ false
    by true t k e = absurd (false≢true (sym (k refl) ∙ e))
    by false t k e = refl

-- the chosen operations in any order
module _ (field : Field) (mesh : Batch) (ops : List Operation) (moved : IsPermutation (chosen Collapse field mesh) ops) where
  pub are_collapses : AllByRecursion (IsCollapse field mesh) ops
  are_collapses = all-permutation (IsCollapse field mesh) (chosen Collapse field mesh) ops moved (chosen_collapse field mesh)

  pub share_none : Pairs (ShareNone mesh.tets) ops
  share_none =
      let all = legal_operations Collapse field mesh in
      let taken = chosen Collapse field mesh in
      pairs_from (ShareNone mesh.tets) ops
      (AllPairs-IsPermutation (ShareNone mesh.tets) (turned mesh.tets) taken ops moved
      (pairs_to (ShareNone mesh.tets) taken
      (each_two all mesh.tets taken (members rank_total taken taken (λ q e. e))
      (IsStrictlySortedBy-filter rank (wins all mesh.tets) all (sorted-ascending_of rank_total (flat_map (legal_within Collapse field mesh) mesh.tets))))))

-- Marks where a vertex a goes to v.
use Rattle.std.proofs.Common.{◌≡◌, ◌≤◌, Bool, true, false, cond, ◌||◌, List, [], ◌∷◌, length, ◌==◌, Option, Some, None, refl, sym, ap, ap₂, subst, ◌∙◌, arith}
use Rattle.std.specs.Prelude.{IfSome, map}
use Rattle.std.specs.List.{AllByRecursion, flat_map, list_all, list_any}
use Rattle.std.specs.List.Sorted.{IsPermutation}
use Rattle.std.specs.Option.{option_map, option_to_list}
use Rattle.std.specs.Ordering.{eq_by_cmp}
use Rattle.std.proofs.lemmas.Bool.{and_parts, eqb-true, false≢true, or_parts, or_right}
use Rattle.std.proofs.lemmas.List.{length-map}
use Rattle.std.proofs.lemmas.List.Folds.{list_any-append}
use Rattle.std.proofs.lemmas.List.Sorted.{length_permutation}
use Rattle.ma_geom.specs.Coordinates.{Coordinates, place_cmp}
use Rattle.ma_cells.specs.Ascending.{are_ascending, are_distinct, ascending_of, has}
use Rattle.ma_cells.specs.Cells.{CellMark, cell_of, cell_on, corners_of, is_cell, mark_cmp}
use Rattle.ma_cells.specs.Incidence.{is_marked}
use Rattle.ma_cells.specs.declared.cell.Cell.{Cell}
use Rattle.ma_cells.specs.declared.cell.Cell.TheVariants.{Point, Seg, Tri}
use Rattle.ma_cells.proofs.CellOrders.{mark_cmp-IsAntisymmetric}
use Rattle.ma_cells.proofs.Cornered.{cell_of-sorted, is_cell-of}
use Rattle.ma_cells.proofs.Passing.{all-flat_map, all_anyway, all_weaker, test_all}
use Rattle.ma_cells.proofs.Permutations.{same as same_place, tied}
use Rattle.ma_cells.proofs.SetItems.{all-ascending_of}
use Rattle.mesh_laws.proofs.Listings.{same, same_is, same_itself}
use Rattle.mesh_laws.proofs.Sounds.{any-ascending_of}
use Rattle.cavity_collapse.specs.Collapsing.{is_same, moved_mark, moved_marks}

-- what an item gives, the list gives
pub any_given : {X Y : Type 0} (P : X → Type 0) (f : X → Bool) (g : Y → Bool) (k : X → List Y) → ((x : X) → P x → f x ≡ true → list_any g (k x) ≡ true)
    → (xs : List X) → AllByRecursion P xs → list_any f xs ≡ true → list_any g (flat_map k xs) ≡ true
any_given P f g k each [] all h = h
any_given P f g k each (x ∷ xs) all h = list_any-append g (k x) (flat_map k xs) ∙ by (any_given P f g k each xs all.1) (f x) refl h
  where
    by : (list_any f xs ≡ true → list_any g (flat_map k xs) ≡ true) → (b : Bool) → f x ≡ b → (b || list_any f xs) ≡ true → (list_any g (k x) || list_any g (flat_map k xs)) ≡ true
    by rest true e h = ap (λ b. b || list_any g (flat_map k xs)) (each x all.0 e)
    by rest false e h = or_right (list_any g (k x)) (list_any g (flat_map k xs)) (rest h)

-- ---- cells
-- the corners of a cell ascend, and are one to three
corners_ascend : (cell : Cell) → is_cell cell ≡ true → are_ascending place_cmp (corners_of cell) ≡ true
corners_ascend (Point p) is = refl
corners_ascend (Seg s) is = (and_parts (length s == 2) (are_ascending place_cmp s) is).1
corners_ascend (Tri t) is = (and_parts (length t == 3) (are_ascending place_cmp t) is).1

corner_count : (cell : Cell) → is_cell cell ≡ true → (1 ≤ length (corners_of cell)) × (length (corners_of cell) ≤ 3)
corner_count (Point p) is = (omega arith, omega arith)
corner_count (Seg s) is = let two : length s ≡ 2 = eqb-true (length s) 2 (and_parts (length s == 2) (are_ascending place_cmp s) is).0 in (omega (arith, two), omega (arith, two))
corner_count (Tri t) is = let three : length t ≡ 3 = eqb-true (length t) 3 (and_parts (length t == 3) (are_ascending place_cmp t) is).0 in (omega (arith, three), omega (arith, three))

cell_there : (l : List Coordinates) → (1 ≤ length l) × (length l ≤ 3) → (c : Cell) × (cell_on l ≡ Some c) × (corners_of c ≡ l)
cell_there [] h = absurd (omega (arith, h.0))
cell_there (p ∷ []) h = (Point p, refl, refl)
cell_there (p ∷ q ∷ []) h = (Seg (p ∷ q ∷ []), refl, refl)
cell_there (p ∷ q ∷ r ∷ []) h = (Tri (p ∷ q ∷ r ∷ []), refl, refl)
cell_there (p ∷ q ∷ r ∷ s ∷ l) h = absurd (omega (arith, h.1))

on_corners : (l : List Coordinates) → IfSome (cell_on l) (λ c. corners_of c ≡ l)
on_corners [] = tt
on_corners (p ∷ []) = refl
on_corners (p ∷ q ∷ []) = refl
on_corners (p ∷ q ∷ r ∷ []) = refl
on_corners (p ∷ q ∷ r ∷ s ∷ l) = tt

of_corners : (l : List Coordinates) → IfSome (cell_of l) (λ c. corners_of c ≡ ascending_of place_cmp l)
of_corners l =
    elim (are_distinct place_cmp l) as (λ b. IfSome (cond b (cell_on (ascending_of place_cmp l)) None) (λ c. corners_of c ≡ ascending_of place_cmp l)) [
      | true ↦ on_corners (ascending_of place_cmp l)
      | false ↦ tt
    ]

module _ (a v : Coordinates) where
  -- v in the place of a
  abbrev pub to_v : Coordinates → Coordinates
  to_v p = cond (is_same p a) v p

  pub unmoved : (l : List Coordinates) → has place_cmp a l ≡ false → map to_v l ≡ l
  unmoved [] none = refl
  unmoved (p ∷ l) none =
      let parts = or_parts (eq_by_cmp place_cmp a p) (has place_cmp a l) none in
      ap₂ (λ q k. q ∷ k) (by (is_same p a) (λ e. false≢true (sym parts.0 ∙ subst (λ q. eq_by_cmp place_cmp a q ≡ true) (sym (same_place p a e)) (tied a)))) (unmoved l parts.1)
    where
      by : (b : Bool) → (b ≡ true → ⊥) → cond b v p ≡ p
      by true h = absurd (h refl)
      by false h = refl

  -- ---- what a mark becomes
  -- each is on a cell whose corners are those of the mark, moved
  pub moved_corners : (m : CellMark) → AllByRecursion (λ n. (is_cell n.cell ≡ true) × (corners_of n.cell ≡ ascending_of place_cmp (map to_v (corners_of m.cell)))) (moved_mark a v m)
  moved_corners m =
      let l = map to_v (corners_of m.cell) in
      by l (cell_of l) (is_cell-of l) (of_corners l)
    where
      by : (l : List Coordinates) (o : Option Cell) → IfSome o (λ c. is_cell c ≡ true) → IfSome o (λ c. corners_of c ≡ ascending_of place_cmp l)
          → AllByRecursion (λ (n : CellMark). (is_cell n.cell ≡ true) × (corners_of n.cell ≡ ascending_of place_cmp l)) (option_to_list (option_map (λ cell. record { cell = cell; phys = m.phys; elem = m.elem }) o))
      by l None h k = tt
      by l (Some c) h k = ((h, k), tt)

  pub moved_cells : (marks : List CellMark) → list_all (λ n. is_cell n.cell) (moved_marks a v marks) ≡ true
  moved_cells marks =
      test_all (λ n. is_cell n.cell) (moved_marks a v marks)
      (all-ascending_of mark_cmp (λ n. is_cell n.cell ≡ true) (flat_map (moved_mark a v) marks)
      (all-flat_map (λ _. Unit {0}) (λ n. is_cell n.cell ≡ true) (moved_mark a v)
      (λ m _. all_weaker (λ n. (is_cell n.cell ≡ true) × (corners_of n.cell ≡ ascending_of place_cmp (map to_v (corners_of m.cell)))) (λ n. is_cell n.cell ≡ true) (λ n h. h.0) (moved_mark a v m) (moved_corners m)) marks (all_anyway marks)))

  -- a marked cell is marked where it goes
  pub moved_marked : (marks : List CellMark) (face wanted : List Coordinates) → AllByRecursion (λ m. is_cell m.cell ≡ true) marks → is_marked marks face ≡ true
      → (are_ascending place_cmp face ≡ true → IsPermutation (map to_v face) wanted × (are_ascending place_cmp wanted ≡ true)) → is_marked (moved_marks a v marks) wanted ≡ true
  moved_marked marks face wanted cells marked goes =
      any-ascending_of mark_cmp-IsAntisymmetric (λ n. same (corners_of n.cell) wanted) (flat_map (moved_mark a v) marks)
      (any_given (λ m. is_cell m.cell ≡ true) (λ m. same (corners_of m.cell) face) (λ n. same (corners_of n.cell) wanted) (moved_mark a v) each marks cells marked)
    where
      one : (m : CellMark) (o : Option Cell) (c : Cell) → o ≡ Some c → corners_of c ≡ wanted
          → list_any (λ (n : CellMark). same (corners_of n.cell) wanted) (option_to_list (option_map (λ cell. record { cell = cell; phys = m.phys; elem = m.elem }) o)) ≡ true
      one m o c e is = rw (e, is) (ap (λ b. b || false) (same_itself wanted))

      each : (m : CellMark) → is_cell m.cell ≡ true → same (corners_of m.cell) face ≡ true → list_any (λ n. same (corners_of n.cell) wanted) (moved_mark a v m) ≡ true
      each m is e =
          let face_is = same_is (corners_of m.cell) face e in
          let k = goes (subst (λ l. are_ascending place_cmp l ≡ true) face_is (corners_ascend m.cell is)) in
          let order = subst (λ l. IsPermutation (map to_v l) wanted) (sym face_is) k.0 in
          let long = length_permutation (map to_v (corners_of m.cell)) wanted order in
          let count = corner_count m.cell is in
          let many = length-map (corners_of m.cell) to_v in
          let c = cell_there wanted (omega (arith, long, count.0, many), omega (arith, long, count.1, many)) in
          one m (cell_of (map to_v (corners_of m.cell))) c.0 (cell_of-sorted (map to_v (corners_of m.cell)) wanted order k.1 ∙ c.1) c.2

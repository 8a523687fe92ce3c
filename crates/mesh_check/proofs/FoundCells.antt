-- Noting which of the items that are looked for are found. They are strictly ascending, and each has a flag.
use Rattle.std.proofs.Common.{◌≡◌, ℕ, zero, suc, ◌+◌, ◌<◌, Bool, true, false, ◌&&◌, ◌||◌, List, [], ◌∷◌, ◌++◌, length, get_or, set, take, refl, sym, ap, subst, ◌∙◌, arith}
use Rattle.std.specs.Prelude.{map, replicate, Result, Ok, Err}
use Rattle.std.specs.Cmp.{IsTotalOrder}
use Rattle.std.specs.FinMap.{IsAntisymmetric}
use Rattle.std.specs.List.{AllByRecursion, list_all, list_any}
use Rattle.std.specs.List.Sorted.{IsBinarySearchResult, IsSearchInRange, IsStrictlySortedBy}
use Rattle.std.specs.Ordering.{eq_by_cmp, is_eq, ordering_reverse}
use Rattle.std.specs.declared.cmp.Ordering.{Ordering}
use Rattle.std.specs.declared.cmp.Ordering.TheVariants.{Less, Equal, Greater}
use Rattle.std.proofs.Math.Seq.{take-append_seam}
use Rattle.std.proofs.lemmas.Bool.{or_parts, or_right}
use Rattle.std.proofs.lemmas.List.{take_more}
use Rattle.std.proofs.lemmas.List.Elements.{All-from_recursion}
use Rattle.std.proofs.lemmas.List.Folds.{list_any-append}
use Rattle.ma_cells.specs.Ascending.{ascending_of, has}
use Rattle.ma_cells.specs.Cells.{cell_cmp, corners_of, is_cell}
use Rattle.ma_cells.specs.Faces.{holds_all}
use Rattle.ma_cells.specs.Incidence.{is_on}
use Rattle.ma_cells.specs.Tetrahedron.{Tetrahedron}
use Rattle.ma_cells.specs.declared.cell.Cell.{Cell}
use Rattle.ma_cells.specs.contracts.cell.CellOrd.TheImpl as CellOrder
use Rattle.ma_cells.proofs.CellOrders.{cell_cmp-IsAntisymmetric, derived_cells}
use Rattle.ma_cells.proofs.Passing.{all_anyway, all_pass, all_weaker}
use Rattle.ma_cells.proofs.Searches.{searched_is}

-- tests that agree on all items
pub map-alike : {X Y : Type 0} (f g : X → Y) (xs : List X) → AllByRecursion (λ x. f x ≡ g x) xs → map f xs ≡ map g xs
map-alike f g [] h = refl
map-alike f g (x ∷ xs) h = rw (h.0, map-alike f g xs h.1) refl

or_none : (b : Bool) {c : Bool} → c ≡ false → b ≡ (b || c)
or_none true e = refl
or_none false e = sym e

module _ {K : Type 0} {R : K → K → Ordering} (o : IsTotalOrder R) (exact : IsAntisymmetric R) where
  abbrev noting : (K → Bool) → K → K → Bool
  noting test x one = test one || eq_by_cmp R one x

  tied_back : (x y : K) → eq_by_cmp R x y ≡ eq_by_cmp R y x
  tied_back x y = ap is_eq (o.antisymm x y) ∙ elim (R y x) as (λ r. is_eq (ordering_reverse r) ≡ is_eq r) [ Less ↦ refl | Equal ↦ refl | Greater ↦ refl ]

  -- it is one of them
  pub noted : (test : K → Bool) (x : K) (xs : List K) (i : ℕ) → IsStrictlySortedBy R xs → i < length xs → ((d : K) → R (get_or xs i d) x ≡ Equal) → set (map test xs) i true ≡ map (noting test x) xs
  unfolding IsStrictlySortedBy
  noted test x [] i s below at = absurd (omega arith)
  noted test x (y ∷ ys) zero s below at =
      let same : y ≡ x = exact y x (at y) in
      let later : (z : K) → R y z ≡ Less → test z ≡ noting test x z =
      λ z less. or_none (test z) (tied_back z x ∙ ap (λ w. eq_by_cmp R w z) (sym same) ∙ ap is_eq less) in
      ap (λ b. b ∷ map test ys) (sym (or_right (test y) (eq_by_cmp R y x) (ap is_eq (at y))))
      ∙ ap (λ bs. noting test x y ∷ bs) (map-alike test (noting test x) ys (all_weaker (λ z. R y z ≡ Less) (λ z. test z ≡ noting test x z) later ys s.0))
  noted test x (y ∷ ys) (suc i) s below at =
      let same : get_or ys i y ≡ x = exact (get_or ys i y) x (at y) in
      let less : R y x ≡ Less = subst (λ z. R y z ≡ Less) same (All-from_recursion (λ z. R y z ≡ Less) ys s.0 i y (omega arith)) in
      ap (λ b. b ∷ set (map test ys) i true) (or_none (test y) (ap is_eq less)) ∙ ap (λ bs. noting test x y ∷ bs) (noted test x ys i s.1 (omega arith) at)

  -- it is none of them
  missed : (test : K → Bool) (x : K) (xs : List K) → has R x xs ≡ false → map test xs ≡ map (noting test x) xs
  missed test x [] none = refl
  missed test x (y ∷ ys) none =
      let both = or_parts (eq_by_cmp R x y) (has R x ys) none in
      ap (λ b. b ∷ map test ys) (or_none (test y) (tied_back y x ∙ both.0)) ∙ ap (λ bs. noting test x y ∷ bs) (missed test x ys both.1)

  pub not_noted : (test : K → Bool) (x : K) (xs : List K) (i : ℕ) → IsStrictlySortedBy R xs → IsSearchInRange (Err i) (length xs) → IsBinarySearchResult (λ y. R y x) xs (Err i) → map test xs ≡ map (noting test x) xs
  not_noted test x xs i s within result = missed test x xs (sym (searched_is o x xs (Err i) s within result))

  flag_at : (test : K → Bool) (x : K) (xs : List K) (i : ℕ) (d : Bool) → i < length xs → ((e : K) → R (get_or xs i e) x ≡ Equal) → get_or (map test xs) i d ≡ test x
  flag_at test x [] i d below at = absurd (omega arith)
  flag_at test x (y ∷ ys) zero d below at = ap test (exact y x (at y))
  flag_at test x (y ∷ ys) (suc i) d below at = flag_at test x ys i d (omega arith) at

  -- its flag, if it is one of them
  pub flag_is : (test : K → Bool) (x : K) (xs : List K) (i : ℕ) (d : Bool) → IsStrictlySortedBy R xs → IsSearchInRange (Ok i) (length xs) → IsBinarySearchResult (λ y. R y x) xs (Ok i)
      → get_or (map test xs) i d ≡ (has R x xs && test x)
  flag_is test x xs i d s within result = flag_at test x xs i d within result ∙ ap (λ b. b && test x) (searched_is o x xs (Ok i) s within result)

  pub no_flag : (test : K → Bool) (x : K) (xs : List K) (i : ℕ) → IsStrictlySortedBy R xs → IsSearchInRange (Err i) (length xs) → IsBinarySearchResult (λ y. R y x) xs (Err i) → false ≡ (has R x xs && test x)
  no_flag test x xs i s within result = ap (λ b. b && test x) (searched_is o x xs (Err i) s within result)

  -- a step of a loop that notes items
  pub noted_on : (test : K → Bool) (wanted xs : List K) (i : ℕ) (x : K) → i < length xs → x ≡ get_or xs i x
      → map (noting (λ one. test one || has R one (take i xs)) x) wanted ≡ map (λ one. test one || has R one (take (i + 1) xs)) wanted
  noted_on test wanted xs i x within at =
      map-alike _ _ wanted (all_weaker (λ (w : K). Unit {0}) _ (λ one _. regroup (test one) (has R one (take i xs)) (eq_by_cmp R one x)
      ∙ ap (λ b. test one || b) (sym (list_any-append (eq_by_cmp R one) (take i xs) (x ∷ []) ∙ ap (λ b. has R one (take i xs) || b) (or_false (eq_by_cmp R one x)))
      ∙ ap (λ y. has R one (take i xs ++ y ∷ [])) at ∙ ap (has R one) (sym (take_more xs i x within)))) wanted (all_anyway wanted))
    where
      regroup : (a b c : Bool) → ((a || b) || c) ≡ (a || (b || c))
      regroup true b c = refl
      regroup false b c = refl

      or_false : (b : Bool) → (b || false) ≡ b
      or_false true = refl
      or_false false = refl

-- what a binary search over cells gives
pub cells_searched : (x : Cell) (xs : List Cell) (r : Result ℕ ℕ) → IsBinarySearchResult (λ y. CellOrder.ghosts.cmp y x) xs r → IsBinarySearchResult (λ y. cell_cmp y x) xs r
cells_searched x xs r h = subst (λ (R : Cell → Cell → Ordering). IsBinarySearchResult (λ y. R y x) xs r) derived_cells h

pub cells_gathered : (cells set : List Cell) → (IsAntisymmetric CellOrder.ghosts.cmp → set ≡ ascending_of CellOrder.ghosts.cmp cells) → set ≡ ascending_of cell_cmp cells
cells_gathered cells set is = is (subst (λ R. IsAntisymmetric R) (sym derived_cells) cell_cmp-IsAntisymmetric) ∙ ap (λ R. ascending_of R cells) derived_cells

-- what a slice of a vector leaves in it
pub written_back : {X : Type 0} (n : ℕ) (items rest : List X) → n ≡ length items → take n (items ++ rest) ≡ items
written_back n items rest long = ap (λ k. take k (items ++ rest)) long ∙ take-append_seam items rest

-- none is found on no tetrahedron
pub none_found : {X : Type 0} (xs : List X) → replicate (length xs) false ≡ map (λ x. false) xs
none_found [] = refl
none_found (x ∷ xs) = ap (λ bs. false ∷ bs) (none_found xs)

-- a step of a loop over tetrahedra
pub found_more : (wanted own : List Cell) (tets : List Tetrahedron) (i : ℕ) (tet : Tetrahedron) → list_all is_cell wanted ≡ true → i < length tets → tet ≡ get_or tets i tet
    → ((cell : Cell) → is_cell cell ≡ true → has cell_cmp cell own ≡ holds_all tet.corners (corners_of cell))
    → map (λ one. is_on (take i tets) one || has cell_cmp one own) wanted ≡ map (is_on (take (i + 1) tets)) wanted
found_more wanted own tets i tet cells within at has_own =
    map-alike (λ one. is_on (take i tets) one || has cell_cmp one own) (is_on (take (i + 1) tets)) wanted
    (all_weaker (λ one. is_cell one ≡ true) (λ one. (is_on (take i tets) one || has cell_cmp one own) ≡ is_on (take (i + 1) tets) one) (λ one is. each one is) wanted (all_pass is_cell wanted cells))
  where
    or_false : (b : Bool) → (b || false) ≡ b
    or_false true = refl
    or_false false = refl

    each : (one : Cell) → is_cell one ≡ true → (is_on (take i tets) one || has cell_cmp one own) ≡ is_on (take (i + 1) tets) one
    each one is =
        let test : Tetrahedron → Bool = λ t. holds_all t.corners (corners_of one) in
        ap (λ b. is_on (take i tets) one || b) (has_own one is ∙ sym (or_false (test tet)))
        ∙ sym (list_any-append test (take i tets) (tet ∷ []))
        ∙ ap (λ t. list_any test (take i tets ++ t ∷ [])) at
        ∙ ap (list_any test) (sym (take_more tets i tet within))

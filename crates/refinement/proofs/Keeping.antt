-- Pieces that stand in the place of cells, and keep how many of them pass a test.
use Rattle.std.proofs.Common.{◌≡◌, ℕ, ◌+◌, ◌≤◌, Bool, List, [], ◌∷◌, ◌++◌, refl, sym, ap₂, ◌∙◌, arith}
use Rattle.std.specs.declared.cmp.Ordering.{Ordering}
use Rattle.std.specs.FinMap.{IsAntisymmetric}
use Rattle.std.specs.List.{AllByRecursion, count_by, flat_map}
use Rattle.ma_cells.specs.Ascending.{ascending_of}
use Rattle.ma_cells.proofs.Choices.{all-append}
use Rattle.refinement.proofs.Counts.{all_left, all_of_set, all_right, count-append, count-set}
use Rattle.ma_cells.proofs.SetItems.{all-ascending_of}

-- No piece is flat. What is off all pieces is off all cells, and then as many pieces as cells pass the test, where at most one cell does
pub record Keeps {K : Type 0} (IsNotFlat IsOff : K → Type 0) (f : K → Bool) (cells pieces : List K) : Type 0 where
  pub not_flat : AllByRecursion IsNotFlat pieces
  pub off : AllByRecursion IsOff pieces → AllByRecursion IsOff cells
  pub count : count_by f cells ≤ 1 → AllByRecursion IsOff pieces → count_by f pieces ≡ count_by f cells

pub as_few : (m n : ℕ) → m ≡ n → n ≤ 1 → m ≤ 1
as_few m n e h = omega arith

module _ {K : Type 0} (IsNotFlat IsOff : K → Type 0) (f : K → Bool) where
  abbrev Kept : List K → List K → Type 0
  Kept = Keeps IsNotFlat IsOff f

  pub keeps-itself : (cells : List K) → AllByRecursion IsNotFlat cells → Kept cells cells
  keeps-itself cells not_flat = record { not_flat = not_flat; off = λ h. h; count = λ _ _. refl }

  pub keeps-next : (xs ys zs : List K) → Kept xs ys → Kept ys zs → Kept xs zs
  keeps-next xs ys zs first second = record {
    not_flat = second.not_flat;
    off = λ h. first.off (second.off h);
    count = λ most h.
        let same = first.count most (second.off h) in
        second.count (as_few (count_by f ys) (count_by f xs) same most) h ∙ same;
  }

  pub keeps-append : (xs ys zs ws : List K) → Kept xs zs → Kept ys ws → Kept (xs ++ ys) (zs ++ ws)
  keeps-append xs ys zs ws first second = record {
    not_flat = all-append IsNotFlat zs ws first.not_flat second.not_flat;
    off = λ h. all-append IsOff xs ys (first.off (all_left IsOff zs ws h)) (second.off (all_right IsOff zs ws h));
    count = λ most h.
        let cells = count-append f xs ys in
        count-append f zs ws
        ∙ ap₂ (λ (m n : ℕ). m + n) (first.count (omega arith) (all_left IsOff zs ws h)) (second.count (omega arith) (all_right IsOff zs ws h))
        ∙ sym cells;
  }

  -- the pieces of each cell in its place
  pub keeps-each : (pieces : K → List K) → ((cell : K) → IsNotFlat cell → Kept (cell ∷ []) (pieces cell)) → (cells : List K) → AllByRecursion IsNotFlat cells
      → Kept cells (flat_map pieces cells)
  keeps-each pieces each [] not_flat = keeps-itself [] tt
  keeps-each pieces each (cell ∷ cells) not_flat =
      keeps-append (cell ∷ []) cells (pieces cell) (flat_map pieces cells) (each cell not_flat.0) (keeps-each pieces each cells not_flat.1)

  -- the pieces as a set
  pub keeps-set : {R : K → K → Ordering} → IsAntisymmetric R → (cells pieces : List K) → Kept cells pieces → Kept cells (ascending_of R pieces)
  keeps-set {R} exact cells pieces kept = record {
    not_flat = all-ascending_of R IsNotFlat pieces kept.not_flat;
    off = λ h. kept.off (all_of_set exact IsOff pieces h);
    count = λ most h.
        let same = kept.count most (all_of_set exact IsOff pieces h) in
        count-set exact f pieces (as_few (count_by f pieces) (count_by f cells) same most) ∙ same;
  }

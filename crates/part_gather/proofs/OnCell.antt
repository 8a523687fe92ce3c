-- The marks on one cell stand together in a set of marks.
use Rattle.std.proofs.Common.{◌≡◌, Bool, true, false, cond, not, ◌&&◌, List, [], ◌∷◌, filter, get_or, inl, inr, ◌⊎◌, ⊎_elim, refl, sym, ap, subst, ◌∙◌, arith}
use Rattle.std.specs.declared.cmp.Ordering.{Ordering}
use Rattle.std.specs.declared.cmp.Ordering.TheVariants.{Less, Equal, Greater}
use Rattle.std.specs.List.Sorted.{IsPartitionedBy, IsStrictlySortedBy}
use Rattle.std.specs.Ordering.{eq_by_cmp, int_cmp, is_eq, is_lt, ordering_reverse, ordering_then}
use Rattle.std.proofs.lemmas.Bool.{false≢true, cases_lt}
use Rattle.std.proofs.lemmas.Map.Keys.{Less-from_sorted}
use Rattle.ma_cells.specs.Cells.{CellMark, cell_cmp, mark_cmp}
use Rattle.ma_cells.specs.declared.cell.Cell.{Cell}
use Rattle.ma_cells.proofs.CellOrders.{cell_cmp-IsAntisymmetric, cell_cmp_total}
use Rattle.part_store.specs.Agreement.{marks_of}

abbrev pub not_below : Cell → CellMark → Bool
not_below cell m = not (is_lt (cell_cmp m.cell cell))

abbrev pub not_above : Cell → CellMark → Bool
not_above cell m = not (is_lt (cell_cmp cell m.cell))

-- ---- ascending marks are cut by their cells
by_order : (p : CellMark → Bool) (ms : List CellMark) → ((m n : CellMark) → mark_cmp m n ≡ Less → p n ≡ true → p m ≡ true) → IsStrictlySortedBy mark_cmp ms → IsPartitionedBy p ms
by_order p ms closed s i j d low high passed =
    ⊎_elim
    (λ less. closed (get_or ms i d) (get_or ms j d) (Less-from_sorted mark_cmp ms i j d s less high) passed)
    (λ over. subst (λ n. p (get_or ms n d) ≡ true) (omega arith) passed)
    (cases_lt i j)

not_after : (m n : CellMark) → mark_cmp m n ≡ Less → (cell_cmp m.cell n.cell ≡ Less) ⊎ (m.cell ≡ n.cell)
not_after m n e = by (cell_cmp m.cell n.cell) refl e
  where
    by : (r : Ordering) → cell_cmp m.cell n.cell ≡ r → ordering_then r (ordering_then (int_cmp m.phys n.phys) (int_cmp m.elem n.elem)) ≡ Less → (cell_cmp m.cell n.cell ≡ Less) ⊎ (m.cell ≡ n.cell)
    by Less is h = inl is
    by Equal is h = inr (cell_cmp-IsAntisymmetric m.cell n.cell is)
    by Greater is h = absurd (false≢true (ap is_lt h))

less : (r : Ordering) → is_lt r ≡ true → r ≡ Less
less Less h = refl
less Equal h = absurd (false≢true h)
less Greater h = absurd (false≢true h)

pub cut_below : (cell : Cell) (ms : List CellMark) → IsStrictlySortedBy mark_cmp ms → IsPartitionedBy (λ m. is_lt (cell_cmp m.cell cell)) ms
cut_below cell ms s =
    by_order (λ m. is_lt (cell_cmp m.cell cell)) ms
    (λ m n e h. ⊎_elim
    (λ before. ap is_lt (cell_cmp_total.trans m.cell n.cell cell before (less _ h)))
    (λ same. subst (λ c. is_lt (cell_cmp c cell) ≡ true) (sym same) h)
    (not_after m n e)) s

pub cut_above : (cell : Cell) (ms : List CellMark) → IsStrictlySortedBy mark_cmp ms → IsPartitionedBy (not_above cell) ms
cut_above cell ms s =
    by_order (not_above cell) ms
    (λ m n e h. ⊎_elim
    (λ before. kept m n (cell_cmp cell m.cell) refl before h)
    (λ same. subst (λ c. not (is_lt (cell_cmp cell c)) ≡ true) (sym same) h)
    (not_after m n e)) s
  where
    kept : (m n : CellMark) (r : Ordering) → cell_cmp cell m.cell ≡ r → cell_cmp m.cell n.cell ≡ Less → not_above cell n ≡ true → not (is_lt r) ≡ true
    kept m n Less is before h = absurd (false≢true (sym (ap (λ r. not (is_lt r)) (cell_cmp_total.trans cell m.cell n.cell is before)) ∙ h))
    kept m n Equal is before h = refl
    kept m n Greater is before h = refl

-- ---- those neither below nor above are on it
both : {X : Type 0} (f g h : X → Bool) (xs : List X) → ((x : X) → h x ≡ (g x && f x)) → filter f (filter g xs) ≡ filter h xs
both f g h [] e = refl
both f g h (x ∷ xs) e =
    elim (g x) as (λ b. filter f (cond b (x ∷ filter g xs) (filter g xs)) ≡ cond (b && f x) (x ∷ filter h xs) (filter h xs)) [
      | true ↦ ap (λ rest. cond (f x) (x ∷ rest) rest) (both f g h xs e)
      | false ↦ both f g h xs e
    ] ∙ ap (λ b. cond b (x ∷ filter h xs) (filter h xs)) (sym (e x))

tied : (r : Ordering) → is_eq r ≡ (not (is_lt r) && not (is_lt (ordering_reverse r)))
tied Less = refl
tied Equal = refl
tied Greater = refl

pub on_cell : (cell : Cell) (ms : List CellMark) → filter (not_above cell) (filter (not_below cell) ms) ≡ marks_of cell ms
on_cell cell ms =
    both (not_above cell) (not_below cell) (λ m. eq_by_cmp cell_cmp m.cell cell) ms
    (λ m. tied (cell_cmp m.cell cell) ∙ ap (λ r. not_below cell m && not (is_lt r)) (sym (cell_cmp_total.antisymm cell m.cell)))

-- Marks of a store that are on cells of its own tetrahedra.
use Rattle.std.proofs.Common.{◌≡◌, inl, inr, ℕ, true, IfOk, List, ◌++◌, map, sym, ap, ◌∙◌}
use Rattle.std.specs.Prelude.{Result, ◌||◌}
use Rattle.std.specs.Cmp.{both_ways}
use Rattle.std.proofs.lemmas.Bool.{or_cases, or_left, or_right}
use Rattle.std.proofs.lemmas.Result.{IfOk-weaker}
use Rattle.std.proofs.lemmas.List.Folds.{list_any-append}
use Rattle.std.proofs.lemmas.List.Kept.{IsStrictlySortedBy-filter}
use Rattle.ma_cells.specs.Ascending.{ascending_of}
use Rattle.ma_cells.specs.Cells.{CellMark, corners_of, mark_cmp}
use Rattle.ma_cells.specs.Faces.{holds_all}
use Rattle.ma_cells.specs.Incidence.{is_on}
use Rattle.ma_cells.specs.Tetrahedron.{Tetrahedron, tet_cmp}
use Rattle.ma_cells.specs.Views.{ghost_cmp}
use Rattle.ma_cells.specs.declared.batch.Batch.{Batch}
use Rattle.ma_cells.specs.contracts.cell.MarkOrd.TheImpl as MarkOrder
use Rattle.ma_cells.specs.declared.cell.Cell.{Cell}
use Rattle.ma_cells.proofs.Ascents.{sorted-ascending_of}
use Rattle.ma_cells.proofs.CellOrders.{derived_mark_cmp, mark_cmp-IsAntisymmetric, mark_cmp_total, tet_cmp-IsAntisymmetric, tet_cmp_total}
use Rattle.part_store.specs.Labelled.{marks_on, tet_of}
use Rattle.part_store.specs.Stores.{StoreState, marks_got, tets_got, with_ghosts}
use Rattle.part_store.proofs.Members.{In, any-in, filter-agree, filter-all, from-any, from-append, from-ascending_of, from-filter, in-append_left, in-append_right, in-ascending_of, in-filter, same_made, same_set}

-- a set of tetrahedra has the cells of the list
on_set : (tets : List Tetrahedron) (cell : Cell) → is_on (ascending_of tet_cmp tets) cell ≡ is_on tets cell
on_set tets cell =
    let has_cell = λ (tet : Tetrahedron). holds_all tet.corners (corners_of cell) in
    both_ways (is_on (ascending_of tet_cmp tets) cell) (is_on tets cell)
    (λ on. let r = from-any has_cell (ascending_of tet_cmp tets) on in any-in has_cell tets r.0 (from-ascending_of tet_cmp_total tet_cmp-IsAntisymmetric tets r.0 r.1) r.2)
    (λ on. let r = from-any has_cell tets on in any-in has_cell (ascending_of tet_cmp tets) r.0 (in-ascending_of tet_cmp_total tet_cmp-IsAntisymmetric tets r.0 r.1) r.2)

-- a set of marks that are all on cells of the tetrahedra stays whole
all_own : (own : List Tetrahedron) (marks : List CellMark) → ((mark : CellMark) → In mark marks → is_on own mark.cell ≡ true) → marks_on own (ascending_of mark_cmp marks) ≡ ascending_of mark_cmp marks
all_own own marks each =
    filter-all (λ mark. is_on own mark.cell) (ascending_of mark_cmp marks) (λ mark there. each mark (from-ascending_of mark_cmp_total mark_cmp-IsAntisymmetric marks mark there))

kept_on : (own : List Tetrahedron) (marks : List CellMark) (mark : CellMark) → In mark (marks_on own marks) → is_on own mark.cell ≡ true
kept_on own marks mark there = (from-filter (λ m. is_on own m.cell) marks mark there).1

pub kept_own : (own : List Tetrahedron) (marks : List CellMark) → marks_on own (ascending_of mark_cmp (marks_on own marks)) ≡ ascending_of mark_cmp (marks_on own marks)
kept_own own marks = all_own own (marks_on own marks) (kept_on own marks)

-- where the tetrahedra are made a set
pub started_own : (own : List Tetrahedron) (marks : List CellMark) → marks_on (ascending_of tet_cmp own) (ascending_of mark_cmp (marks_on own marks)) ≡ ascending_of mark_cmp (marks_on own marks)
started_own own marks =
    filter-agree (λ mark. is_on (ascending_of tet_cmp own) mark.cell) (λ mark. is_on own mark.cell) (ascending_of mark_cmp (marks_on own marks)) (λ mark _. on_set own mark.cell)
    ∙ kept_own own marks

-- where marks are joined
pub joined_own : (own : List Tetrahedron) (old marks : List CellMark) → marks_on own (ascending_of mark_cmp (marks_on own old ++ marks_on own marks)) ≡ ascending_of mark_cmp (marks_on own old ++ marks_on own marks)
joined_own own old marks =
    all_own own (marks_on own old ++ marks_on own marks) (λ mark there. elim (from-append (marks_on own old) (marks_on own marks) mark there) [ inl k ↦ kept_on own old mark k | inr k ↦ kept_on own marks mark k ])

-- ---- marks for own tetrahedra, and then those for others
-- a set that is joined to marks is joined as its list
joined_set : (xs ys : List CellMark) → ascending_of mark_cmp (xs ++ ascending_of mark_cmp ys) ≡ ascending_of mark_cmp (xs ++ ys)
joined_set xs ys =
    same_made mark_cmp_total mark_cmp-IsAntisymmetric (xs ++ ascending_of mark_cmp ys) (xs ++ ys)
    (λ x h. elim (from-append xs (ascending_of mark_cmp ys) x h) [
      | inl k ↦ in-append_left xs ys x k
      | inr k ↦ in-append_right xs ys x (from-ascending_of mark_cmp_total mark_cmp-IsAntisymmetric ys x k)
    ])
    (λ x h. elim (from-append xs ys x h) [
      | inl k ↦ in-append_left xs (ascending_of mark_cmp ys) x k
      | inr k ↦ in-append_right xs (ascending_of mark_cmp ys) x (in-ascending_of mark_cmp_total mark_cmp-IsAntisymmetric ys x k)
    ])

-- the union by the order of the code
pub union_joined : {E : Type 0} (made : Result (List CellMark) E) (marks set kept : List CellMark) → set ≡ ascending_of mark_cmp kept → IfOk made (λ both. both ≡ ascending_of MarkOrder.ghosts.cmp (marks ++ set))
    → IfOk made (λ both. both ≡ ascending_of mark_cmp (marks ++ kept))
union_joined made marks set kept is =
    IfOk-weaker made (λ both. both ≡ ascending_of MarkOrder.ghosts.cmp (marks ++ set)) (λ both. both ≡ ascending_of mark_cmp (marks ++ kept))
    (λ both h. h ∙ ap (λ R. ascending_of R (marks ++ set)) derived_mark_cmp ∙ ap (λ ms. ascending_of mark_cmp (marks ++ ms)) is ∙ joined_set marks kept)

module _ (own others : List Tetrahedron) (old sent : List CellMark) where
  -- own tetrahedra and others have what either have
  either : (cell : Cell) → is_on (own ++ others) cell ≡ (is_on own cell || is_on others cell)
  either cell = list_any-append (λ (tet : Tetrahedron). holds_all tet.corners (corners_of cell)) own others

  -- both steps together bring the marks for all of them
  pub sent_apart : ascending_of mark_cmp (ascending_of mark_cmp (marks_on own old ++ marks_on own sent) ++ marks_on others sent) ≡ ascending_of mark_cmp (marks_on own old ++ marks_on (own ++ others) sent)
  sent_apart =
      let kept = marks_on own old in
      let first = kept ++ marks_on own sent in
      let later = marks_on others sent in
      let all = marks_on (own ++ others) sent in
      same_made mark_cmp_total mark_cmp-IsAntisymmetric (ascending_of mark_cmp first ++ later) (kept ++ all)
      (λ x h. elim (from-append (ascending_of mark_cmp first) later x h) [
        | inl k ↦ elim (from-append kept (marks_on own sent) x (from-ascending_of mark_cmp_total mark_cmp-IsAntisymmetric first x k)) [
          | inl j ↦ in-append_left kept all x j
          | inr j ↦ let r = from-filter (λ m. is_on own m.cell) sent x j in
              in-append_right kept all x (in-filter (λ m. is_on (own ++ others) m.cell) sent x r.0 (either x.cell ∙ or_left (is_on own x.cell) (is_on others x.cell) r.1))
        ]
        | inr k ↦ let r = from-filter (λ m. is_on others m.cell) sent x k in
            in-append_right kept all x (in-filter (λ m. is_on (own ++ others) m.cell) sent x r.0 (either x.cell ∙ or_right (is_on own x.cell) (is_on others x.cell) r.1))
      ])
      (λ x h. elim (from-append kept all x h) [
        | inl k ↦ in-append_left (ascending_of mark_cmp first) later x (in-ascending_of mark_cmp_total mark_cmp-IsAntisymmetric first x (in-append_left kept (marks_on own sent) x k))
        | inr k ↦ let r = from-filter (λ m. is_on (own ++ others) m.cell) sent x k in
            elim (or_cases (is_on own x.cell) (is_on others x.cell) (sym (either x.cell) ∙ r.1)) [
              | inl e ↦ in-append_left (ascending_of mark_cmp first) later x (in-ascending_of mark_cmp_total mark_cmp-IsAntisymmetric first x (in-append_right kept (marks_on own sent) x (in-filter (λ m. is_on own m.cell) sent x r.0 e)))
              | inr e ↦ in-append_right (ascending_of mark_cmp first) later x (in-filter (λ m. is_on others m.cell) sent x r.0 e)
            ]
      ])

  -- and those on own cells are the first step's, since a mark that others brought on an own cell came there too
  pub own_apart : marks_on own (ascending_of mark_cmp (ascending_of mark_cmp (marks_on own old ++ marks_on own sent) ++ marks_on others sent)) ≡ ascending_of mark_cmp (marks_on own old ++ marks_on own sent)
  own_apart =
      let first = marks_on own old ++ marks_on own sent in
      let later = marks_on others sent in
      let whole = ascending_of mark_cmp first ++ later in
      let on_own = λ (m : CellMark). is_on own m.cell in
      same_set mark_cmp_total mark_cmp-IsAntisymmetric (marks_on own (ascending_of mark_cmp whole)) (ascending_of mark_cmp first)
      (IsStrictlySortedBy-filter mark_cmp on_own (ascending_of mark_cmp whole) (sorted-ascending_of mark_cmp_total whole)) (sorted-ascending_of mark_cmp_total first)
      (λ x h.
      let r = from-filter on_own (ascending_of mark_cmp whole) x h in
      elim (from-append (ascending_of mark_cmp first) later x (from-ascending_of mark_cmp_total mark_cmp-IsAntisymmetric whole x r.0)) [
        | inl k ↦ k
        | inr k ↦ in-ascending_of mark_cmp_total mark_cmp-IsAntisymmetric first x
            (in-append_right (marks_on own old) (marks_on own sent) x (in-filter on_own sent x (from-filter (λ m. is_on others m.cell) sent x k).0 r.1))
      ])
      (λ x h.
      in-filter on_own (ascending_of mark_cmp whole) x (in-ascending_of mark_cmp_total mark_cmp-IsAntisymmetric whole x (in-append_left (ascending_of mark_cmp first) later x h))
      (elim (from-append (marks_on own old) (marks_on own sent) x (from-ascending_of mark_cmp_total mark_cmp-IsAntisymmetric first x h)) [ inl k ↦ kept_on own old x k | inr k ↦ kept_on own sent x k ]))

-- under the names of a call
pub named : (own due : List Tetrahedron) (marks made kept : List CellMark) → own ≡ due → marks ≡ made → kept ≡ marks → marks_on due made ≡ made → kept ≡ marks_on own marks
named own due marks made kept same is copied whole = copied ∙ is ∙ sym whole ∙ sym (λ i. marks_on (same i) (is i))

-- where both steps are done, the store has these ghosts and marks
pub came : (s : StoreState) (batches : List (ℕ × Batch)) (ghosts : List (Tetrahedron × ℕ)) (first marks : List CellMark) → ghosts ≡ ascending_of ghost_cmp (tets_got batches)
    → first ≡ ascending_of mark_cmp (marks_on s.own s.marks ++ marks_on s.own (marks_got batches))
    → marks ≡ ascending_of mark_cmp (first ++ marks_on (map tet_of (tets_got batches)) (marks_got batches))
    → record s { ghosts = ghosts; marks = marks } ≡ with_ghosts s batches
came s batches ghosts first marks is one two =
    let both = two ∙ ap (λ ms. ascending_of mark_cmp (ms ++ marks_on (map tet_of (tets_got batches)) (marks_got batches))) one ∙ sent_apart s.own (map tet_of (tets_got batches)) s.marks (marks_got batches) in
    λ i. record s { ghosts = is i; marks = both i }

-- and the first step's marks are those on own cells
pub came_own : (own others : List Tetrahedron) (old sent first marks : List CellMark) → first ≡ ascending_of mark_cmp (marks_on own old ++ marks_on own sent) → marks ≡ ascending_of mark_cmp (first ++ marks_on others sent)
    → first ≡ marks_on own marks
came_own own others old sent first marks one two =
    one ∙ sym (ap (marks_on own) (two ∙ ap (λ ms. ascending_of mark_cmp (ms ++ marks_on others sent)) one) ∙ own_apart own others old sent)

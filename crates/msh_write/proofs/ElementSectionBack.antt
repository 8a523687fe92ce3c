-- The section of elements is read as marks and tetrahedra.
use Rattle.std.proofs.Common.{◌≡◌, ℕ, suc, ◌+◌, ◌-◌, ◌^◌, ◌<◌, ◌≤◌, Bool, true, false, not, eqb, ◌&&◌, List, [], ◌∷◌, ◌++◌, length, map, Some, refl, sym, ap, ◌∙◌, arith, pos, codes, decimal}
use Rattle.std.specs.Prelude.{Ok}
use Rattle.std.specs.List.{list_all}
use Rattle.std.proofs.lemmas.Bool.{and_parts, eq-eqb, eqb-true, ne_eqb, not-true}
use Rattle.std.proofs.lemmas.List.{length-map, map_push}
use Rattle.ma_geom.specs.Coordinates.{Coordinates, place_cmp}
use Rattle.ma_cells.specs.Ascending.{are_ascending, has}
use Rattle.ma_cells.specs.Cells.{CellMark, corners_of, is_cell}
use Rattle.ma_cells.specs.Tetrahedron.{Tetrahedron, are_corners, is_flat}
use Rattle.ma_cells.specs.declared.cell.Cell.{Cell}
use Rattle.ma_cells.specs.declared.cell.Cell.TheVariants.{Point, Seg, Tri}
use Rattle.ma_text.specs.Words.{words_of}
use Rattle.msh_read.specs.declared.stand.Counted.TheVariants.{Elements}
use Rattle.msh_read.specs.declared.stand.Stand.TheVariants.{Outside, Count, Entries}
use Rattle.msh_read.specs.ElementLines.{a_mark, a_tet, element_of, nodes_of_kind}
use Rattle.msh_read.specs.steps.Front.{Front}
use Rattle.msh_read.specs.GroupNames.{GroupName}
use Rattle.msh_read.specs.Lines.{closes, header_of, is_tag}
use Rattle.msh_read.specs.steps.LineByLine.{begun, counted_read, element_read, elements_begun, end_read, header_read, step}
use Rattle.msh_write.specs.ReadsBack.{positions_among, raw_mark, raw_tet}
use Rattle.msh_write.specs.Text.{counted_section, element_line, kind_of, mark_element, number_among, item_lines, oriented, tet_element}
use Rattle.msh_write.proofs.ElementsBack.{element-closes, element-is_line, element-read}
use Rattle.msh_write.proofs.LinesBack.{is_line}
use Rattle.msh_write.proofs.NodesBack.{ascending-set, distinct-from_set, numbers_from, oriented-all, oriented-length, oriented-set}
use Rattle.msh_write.proofs.RunsBack.{run, run-append, run-section, run-all}
use Rattle.msh_write.proofs.SectionsBack.{count_read-any, front_at, next-any, not_zero}
use Rattle.msh_write.proofs.TextLines.{both_lengths, length-item_lines, item_lines-both}
use Rattle.ma_cells.proofs.Pieces.{four_corners}

-- ---- one element

kind-known : (cell : Cell) → is_cell cell ≡ true → nodes_of_kind (pos (kind_of cell)) ≡ Some (length (corners_of cell))
kind-known (Point p) h = refl
kind-known (Seg s) h = let two : length s ≡ 2 = eqb-true (length s) 2 (and_parts (eqb (length s) 2) (are_ascending place_cmp s) h).0 in rw two refl
kind-known (Tri t) h = let three : length t ≡ 3 = eqb-true (length t) 3 (and_parts (eqb (length t) 3) (are_ascending place_cmp t) h).0 in rw three refl

few-corners : (cell : Cell) → is_cell cell ≡ true → length (corners_of cell) ≤ 3
few-corners (Point p) h = omega arith
few-corners (Seg s) h = let two : length s ≡ 2 = eqb-true (length s) 2 (and_parts (eqb (length s) 2) (are_ascending place_cmp s) h).0 in omega arith
few-corners (Tri t) h = let three : length t ≡ 3 = eqb-true (length t) 3 (and_parts (eqb (length t) 3) (are_ascending place_cmp t) h).0 in omega arith

pub cell-ascends : (cell : Cell) → is_cell cell ≡ true → are_ascending place_cmp (corners_of cell) ≡ true
cell-ascends (Point p) h = refl
cell-ascends (Seg s) h = (and_parts (eqb (length s) 2) (are_ascending place_cmp s) h).1
cell-ascends (Tri t) h = (and_parts (eqb (length t) 3) (are_ascending place_cmp t) h).1

small_kind : (cell : Cell) → kind_of cell < 2 ^ 63
small_kind (Point p) = omega arith
small_kind (Seg s) = omega arith
small_kind (Tri t) = omega arith

-- whether a mark can be read, and a tetrahedron
abbrev pub is_good_mark : List Coordinates → CellMark → Bool
is_good_mark nodes mark = is_cell mark.cell && ((is_tag mark.phys && is_tag mark.elem) && list_all (λ p. has place_cmp p nodes) (corners_of mark.cell))

abbrev pub is_good_tet : List Coordinates → Tetrahedron → Bool
is_good_tet nodes tet = are_corners tet.corners && ((is_tag tet.phys && is_tag tet.elem) && list_all (λ p. has place_cmp p nodes) tet.corners)

module _ (nodes : List Coordinates) (few : length nodes ≤ 2147483647) (number : ℕ) (low : 1 ≤ number) (high : number ≤ 2147483647) where
  module _ (mark : CellMark) (good : is_good_mark nodes mark ≡ true) where
    mark_cell : is_cell mark.cell ≡ true
    mark_cell = (and_parts (is_cell mark.cell) _ good).0

    mark_tags : (is_tag mark.phys ≡ true) × (is_tag mark.elem ≡ true)
    mark_tags = and_parts (is_tag mark.phys) (is_tag mark.elem) (and_parts (is_tag mark.phys && is_tag mark.elem) _ (and_parts (is_cell mark.cell) _ good).1).0

    mark_there : list_all (λ p. has place_cmp p nodes) (corners_of mark.cell) ≡ true
    mark_there = (and_parts (is_tag mark.phys && is_tag mark.elem) _ (and_parts (is_cell mark.cell) _ good).1).1

    pub mark-is_line : is_line (element_line nodes number (mark_element [] mark)) ≡ true
    mark-is_line = element-is_line nodes few number (kind_of mark.cell) mark.phys mark.elem (corners_of mark.cell) low high (small_kind mark.cell) mark_tags.0 mark_tags.1 mark_there

    pub mark-closes : (name : List ℕ) → closes name (element_line nodes number (mark_element [] mark)) ≡ false
    mark-closes = element-closes nodes few number (kind_of mark.cell) mark.phys mark.elem (corners_of mark.cell) low high (small_kind mark.cell) mark_tags.0 mark_tags.1 mark_there

    fewer_than_four : (eqb (length (positions_among nodes (corners_of mark.cell))) 4) ≡ false
    fewer_than_four = ne_eqb _ 4 (λ e. omega (arith, length-map (corners_of mark.cell) (λ p. number_among nodes p - 1), few-corners mark.cell mark_cell))

    pub mark-read : element_of (numbers_from 1 (length nodes)) (element_line nodes number (mark_element [] mark)) ≡ Ok (a_mark (raw_mark nodes mark))
    mark-read =
        element-read nodes few number (kind_of mark.cell) mark.phys mark.elem (corners_of mark.cell) low high (small_kind mark.cell) mark_tags.0 mark_tags.1 mark_there (kind-known mark.cell mark_cell)
        (distinct-from_set (corners_of mark.cell) (corners_of mark.cell) (ascending-set (corners_of mark.cell) (cell-ascends mark.cell mark_cell)) refl)
        ∙ rw fewer_than_four refl

  module _ (tet : Tetrahedron) (good : is_good_tet nodes tet ≡ true) where
    tet_ascends : are_ascending place_cmp tet.corners ≡ true
    tet_ascends = (and_parts (are_ascending place_cmp tet.corners) (not (is_flat tet.corners)) (and_parts (are_corners tet.corners) _ good).0).0

    tet_four : length (oriented tet.corners) ≡ 4
    tet_four = oriented-length tet.corners ∙ four_corners tet.corners (not-true (is_flat tet.corners) (and_parts (are_ascending place_cmp tet.corners) (not (is_flat tet.corners)) (and_parts (are_corners tet.corners) _ good).0).1)

    tet_tags : (is_tag tet.phys ≡ true) × (is_tag tet.elem ≡ true)
    tet_tags = and_parts (is_tag tet.phys) (is_tag tet.elem) (and_parts (is_tag tet.phys && is_tag tet.elem) _ (and_parts (are_corners tet.corners) _ good).1).0

    tet_there : list_all (λ p. has place_cmp p nodes) (oriented tet.corners) ≡ true
    tet_there = oriented-all (λ p. has place_cmp p nodes) tet.corners ∙ (and_parts (is_tag tet.phys && is_tag tet.elem) _ (and_parts (are_corners tet.corners) _ good).1).1

    small_four : 4 < 2 ^ 63
    small_four = omega arith

    pub tet-is_line : is_line (element_line nodes number (tet_element [] tet)) ≡ true
    tet-is_line = element-is_line nodes few number 4 tet.phys tet.elem (oriented tet.corners) low high small_four tet_tags.0 tet_tags.1 tet_there

    pub tet-closes : (name : List ℕ) → closes name (element_line nodes number (tet_element [] tet)) ≡ false
    tet-closes = element-closes nodes few number 4 tet.phys tet.elem (oriented tet.corners) low high small_four tet_tags.0 tet_tags.1 tet_there

    just_four : (eqb (length (positions_among nodes (oriented tet.corners))) 4) ≡ true
    just_four = eq-eqb _ 4 (length-map (oriented tet.corners) (λ p. number_among nodes p - 1) ∙ tet_four)

    pub tet-read : element_of (numbers_from 1 (length nodes)) (element_line nodes number (tet_element [] tet)) ≡ Ok (a_tet (raw_tet nodes tet))
    tet-read =
        element-read nodes few number 4 tet.phys tet.elem (oriented tet.corners) low high small_four tet_tags.0 tet_tags.1 tet_there (ap (λ n. Some n) (sym tet_four))
        (distinct-from_set (oriented tet.corners) tet.corners (oriented-set tet.corners tet_ascends) (oriented-length tet.corners))
        ∙ rw just_four refl

-- ---- the section

module _ (has_names : Bool) (names : List GroupName) (nodes : List Coordinates) (few : length nodes ≤ 2147483647) where
  abbrev marked : List CellMark → ℕ → Front
  marked done left = front_at (Entries Elements left) (codes "Elements") has_names true true names (numbers_from 1 (length nodes)) nodes (map (raw_mark nodes) done) []

  abbrev solid : List CellMark → List Tetrahedron → ℕ → Front
  solid marks done left = front_at (Entries Elements left) (codes "Elements") has_names true true names (numbers_from 1 (length nodes)) nodes (map (raw_mark nodes) marks) (map (raw_tet nodes) done)

  mark_reads : (done : List CellMark) (mark : CellMark) (left number : ℕ) → 1 ≤ number → number ≤ 2147483647 → is_good_mark nodes mark ≡ true
      → element_read (marked done left) (element_line nodes number (mark_element [] mark)) ≡ Ok (marked (done ++ mark ∷ []) left)
  unfolding element_read
  mark_reads done mark left number low high good = rw (mark-read nodes few number low high mark good, map_push (raw_mark nodes) done mark) refl

  tet_reads : (marks : List CellMark) (done : List Tetrahedron) (tet : Tetrahedron) (left number : ℕ) → 1 ≤ number → number ≤ 2147483647 → is_good_tet nodes tet ≡ true
      → element_read (solid marks done left) (element_line nodes number (tet_element [] tet)) ≡ Ok (solid marks (done ++ tet ∷ []) left)
  unfolding element_read
  tet_reads marks done tet left number low high good = rw (tet-read nodes few number low high tet good, map_push (raw_tet nodes) done tet) refl

  mark_steps : (done : List CellMark) (mark : CellMark) (left : ℕ) → length done + 1 ≤ 2147483647 → is_good_mark nodes mark ≡ true
      → step (marked done (suc left)) (element_line nodes (length done + 1) (mark_element [] mark)) ≡ Ok (marked (done ++ mark ∷ []) left)
  unfolding step
  mark_steps done mark left high good =
      next-any Elements left (marked done (suc left)) (marked (done ++ mark ∷ []) (suc left)) (element_line nodes (length done + 1) (mark_element [] mark))
      (mark-closes nodes few (length done + 1) (omega arith) high mark good (codes "Elements")) (mark_reads done mark (suc left) (length done + 1) (omega arith) high good)

  tet_steps : (marks : List CellMark) (most : ℕ) → length marks + most ≤ 2147483647 → (done : List Tetrahedron) (tet : Tetrahedron) (left : ℕ) → length done + 1 ≤ most → is_good_tet nodes tet ≡ true
      → step (solid marks done (suc left)) (element_line nodes (length marks + (length done + 1)) (tet_element [] tet)) ≡ Ok (solid marks (done ++ tet ∷ []) left)
  unfolding step
  tet_steps marks most fits done tet left high good =
      let number : ℕ = length marks + (length done + 1) in
      let bound : length marks + (length done + 1) ≤ 2147483647 = omega arith in
      next-any Elements left (solid marks done (suc left)) (solid marks (done ++ tet ∷ []) (suc left)) (element_line nodes (length marks + (length done + 1)) (tet_element [] tet))
      (tet-closes nodes few (length marks + (length done + 1)) (omega arith) bound tet good (codes "Elements")) (tet_reads marks done tet (suc left) (length marks + (length done + 1)) (omega arith) bound good)

  elements_begin : (header : List ℕ) → step (front_at Outside header has_names true false names (numbers_from 1 (length nodes)) nodes [] []) (codes "$Elements")
      ≡ Ok (front_at (Count Elements) (codes "Elements") has_names true true names (numbers_from 1 (length nodes)) nodes [] [])
  unfolding step header_read header_of begun elements_begun words_of
  elements_begin header = refl

  elements_count : (n : ℕ) → 1 ≤ n → n < 2 ^ 63 → step (front_at (Count Elements) (codes "Elements") has_names true true names (numbers_from 1 (length nodes)) nodes [] []) (decimal n) ≡ Ok (marked [] n)
  unfolding step
  elements_count n some small =
      count_read-any Elements (front_at (Count Elements) (codes "Elements") has_names true true names (numbers_from 1 (length nodes)) nodes [] []) n small (rw (not_zero n some) refl)

  elements_end : (marks : List CellMark) (tets : List Tetrahedron) → step (solid marks tets 0) (codes "$EndElements")
      ≡ Ok (front_at Outside (codes "Elements") has_names true true names (numbers_from 1 (length nodes)) nodes (map (raw_mark nodes) marks) (map (raw_tet nodes) tets))
  unfolding step counted_read closes words_of end_read
  elements_end marks tets = refl

  module _ (marks : List CellMark) (tets : List Tetrahedron) (some : 1 ≤ length tets) (fits : length marks + length tets ≤ 2147483647) (good_marks : list_all (is_good_mark nodes) marks ≡ true)
      (good_tets : list_all (is_good_tet nodes) tets ≡ true) where
    marks_run : run (marked [] (length marks + length tets)) (item_lines (λ n mark. element_line nodes n (mark_element [] mark)) marks) ≡ Ok (marked marks (length tets))
    marks_run = run-all (λ n mark. element_line nodes n (mark_element [] mark)) marked (is_good_mark nodes) 2147483647 mark_steps marks (length tets) (omega arith) good_marks

    tets_run : run (solid marks [] (length tets)) (item_lines (λ n tet. element_line nodes (length marks + n) (tet_element [] tet)) tets) ≡ Ok (solid marks tets 0)
    tets_run =
        let none : length tets + 0 ≡ length tets = omega arith in
        rw none at (run-all (λ n tet. element_line nodes (length marks + n) (tet_element [] tet)) (solid marks) (is_good_tet nodes) (length tets) (tet_steps marks (length tets) fits) tets 0 (omega arith) good_tets)

    body : run (marked [] (length marks + length tets)) (item_lines (element_line nodes) (map (mark_element []) marks ++ map (tet_element []) tets)) ≡ Ok (solid marks tets 0)
    body =
        ap (run (marked [] (length marks + length tets))) (item_lines-both (element_line nodes) (mark_element []) (tet_element []) marks tets)
        ∙ run-append (marked [] (length marks + length tets)) (marked marks (length tets)) (solid marks tets 0) (item_lines (λ n mark. element_line nodes n (mark_element [] mark)) marks)
        (item_lines (λ n tet. element_line nodes (length marks + n) (tet_element [] tet)) tets) marks_run tets_run

    long : length (item_lines (element_line nodes) (map (mark_element []) marks ++ map (tet_element []) tets)) ≡ length marks + length tets
    long = length-item_lines (element_line nodes) (map (mark_element []) marks ++ map (tet_element []) tets) ∙ both_lengths (mark_element []) (tet_element []) marks tets

    pub elements-run : (header : List ℕ)
        → run (front_at Outside header has_names true false names (numbers_from 1 (length nodes)) nodes [] []) (counted_section (codes "Elements") (item_lines (element_line nodes) (map (mark_element []) marks ++ map (tet_element []) tets)))
        ≡ Ok (front_at Outside (codes "Elements") has_names true true names (numbers_from 1 (length nodes)) nodes (map (raw_mark nodes) marks) (map (raw_tet nodes) tets))
    elements-run header =
        let counted : step (front_at (Count Elements) (codes "Elements") has_names true true names (numbers_from 1 (length nodes)) nodes [] []) (decimal (length (item_lines (element_line nodes) (map (mark_element []) marks ++ map (tet_element []) tets))))
        ≡ Ok (marked [] (length marks + length tets)) = ap (λ n. step (front_at (Count Elements) (codes "Elements") has_names true true names (numbers_from 1 (length nodes)) nodes [] []) (decimal n)) long
        ∙ elements_count (length marks + length tets) (omega arith) (omega arith) in
        run-section (codes "Elements") (item_lines (element_line nodes) (map (mark_element []) marks ++ map (tet_element []) tets)) _ _ _ _ _ (elements_begin header) counted body (elements_end marks tets)

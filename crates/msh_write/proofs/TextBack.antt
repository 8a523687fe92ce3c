-- A whole text is read as what it tells.
use Rattle.std.proofs.Common.{◌≡◌, ℕ, ◌+◌, ◌^◌, ◌<◌, ◌≤◌, Bool, true, false, List, [], ◌∷◌, ◌++◌, length, map, refl, sym, ap, ◌∙◌, arith, codes, decimal}
use Rattle.std.specs.Prelude.{Ok}
use Rattle.std.specs.List.{enumerate_from, list_all}
use Rattle.std.specs.List.Sorted.{IsStrictlySortedBy}
use Rattle.std.proofs.lemmas.Bool.{and_from, and_parts}
use Rattle.std.proofs.lemmas.List.{length-map}
use Rattle.std.proofs.lemmas.List.Folds.{list_all-append}
use Rattle.ma_geom.specs.Coordinates.{Coordinates}
use Rattle.ma_cells.specs.Ascending.{ascending_of}
use Rattle.ma_cells.specs.Cells.{CellMark}
use Rattle.ma_cells.specs.Tetrahedron.{Tetrahedron}
use Rattle.ma_cells.proofs.Ascents.{is-ascending_of}
use Rattle.ma_text.specs.Lines.{end_number}
use Rattle.msh_read.specs.declared.stand.Stand.TheVariants.{Outside}
use Rattle.msh_read.specs.steps.Front.{Front, nothing_read}
use Rattle.msh_read.specs.GroupNames.{GroupName, name_cmp, name_cmp_total}
use Rattle.msh_read.specs.Reading.{at_line, read_of}
use Rattle.msh_read.specs.steps.LinesRead.{after, end_of, read_by_lines}
use Rattle.msh_read.specs.Trying.{◌>>=◌}
use Rattle.msh_read.proofs.NameOrder.{name_cmp-IsAntisymmetric}
use Rattle.msh_read.proofs.SectionWise.{read_of-by_lines}
use Rattle.msh_write.specs.ReadsBack.{raw_mark, raw_tet}
use Rattle.msh_write.specs.Text.{counted_section, element_line, ended, format_lines, head_lines, mark_element, name_line, names_lines, node_line, item_lines, tet_element}
use Rattle.msh_write.proofs.ElementSectionBack.{elements-run, is_good_mark, is_good_tet, mark-is_line, tet-is_line}
use Rattle.msh_write.proofs.EntriesBack.{is_near_place, is_readable, name-is_line, node-is_line}
use Rattle.msh_write.proofs.LinesBack.{is_line, is_line-line, numbered_lines-ended}
use Rattle.msh_write.proofs.NodesBack.{numbers_from}
use Rattle.msh_write.proofs.RunsBack.{run, run-after, run-append}
use Rattle.msh_write.proofs.SectionsBack.{format-run, front_at, names-run, nodes-run}
use Rattle.msh_write.proofs.TextLines.{both_lengths, length-item_lines, item_lines-both}
use Rattle.msh_write.proofs.WordsBack.{decimal-is_word}

-- ---- each line stays as it is

section-lines : (name : List ℕ) (lines : List (List ℕ)) → is_line (codes "$" ++ name) ≡ true → is_line (codes "$End" ++ name) ≡ true → length lines < 2 ^ 64 → list_all is_line lines ≡ true
    → list_all is_line (counted_section name lines) ≡ true
section-lines name lines header end few good =
    and_from _ _ header (and_from _ _ (is_line-line (decimal (length lines)) [] (and_from _ _ (decimal-is_word (length lines) few) refl))
    (list_all-append is_line lines ((codes "$End" ++ name) ∷ []) ∙ and_from _ _ good (and_from _ _ end refl)))

item_lines-good : {X : Type 0} (line : ℕ → X → List ℕ) (good : X → Bool) (most : ℕ) → ((n : ℕ) (x : X) → 1 ≤ n → n ≤ most → good x ≡ true → is_line (line n x) ≡ true)
    → (first : ℕ) (items : List X) → 1 ≤ first → first + length items ≤ most + 1 → list_all good items ≡ true → list_all is_line (map (λ e. line e.0 e.1) (enumerate_from first items)) ≡ true
item_lines-good line good most each first [] low high all = refl
item_lines-good line good most each first (x ∷ items) low high all =
    let parts = and_parts (good x) (list_all good items) all in
    and_from _ _ (each first x low (omega arith) parts.0) (item_lines-good line good most each (first + 1) items (omega arith) (omega arith) parts.1)

named-good : (names : List GroupName) → list_all is_readable names ≡ true → list_all is_line (map name_line names) ≡ true
named-good [] all = refl
named-good (name ∷ names) all =
    let parts = and_parts (is_readable name) (list_all is_readable names) all in
    and_from _ _ (name-is_line name parts.0) (named-good names parts.1)

names-good : (names : List GroupName) → length names < 2 ^ 63 → list_all is_readable names ≡ true → list_all is_line (names_lines names) ≡ true
names-good [] few all = refl
names-good (name ∷ names) few all =
    section-lines (codes "PhysicalNames") (map name_line (name ∷ names)) refl refl (omega (arith, length-map (name ∷ names) name_line)) (named-good (name ∷ names) all)

nodes-good : (nodes : List Coordinates) → length nodes ≤ 2147483647 → list_all is_near_place nodes ≡ true → list_all is_line (counted_section (codes "Nodes") (item_lines node_line nodes)) ≡ true
nodes-good nodes few near =
    section-lines (codes "Nodes") (item_lines node_line nodes) refl refl (omega (arith, length-item_lines node_line nodes))
    (item_lines-good node_line is_near_place 2147483647 (λ n p low high ok. node-is_line n p low high ok) 1 nodes (omega arith) (omega arith) near)

-- ---- the names, which may have no section

abbrev header_of_names : List GroupName → List ℕ
header_of_names [] = codes "MeshFormat"
header_of_names (name ∷ names) = codes "PhysicalNames"

abbrev are_some : List GroupName → Bool
are_some [] = false
are_some (name ∷ names) = true

names-read : (names : List GroupName) → length names < 2 ^ 63 → list_all is_readable names ≡ true
    → run (front_at Outside (codes "MeshFormat") false false false [] [] [] [] []) (names_lines names) ≡ Ok (front_at Outside (header_of_names names) (are_some names) false false names [] [] [] [])
names-read [] few all = refl
names-read (name ∷ names) few all = names-run (name ∷ names) few all

module _ (names : List GroupName) (nodes : List Coordinates) (marks : List CellMark) (tets : List Tetrahedron) (few_names : length names < 2 ^ 63) (good_names : list_all is_readable names ≡ true) (some_nodes : 1 ≤ length nodes)
    (few_nodes : length nodes ≤ 2147483647) (near : list_all is_near_place nodes ≡ true) (some_tets : 1 ≤ length tets) (few_elements : length marks + length tets ≤ 2147483647)
    (good_marks : list_all (is_good_mark nodes) marks ≡ true) (good_tets : list_all (is_good_tet nodes) tets ≡ true) where
  elements-good : list_all is_line (item_lines (element_line nodes) (map (mark_element []) marks ++ map (tet_element []) tets)) ≡ true
  elements-good =
      ap (list_all is_line) (item_lines-both (element_line nodes) (mark_element []) (tet_element []) marks tets)
      ∙ list_all-append is_line (item_lines (λ n mark. element_line nodes n (mark_element [] mark)) marks) (item_lines (λ n tet. element_line nodes (length marks + n) (tet_element [] tet)) tets)
      ∙ and_from _ _
      (item_lines-good (λ n mark. element_line nodes n (mark_element [] mark)) (is_good_mark nodes) 2147483647 (λ n mark low high ok. mark-is_line nodes few_nodes n low high mark ok) 1 marks (omega arith) (omega arith) good_marks)
      (item_lines-good (λ n tet. element_line nodes (length marks + n) (tet_element [] tet)) (is_good_tet nodes) (length tets)
      (λ n tet low high ok. tet-is_line nodes few_nodes (length marks + n) (omega arith) (omega arith) tet ok) 1 tets (omega arith) (omega arith) good_tets)

  -- all lines of the text
  abbrev lines : List (List ℕ)
  lines = head_lines names nodes ++ counted_section (codes "Elements") (item_lines (element_line nodes) (map (mark_element []) marks ++ map (tet_element []) tets))

  abbrev last : Front
  last = front_at Outside (codes "Elements") (are_some names) true true names (numbers_from 1 (length nodes)) nodes (map (raw_mark nodes) marks) (map (raw_tet nodes) tets)

  lines-good : list_all is_line lines ≡ true
  lines-good =
      list_all-append is_line (head_lines names nodes) (counted_section (codes "Elements") (item_lines (element_line nodes) (map (mark_element []) marks ++ map (tet_element []) tets)))
      ∙ and_from _ _
      (list_all-append is_line (names_lines names) (counted_section (codes "Nodes") (item_lines node_line nodes)) ∙ and_from _ _ (names-good names few_names good_names) (nodes-good nodes few_nodes near))
      (section-lines (codes "Elements") (item_lines (element_line nodes) (map (mark_element []) marks ++ map (tet_element []) tets)) refl refl
      (omega (arith, length-item_lines (element_line nodes) (map (mark_element []) marks ++ map (tet_element []) tets), both_lengths (mark_element []) (tet_element []) marks tets)) elements-good)

  head_run : run nothing_read (head_lines names nodes) ≡ Ok (front_at Outside (codes "Nodes") (are_some names) true false names (numbers_from 1 (length nodes)) nodes [] [])
  head_run =
      run-append nothing_read _ _ format_lines (names_lines names ++ counted_section (codes "Nodes") (item_lines node_line nodes)) format-run
      (run-append _ _ _ (names_lines names) (counted_section (codes "Nodes") (item_lines node_line nodes)) (names-read names few_names good_names)
      (nodes-run (are_some names) names (header_of_names names) nodes some_nodes few_nodes near))

  lines-run : run nothing_read lines ≡ Ok last
  lines-run =
      run-append nothing_read _ _ (head_lines names nodes) (counted_section (codes "Elements") (item_lines (element_line nodes) (map (mark_element []) marks ++ map (tet_element []) tets))) head_run
      (elements-run (are_some names) names nodes few_nodes marks tets some_tets few_elements good_marks good_tets (codes "Nodes"))

  set_of_names : IsStrictlySortedBy name_cmp names → ascending_of name_cmp names ≡ names
  set_of_names rise = sym (is-ascending_of name_cmp_total name_cmp-IsAntisymmetric names names rise (λ q. refl))

  end-read : IsStrictlySortedBy name_cmp names → end_of last ≡ Ok (record { nodes = nodes; tets = map (raw_tet nodes) tets; marks = map (raw_mark nodes) marks; names = names })
  unfolding end_of
  end-read rise = rw (set_of_names rise) refl

  pub text-read : IsStrictlySortedBy name_cmp names → read_of (ended lines) ≡ Ok (record { nodes = nodes; tets = map (raw_tet nodes) tets; marks = map (raw_mark nodes) marks; names = names })
  unfolding read_by_lines
  text-read rise =
      read_of-by_lines (ended lines)
      ∙ ap (λ l. after nothing_read l >>= λ front. at_line (end_number (ended lines)) (end_of front)) (numbered_lines-ended lines lines-good)
      ∙ ap (λ r. r >>= λ front. at_line (end_number (ended lines)) (end_of front)) (run-after nothing_read last lines 1 lines-run)
      ∙ ap (at_line (end_number (ended lines))) (end-read rise)

-- The text of a mesh is read as the mesh.
use Rattle.std.proofs.Common.{◌≡◌, ℕ, zero, suc, ◌+◌, ◌<◌, ◌≤◌, true, not, cond, eqb, ◌&&◌, List, [], ◌∷◌, length, map, flat_map, get_or, None, Some, refl, sym, ap, ◌∙◌, arith, pos}
use Rattle.std.specs.List.{All, filter, list_all}
use Rattle.std.proofs.lemmas.Bool.{and_from, and_parts, eqb-true, le-leb, not-true}
use Rattle.std.proofs.lemmas.List.Elements.{All-filter, All-head, All-tail}
use Rattle.std.proofs.lemmas.List.Folds.{list_all-append}
use Rattle.std.proofs.lemmas.List.Sums.{list_all-from_AllPass}
use Rattle.ma_geom.specs.Coordinates.{Coordinates, IsInRange, limit, place_cmp}
use Rattle.ma_cells.specs.Ascending.{are_ascending, has}
use Rattle.ma_cells.specs.Cells.{CellMark, cell_of, cell_on, corners_of, is_cell, mark_on}
use Rattle.ma_cells.specs.Tetrahedron.{Tetrahedron, are_corners, is_flat, tetrahedron_of}
use Rattle.ma_cells.specs.declared.batch.Batch.{Batch}
use Rattle.ma_cells.specs.declared.cell.Cell.{Cell}
use Rattle.ma_cells.specs.declared.cell.Cell.TheVariants.{Point, Seg, Tri}
use Rattle.msh_read.specs.GroupNames.{GroupName}
use Rattle.msh_read.specs.Lines.{is_tag}
use Rattle.msh_read.specs.NameLines.{is_quote}
use Rattle.msh_read.specs.Reading.{read_of}
use Rattle.msh_read.proofs.Dimensions.{all_ascending}
use Rattle.ma_text.proofs.LineCuts.{is_feed}
use Rattle.msh_write.specs.ReadsBack.{AreReadable, IsReadable, RawIsMesh, ReadsBack, TextReadsBack, may_be_quoted, corners_at, positions_among, raw_mark, raw_tet}
use Rattle.msh_write.specs.Text.{is_tagged, mark_element, nodes_of, oriented, tet_element, text_of, text_with}
use Rattle.msh_write.proofs.ElementSectionBack.{cell-ascends, is_good_mark, is_good_tet}
use Rattle.msh_write.proofs.EntriesBack.{is_near_place, is_readable}
use Rattle.msh_write.proofs.NodesBack.{among, ascending-set, distinct-from_set, oriented-all, oriented-set}
use Rattle.msh_write.proofs.Numbering.{corners-there, marks-there}
use Rattle.msh_write.proofs.NumbersBack.{weaker}
use Rattle.msh_write.proofs.TextBack.{text-read}
use Rattle.msh_write.proofs.TextLines.{both_lengths}

-- ---- names

name-good : (names : List GroupName) → AreReadable names → list_all is_readable names ≡ true
name-good names ok =
    list_all-from_AllPass is_readable names
    (λ k d h. and_from _ _ (ok.dimensions k d h) (and_from _ _ (ok.numbers k d h)
    (and_from _ _ (weaker may_be_quoted (λ b. not (is_quote b)) (λ b t. (and_parts (not (eqb b 34)) (not (eqb b 10)) t).0) (get_or names k d).text (ok.texts k d h))
    (weaker may_be_quoted (λ b. not (is_feed b)) (λ b t. (and_parts (not (eqb b 34)) (not (eqb b 10)) t).1) (get_or names k d).text (ok.texts k d h)))))

-- ---- nodes

place-in_range : (p : Coordinates) → IsInRange p → is_near_place p ≡ true
place-in_range p r = and_from _ _ (le-leb _ limit r.x) (and_from _ _ (le-leb _ limit r.y) (le-leb _ limit r.z))

corners-in_range : (tets : List Tetrahedron) → All (λ tet. All IsInRange tet.corners) tets → list_all is_near_place (flat_map (λ tet. tet.corners) tets) ≡ true
corners-in_range [] near = refl
corners-in_range (tet ∷ tets) near =
    list_all-append is_near_place tet.corners (flat_map (λ t. t.corners) tets)
    ∙ and_from _ _ (list_all-from_AllPass is_near_place tet.corners (λ k d h. place-in_range (get_or tet.corners k d) (All-head (λ t. All IsInRange t.corners) tet tets near k d h)))
    (corners-in_range tets (All-tail (λ t. All IsInRange t.corners) tet tets near))

nodes-in_range : (tets : List Tetrahedron) → All (λ tet. All IsInRange tet.corners) tets → list_all is_near_place (nodes_of tets) ≡ true
nodes-in_range tets near = all_ascending place_cmp is_near_place (flat_map (λ tet. tet.corners) tets) (corners-in_range tets near)

same_at : (tets : List Tetrahedron) (k : ℕ) (d e : Tetrahedron) → k < length tets → get_or tets k d ≡ get_or tets k e
same_at [] k d e h = absurd (omega arith)
same_at (tet ∷ tets) zero d e h = refl
same_at (tet ∷ tets) (suc k) d e h = same_at tets k d e (omega arith)

all-there : (tets : List Tetrahedron) → All (λ tet. list_all (λ p. has place_cmp p (nodes_of tets)) tet.corners ≡ true) tets
all-there tets k d h =
    list_all-from_AllPass (λ p. has place_cmp p (nodes_of tets)) (get_or tets k d).corners (corners-there tets k (get_or tets k d) h (same_at tets k d (get_or tets k d) h))

tets-good : (mesh : Batch) → IsReadable mesh → list_all (is_good_tet (nodes_of mesh.tets)) mesh.tets ≡ true
tets-good mesh ok =
    list_all-from_AllPass (is_good_tet (nodes_of mesh.tets)) mesh.tets (λ k d h. and_from _ _ (ok.corners k d h) (and_from _ _ (ok.regions k d h) (all-there mesh.tets k d h)))

marks-good : (mesh : Batch) → IsReadable mesh → list_all (is_good_mark (nodes_of mesh.tets)) (filter is_tagged mesh.marks) ≡ true
marks-good mesh ok =
    let cells = All-filter is_tagged (λ mark. is_cell mark.cell ≡ true) mesh.marks ok.cells in
    let tags = All-filter is_tagged (λ mark. (is_tag mark.phys && is_tag mark.elem) ≡ true) mesh.marks ok.tags in
    let there = marks-there mesh.tets mesh.marks ok.on_tets in
    list_all-from_AllPass (is_good_mark (nodes_of mesh.tets)) (filter is_tagged mesh.marks)
    (λ k d h. and_from _ _ (cells k d h) (and_from _ _ (tags k d h) (list_all-from_AllPass (λ p. has place_cmp p (nodes_of mesh.tets)) (corners_of (get_or (filter is_tagged mesh.marks) k d).cell) (there k d h))))

-- a mesh with a tetrahedron has a node
some-nodes : (nodes : List Coordinates) (tets : List Tetrahedron) → 0 < length tets → list_all (is_good_tet nodes) tets ≡ true → 1 ≤ length nodes
some-nodes nodes [] some good = absurd (omega arith)
some-nodes nodes (tet ∷ tets) some good =
    let parts = and_parts (are_corners tet.corners) _ (and_parts (is_good_tet nodes tet) (list_all (is_good_tet nodes) tets) good).0 in
    first tet.corners parts.0 (and_parts (is_tag tet.phys && is_tag tet.elem) _ parts.1).1
  where
    first : (corners : List Coordinates) → are_corners corners ≡ true → list_all (λ p. has place_cmp p nodes) corners ≡ true → 1 ≤ length nodes
    first [] are there = absurd cc
    first (a ∷ corners) are there = let at = among nodes a (and_parts (has place_cmp a nodes) (list_all (λ p. has place_cmp p nodes) corners) there).0 in omega (arith, at.low, at.high)

pub text-reads_back : TextReadsBack
unfolding text_with
text-reads_back mesh names ok names_ok =
    let nodes : List Coordinates = nodes_of mesh.tets in
    let marks : List CellMark = filter is_tagged mesh.marks in
    let good = tets-good mesh ok in
    let few : length marks + length mesh.tets ≤ 2147483647 = omega (arith, ok.few_elements, both_lengths (mark_element []) (tet_element []) marks mesh.tets) in
    text-read names nodes marks mesh.tets names_ok.few (name-good names names_ok) (some-nodes nodes mesh.tets ok.some good) ok.few_nodes (nodes-in_range mesh.tets ok.in_range) ok.some few
    (marks-good mesh ok) good names_ok.rise

pub reads_back-from_text : (mesh : Batch) (names : List GroupName) (text : List ℕ) → text ≡ text_of mesh names → ReadsBack mesh names text
reads_back-from_text mesh names text is ok names_ok = ap read_of is ∙ text-reads_back mesh names ok names_ok

-- ---- what is read is the mesh again

places-again : (nodes places : List Coordinates) → list_all (λ p. has place_cmp p nodes) places ≡ true → corners_at nodes (positions_among nodes places) ≡ places
places-again nodes [] there = refl
places-again nodes (p ∷ places) there =
    let parts = and_parts (has place_cmp p nodes) (list_all (λ q. has place_cmp q nodes) places) there in
    rw ((among nodes p parts.0).there (record { x = pos 0; y = pos 0; z = pos 0 })) (ap (λ r. p ∷ r) (places-again nodes places parts.1))

tet-again : (nodes : List Coordinates) (tet : Tetrahedron) → is_good_tet nodes tet ≡ true → tetrahedron_of (corners_at nodes (positions_among nodes (oriented tet.corners))) tet.phys tet.elem ≡ Some tet
tet-again nodes tet good =
    let parts = and_parts (are_corners tet.corners) _ good in
    let ascends = and_parts (are_ascending place_cmp tet.corners) (not (is_flat tet.corners)) parts.0 in
    let there = oriented-all (λ p. has place_cmp p nodes) tet.corners ∙ (and_parts (is_tag tet.phys && is_tag tet.elem) _ parts.1).1 in
    ap (λ places. tetrahedron_of places tet.phys tet.elem) (places-again nodes (oriented tet.corners) there)
    ∙ ap (λ corners. cond (is_flat corners) None (Some (record { corners = corners; phys = tet.phys; elem = tet.elem }))) (sym (oriented-set tet.corners ascends.0))
    ∙ rw (not-true (is_flat tet.corners) ascends.1) refl

tets-again : (nodes : List Coordinates) (tets : List Tetrahedron) → list_all (is_good_tet nodes) tets ≡ true
    → map (λ tet. tetrahedron_of (corners_at nodes tet.at) tet.phys tet.elem) (map (raw_tet nodes) tets) ≡ map (λ tet. Some tet) tets
tets-again nodes [] good = refl
tets-again nodes (tet ∷ tets) good =
    let parts = and_parts (is_good_tet nodes tet) (list_all (is_good_tet nodes) tets) good in
    rw (tet-again nodes tet parts.0) (ap (λ r. Some tet ∷ r) (tets-again nodes tets parts.1))

cell-on-corners : (cell : Cell) → is_cell cell ≡ true → cell_on (corners_of cell) ≡ Some cell
cell-on-corners (Point p) h = refl
cell-on-corners (Seg []) h = absurd cc
cell-on-corners (Seg (a ∷ [])) h = absurd cc
cell-on-corners (Seg (a ∷ b ∷ [])) h = refl
cell-on-corners (Seg (a ∷ b ∷ c ∷ s)) h = absurd (omega (arith, eqb-true (length (a ∷ b ∷ c ∷ s)) 2 (and_parts (eqb (length (a ∷ b ∷ c ∷ s)) 2) _ h).0))
cell-on-corners (Tri []) h = absurd cc
cell-on-corners (Tri (a ∷ [])) h = absurd cc
cell-on-corners (Tri (a ∷ b ∷ [])) h = absurd cc
cell-on-corners (Tri (a ∷ b ∷ c ∷ [])) h = refl
cell-on-corners (Tri (a ∷ b ∷ c ∷ d ∷ t)) h = absurd (omega (arith, eqb-true (length (a ∷ b ∷ c ∷ d ∷ t)) 3 (and_parts (eqb (length (a ∷ b ∷ c ∷ d ∷ t)) 3) _ h).0))

cell-again : (cell : Cell) → is_cell cell ≡ true → cell_of (corners_of cell) ≡ Some cell
cell-again cell h =
    let set = ascending-set (corners_of cell) (cell-ascends cell h) in
    rw (distinct-from_set (corners_of cell) (corners_of cell) set refl) (ap cell_on (sym set) ∙ cell-on-corners cell h)

marks-again : (nodes : List Coordinates) (marks : List CellMark) → list_all (is_good_mark nodes) marks ≡ true
    → map (λ mark. mark_on (corners_at nodes mark.at.items) mark.phys mark.elem) (map (raw_mark nodes) marks) ≡ map (λ mark. Some mark) marks
marks-again nodes [] good = refl
marks-again nodes (mark ∷ marks) good =
    let parts = and_parts (is_good_mark nodes mark) (list_all (is_good_mark nodes) marks) good in
    let mark_parts = and_parts (is_cell mark.cell) _ parts.0 in
    let there = (and_parts (is_tag mark.phys && is_tag mark.elem) _ mark_parts.1).1 in
    rw (places-again nodes (corners_of mark.cell) there, cell-again mark.cell mark_parts.0) (ap (λ r. Some mark ∷ r) (marks-again nodes marks parts.1))

pub raw-is_mesh : RawIsMesh
raw-is_mesh mesh names ok = record {
  tets = tets-again (nodes_of mesh.tets) mesh.tets (tets-good mesh ok);
  marks = marks-again (nodes_of mesh.tets) (filter is_tagged mesh.marks) (marks-good mesh ok);
}

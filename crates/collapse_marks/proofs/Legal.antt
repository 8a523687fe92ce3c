-- A legal collapse in a sound mesh passes the tests of marks.
use Rattle.std.proofs.Common.{◌≡◌, ◌≢◌, ℕ, suc, Bool, true, false, not, ◌&&◌, ◌||◌, List, [], ◌∷◌, refl, sym, ap, ap₂, subst, ◌∙◌}
use Rattle.std.specs.Prelude.{pos}
use Rattle.std.specs.List.{AllByRecursion}
use Rattle.std.specs.Ordering.{eq_by_cmp}
use Rattle.std.proofs.lemmas.Bool.{and_parts, false≢true}
use Rattle.std.proofs.lemmas.List.Sorted.{IsPermutation-sym}
use Rattle.ma_geom.specs.Coordinates.{Coordinates, place_cmp}
use Rattle.ma_geom.specs.Lines.{collinear}
use Rattle.ma_geom.specs.Volume.{vol6}
use Rattle.ma_geom.proofs.Identities.{flat_in_any_order}
use Rattle.ma_cells.specs.Ascending.{are_distinct, has}
use Rattle.ma_cells.specs.Cells.{CellMark, corners_of, is_cell}
use Rattle.ma_cells.specs.Faces.{holds_all}
use Rattle.ma_cells.specs.Incidence.{is_on}
use Rattle.ma_cells.specs.Stars.{marks_at, star_of}
use Rattle.ma_cells.specs.Worst.{worst}
use Rattle.ma_cells.specs.Tetrahedron.{Tetrahedron, is_flat}
use Rattle.ma_cells.specs.declared.cell.Cell.{Cell}
use Rattle.ma_cells.specs.declared.cell.Cell.TheVariants.{Point, Seg, Tri}
use Rattle.ma_cells.proofs.Passing.{all-filter, all_pass, test_all}
use Rattle.ma_cells.proofs.Permutations.{edge_first, has-permutation, same, tied}
use Rattle.ma_cover.proofs.Anys.{any_and_all, any_gives, any_pass}
use Rattle.mesh_laws.proofs.Lists.{all_two}
use Rattle.mesh_laws.proofs.MovedOff.{bent}
use Rattle.mesh_laws.proofs.Sounds.{tetrahedra_not_flat}
use Rattle.mesh_laws.proofs.Weights.{by_four, some_c}
use Rattle.cavity_rank.specs.Verdicts.{first_failing, verdict_of}
use Rattle.cavity_rank.specs.declared.verdict.Verdict.{Verdict}
use Rattle.cavity_rank.specs.declared.verdict.Verdict.TheVariants.{Illegal, Legal}
use Rattle.cavity_collapse.specs.Collapsing.{collapsed}
use Rattle.cavity_collapse.specs.Judging.{collapse_tests}
use Rattle.collapse_marks.specs.Legal.{LegalCollapseKeepsClassification}
use Rattle.collapse_marks.specs.Marks.{is_bent, is_bent_cell}
use Rattle.collapse_marks.proofs.Corners.{distinct_three}
use Rattle.moved_cells.proofs.Moved.{eq_turned}
use Rattle.collapse_marks.proofs.At.{filter-distinct, moved_marks_keep_classification}
use Rattle.collapse_marks.proofs.Wings.{distinct_corners}

abbrev eq : Coordinates → Coordinates → Bool
eq = eq_by_cmp place_cmp

-- ---- what is legal passes all tests
is_legal : Verdict → Bool
is_legal (Legal n) = true
is_legal (Illegal n) = false

all_passed : (n w u : ℕ) (tests : List Bool) → verdict_of w (first_failing n tests) ≡ Legal u → AllByRecursion (λ b. b ≡ true) tests
unfolding is_legal
all_passed n w u [] h = tt
all_passed n w u (true ∷ tests) h = (refl, all_passed (suc n) w u tests h)
all_passed n w u (false ∷ tests) h = absurd (false≢true (ap is_legal h))

-- ---- marked triangles of tetrahedra don't lie on a line
bent_face : (p q r : Coordinates) → (eq p q ≡ false) × (eq p r ≡ false) × (eq q r ≡ false) → (corners : List Coordinates) → is_flat corners ≡ false → holds_all corners (p ∷ q ∷ r ∷ []) ≡ true → collinear p q r ≡ false
bent_face p q r (pq, pr, qr) = by_four (λ corners. holds_all corners (p ∷ q ∷ r ∷ []) ≡ true → collinear p q r ≡ false) (λ a b c d solid h.
    let held = and_parts (has place_cmp p (a ∷ b ∷ c ∷ d ∷ [])) (has place_cmp q (a ∷ b ∷ c ∷ d ∷ []) && (has place_cmp r (a ∷ b ∷ c ∷ d ∷ []) && true)) h in
    let more = and_parts (has place_cmp q (a ∷ b ∷ c ∷ d ∷ [])) (has place_cmp r (a ∷ b ∷ c ∷ d ∷ []) && true) held.1 in
    let last = (and_parts (has place_cmp r (a ∷ b ∷ c ∷ d ∷ [])) true more.1).0 in
    let first = edge_first p q (a ∷ b ∷ c ∷ d ∷ []) (λ e. false≢true (sym pq ∙ subst (λ t. eq p t ≡ true) e (tied p))) refl (both _ _ held.0 more.0) in
    let s = first.0 in
    let t = first.1 in
    let turned : vol6 p q s t ≢ pos 0 = λ e. solid (flat_in_any_order p q s t a b c d (IsPermutation-sym (a ∷ b ∷ c ∷ d ∷ []) (p ∷ q ∷ s ∷ t ∷ []) first.2) e) in
    third s t turned (eq r s) (eq r t) refl refl (sym (has-permutation r (a ∷ b ∷ c ∷ d ∷ []) (p ∷ q ∷ s ∷ t ∷ []) first.2) ∙ last))
  where
    both : (c d : Bool) → c ≡ true → d ≡ true → (c && (d && true)) ≡ true
    both c d e f = rw (e, f) refl

    third : (s t : Coordinates) → vol6 p q s t ≢ pos 0 → (c d : Bool) → eq r s ≡ c → eq r t ≡ d → (eq r p || (eq r q || (eq r s || (eq r t || false)))) ≡ true → collinear p q r ≡ false
    third s t solid true d e f h = bent p q r t (subst (λ u. vol6 p q u t ≢ pos 0) (sym (same r s e)) solid)
    third s t solid false true e f h = bent p q r s (some_c p q s r (subst (λ u. vol6 p q s u ≢ pos 0) (sym (same r t f)) solid))
    third s t solid false false e f h = absurd (false≢true (sym (ap₂ (λ u w. u || w) (eq_turned r p ∙ pr) (ap₂ (λ u w. u || w) (eq_turned r q ∙ qr) (ap₂ (λ u w. u || (w || false)) e f))) ∙ h))

bent_on : (cell : Cell) → is_cell cell ≡ true → (corners : List Coordinates) → is_flat corners ≡ false → holds_all corners (corners_of cell) ≡ true → is_bent_cell cell ≡ true
bent_on (Point p) h corners solid held = refl
bent_on (Seg s) h corners solid held = refl
bent_on (Tri t) h corners solid held = by t (distinct_corners t h) held
  where
    by : (t : List Coordinates) → are_distinct place_cmp t ≡ true → holds_all corners t ≡ true → is_bent t ≡ true
    by [] d held = refl
    by (p ∷ []) d held = refl
    by (p ∷ q ∷ []) d held = refl
    by (p ∷ q ∷ r ∷ []) d held = ap not (bent_face p q r (distinct_three p q r d) corners solid held)
    by (p ∷ q ∷ r ∷ s ∷ l) d held = refl

pub legal_collapse_keeps_classification : LegalCollapseKeepsClassification
legal_collapse_keeps_classification field mesh a v w sound distinct legal =
    let star = star_of (a ∷ []) mesh.tets in
    let tests = all_passed 1 (worst (collapsed a v star)) w (collapse_tests field star (marks_at (a ∷ []) mesh.marks) a v) legal in
    let at_a = λ (m : CellMark). holds_all (corners_of m.cell) (a ∷ []) in
    let are = all_pass (λ m. is_cell m.cell) mesh.marks sound.cells in
    let solid = tetrahedra_not_flat mesh.tets sound.tetrahedra in
    let on = all_pass (λ m. is_on mesh.tets m.cell) mesh.marks sound.sound.conforming.on_cells in
    let bent_all = all_two (λ (m : CellMark). is_cell m.cell ≡ true) (λ m. is_on mesh.tets m.cell ≡ true) (λ m. is_bent_cell m.cell ≡ true) (λ m cell there.
    any_gives (λ (tet : Tetrahedron). (is_flat tet.corners ≡ false) × (holds_all tet.corners (corners_of m.cell) ≡ true)) (λ tet both. bent_on m.cell cell tet.corners both.0 both.1) mesh.tets
    (any_and_all (λ (tet : Tetrahedron). is_flat tet.corners ≡ false) (λ tet. holds_all tet.corners (corners_of m.cell) ≡ true) mesh.tets solid (any_pass (λ (tet : Tetrahedron). holds_all tet.corners (corners_of m.cell)) mesh.tets there))) mesh.marks are on in
    moved_marks_keep_classification a v mesh.marks sound.cells (record {
      distinct = filter-distinct at_a mesh.marks distinct;
      bent = test_all (λ m. is_bent_cell m.cell) (marks_at (a ∷ []) mesh.marks) (all-filter (λ m. is_bent_cell m.cell ≡ true) at_a mesh.marks bent_all);
      points = tests.1.0;
      curves = tests.1.1.0;
      planes = tests.1.1.1.0;
      surfaces = tests.1.1.1.1.0;
      turns = tests.1.1.1.1.1.0;
    })

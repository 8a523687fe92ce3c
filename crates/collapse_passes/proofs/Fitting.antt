-- The chosen collapses fit together: none goes to the vertex of another, and each cell has one of the vertices at most.
use Rattle.std.proofs.Common.{◌≡◌, Bool, true, false, not, ◌&&◌, List, [], ◌∷◌, refl, sym, ap, ap₂, subst, ◌∙◌}
use Rattle.std.specs.Prelude.{ℕ, map}
use Rattle.std.specs.List.{AllByRecursion, list_any}
use Rattle.std.specs.List.Sorted.{IsPermutation}
use Rattle.std.specs.Ordering.{eq_by_cmp}
use Rattle.std.proofs.lemmas.Bool.{and_parts, false_from_ne_true, false≢true}
use Rattle.ma_geom.specs.Coordinates.{Coordinates, place_cmp}
use Rattle.ma_geom.proofs.PlaceOrder.{place_cmp-IsAntisymmetric}
use Rattle.ma_cells.specs.Ascending.{has}
use Rattle.ma_cells.specs.Cells.{CellMark, corners_of, is_cell}
use Rattle.ma_cells.specs.Faces.{holds_all}
use Rattle.ma_cells.specs.Incidence.{is_on}
use Rattle.ma_cells.specs.Stars.{marks_at, star_of}
use Rattle.ma_cells.specs.Tetrahedron.{Tetrahedron}
use Rattle.ma_cells.specs.Worst.{worst}
use Rattle.ma_cells.specs.declared.batch.Batch.{Batch}
use Rattle.ma_cells.proofs.Members.{at_member}
use Rattle.ma_cells.proofs.Passing.{all-filter, all_pass, all_weaker}
use Rattle.ma_cells.proofs.Permutations.{same as same_place}
use Rattle.mesh_laws.specs.Adapted.{IsSoundMesh}
use Rattle.mesh_laws.proofs.BothSides.{Pairs}
use Rattle.mesh_laws.proofs.Lists.{all_two}
use Rattle.size_marks.specs.Field.{Field, is_short}
use Rattle.cavity_rank.specs.Operations.{Operation}
use Rattle.cavity_rank.specs.Verdicts.{first_failing, verdict_of}
use Rattle.cavity_rank.specs.declared.verdict.Kind.TheVariants.{Collapse}
use Rattle.cavity_rank.specs.declared.verdict.Verdict.{Verdict}
use Rattle.cavity_rank.specs.declared.verdict.Verdict.TheVariants.{Illegal, Legal}
use Rattle.cavity_collapse.specs.Collapsing.{collapsed, is_same}
use Rattle.cavity_collapse.specs.Judging.{collapse_tests}
use Rattle.collapse_laws.proofs.Filling.{and_true}
use Rattle.collapse_laws.proofs.OnCells.{any_gives}
use Rattle.pass_rules.specs.Passes.{chosen}
use Rattle.collapse_passes.proofs.Chosen.{IsCollapse, ShareNone, are_collapses, share_none}
use Rattle.collapse_passes.proofs.Each.{all_unmap, pairs_each, pairs_unmap}
use Rattle.collapse_passes.proofs.Marking.{AreMarks, IsMark}
use Rattle.collapse_passes.proofs.Removals.{HasOne, Removal, operation, removal}
use Rattle.collapse_passes.proofs.Standing.{AllHaveOne}
use Rattle.collapse_passes.proofs.Turns.{AreClear, IsLegal}

-- that no tetrahedron has both vertices
abbrev AreApart : List Tetrahedron → Removal → Removal → Type 0
AreApart tets c d = AllByRecursion (λ (tet : Tetrahedron). has place_cmp c.at tet.corners ≡ true → has place_cmp d.at tet.corners ≡ false) tets

-- that collapses are legal in a mesh, and each two of them apart
pub record Fit (field : Field) (mesh : Batch) (cs : List Removal) : Type 0 where
  pub legal : AllByRecursion (IsLegal field mesh) cs
  pub apart : Pairs (AreApart mesh.tets) cs

-- ---- no vertex goes to one that is collapsed
abbrev first_test : List Bool → Bool
first_test [] = true
first_test (test ∷ tests) = test

first_passes : (worst w : ℕ) (tests : List Bool) → verdict_of worst (first_failing 1 tests) ≡ Legal w → first_test tests ≡ true
first_passes worst w [] h = refl
first_passes worst w (true ∷ tests) h = refl
first_passes worst w (false ∷ tests) h = absurd (false≢true (ap is_legal h))
  where
    is_legal : Verdict → Bool
    is_legal (Legal worst) = true
    is_legal (Illegal n) = false

module _ (field : Field) (mesh : Batch) where
  is_clear : (c d : Removal) → IsLegal field mesh c → AreApart mesh.tets c d → eq_by_cmp place_cmp d.at c.apex ≡ false
  is_clear c d legal apart =
      any_gives (λ (tet : Tetrahedron). holds_all tet.corners (c.at ∷ c.apex ∷ [])) (eq_by_cmp place_cmp d.at c.apex ≡ false) star
      (all-filter (λ (tet : Tetrahedron). holds_all tet.corners (c.at ∷ c.apex ∷ []) ≡ true → eq_by_cmp place_cmp d.at c.apex ≡ false) (λ tet. holds_all tet.corners (c.at ∷ [])) mesh.tets
      (all_weaker (λ (tet : Tetrahedron). has place_cmp c.at tet.corners ≡ true → has place_cmp d.at tet.corners ≡ false) (λ tet. holds_all tet.corners (c.at ∷ c.apex ∷ []) ≡ true → eq_by_cmp place_cmp d.at c.apex ≡ false) each mesh.tets apart))
      (and_parts (is_short field c.at c.apex) (list_any (λ (tet : Tetrahedron). holds_all tet.corners (c.at ∷ c.apex ∷ [])) star) short).1
    where
      star : List Tetrahedron
      star = star_of (c.at ∷ []) mesh.tets

      short : (is_short field c.at c.apex && list_any (λ (tet : Tetrahedron). holds_all tet.corners (c.at ∷ c.apex ∷ [])) (star_of (c.at ∷ []) mesh.tets)) ≡ true
      short =
          let tests = collapse_tests field (star_of (c.at ∷ []) mesh.tets) (marks_at (c.at ∷ []) mesh.marks) c.at c.apex in
          (and_parts (not (is_same c.at c.apex)) (is_short field c.at c.apex && list_any (λ (tet : Tetrahedron). holds_all tet.corners (c.at ∷ c.apex ∷ [])) (star_of (c.at ∷ []) mesh.tets))
          (first_passes (worst (collapsed c.at c.apex (star_of (c.at ∷ []) mesh.tets))) c.worst tests legal)).1

      each : (tet : Tetrahedron) → (has place_cmp c.at tet.corners ≡ true → has place_cmp d.at tet.corners ≡ false) → holds_all tet.corners (c.at ∷ c.apex ∷ []) ≡ true → eq_by_cmp place_cmp d.at c.apex ≡ false
      each tet k there =
          let parts = and_parts (has place_cmp c.at tet.corners) (has place_cmp c.apex tet.corners && true) there in
          false_from_ne_true (eq_by_cmp place_cmp d.at c.apex)
          (λ e. false≢true (sym (k parts.0) ∙ ap (λ p. has place_cmp p tet.corners) (same_place d.at c.apex e) ∙ (and_parts (has place_cmp c.apex tet.corners) true parts.1).0))

  pub are_clear : (cs : List Removal) → Fit field mesh cs → AreClear cs
  are_clear cs fit = by cs fit.legal fit.apart
    where
      by : (cs : List Removal) → AllByRecursion (IsLegal field mesh) cs → Pairs (AreApart mesh.tets) cs → AreClear cs
      by [] legal apart = tt
      by (c ∷ cs) legal apart = (all_weaker (AreApart mesh.tets c) (λ d. eq_by_cmp place_cmp d.at c.apex ≡ false) (λ d h. is_clear c d legal.0 h) cs apart.0, by cs legal.1 apart.1)

-- ---- cells have one of the vertices at most
pub some_have_one : (field : Field) (mesh : Batch) (cs : List Removal) → Fit field mesh cs → AllHaveOne cs mesh.tets
some_have_one field mesh cs fit = pairs_each (λ c d (tet : Tetrahedron). has place_cmp c.at tet.corners ≡ true → has place_cmp d.at tet.corners ≡ false) cs mesh.tets fit.apart

-- as do those cells of a tetrahedron
one_within : (cs : List Removal) (corners l : List Coordinates) → holds_all corners l ≡ true → HasOne cs corners → HasOne cs l
one_within [] corners l within one = tt
one_within (c ∷ cs) corners l within one = (
  all_weaker (λ d. has place_cmp c.at corners ≡ true → has place_cmp d.at corners ≡ false) (λ d. has place_cmp c.at l ≡ true → has place_cmp d.at l ≡ false)
      (λ d k e. false_from_ne_true (has place_cmp d.at l) (λ f. false≢true (sym (k (held c.at e)) ∙ held d.at f))) cs one.0,
  one_within cs corners l within one.1,
)
  where
    held : (p : Coordinates) → has place_cmp p l ≡ true → has place_cmp p corners ≡ true
    held p e = at_member place_cmp-IsAntisymmetric (λ x. has place_cmp x corners) p l within e

pub are_marks : (field : Field) (mesh : Batch) (cs : List Removal) → IsSoundMesh mesh → Fit field mesh cs → AreMarks cs mesh.marks
are_marks field mesh cs sound fit =
    all_two (λ (m : CellMark). is_cell m.cell ≡ true) (λ m. is_on mesh.tets m.cell ≡ true) (IsMark cs)
    (λ m is on. record {
      cell = is;
      one = any_gives (λ (tet : Tetrahedron). holds_all tet.corners (corners_of m.cell)) (HasOne cs (corners_of m.cell)) mesh.tets
          (all_weaker (λ (tet : Tetrahedron). HasOne cs tet.corners) (λ tet. holds_all tet.corners (corners_of m.cell) ≡ true → HasOne cs (corners_of m.cell))
          (λ tet one within. one_within cs tet.corners (corners_of m.cell) within one) mesh.tets (some_have_one field mesh cs fit)) on;
    }) mesh.marks (all_pass (λ (m : CellMark). is_cell m.cell) mesh.marks sound.cells) (all_pass (λ (m : CellMark). is_on mesh.tets m.cell) mesh.marks sound.sound.conforming.on_cells)

-- ---- the chosen operations
pub listed_again : (field : Field) (mesh : Batch) (ops : List Operation) → AllByRecursion (IsCollapse field mesh) ops → map operation (map removal ops) ≡ ops
listed_again field mesh [] are = refl
listed_again field mesh (op ∷ ops) are = ap₂ (λ o l. o ∷ l) (sym are.0.is) (listed_again field mesh ops are.1)

pub chosen_fit : (field : Field) (mesh : Batch) (ops : List Operation) → IsPermutation (chosen Collapse field mesh) ops → Fit field mesh (map removal ops)
chosen_fit field mesh ops moved =
    let are = are_collapses field mesh ops moved in
    let again = sym (listed_again field mesh ops are) in
    let cs = map removal ops in
    record {
      legal = all_weaker (λ c. IsCollapse field mesh (operation c)) (IsLegal field mesh) (λ c is. is.legal) cs (all_unmap (IsCollapse field mesh) operation cs (subst (AllByRecursion (IsCollapse field mesh)) again are));
      apart = weaker cs (pairs_unmap (ShareNone mesh.tets) operation cs (subst (Pairs (ShareNone mesh.tets)) again (share_none field mesh ops moved)));
    }
  where
    weaker : (cs : List Removal) → Pairs (λ c d. ShareNone mesh.tets (operation c) (operation d)) cs → Pairs (AreApart mesh.tets) cs
    weaker [] h = tt
    weaker (c ∷ cs) h = (
      all_weaker (λ d. ShareNone mesh.tets (operation c) (operation d)) (AreApart mesh.tets c)
          (λ d k. all_weaker (λ (tet : Tetrahedron). (has place_cmp c.at tet.corners && true) ≡ true → (has place_cmp d.at tet.corners && true) ≡ false)
          (λ tet. has place_cmp c.at tet.corners ≡ true → has place_cmp d.at tet.corners ≡ false) (λ tet f e. sym (and_true (has place_cmp d.at tet.corners)) ∙ f (ap (λ b. b && true) e)) mesh.tets k) cs h.0,
      weaker cs h.1,
    )

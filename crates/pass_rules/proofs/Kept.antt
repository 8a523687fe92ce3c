-- What holds of all corners of a mesh holds of those that a pass leaves.
use Rattle.std.proofs.Common.{◌≡◌, ℕ, Bool, true, false, not, ◌&&◌, cond, List, [], ◌∷◌, Option, Some, None, refl}
use Rattle.std.specs.Prelude.{ℤ}
use Rattle.std.specs.List.{AllByRecursion, flat_map, list_all}
use Rattle.std.proofs.lemmas.Bool.{and_from, and_parts}
use Rattle.std.specs.Option.{option_map, option_to_list}
use Rattle.ma_geom.specs.Coordinates.{Coordinates, place_cmp}
use Rattle.ma_geom.specs.Lines.{is_flat}
use Rattle.ma_geom.proofs.PlaceOrder.{place_cmp_total}
use Rattle.ma_cells.specs.Ascending.{are_ascending, are_distinct, ascending_of, has}
use Rattle.ma_cells.specs.Cells.{CellMark, cell_on, corners_of, mark_cmp, mark_on}
use Rattle.ma_cells.specs.Faces.{faces_of}
use Rattle.ma_cells.specs.Grid.{are_on_grid, is_on_grid, marks_are_on_grid}
use Rattle.ma_cells.specs.Stars.{besides, cone, star_of}
use Rattle.ma_cells.specs.Tetrahedron.{Tetrahedron, are_corners, tet_cmp}
use Rattle.ma_cells.specs.declared.batch.Batch.{Batch}
use Rattle.ma_cells.proofs.Ascents.{ascending_from_strict, sorted-ascending_of}
use Rattle.ma_cells.proofs.Choices.{all-append, all-choices}
use Rattle.ma_cells.proofs.Passing.{all-filter, all-flat_map, all_anyway, all_pass, all_weaker, test_all}
use Rattle.ma_cells.proofs.SetItems.{all-ascending_of}
use Rattle.size_marks.specs.Field.{Field}
use Rattle.cavity_rank.specs.Operations.{Operation, rank}
use Rattle.cavity_rank.specs.declared.verdict.Kind.{Kind}
use Rattle.cavity_collapse.specs.Collapsing.{is_same, moved_corners, moved_mark}
use Rattle.cavity_swap.specs.Swapping.{outer_faces, swapped}
use Rattle.pass_rules.specs.Keeping.{PassesAreNotFlat, PassesStayOnTheGrid}
use Rattle.pass_rules.specs.Moves.{legal_from, legal_operations, legal_within, operations_from, spots_of}
use Rattle.pass_rules.specs.Passes.{applied, changed_at, changed_by, chosen, filling, filling_at, passed}

-- P is what holds of corners, and Q what then holds of tetrahedra
module _ (P : Coordinates → Type 0) (Q : Tetrahedron → Type 0) (corners : (tet : Tetrahedron) → Q tet → AllByRecursion P tet.corners)
    (cones : (v : Coordinates) (phys elem : ℤ) (face : List Coordinates) → P v → AllByRecursion P face → AllByRecursion Q (cone v phys elem face)) where
  filled : (at : List Coordinates) (v : Coordinates) (star : List Tetrahedron) → P v → AllByRecursion Q star → AllByRecursion Q (filling_at at v star)
  filled at v star p all = by at
    where
      by_swap : (star : List Tetrahedron) → AllByRecursion Q star → AllByRecursion Q (swapped v star)
      by_swap [] h = tt
      by_swap (first ∷ rest) h = all-ascending_of tet_cmp Q _ (all-flat_map Q Q (λ tet. flat_map (cone v first.phys first.elem) (outer_faces (first ∷ rest) tet))
          (λ tet q. all-flat_map (AllByRecursion P) Q (cone v first.phys first.elem) (λ face h. cones v first.phys first.elem face p h) (outer_faces (first ∷ rest) tet)
          (all-filter (AllByRecursion P) _ (faces_of tet.corners) (all-choices P 3 tet.corners (corners tet q)))) (first ∷ rest) h)

      by : (at : List Coordinates) → AllByRecursion Q (filling_at at v star)
      by [] = by_swap star all
      by (a ∷ []) = all-ascending_of tet_cmp Q _ (all-flat_map Q Q (λ tet. cone v tet.phys tet.elem (besides (a ∷ []) tet.corners))
          (λ tet q. cones v tet.phys tet.elem _ p (all-filter P _ tet.corners (corners tet q))) star all)
      by (a ∷ b ∷ rest) = by_swap star all

  pub tets_kept : (ops : List Operation) (mesh : Batch) → AllByRecursion (λ op. P op.apex) ops → AllByRecursion Q mesh.tets → AllByRecursion Q (applied ops mesh).tets
  tets_kept ops mesh apexes all = all-ascending_of tet_cmp Q _ (all-append Q _ _ (all-filter Q _ mesh.tets all)
      (all-flat_map (λ (op : Operation). P op.apex) Q (filling mesh.tets) (λ op p. filled op.at op.apex (star_of op.at mesh.tets) p (all-filter Q _ mesh.tets all)) ops apexes))

  from_quality : (at : List Coordinates) (v : Coordinates) (quality : Option ℕ) → P v → AllByRecursion (λ op. P op.apex) (operations_from at v quality)
  from_quality at v None p = tt
  from_quality at v (Some n) p = (p, tt)

  pub apexes_kept : (kind : Kind) (field : Field) (mesh : Batch) → AllByRecursion Q mesh.tets → AllByRecursion (λ op. P op.apex) (chosen kind field mesh)
  apexes_kept kind field mesh all =
      let Holds = λ (op : Operation). P op.apex in
      all-filter Holds _ (legal_operations kind field mesh) (all-ascending_of rank Holds _ (all-flat_map Q Holds (legal_within kind field mesh)
      (λ tet q. all-flat_map (λ (at : List Coordinates). Unit {0}) Holds (λ at. flat_map (legal_from field mesh at) (besides at tet.corners))
      (λ at _. all-flat_map P Holds (legal_from field mesh at) (λ v p. from_quality at v _ p) (besides at tet.corners) (all-filter P _ tet.corners (corners tet q)))
      (spots_of kind tet.corners) (all_anyway (spots_of kind tet.corners))) mesh.tets all))

module _ (P : Coordinates → Type 0) where
  abbrev pub Within : CellMark → Type 0
  Within mark = AllByRecursion P (corners_of mark.cell)

  on_corners : (places : List Coordinates) (phys elem : ℤ) → AllByRecursion P places → AllByRecursion Within (option_to_list (mark_on places phys elem))
  on_corners places phys elem all =
      elim (are_distinct place_cmp places) as (λ b. AllByRecursion Within (option_to_list (option_map (λ cell. record { cell = cell; phys = phys; elem = elem }) (cond b (cell_on (ascending_of place_cmp places)) None)))) [
        | true ↦ by (ascending_of place_cmp places) (all-ascending_of place_cmp P places all)
        | false ↦ tt
      ]
    where
      by : (xs : List Coordinates) → AllByRecursion P xs → AllByRecursion Within (option_to_list (option_map (λ cell. record { cell = cell; phys = phys; elem = elem }) (cell_on xs)))
      by [] h = tt
      by (a ∷ []) h = (h, tt)
      by (a ∷ b ∷ []) h = (h, tt)
      by (a ∷ b ∷ c ∷ []) h = (h, tt)
      by (a ∷ b ∷ c ∷ d ∷ rest) h = tt

  moved : (a v : Coordinates) → P v → (places : List Coordinates) → AllByRecursion P places → AllByRecursion P (moved_corners a v places)
  moved a v p [] h = tt
  moved a v p (q ∷ places) h = (elim (is_same q a) as (λ b. P (cond b v q)) [ true ↦ p | false ↦ h.0 ], moved a v p places h.1)

  mark_kept : (ops : List Operation) → AllByRecursion (λ op. P op.apex) ops → (mark : CellMark) → Within mark → AllByRecursion Within (changed_by ops mark)
  mark_kept [] apexes mark h = (h, tt)
  mark_kept (op ∷ ops) apexes mark h = by op.at (mark_kept ops apexes.1 mark h)
    where
      by : (at : List Coordinates) → AllByRecursion Within (changed_by ops mark) → AllByRecursion Within (changed_at at op.apex mark (changed_by ops mark))
      by [] rest = rest
      by (a ∷ []) rest = elim (has place_cmp a (corners_of mark.cell)) as (λ b. AllByRecursion Within (cond b (moved_mark a op.apex mark) (changed_by ops mark))) [
        | true ↦ on_corners _ mark.phys mark.elem (moved a op.apex apexes.0 (corners_of mark.cell) h)
        | false ↦ rest
      ]
      by (a ∷ b ∷ more) rest = rest

  pub marks_kept : (ops : List Operation) (mesh : Batch) → AllByRecursion (λ op. P op.apex) ops → AllByRecursion Within mesh.marks → AllByRecursion Within (applied ops mesh).marks
  marks_kept ops mesh apexes all = all-ascending_of mark_cmp Within _ (all-flat_map Within Within (changed_by ops) (λ mark h. mark_kept ops apexes mark h) mesh.marks all)

-- ---- no tetrahedron is flat
both : (b c : Bool) → b ≡ true → c ≡ false → (b && not c) ≡ true
both b c e f = rw (e, f) refl

solid_cones : (v : Coordinates) (phys elem : ℤ) (face : List Coordinates) → AllByRecursion (λ (tet : Tetrahedron). are_corners tet.corners ≡ true) (cone v phys elem face)
solid_cones v phys elem face =
    let set = ascending_of place_cmp (v ∷ face) in
    elim (is_flat set) as (λ b. is_flat set ≡ b → AllByRecursion (λ (tet : Tetrahedron). are_corners tet.corners ≡ true) (option_to_list (cond b None (Some (record { corners = set; phys = phys; elem = elem }))))) [
      | true ↦ λ _. tt
      | false ↦ λ e. (both (are_ascending place_cmp set) (is_flat set) (ascending_from_strict place_cmp_total set (sorted-ascending_of place_cmp_total (v ∷ face))) e, tt)
    ] refl

pub passes_are_not_flat : PassesAreNotFlat
passes_are_not_flat kind field mesh are =
    let Solid = λ (tet : Tetrahedron). are_corners tet.corners ≡ true in
    let Any = λ (p : Coordinates). Unit {0} in
    let any = λ (tet : Tetrahedron) (q : Solid tet). all_anyway tet.corners in
    let cones = λ (v : Coordinates) (phys elem : ℤ) (face : List Coordinates) (p : Any v) (h : AllByRecursion Any face). solid_cones v phys elem face in
    let all = all_pass (λ (tet : Tetrahedron). are_corners tet.corners) mesh.tets are in
    test_all (λ (tet : Tetrahedron). are_corners tet.corners) (passed kind field mesh).tets
    (tets_kept Any Solid any cones (chosen kind field mesh) mesh (apexes_kept Any Solid any cones kind field mesh all) all)

-- ---- grids
module _ (k : ℕ) where
  abbrev OnGrid : Coordinates → Type 0
  OnGrid p = is_on_grid k p ≡ true

  abbrev AllOnGrid : Tetrahedron → Type 0
  AllOnGrid tet = AllByRecursion OnGrid tet.corners

  grid_cones : (v : Coordinates) (phys elem : ℤ) (face : List Coordinates) → OnGrid v → AllByRecursion OnGrid face → AllByRecursion AllOnGrid (cone v phys elem face)
  grid_cones v phys elem face p h =
      let set = ascending_of place_cmp (v ∷ face) in
      elim (is_flat set) as (λ b. AllByRecursion AllOnGrid (option_to_list (cond b None (Some (record { corners = set; phys = phys; elem = elem }))))) [
        | true ↦ tt
        | false ↦ (all-ascending_of place_cmp OnGrid (v ∷ face) (p, h), tt)
      ]

  to_grid : (tets : List Tetrahedron) → are_on_grid k tets ≡ true → AllByRecursion AllOnGrid tets
  to_grid tets h =
      all_weaker (λ (tet : Tetrahedron). list_all (is_on_grid k) tet.corners ≡ true) AllOnGrid (λ tet. all_pass (is_on_grid k) tet.corners) tets (all_pass (λ (tet : Tetrahedron). list_all (is_on_grid k) tet.corners) tets h)

  from_grid : (tets : List Tetrahedron) → AllByRecursion AllOnGrid tets → are_on_grid k tets ≡ true
  from_grid tets h =
      test_all (λ (tet : Tetrahedron). list_all (is_on_grid k) tet.corners) tets (all_weaker AllOnGrid (λ (tet : Tetrahedron). list_all (is_on_grid k) tet.corners ≡ true) (λ tet. test_all (is_on_grid k) tet.corners) tets h)

  marks_to_grid : (marks : List CellMark) → marks_are_on_grid k marks ≡ true → AllByRecursion (Within OnGrid) marks
  marks_to_grid marks h =
      all_weaker (λ (mark : CellMark). list_all (is_on_grid k) (corners_of mark.cell) ≡ true) (Within OnGrid) (λ mark. all_pass (is_on_grid k) (corners_of mark.cell)) marks
      (all_pass (λ (mark : CellMark). list_all (is_on_grid k) (corners_of mark.cell)) marks h)

  marks_from_grid : (marks : List CellMark) → AllByRecursion (Within OnGrid) marks → marks_are_on_grid k marks ≡ true
  marks_from_grid marks h =
      test_all (λ (mark : CellMark). list_all (is_on_grid k) (corners_of mark.cell)) marks
      (all_weaker (Within OnGrid) (λ (mark : CellMark). list_all (is_on_grid k) (corners_of mark.cell) ≡ true) (λ mark. test_all (is_on_grid k) (corners_of mark.cell)) marks h)

pub passes_stay_on_the_grid : PassesStayOnTheGrid
passes_stay_on_the_grid k kind field mesh h =
    let both = and_parts (are_on_grid k mesh.tets) (marks_are_on_grid k mesh.marks) h in
    let all = to_grid k mesh.tets both.0 in
    let ops = chosen kind field mesh in
    let corners = λ (tet : Tetrahedron) (q : AllOnGrid k tet). q in
    let apexes = apexes_kept (OnGrid k) (AllOnGrid k) corners (grid_cones k) kind field mesh all in
    and_from _ _ (from_grid k (passed kind field mesh).tets (tets_kept (OnGrid k) (AllOnGrid k) corners (grid_cones k) ops mesh apexes all))
    (marks_from_grid k (passed kind field mesh).marks (marks_kept (OnGrid k) ops mesh apexes (marks_to_grid k mesh.marks both.1)))

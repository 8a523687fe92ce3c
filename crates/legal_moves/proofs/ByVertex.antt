-- The legal collapses, vertex by vertex.
use Rattle.std.proofs.Common.{◌≡◌, Bool, true, false, not, ◌&&◌, ◌||◌, if◌then◌else◌, List, [], ◌∷◌, ◌++◌, drop, map, Some, refl, sym, ap, subst, ◌∙◌}
use Rattle.std.specs.Cmp.{tied_itself}
use Rattle.std.specs.List.{flat_map, list_any}
use Rattle.std.specs.Ordering.{eq_by_cmp, is_eq}
use Rattle.std.proofs.lemmas.Bool.{false≢true, and_from, and_parts}
use Rattle.std.proofs.lemmas.List.Folds.{flat_map-map}
use Rattle.ma_geom.specs.Coordinates.{Coordinates, place_cmp}
use Rattle.ma_geom.proofs.PlaceOrder.{place_cmp-IsAntisymmetric, place_cmp_total}
use Rattle.ma_cells.specs.Ascending.{ascending_of, has}
use Rattle.ma_cells.specs.Cells.{CellMark}
use Rattle.ma_cells.specs.Faces.{choices, holds_all}
use Rattle.ma_cells.specs.Stars.{marks_at, star_of}
use Rattle.ma_cells.specs.Worst.{worst}
use Rattle.ma_cells.specs.Tetrahedron.{Tetrahedron, tet_cmp}
use Rattle.ma_cells.specs.declared.batch.Batch.{Batch}
use Rattle.ma_cells.proofs.Ascents.{has-ascending_of}
use Rattle.ma_cells.proofs.CellOrders.{tet_cmp-IsAntisymmetric}
use Rattle.ma_cells.proofs.Members.{any-at, tied_is}
use Rattle.ma_cells.proofs.Passing.{any-map}
use Rattle.size_marks.specs.Field.{Field, is_short}
use Rattle.cavity_rank.specs.Operations.{Operation, rank}
use Rattle.cavity_rank.specs.Verdicts.{first_failing, verdict_of}
use Rattle.cavity_rank.specs.declared.verdict.Kind.TheVariants.{Collapse}
use Rattle.cavity_collapse.specs.Collapsing.{collapsed, is_same}
use Rattle.cavity_collapse.specs.Judging.{collapse_tests, legal_quality}
use Rattle.pass_rules.specs.Moves.{legal_from, legal_operations, operations_from, spots_of}
use Rattle.legal_moves.specs.Around.{legal_around, spot_cmp, vertices_of}
use Rattle.legal_moves.proofs.Around.{any-flat_map, found, legal_by_spots, spot_exact, spot_total}

abbrev alone : Coordinates → List Coordinates
alone p = p ∷ []

one_each : (ps : List Coordinates) → choices 1 ps ≡ map alone ps
one_each [] = refl
one_each (p ∷ ps) = ap (λ qs. (p ∷ []) ∷ qs) (one_each ps)

-- ---- what is among single places is one of them
as_one : (at : List Coordinates) (ps : List Coordinates) → has spot_cmp at (map alone ps) ≡ true → (a : Coordinates) × (has place_cmp a ps ≡ true) × (at ≡ a ∷ [])
as_one at ps h =
    let a = found place_cmp_total (λ p. eq_by_cmp spot_cmp at (alone p)) ps (sym (any-map (eq_by_cmp spot_cmp at) alone ps) ∙ h) in
    (a.0, a.1, tied_is spot_exact at (a.0 ∷ []) a.2)

from_one : (a : Coordinates) (ps : List Coordinates) → has place_cmp a ps ≡ true → has spot_cmp (a ∷ []) (map alone ps) ≡ true
from_one a ps there =
    any-map (eq_by_cmp spot_cmp (a ∷ [])) alone ps
    ∙ any-at place_cmp-IsAntisymmetric (λ p. eq_by_cmp spot_cmp (a ∷ []) (alone p)) a ps there (ap is_eq (tied_itself spot_total (a ∷ [])))

module _ (field : Field) (mesh : Batch) where
  theirs : (at : List Coordinates) (tet : Tetrahedron) → has spot_cmp at (map alone (vertices_of mesh.tets)) ≡ true → has tet_cmp tet mesh.tets ≡ true → holds_all tet.corners at ≡ true
      → has spot_cmp at (spots_of Collapse tet.corners) ≡ true
  theirs at tet there in_mesh holds =
      let a = as_one at (vertices_of mesh.tets) there in
      let corner : holds_all tet.corners (a.0 ∷ []) ≡ true = subst (λ xs. holds_all tet.corners xs ≡ true) a.2 holds in
      subst (λ xs. has spot_cmp xs (choices 1 tet.corners) ≡ true) (sym a.2)
      (ap (has spot_cmp (a.0 ∷ [])) (one_each tet.corners) ∙ from_one a.0 tet.corners (and_parts (has place_cmp a.0 tet.corners) true corner).0)

  corner_of : (at : List Coordinates) (tet : Tetrahedron) → has spot_cmp at (spots_of Collapse tet.corners) ≡ true → (a : Coordinates) × (has place_cmp a tet.corners ≡ true) × (at ≡ a ∷ [])
  corner_of at tet there = as_one at tet.corners (ap (has spot_cmp at) (sym (one_each tet.corners)) ∙ there)

  held : (at : List Coordinates) (tet : Tetrahedron) → has tet_cmp tet mesh.tets ≡ true → has spot_cmp at (spots_of Collapse tet.corners) ≡ true → holds_all tet.corners at ≡ true
  held at tet in_mesh there =
      let a = corner_of at tet there in subst (λ xs. holds_all tet.corners xs ≡ true) (sym a.2) (and_from _ _ a.1 refl)

  among : (at : List Coordinates) (v : Coordinates) (q : Operation) (tet : Tetrahedron) → has tet_cmp tet mesh.tets ≡ true → has spot_cmp at (spots_of Collapse tet.corners) ≡ true
      → has rank q (legal_from field mesh at v) ≡ true → has spot_cmp at (map alone (vertices_of mesh.tets)) ≡ true
  among at v q tet in_mesh there legal =
      let a = corner_of at tet there in
      let vertex : has place_cmp a.0 (vertices_of mesh.tets) ≡ true
      = has-ascending_of place_cmp_total a.0 (flat_map (λ t. t.corners) mesh.tets)
      ∙ any-flat_map (eq_by_cmp place_cmp a.0) (λ (t : Tetrahedron). t.corners) mesh.tets
      ∙ any-at tet_cmp-IsAntisymmetric (λ t. has place_cmp a.0 t.corners) tet mesh.tets in_mesh a.1 in
      subst (λ xs. has spot_cmp xs (map alone (vertices_of mesh.tets)) ≡ true) (sym a.2) (from_one a.0 (vertices_of mesh.tets) vertex)

  pub legal_by_vertices : ascending_of rank (flat_map (λ a. legal_around field mesh (a ∷ [])) (vertices_of mesh.tets)) ≡ legal_operations Collapse field mesh
  legal_by_vertices =
      ap (ascending_of rank) (sym (flat_map-map (legal_around field mesh) alone (vertices_of mesh.tets)))
      ∙ legal_by_spots Collapse field mesh (map alone (vertices_of mesh.tets)) theirs held among

  -- ---- along an edge that isn't short there is no collapse
  not_short : (a v : Coordinates) → is_short field a v ≡ false → legal_from field mesh (a ∷ []) v ≡ []
  not_short a v e =
      let star = star_of (a ∷ []) mesh.tets in
      let marks = marks_at (a ∷ []) mesh.marks in
      ap (λ test. operations_from (a ∷ []) v (legal_quality (verdict_of (worst (collapsed a v star)) (if test then first_failing 2 (later star marks a v) else Some 1)))) (fails (not (is_same a v)) (is_short field a v) (list_any (λ tet. holds_all tet.corners (a ∷ v ∷ [])) star) e)
    where
      fails : (x y z : Bool) → y ≡ false → (x && (y && z)) ≡ false
      fails true y z e = ap (λ b. b && z) e
      fails false y z e = refl

      later : List Tetrahedron → List CellMark → (a v : Coordinates) → List Bool
      later star marks a v = drop 1 (collapse_tests field star marks a v)

  pub none_is_short : (a : Coordinates) (ends : List Coordinates) → list_any (λ v. is_short field a v) ends ≡ false → flat_map (legal_from field mesh (a ∷ [])) ends ≡ []
  none_is_short a [] h = refl
  none_is_short a (v ∷ ends) h =
      let both = neither (is_short field a v) (list_any (λ w. is_short field a w) ends) h in
      ap (λ ops. ops ++ flat_map (legal_from field mesh (a ∷ [])) ends) (not_short a v both.0) ∙ none_is_short a ends both.1
    where
      neither : (x y : Bool) → (x || y) ≡ false → (x ≡ false) × (y ≡ false)
      neither true y h = absurd (false≢true (sym h))
      neither false y h = (refl, h)

-- The test of surfaces by their rims, and all tests by what is found once at a vertex.
use Rattle.std.proofs.Common.{◌≡◌, Bool, true, false, not, cond, ◌&&◌, ◌||◌, List, [], ◌∷◌, ◌++◌, Option, Some, None, refl, sym, ap, ◌∙◌}
use Rattle.std.proofs.Math.Bool.{and-true}
use Rattle.std.specs.List.{flat_map, list_all, list_any}
use Rattle.std.specs.Option.{option_to_list}
use Rattle.std.proofs.lemmas.Bool.{and_parts, false≢true}
use Rattle.ma_geom.specs.Coordinates.{Coordinates}
use Rattle.ma_geom.specs.Lines.{collinear}
use Rattle.ma_cells.specs.Cells.{CellMark}
use Rattle.ma_cells.specs.Faces.{holds_all}
use Rattle.ma_cells.specs.Tetrahedron.{Tetrahedron}
use Rattle.size_marks.specs.Field.{Field, is_short}
use Rattle.cavity_collapse.specs.Collapsing.{is_same}
use Rattle.cavity_collapse.specs.Curves.{curves_are_kept, is_free_point}
use Rattle.cavity_collapse.specs.Facing.{are_seen_from, facing_of}
use Rattle.cavity_collapse.specs.Judging.{edges_stay_short, faces_are_seen, is_short_edge}
use Rattle.cavity_collapse.specs.Rims.{rim_at, rims_across, rims_of}
use Rattle.cavity_collapse.specs.Steps.{lies_beyond}
use Rattle.cavity_collapse.specs.Surfaces.{across, are_on_both_sides, edge_is_kept, planes_are_kept, surfaces_are_kept, turns_are_kept, wings}
use Rattle.cavity_collapse.specs.declared.facing.SidedFace.{SidedFace}
use Rattle.cavity_collapse.proofs.Listed.{all_kept, all_listed, any_kept, any_listed}
use Rattle.cavity_collapse.proofs.Seen.{seen_by_faces}

pub both_by_steps : (marks : List CellMark) (a : Coordinates) (m : CellMark) (x y : Coordinates) → list_any (lies_beyond marks a x y m) marks ≡ are_on_both_sides a x y (wings marks a x y m)
both_by_steps marks a m x y = simp (any_kept, all_kept, any_listed, all_listed)

all-append : {Y : Type 0} (test : Y → Bool) (ys zs : List Y) → list_all test (ys ++ zs) ≡ (list_all test ys && list_all test zs)
all-append test [] zs = refl
all-append test (y ∷ ys) zs = ap (λ b. test y && b) (all-append test ys zs) ∙ joined (test y) (list_all test ys) (list_all test zs)
  where
    joined : (a b c : Bool) → (a && (b && c)) ≡ ((a && b) && c)
    joined true b c = refl
    joined false b c = refl

module _ (a v : Coordinates) where
  abbrev leads : Coordinates → Bool
  leads x = collinear a x v

  at_one : (marks : List CellMark) (m : CellMark) (x y : Coordinates) → list_all leads (rim_at marks a m x y) ≡ edge_is_kept marks a v m x y
  at_one marks m x y =
      elim (are_on_both_sides a x y (wings marks a x y m)) as (λ both. list_all leads (cond both [] (x ∷ [])) ≡ (collinear a x v || both)) [
        | true ↦ sym (or_true (collinear a x v))
        | false ↦ and_or (collinear a x v)
      ]
    where
      or_true : (on : Bool) → (on || true) ≡ true
      or_true true = refl
      or_true false = refl

      and_or : (on : Bool) → (on && true) ≡ (on || false)
      and_or true = refl
      and_or false = refl

  at_two : (marks : List CellMark) (m : CellMark) (ends : Option (Coordinates × Coordinates))
      → list_all leads (rims_across marks a m ends) ≡ list_all (λ rim. edge_is_kept marks a v m rim.0 rim.1 && edge_is_kept marks a v m rim.1 rim.0) (option_to_list ends)
  at_two marks m None = refl
  at_two marks m (Some ends) =
      all-append leads (rim_at marks a m ends.0 ends.1) (rim_at marks a m ends.1 ends.0)
      ∙ ap (λ b. b && list_all leads (rim_at marks a m ends.1 ends.0)) (at_one marks m ends.0 ends.1)
      ∙ ap (λ b. edge_is_kept marks a v m ends.0 ends.1 && b) (at_one marks m ends.1 ends.0) ∙ sym (and-true _)

  at_all : (marks left : List CellMark)
      → list_all leads (flat_map (λ m. rims_across marks a m (across a m.cell)) left) ≡ list_all (λ m. list_all (λ rim. edge_is_kept marks a v m rim.0 rim.1 && edge_is_kept marks a v m rim.1 rim.0) (option_to_list (across a m.cell))) left
  at_all marks [] = refl
  at_all marks (m ∷ left) =
      all-append leads (rims_across marks a m (across a m.cell)) (flat_map (λ m. rims_across marks a m (across a m.cell)) left)
      ∙ ap (λ b. b && list_all leads (flat_map (λ m. rims_across marks a m (across a m.cell)) left)) (at_two marks m (across a m.cell))
      ∙ ap (λ b. list_all (λ rim. edge_is_kept marks a v m rim.0 rim.1 && edge_is_kept marks a v m rim.1 rim.0) (option_to_list (across a m.cell)) && b) (at_all marks left)

pub along_rims : (marks : List CellMark) (a v : Coordinates) → list_all (λ x. collinear a x v) (rims_of marks a) ≡ surfaces_are_kept marks a v
along_rims marks a v = at_all a v marks marks

-- ---- the tests of a collapse by what is the same for all places that a may go to
regroup : (apart short edge first rest : Bool) → ((short && first) && ((apart && edge) && rest)) ≡ (((apart && (short && edge)) && first) && rest)
regroup true true true first rest = refl
regroup true true false true rest = refl
regroup true true false false rest = refl
regroup true false edge first rest = refl
regroup false true edge true rest = refl
regroup false true edge false rest = refl
regroup false false edge first rest = refl

last_of_four : (p q r s : Bool) → list_all (λ test. test) (p ∷ q ∷ r ∷ s ∷ []) ≡ true → s ≡ true
last_of_four true true true true h = refl
last_of_four true true true false h = absurd (false≢true h)
last_of_four true true false s h = absurd (false≢true h)
last_of_four true false r s h = absurd (false≢true h)
last_of_four false q r s h = absurd (false≢true h)

module _ (field : Field) (star : List Tetrahedron) (marks : List CellMark) (a v : Coordinates) where
  pub may_by_faces : (faces : List SidedFace) (rims : List Coordinates) (may : Bool) → faces ≡ facing_of star a → rims ≡ rims_of marks a
      → may ≡ (list_all (λ test. test) (is_short field a v ∷ is_free_point marks a ∷ planes_are_kept marks a v ∷ are_seen_from v faces ∷ [])
      && list_all (λ test. test) ((not (is_same a v) && list_any (λ tet. holds_all tet.corners (a ∷ v ∷ [])) star) ∷ curves_are_kept marks a v ∷ list_all (λ x. collinear a x v) rims ∷ turns_are_kept marks a v ∷ edges_stay_short field star a v ∷ []))
      → may ≡ (list_all (λ test. test) (is_short_edge field star a v ∷ is_free_point marks a ∷ planes_are_kept marks a v ∷ faces_are_seen star a v ∷ []) && list_all (λ test. test) (curves_are_kept marks a v ∷ surfaces_are_kept marks a v ∷ turns_are_kept marks a v ∷ edges_stay_short field star a v ∷ []))
  may_by_faces faces rims may f r m =
      let seen : are_seen_from v faces ≡ faces_are_seen star a v = ap (are_seen_from v) f ∙ seen_by_faces a v star in
      let along : list_all (λ x. collinear a x v) rims ≡ surfaces_are_kept marks a v = ap (list_all (λ x. collinear a x v)) r ∙ along_rims marks a v in
      m
      ∙ (λ i. list_all (λ test. test) (is_short field a v ∷ is_free_point marks a ∷ planes_are_kept marks a v ∷ seen i ∷ [])
      && list_all (λ test. test) ((not (is_same a v) && list_any (λ tet. holds_all tet.corners (a ∷ v ∷ [])) star) ∷ curves_are_kept marks a v ∷ along i ∷ turns_are_kept marks a v ∷ edges_stay_short field star a v ∷ []))
      ∙ regroup (not (is_same a v)) (is_short field a v) (list_any (λ tet. holds_all tet.corners (a ∷ v ∷ [])) star) (list_all (λ test. test) (is_free_point marks a ∷ planes_are_kept marks a v ∷ faces_are_seen star a v ∷ []))
      (list_all (λ test. test) (curves_are_kept marks a v ∷ surfaces_are_kept marks a v ∷ turns_are_kept marks a v ∷ edges_stay_short field star a v ∷ []))

  pub seen_if_may : (may : Bool)
      → may ≡ (list_all (λ test. test) (is_short_edge field star a v ∷ is_free_point marks a ∷ planes_are_kept marks a v ∷ faces_are_seen star a v ∷ []) && list_all (λ test. test) (curves_are_kept marks a v ∷ surfaces_are_kept marks a v ∷ turns_are_kept marks a v ∷ edges_stay_short field star a v ∷ []))
      → may ≡ true → faces_are_seen star a v ≡ true
  seen_if_may may m e =
      last_of_four (is_short_edge field star a v) (is_free_point marks a) (planes_are_kept marks a v) (faces_are_seen star a v)
      (and_parts (list_all (λ test. test) (is_short_edge field star a v ∷ is_free_point marks a ∷ planes_are_kept marks a v ∷ faces_are_seen star a v ∷ []))
      (list_all (λ test. test) (curves_are_kept marks a v ∷ surfaces_are_kept marks a v ∷ turns_are_kept marks a v ∷ edges_stay_short field star a v ∷ [])) (sym m ∙ e)).0

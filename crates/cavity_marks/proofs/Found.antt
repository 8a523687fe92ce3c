-- Items of lists that pass tests, and faces of tetrahedra.
use Rattle.std.proofs.Common.{◌≡◌, Bool, true, false, cond, ◌||◌, List, [], ◌∷◌, filter, length, ◌==◌, refl, sym, ap, ◌∙◌}
use Rattle.std.specs.List.{AllByRecursion, list_any}
use Rattle.std.proofs.lemmas.Bool.{and_from, false≢true, or_right}
use Rattle.ma_geom.specs.Coordinates.{Coordinates, place_cmp}
use Rattle.ma_geom.proofs.PlaceOrder.{place_cmp_total}
use Rattle.ma_cells.specs.Ascending.{are_ascending, has}
use Rattle.ma_cells.specs.Cells.{is_cell}
use Rattle.ma_cells.specs.Faces.{faces_of, holds_all}
use Rattle.ma_cells.specs.Tetrahedron.{are_corners}
use Rattle.ma_cells.specs.declared.cell.Cell.TheVariants.{Tri}
use Rattle.ma_cells.proofs.Choices.{all-choices, choices-ascend}
use Rattle.ma_cells.proofs.Corners.{corners_rise, corners_span}
use Rattle.ma_cells.proofs.Members.{all_members}
use Rattle.ma_cells.proofs.Passing.{all_pass, all_weaker, test_all}
use Rattle.mesh_laws.proofs.Lists.{all_two}
use Rattle.mesh_laws.proofs.Weights.{by_four}

-- ---- items that pass
-- a test that an item passes is passed in its list
pub each_is_found : {X : Type 0} (xs : List X) → AllByRecursion (λ x. (test : X → Bool) → test x ≡ true → list_any test xs ≡ true) xs
each_is_found [] = tt
each_is_found (x ∷ xs) = (
  λ test e. ap (λ b. b || list_any test xs) e,
  all_weaker (λ y. (test : _) → test y ≡ true → list_any test xs ≡ true) (λ y. (test : _) → test y ≡ true → list_any test (x ∷ xs) ≡ true)
      (λ y found test e. or_right (test x) (list_any test xs) (found test e)) xs (each_is_found xs),
)

-- a filter is the same after one that leaves all that it leaves
pub filter_after : {X : Type 0} (p q : X → Bool) (xs : List X) → AllByRecursion (λ x. p x ≡ true → q x ≡ true) xs → filter p (filter q xs) ≡ filter p xs
filter_after p q [] h = refl
filter_after p q (x ∷ xs) h = by (q x) (p x) refl h.0 (filter_after p q xs h.1)
  where
    by : (s t : Bool) → p x ≡ t → (p x ≡ true → s ≡ true) → filter p (filter q xs) ≡ filter p xs → filter p (cond s (x ∷ filter q xs) (filter q xs)) ≡ cond (p x) (x ∷ filter p xs) (filter p xs)
    by true t e k rest = ap (λ l. cond (p x) (x ∷ l) l) rest
    by false true e k rest = absurd (false≢true (k e))
    by false false e k rest = rest ∙ sym (ap (λ b. cond b (x ∷ filter p xs) (filter p xs)) e)

-- where all items pass, all are left
pub filter_all : {X : Type 0} (p : X → Bool) (xs : List X) → AllByRecursion (λ x. p x ≡ true) xs → filter p xs ≡ xs
filter_all p [] h = refl
filter_all p (x ∷ xs) h = ap (λ b. cond b (x ∷ filter p xs) (filter p xs)) h.0 ∙ ap (λ l. x ∷ l) (filter_all p xs h.1)

-- ---- faces
-- that places are the corners of a face of a tetrahedron
pub record IsFace (corners face : List Coordinates) : Type 0 where
  pub cell : is_cell (Tri face) ≡ true
  pub within : holds_all corners face ≡ true

pub faces_are : (corners : List Coordinates) → are_corners corners ≡ true → AllByRecursion (IsFace corners) (faces_of corners)
faces_are corners are =
    all_two (λ face. is_cell (Tri face) ≡ true) (λ face. AllByRecursion (λ p. has place_cmp p corners ≡ true) face) (IsFace corners)
    (λ face cell within. record { cell = cell; within = test_all (λ p. has place_cmp p corners) face within }) (faces_of corners)
    (all_two (λ face. length face == 3 ≡ true) (λ face. are_ascending place_cmp face ≡ true) (λ face. is_cell (Tri face) ≡ true)
    (λ face three rise. and_from (length face == 3) (are_ascending place_cmp face) three rise) (faces_of corners) three
    (all_pass (are_ascending place_cmp) (faces_of corners) (choices-ascend place_cmp_total 3 corners (corners_rise corners are))))
    (all-choices (λ p. has place_cmp p corners ≡ true) 3 corners (all_pass (λ p. has place_cmp p corners) corners (all_members place_cmp_total (λ p. has place_cmp p corners) corners (λ q there. there))))
  where
    three : AllByRecursion (λ face. length face == 3 ≡ true) (faces_of corners)
    three = by_four (λ c. AllByRecursion (λ face. length face == 3 ≡ true) (faces_of c)) (λ w x y z _. (refl, (refl, (refl, (refl, tt))))) corners (corners_span corners are)

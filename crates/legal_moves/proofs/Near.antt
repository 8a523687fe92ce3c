-- What is around an edge or a face, by what is at its first place.
use Rattle.std.proofs.Common.{◌≡◌, Bool, true, false, cond, ◌&&◌, ◌||◌, List, [], ◌∷◌, ◌++◌, filter, Option, Some, None, refl, sym, ap, subst, ◌∙◌}
use Rattle.std.specs.List.{flat_map, list_all, list_any}
use Rattle.std.proofs.lemmas.Bool.{and_from, false≢true}
use Rattle.ma_geom.specs.Coordinates.{Coordinates, place_cmp}
use Rattle.ma_geom.proofs.PlaceOrder.{place_cmp-IsAntisymmetric}
use Rattle.ma_cells.specs.Ascending.{has}
use Rattle.ma_cells.specs.Cells.{CellMark, corners_of}
use Rattle.ma_cells.specs.Faces.{holds_all}
use Rattle.ma_cells.specs.Stars.{marks_at, star_of}
use Rattle.ma_cells.specs.Tetrahedron.{Tetrahedron}
use Rattle.ma_cells.specs.declared.batch.Batch.{Batch}
use Rattle.ma_cells.proofs.Members.{tied_is}
use Rattle.cavity_swap.specs.Outer.{outer_of, sees}
use Rattle.cavity_swap.proofs.ByFaces.{unseen}
use Rattle.pass_rules.specs.Moves.{operations_from}
use Rattle.legal_moves.specs.Around.{AreAt, is_at, swaps_at}

-- those that pass a test among those that pass a weaker one
filter_within : {X : Type 0} (weak strong : X → Bool) → ((x : X) → weak x ≡ false → strong x ≡ false) → (xs : List X) → filter strong (filter weak xs) ≡ filter strong xs
filter_within weak strong weaker [] = refl
filter_within weak strong weaker (x ∷ xs) = by (filter_within weak strong weaker xs) (weak x) refl
  where
    by : filter strong (filter weak xs) ≡ filter strong xs → (b : Bool) → weak x ≡ b → filter strong (cond b (x ∷ filter weak xs) (filter weak xs)) ≡ cond (strong x) (x ∷ filter strong xs) (filter strong xs)
    by rest true e = ap (λ l. cond (strong x) (x ∷ l) l) rest
    by rest false e = rest ∙ ap (λ b. cond b (x ∷ filter strong xs) (filter strong xs)) (sym (weaker x e))

narrowed : (x rest : Bool) → (x && true) ≡ false → (x && rest) ≡ false
narrowed true rest e = absurd (false≢true (sym e))
narrowed false rest e = refl

module _ (a : Coordinates) (rest : List Coordinates) where
  pub star_within : (tets : List Tetrahedron) → star_of (a ∷ rest) (star_of (a ∷ []) tets) ≡ star_of (a ∷ rest) tets
  star_within = filter_within (λ (tet : Tetrahedron). holds_all tet.corners (a ∷ [])) (λ (tet : Tetrahedron). holds_all tet.corners (a ∷ rest)) (λ tet. narrowed (has place_cmp a tet.corners) (holds_all tet.corners rest))

  pub marks_within : (marks : List CellMark) → marks_at (a ∷ rest) (marks_at (a ∷ []) marks) ≡ marks_at (a ∷ rest) marks
  marks_within = filter_within (λ (mark : CellMark). holds_all (corners_of mark.cell) (a ∷ [])) (λ (mark : CellMark). holds_all (corners_of mark.cell) (a ∷ rest)) (λ mark. narrowed (has place_cmp a (corners_of mark.cell)) (holds_all (corners_of mark.cell) rest))

-- each tetrahedron around a vertex has it as a corner
pub all_have : (a : Coordinates) (tets : List Tetrahedron) → list_all (λ tet. has place_cmp a tet.corners) (star_of (a ∷ []) tets) ≡ true
all_have a [] = refl
all_have a (tet ∷ tets) =
    elim (has place_cmp a tet.corners) as (λ b. has place_cmp a tet.corners ≡ b → list_all (λ t. has place_cmp a t.corners) (cond (b && true) (tet ∷ star_of (a ∷ []) tets) (star_of (a ∷ []) tets)) ≡ true) [
      | true ↦ λ e. and_from _ _ e (all_have a tets)
      | false ↦ λ _. all_have a tets
    ] refl

-- what is at hand
pub at_hand : (mesh : Batch) (first : Option Coordinates) (a : Coordinates) (tets : List Tetrahedron) (marks : List CellMark) → is_at first a ≡ true → AreAt mesh first tets marks → (first ≡ Some a) × AreAt mesh (Some a) tets marks
at_hand mesh (Some p) a tets marks e at = let same : p ≡ a = tied_is place_cmp-IsAntisymmetric p a e in (ap Some same, subst (λ q. AreAt mesh (Some q) tets marks) same at)
at_hand mesh None a tets marks e at = absurd (false≢true e)

-- a cavity of which no place sees each outer face isn't swapped
module _ (star : List Tetrahedron) (marks : List CellMark) (at : List Coordinates) where
  pub none_sees : (apexes : List Coordinates) → list_any (sees (outer_of star)) apexes ≡ false → [] ≡ flat_map (swaps_at star marks at) apexes
  none_sees [] e = refl
  none_sees (v ∷ apexes) e =
      let both = neither (sees (outer_of star) v) (list_any (sees (outer_of star)) apexes) e in
      none_sees apexes both.1 ∙ ap (λ o. operations_from at v o ++ flat_map (swaps_at star marks at) apexes) (unseen star marks at v both.0)
    where
      neither : (x y : Bool) → (x || y) ≡ false → (x ≡ false) × (y ≡ false)
      neither true y h = absurd (false≢true (sym h))
      neither false y h = (refl, h)

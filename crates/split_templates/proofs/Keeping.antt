-- What holds of a cell, and of each half of a cell of which it holds, holds of all pieces.
use Rattle.std.proofs.Common.{◌≡◌, ◌≢◌, ℕ, true, false, ◌&&◌, List, [], ◌∷◌, length, eqb, inl, inr, refl, sym, ap, subst, ◌∙◌}
use Rattle.std.specs.List.{AllByRecursion, list_all}
use Rattle.std.proofs.lemmas.Bool.{eq-eqb}
use Rattle.ma_geom.specs.Coordinates.{Coordinates, place_cmp}
use Rattle.ma_geom.specs.Rational.{IsMiddle}
use Rattle.ma_geom.proofs.Identities.{IsMiddle-exchange}
use Rattle.ma_cells.specs.Ascending.{are_distinct, has}
use Rattle.ma_cells.specs.Bisection.{replaced}
use Rattle.ma_cells.specs.Faces.{holds_all}
use Rattle.ma_cells.proofs.Bisections.{holds_all-turned}
use Rattle.ma_cells.proofs.Choices.{all-append}
use Rattle.split_templates.specs.steps.Kept.{keeps_corners}
use Rattle.split_templates.specs.Pieces.{bisected_along}
use Rattle.split_templates.proofs.Counting.{IsFresh, IsSplit, split_or_whole}
use Rattle.split_templates.proofs.Cut.{pieces_of_halves, pieces_of_whole}

-- a property of cells with so many different corners that halves inherit, where no middle of an edge is a corner
pub record IsInherited (S : List Coordinates → Type 0) (size : ℕ) : Type 0 where
  pub count : (corners : List Coordinates) → S corners → length corners ≡ size
  pub distinct : (corners : List Coordinates) → S corners → are_distinct place_cmp corners ≡ true
  pub new : (a b m : Coordinates) (corners : List Coordinates) → S corners → holds_all corners (a ∷ b ∷ []) ≡ true → IsMiddle m a b → a ≢ b → has place_cmp m corners ≡ false
  pub half : (a b m : Coordinates) (corners : List Coordinates) → S corners → holds_all corners (a ∷ b ∷ []) ≡ true → IsMiddle m a b → a ≢ b → S (replaced a m corners)

module _ (S : List Coordinates → Type 0) (size : ℕ) (inherited : IsInherited S size) where
  two_halves : (a b : Coordinates) (corners : List Coordinates) → a ≢ b → S corners → (s : IsSplit a b corners) → S (replaced a s.m corners) × S (replaced b s.m corners)
  two_halves a b corners differ h s = (
    inherited.half a b s.m corners h s.there s.middle differ,
    inherited.half b a s.m corners h (holds_all-turned corners b a ∙ s.there) (IsMiddle-exchange s.m a b s.middle) (λ e. differ (sym e)),
  )

  as_many : (p q : List Coordinates) → S p → S q → eqb (length p) (length q) ≡ true
  as_many p q h k = eq-eqb (length p) (length q) (inherited.count p h ∙ sym (inherited.count q k))

  pub inherited_kept : (own : List Coordinates) (edges : List (List Coordinates)) → AllByRecursion (IsFresh own) edges → (corners : List Coordinates) → S corners
      → keeps_corners edges corners ≡ true
  inherited_kept own [] fresh corners h = refl
  inherited_kept own (edge ∷ edges) fresh corners h =
      let f = fresh.0 in
      let rest = inherited_kept own edges fresh.1 in
      let test = λ (half : List Coordinates). eqb (length half) (length corners) && keeps_corners edges half in
      subst (λ e. keeps_corners (e ∷ edges) corners ≡ true) (sym f.is) (elim (split_or_whole f.a f.b corners) [
        | inl whole ↦ ap (list_all test) whole ∙ rw (as_many corners corners h h, rest corners h) refl
        | inr s ↦
            let two = two_halves f.a f.b corners f.differ h s in
            ap (list_all test) s.halved
            ∙ rw (as_many (replaced f.a s.m corners) corners two.0 h, rest (replaced f.a s.m corners) two.0, as_many (replaced f.b s.m corners) corners two.1 h, rest (replaced f.b s.m corners) two.1) refl
      ])

  pub inherited_by_all : (own : List Coordinates) (edges : List (List Coordinates)) → AllByRecursion (IsFresh own) edges → (corners : List Coordinates) → S corners
      → AllByRecursion S (bisected_along edges (corners ∷ []))
  inherited_by_all own [] fresh corners h = (h, tt)
  inherited_by_all own (edge ∷ edges) fresh corners h =
      let f = fresh.0 in
      let rest = inherited_by_all own edges fresh.1 in
      subst (λ e. AllByRecursion S (bisected_along (e ∷ edges) (corners ∷ []))) (sym f.is) (elim (split_or_whole f.a f.b corners) [
        | inl whole ↦ subst (AllByRecursion S) (sym (pieces_of_whole (f.a ∷ f.b ∷ []) edges corners whole)) (rest corners h)
        | inr s ↦
            let two = two_halves f.a f.b corners f.differ h s in
            let p = replaced f.a s.m corners in
            let q = replaced f.b s.m corners in
            subst (AllByRecursion S) (sym (pieces_of_halves (f.a ∷ f.b ∷ []) edges corners p q s.halved))
            (all-append S (bisected_along edges (p ∷ [])) (bisected_along edges (q ∷ [])) (rest p two.0) (rest q two.1))
      ])

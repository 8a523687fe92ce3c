-- Lists that are put together item by item, as sets: an item that is there already is left out.
use Rattle.std.proofs.Common.{◌≡◌, ℕ, ◌+◌, ◌<◌, ◌≤◌, Bool, true, false, not, cond, ◌||◌, List, [], ◌∷◌, ◌++◌, length, get_or, drop, take, drop_of_length-le, append_assoc, refl, sym, ap, subst, ◌∙◌}
use Rattle.std.specs.Cmp.{IsTotalOrder}
use Rattle.std.specs.FinMap.{IsAntisymmetric}
use Rattle.std.specs.List.{flat_map}
use Rattle.std.specs.Ordering.{eq_by_cmp}
use Rattle.std.specs.declared.cmp.Ordering.{Ordering}
use Rattle.std.proofs.lemmas.Bool.{false≢true, or_right}
use Rattle.std.proofs.lemmas.List.{append-nil, drop_more, take-append-drop}
use Rattle.std.proofs.lemmas.List.Folds.{list_any-append}
use Rattle.ma_geom.specs.Coordinates.{Coordinates, place_cmp}
use Rattle.ma_geom.proofs.PlaceOrder.{place_cmp-IsAntisymmetric, place_cmp_total}
use Rattle.ma_cells.specs.Ascending.{ascending_of, has}
use Rattle.ma_cells.specs.Stars.{besides}
use Rattle.ma_cells.proofs.Ascents.{has-ascending_of, is-ascending_of, sorted-ascending_of}
use Rattle.ma_cells.proofs.Members.{tied_is}

module _ {K : Type 0} {R : K → K → Ordering} (o : IsTotalOrder R) (exact : IsAntisymmetric R) where
  by_members : (xs ys : List K) → ((q : K) → has R q xs ≡ has R q ys) → ascending_of R xs ≡ ascending_of R ys
  by_members xs ys alike = is-ascending_of o exact (ascending_of R xs) ys (sorted-ascending_of o xs) (λ q. has-ascending_of o q xs ∙ alike q)

  joined : (xs ys zs : List K) → ascending_of R xs ≡ ascending_of R ys → ascending_of R (xs ++ zs) ≡ ascending_of R (ys ++ zs)
  joined xs ys zs e =
      by_members (xs ++ zs) (ys ++ zs) (λ q.
      list_any-append (eq_by_cmp R q) xs zs ∙ ap (λ b. b || has R q zs) (sym (has-ascending_of o q xs) ∙ ap (has R q) e ∙ has-ascending_of o q ys) ∙ sym (list_any-append (eq_by_cmp R q) ys zs))

  -- an item that is there already
  pub known : (x : K) (xs : List K) → has R x xs ≡ true → ascending_of R xs ≡ ascending_of R (xs ++ x ∷ [])
  known x xs there =
      by_members xs (xs ++ x ∷ []) (λ q.
      both (eq_by_cmp R q x) (has R q xs) (λ t. subst (λ y. has R y xs ≡ true) (sym (tied_is exact q x t)) there) ∙ sym (list_any-append (eq_by_cmp R q) xs (x ∷ [])))
    where
      both : (t h : Bool) → (t ≡ true → h ≡ true) → h ≡ (h || (t || false))
      both true h k = k refl ∙ sym (ap (λ b. b || true) (k refl))
      both false true k = refl
      both false false k = refl

  module _ {X : Type 0} (f : X → List K) (xs : List X) where
    pub one_joined : (i : ℕ) (x : X) (before now wanted : List K) → i < length xs → x ≡ get_or xs i x → ascending_of R now ≡ ascending_of R (before ++ f x)
        → ascending_of R (before ++ flat_map f (drop i xs)) ≡ wanted → ascending_of R (now ++ flat_map f (drop (i + 1) xs)) ≡ wanted
    one_joined i x before now wanted within is e all =
        joined now (before ++ f x) (flat_map f (drop (i + 1) xs)) e
        ∙ ap (ascending_of R) (append_assoc before (f x) (flat_map f (drop (i + 1) xs)) ∙ ap (λ l. before ++ flat_map f l) (sym (drop_more xs i x within ∙ ap (λ y. y ∷ drop (i + 1) xs) (sym is)))) ∙ all

    pub all_joined : (i : ℕ) (now wanted : List K) → length xs ≤ i → ascending_of R (now ++ flat_map f (drop i xs)) ≡ wanted → ascending_of R now ≡ wanted
    all_joined i now wanted over e = ap (ascending_of R) (sym (append-nil now) ∙ ap (λ l. now ++ flat_map f l) (sym (drop_of_length-le xs over))) ∙ e

-- ---- the corners besides some places
module _ (at : List Coordinates) where
  abbrev pub unless_at : Coordinates → List Coordinates
  unless_at p = besides at (p ∷ [])

  pub besides_each : (corners : List Coordinates) → flat_map unless_at corners ≡ besides at corners
  besides_each [] = refl
  besides_each (p ∷ corners) =
      elim (has place_cmp p at) as (λ b. cond (not b) (p ∷ []) [] ++ flat_map unless_at corners ≡ cond (not b) (p ∷ besides at corners) (besides at corners)) [
        | true ↦ besides_each corners
        | false ↦ ap (λ l. p ∷ l) (besides_each corners)
      ]

  -- a place that is among them, or there already, is left out
  pub not_pushed : (p : Coordinates) (places : List Coordinates) → (has place_cmp p at || has place_cmp p places) ≡ true → ascending_of place_cmp places ≡ ascending_of place_cmp (places ++ unless_at p)
  not_pushed p places h =
      elim (has place_cmp p at) as (λ b. (b || has place_cmp p places) ≡ true → ascending_of place_cmp places ≡ ascending_of place_cmp (places ++ cond (not b) (p ∷ []) [])) [
        | true ↦ λ _. ap (ascending_of place_cmp) (sym (append-nil places))
        | false ↦ λ there. known place_cmp_total place_cmp-IsAntisymmetric p places there
      ] h

  -- and one that isn't among them may be pushed again
  pub pushed : (p : Coordinates) (places now : List Coordinates) (known : Bool) → (has place_cmp p at ≡ true → known ≡ true) → known ≡ false → now ≡ places ++ p ∷ [] → ascending_of place_cmp now ≡ ascending_of place_cmp (places ++ unless_at p)
  pushed p places now known among unknown e =
      elim (has place_cmp p at) as (λ b. (b ≡ true → known ≡ true) → ascending_of place_cmp now ≡ ascending_of place_cmp (places ++ cond (not b) (p ∷ []) [])) [
        | true ↦ λ k. absurd (false≢true (sym unknown ∙ k refl))
        | false ↦ λ _. ap (ascending_of place_cmp) e
      ] among

-- ---- what is among the last items is among all
pub among_last : (p : Coordinates) (places : List Coordinates) (from : ℕ) → has place_cmp p (drop from places) ≡ true → has place_cmp p places ≡ true
among_last p places from there =
    ap (has place_cmp p) (sym (take-append-drop from places)) ∙ list_any-append (eq_by_cmp place_cmp p) (take from places) (drop from places) ∙ or_right (has place_cmp p (take from places)) (has place_cmp p (drop from places)) there

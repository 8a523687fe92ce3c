-- What holds of all choices of three from a list, in whatever order they are listed, holds of any three different places in it.
use Rattle.std.proofs.Common.{◌≡◌, ◌≢◌, true, false, ◌||◌, List, [], ◌∷◌, ◌++◌, refl, sym, subst, ◌∙◌}
use Rattle.std.specs.Prelude.{map}
use Rattle.std.specs.List.{AllByRecursion}
use Rattle.std.proofs.lemmas.Bool.{false≢true}
use Rattle.std.specs.Ordering.{eq_by_cmp}
use Rattle.ma_geom.specs.Coordinates.{Coordinates, place_cmp}
use Rattle.ma_geom.proofs.PlaceOrder.{place_cmp-IsAntisymmetric}
use Rattle.ma_cells.specs.Ascending.{has}
use Rattle.ma_cells.specs.Faces.{choices}
use Rattle.ma_cells.proofs.Members.{all-at}
use Rattle.ma_cells.proofs.Permutations.{same}

split : {X : Type 0} (P : X → Type 0) (xs ys : List X) → AllByRecursion P (xs ++ ys) → AllByRecursion P xs × AllByRecursion P ys
split P [] ys h = (tt, h)
split P (x ∷ xs) ys h = let rest = split P xs ys h.1 in ((h.0, rest.0), rest.1)

unmapped : {X Y : Type 0} (P : Y → Type 0) (f : X → Y) (xs : List X) → AllByRecursion P (map f xs) → AllByRecursion (λ x. P (f x)) xs
unmapped P f [] h = tt
unmapped P f (x ∷ xs) h = (h.0, unmapped P f xs h.1)

-- a place in a list is its first or in the rest
is_or_rest : (P : Type 0) (p x : Coordinates) (xs : List Coordinates) → has place_cmp p (x ∷ xs) ≡ true → (p ≡ x → P) → (has place_cmp p xs ≡ true → P) → P
is_or_rest P p x xs there first later =
    elim (eq_by_cmp place_cmp p x) as (λ b. eq_by_cmp place_cmp p x ≡ b → (b || has place_cmp p xs) ≡ true → P) [
      | true ↦ λ e _. first (same p x e)
      | false ↦ λ _ h. later h
    ] refl there

-- a place other than the first is in the rest
in_tail : (p x : Coordinates) (xs : List Coordinates) → p ≢ x → has place_cmp p (x ∷ xs) ≡ true → has place_cmp p xs ≡ true
in_tail p x xs differ there = is_or_rest (has place_cmp p xs ≡ true) p x xs there (λ e. absurd (differ e)) (λ h. h)

-- ---- one place
singles : (P : List Coordinates → Type 0) (xs : List Coordinates) → AllByRecursion P (choices 1 xs) → AllByRecursion (λ x. P (x ∷ [])) xs
singles P [] h = tt
singles P (x ∷ xs) h = (h.0, singles P xs h.1)

-- ---- two places
module _ (P : List Coordinates → Type 0) (turn : (a b : Coordinates) → P (a ∷ b ∷ []) → P (b ∷ a ∷ [])) (p q : Coordinates) (differ : p ≢ q) where
  with_first : (x q : Coordinates) (xs : List Coordinates) → AllByRecursion P (map (λ l. x ∷ l) (choices 1 xs)) → has place_cmp q xs ≡ true → P (x ∷ q ∷ [])
  with_first x q xs h there = all-at place_cmp-IsAntisymmetric (λ q. P (x ∷ q ∷ [])) q xs (singles (λ l. P (x ∷ l)) xs (unmapped P (λ l. x ∷ l) (choices 1 xs) h)) there

  pub any_two : (xs : List Coordinates) → AllByRecursion P (choices 2 xs) → has place_cmp p xs ≡ true → has place_cmp q xs ≡ true → P (p ∷ q ∷ [])
  any_two [] h first second = absurd (false≢true first)
  any_two (x ∷ xs) h first second =
      let parts = split P (map (λ l. x ∷ l) (choices 1 xs)) (choices 2 xs) h in
      is_or_rest (P (p ∷ q ∷ [])) p x xs first
      (λ e. subst (λ y. P (y ∷ q ∷ [])) (sym e) (with_first x q xs parts.0 (in_tail q x xs (λ k. differ (e ∙ sym k)) second)))
      (λ p_later. is_or_rest (P (p ∷ q ∷ [])) q x xs second
      (λ e. subst (λ y. P (p ∷ y ∷ [])) (sym e) (turn x p (with_first x p xs parts.0 p_later)))
      (λ q_later. any_two xs parts.1 p_later q_later))

-- ---- three places
module _ (P : List Coordinates → Type 0)
    (ab : (a b c : Coordinates) → P (a ∷ b ∷ c ∷ []) → P (b ∷ a ∷ c ∷ []))
    (bc : (a b c : Coordinates) → P (a ∷ b ∷ c ∷ []) → P (a ∷ c ∷ b ∷ []))
    (p q r : Coordinates) (pq : p ≢ q) (pr : p ≢ r) (qr : q ≢ r) where
  pair_with : (x a b : Coordinates) → a ≢ b → (xs : List Coordinates) → AllByRecursion P (map (λ l. x ∷ l) (choices 2 xs)) → has place_cmp a xs ≡ true → has place_cmp b xs ≡ true → P (x ∷ a ∷ b ∷ [])
  pair_with x a b differ xs h first second = any_two (λ l. P (x ∷ l)) (bc x) a b differ xs (unmapped P (λ l. x ∷ l) (choices 2 xs) h) first second

  pub any_three : (xs : List Coordinates) → AllByRecursion P (choices 3 xs) → has place_cmp p xs ≡ true → has place_cmp q xs ≡ true → has place_cmp r xs ≡ true → P (p ∷ q ∷ r ∷ [])
  any_three [] h first second third = absurd (false≢true first)
  any_three (x ∷ xs) h first second third =
      let parts = split P (map (λ l. x ∷ l) (choices 2 xs)) (choices 3 xs) h in
      is_or_rest (P (p ∷ q ∷ r ∷ [])) p x xs first
      (λ e. subst (λ y. P (y ∷ q ∷ r ∷ [])) (sym e) (pair_with x q r qr xs parts.0 (in_tail q x xs (λ k. pq (e ∙ sym k)) second) (in_tail r x xs (λ k. pr (e ∙ sym k)) third)))
      (λ p_later. is_or_rest (P (p ∷ q ∷ r ∷ [])) q x xs second
      (λ e. subst (λ y. P (p ∷ y ∷ r ∷ [])) (sym e) (ab x p r (pair_with x p r pr xs parts.0 p_later (in_tail r x xs (λ k. qr (e ∙ sym k)) third))))
      (λ q_later. is_or_rest (P (p ∷ q ∷ r ∷ [])) r x xs third
      (λ e. subst (λ y. P (p ∷ q ∷ y ∷ [])) (sym e) (bc p x q (ab x p q (pair_with x p q pq xs parts.0 p_later q_later))))
      (λ r_later. any_three xs parts.1 p_later q_later r_later)))

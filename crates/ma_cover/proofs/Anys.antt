-- What holds of an item of a list, of one that items give, and of one of a set.
use Rattle.std.proofs.Common.{◌≡◌, refl, ◌⊎◌, inl, inr, ⊎_elim, Bool, true, false, cond, ◌||◌, ap, List, [], ◌∷◌, ◌++◌, subst}
use Rattle.std.specs.Prelude.{◌↔◌, map}
use Rattle.std.specs.FinMap.{IsAntisymmetric}
use Rattle.std.specs.List.{AllByRecursion, flat_map, list_any}
use Rattle.std.specs.Ordering.{is_eq, is_lt}
use Rattle.std.proofs.lemmas.Bool.{false≢true, or_right}
use Rattle.std.specs.declared.cmp.Ordering.{Ordering}
use Rattle.std.specs.declared.cmp.Ordering.TheVariants.{Less, Equal, Greater}
use Rattle.ma_cells.specs.Ascending.{ascending_of, put}
use Rattle.ma_cover.specs.Classification.{AnyByRecursion}

pub then_either : {A B C : Type 0} → (A ↔ B) → (B ↔ C) → (A ↔ C)
then_either first second = ((λ a. second.0 (first.0 a)), (λ c. first.1 (second.1 c)))

module _ {X : Type 0} (P : X → Type 0) where
  pub any_left : (xs ys : List X) → AnyByRecursion P xs → AnyByRecursion P (xs ++ ys)
  any_left [] ys h = absurd h
  any_left (x ∷ xs) ys (inl h) = inl h
  any_left (x ∷ xs) ys (inr h) = inr (any_left xs ys h)

  pub any_right : (xs ys : List X) → AnyByRecursion P ys → AnyByRecursion P (xs ++ ys)
  any_right [] ys h = h
  any_right (x ∷ xs) ys h = inr (any_right xs ys h)

  pub any_either : (xs ys : List X) → AnyByRecursion P (xs ++ ys) → AnyByRecursion P xs ⊎ AnyByRecursion P ys
  any_either [] ys h = inr h
  any_either (x ∷ xs) ys (inl h) = inl (inl h)
  any_either (x ∷ xs) ys (inr h) = ⊎_elim (λ k. inl (inr k)) (λ k. inr k) (any_either xs ys h)

  pub any_one : (x : X) → P x ↔ AnyByRecursion P (x ∷ [])
  any_one x = ((λ h. inl h), (λ h. ⊎_elim (λ k. k) (λ k. absurd k) h))

  -- lists of which it holds alike
  pub any_beside : (xs ys zs ws : List X) → (AnyByRecursion P xs ↔ AnyByRecursion P zs) → (AnyByRecursion P ys ↔ AnyByRecursion P ws) → AnyByRecursion P (xs ++ ys) ↔ AnyByRecursion P (zs ++ ws)
  any_beside xs ys zs ws first second = (
    (λ h. ⊎_elim (λ k. any_left zs ws (first.0 k)) (λ k. any_right zs ws (second.0 k)) (any_either xs ys h)),
    (λ h. ⊎_elim (λ k. any_left xs ys (first.1 k)) (λ k. any_right xs ys (second.1 k)) (any_either zs ws h)),
  )

  pub any-flat_map : {Y : Type 0} (f : Y → List X) (ys : List Y) → AnyByRecursion P (flat_map f ys) ↔ AnyByRecursion (λ y. AnyByRecursion P (f y)) ys
  any-flat_map f [] = ((λ h. h), (λ h. h))
  any-flat_map f (y ∷ ys) =
      let more = any-flat_map f ys in (
        (λ h. ⊎_elim (λ k. inl k) (λ k. inr (more.0 k)) (any_either (f y) (flat_map f ys) h)),
        (λ h. ⊎_elim (λ k. any_left (f y) (flat_map f ys) k) (λ k. any_right (f y) (flat_map f ys) (more.1 k)) h),
      )

  pub any-map : {Y : Type 0} (f : Y → X) (ys : List Y) → AnyByRecursion P (map f ys) ↔ AnyByRecursion (λ y. P (f y)) ys
  any-map f [] = ((λ h. h), (λ h. h))
  any-map f (y ∷ ys) =
      let more = any-map f ys in
      ((λ h. ⊎_elim (λ k. inl k) (λ k. inr (more.0 k)) h), (λ h. ⊎_elim (λ k. inl k) (λ k. inr (more.1 k)) h))

-- of items of a kind for which the one is as good as the other
pub any_alike : {X : Type 0} (S P Q : X → Type 0) → ((x : X) → S x → P x ↔ Q x) → (xs : List X) → AllByRecursion S xs → AnyByRecursion P xs ↔ AnyByRecursion Q xs
any_alike S P Q each [] are = ((λ h. h), (λ h. h))
any_alike S P Q each (x ∷ xs) are =
    let one = each x are.0 in
    let more = any_alike S P Q each xs are.1 in
    ((λ h. ⊎_elim (λ k. inl (one.0 k)) (λ k. inr (more.0 k)) h), (λ h. ⊎_elim (λ k. inl (one.1 k)) (λ k. inr (more.1 k)) h))

pub any_weaker : {X : Type 0} (P Q : X → Type 0) → ((x : X) → P x → Q x) → (xs : List X) → AnyByRecursion P xs → AnyByRecursion Q xs
any_weaker P Q weaker [] h = h
any_weaker P Q weaker (x ∷ xs) h = ⊎_elim (λ k. inl (weaker x k)) (λ k. inr (any_weaker P Q weaker xs k)) h

-- where all are of a kind, one is
pub any_and_all : {X : Type 0} (S P : X → Type 0) (xs : List X) → AllByRecursion S xs → AnyByRecursion P xs → AnyByRecursion (λ x. S x × P x) xs
any_and_all S P [] are h = h
any_and_all S P (x ∷ xs) are h = ⊎_elim (λ k. inl (are.0, k)) (λ k. inr (any_and_all S P xs are.1 k)) h

pub any_gives : {X C : Type 0} (P : X → Type 0) → ((x : X) → P x → C) → (xs : List X) → AnyByRecursion P xs → C
any_gives P each [] h = absurd h
any_gives P each (x ∷ xs) h = ⊎_elim (λ k. each x k) (λ k. any_gives P each xs k) h

-- what one of some items gives, all of them give: for each r of a list something of which P holds
pub all_given : {U V R : Type 0} (A : U → Type 0) (P : R → V → Type 0) (f : U → List V) (rs : List R) → ((u : U) → A u → AllByRecursion (λ r. AnyByRecursion (P r) (f u)) rs)
    → (us : List U) → AnyByRecursion A us → AllByRecursion (λ r. AnyByRecursion (P r) (flat_map f us)) rs
all_given A P f [] each us h = tt
all_given A P f (r ∷ rs) each us h =
    ((any-flat_map (P r) f us).1 (any_weaker A (λ u. AnyByRecursion (P r) (f u)) (λ u k. (each u k).0) us h), all_given A P f rs (λ u k. (each u k).1) us h)

-- ---- tests
pub any_pass : {X : Type 0} (test : X → Bool) (xs : List X) → list_any test xs ≡ true → AnyByRecursion (λ x. test x ≡ true) xs
any_pass test [] h = false≢true h
any_pass test (x ∷ xs) h = elim (test x) as (λ b. test x ≡ b → (b || list_any test xs) ≡ true → (test x ≡ true) ⊎ AnyByRecursion (λ x. test x ≡ true) xs) [
  | true ↦ λ e _. inl e
  | false ↦ λ _ k. inr (any_pass test xs k)
] refl h

pub test_any : {X : Type 0} (test : X → Bool) (xs : List X) → AnyByRecursion (λ x. test x ≡ true) xs → list_any test xs ≡ true
test_any test [] h = absurd h
test_any test (x ∷ xs) h = ⊎_elim (λ k. ap (λ b. b || list_any test xs) k) (λ k. or_right (test x) (list_any test xs) (test_any test xs k)) h

-- ---- sets
module _ {K : Type 0} {R : K → K → Ordering} (exact : IsAntisymmetric R) (P : K → Type 0) where
  any-put : (x : K) (ys : List K) → AnyByRecursion P (put R x ys) ↔ AnyByRecursion P (x ∷ ys)
  any-put x [] = ((λ h. h), (λ h. h))
  any-put x (y ∷ ys) =
      elim (R x y) as (λ r. R x y ≡ r → AnyByRecursion P (cond (is_lt r) (x ∷ y ∷ ys) (cond (is_eq r) (y ∷ ys) (y ∷ put R x ys))) ↔ AnyByRecursion P (x ∷ y ∷ ys)) [
        | Less ↦ λ _. ((λ h. h), (λ h. h))
        | Equal ↦ λ e. ((λ h. inr h), (λ h. ⊎_elim (λ k. inl (subst P (exact x y e) k)) (λ k. k) h))
        | Greater ↦ λ _.
            let more = any-put x ys in (
              (λ h. ⊎_elim (λ k. inr (inl k)) (λ k. ⊎_elim (λ l. inl l) (λ l. inr (inr l)) (more.0 k)) h),
              (λ h. ⊎_elim (λ k. inr (more.1 (inl k))) (λ k. ⊎_elim (λ l. inl l) (λ l. inr (more.1 (inr l))) k) h),
            )
      ] refl

  pub any-ascending_of : (xs : List K) → AnyByRecursion P (ascending_of R xs) ↔ AnyByRecursion P xs
  any-ascending_of [] = ((λ h. h), (λ h. h))
  any-ascending_of (x ∷ xs) =
      let more = any-ascending_of xs in
      then_either (any-put x (ascending_of R xs)) ((λ h. ⊎_elim (λ k. inl k) (λ k. inr (more.0 k)) h), (λ h. ⊎_elim (λ k. inl k) (λ k. inr (more.1 k)) h))

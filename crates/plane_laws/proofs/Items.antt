-- Items of lists.
use Rattle.std.proofs.Common.{◌≡◌, ◌⊎◌, inl, inr, ⊎_elim, Bool, true, false, cond, List, [], ◌∷◌, refl, sym, ap₂, subst, ◌∙◌}
use Rattle.std.specs.Prelude.{◌↔◌}
use Rattle.std.specs.List.{AllByRecursion, filter, flat_map}
use Rattle.std.proofs.lemmas.Bool.{false≢true}
use Rattle.ma_cover.specs.Classification.{AnyByRecursion}
use Rattle.ma_cover.proofs.Anys.{any-flat_map}

module _ {X : Type 0} where
  abbrev pub IsIn : X → List X → Type 0
  IsIn x xs = AnyByRecursion (λ y. x ≡ y) xs

  pub witness : (P : X → Type 0) (xs : List X) → AnyByRecursion P xs → (x : X) × IsIn x xs × P x
  witness P [] h = absurd h
  witness P (x ∷ xs) (inl h) = (x, inl refl, h)
  witness P (x ∷ xs) (inr h) = let rest = witness P xs h in (rest.0, inr rest.1, rest.2)

  pub any : (P : X → Type 0) (x : X) (xs : List X) → IsIn x xs → P x → AnyByRecursion P xs
  any P x [] i h = absurd i
  any P x (y ∷ xs) (inl e) h = inl (subst P e h)
  any P x (y ∷ xs) (inr i) h = inr (any P x xs i h)

  pub each : (P : X → Type 0) (x : X) (xs : List X) → AllByRecursion P xs → IsIn x xs → P x
  each P x [] all i = absurd i
  each P x (y ∷ xs) all (inl e) = subst P (sym e) all.0
  each P x (y ∷ xs) all (inr i) = each P x xs all.1 i

  pub all_in : (P : X → Type 0) (xs : List X) → ((x : X) → IsIn x xs → P x) → AllByRecursion P xs
  all_in P [] h = tt
  all_in P (x ∷ xs) h = (h x (inl refl), all_in P xs (λ y i. h y (inr i)))

  -- one of two properties
  pub any_or : (P Q : X → Type 0) (xs : List X) → AnyByRecursion (λ x. P x ⊎ Q x) xs ↔ (AnyByRecursion P xs ⊎ AnyByRecursion Q xs)
  any_or P Q [] = ((λ h. absurd h), (λ h. ⊎_elim (λ k. k) (λ k. k) h))
  any_or P Q (x ∷ xs) =
      let more = any_or P Q xs in (
        (λ h. ⊎_elim (λ k. ⊎_elim (λ p. inl (inl p)) (λ q. inr (inl q)) k) (λ k. ⊎_elim (λ p. inl (inr p)) (λ q. inr (inr q)) (more.0 k)) h),
        (λ h. ⊎_elim (λ k. ⊎_elim (λ p. inl (inl p)) (λ p. inr (more.1 (inl p))) k) (λ k. ⊎_elim (λ q. inl (inr q)) (λ q. inr (more.1 (inr q))) k) h),
      )

  pub any-filter : (P : X → Type 0) (test : X → Bool) (xs : List X) → AnyByRecursion P (filter test xs) ↔ AnyByRecursion (λ x. (test x ≡ true) × P x) xs
  any-filter P test [] = ((λ h. h), (λ h. h))
  any-filter P test (x ∷ xs) =
      let more = any-filter P test xs in
      elim (test x) as (λ b. test x ≡ b → AnyByRecursion P (cond b (x ∷ filter test xs) (filter test xs)) ↔ AnyByRecursion (λ x. (test x ≡ true) × P x) (x ∷ xs)) [
        | true ↦ λ e. ((λ h. ⊎_elim (λ k. inl (e, k)) (λ k. inr (more.0 k)) h), (λ h. ⊎_elim (λ k. inl k.1) (λ k. inr (more.1 k)) h))
        | false ↦ λ e. ((λ h. inr (more.0 h)), (λ h. ⊎_elim (λ k. absurd (false≢true (sym e ∙ k.0))) (λ k. more.1 k) h))
      ] refl

module _ {X Y : Type 0} (f : X → List Y) where
  pub in_flat_map : (x : X) (y : Y) (xs : List X) → IsIn x xs → IsIn y (f x) → IsIn y (flat_map f xs)
  in_flat_map x y xs i j = (any-flat_map (λ z. y ≡ z) f xs).1 (any (λ w. IsIn y (f w)) x xs i j)

  pub from_flat_map : (y : Y) (xs : List X) → IsIn y (flat_map f xs) → (x : X) × IsIn x xs × IsIn y (f x)
  from_flat_map y xs i = witness (λ w. IsIn y (f w)) xs ((any-flat_map (λ z. y ≡ z) f xs).0 i)

module _ {X : Type 0} (test : X → Bool) where
  pub in_filter : (x : X) (xs : List X) → IsIn x xs → test x ≡ true → IsIn x (filter test xs)
  in_filter x xs i h = (any-filter (λ y. x ≡ y) test xs).1 (any (λ y. (test y ≡ true) × (x ≡ y)) x xs i (h, refl))

  pub from_filter : (x : X) (xs : List X) → IsIn x (filter test xs) → IsIn x xs × (test x ≡ true)
  from_filter x xs i =
      let w = witness (λ y. (test y ≡ true) × (x ≡ y)) xs ((any-filter (λ y. x ≡ y) test xs).0 i) in
      (subst (λ y. IsIn y xs) (sym w.2.1) w.1, subst (λ y. test y ≡ true) (sym w.2.1) w.2.0)

pub filter-alike : {X : Type 0} (f g : X → Bool) → ((x : X) → f x ≡ g x) → (xs : List X) → filter f xs ≡ filter g xs
filter-alike f g alike [] = refl
filter-alike f g alike (x ∷ xs) = ap₂ (λ b ys. cond b (x ∷ ys) ys) (alike x) (filter-alike f g alike xs)

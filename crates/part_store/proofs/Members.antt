-- Which items a list has, through filters, maps and sets.
use Rattle.std.proofs.Common.{◌≡◌, ◌⊎◌, inl, inr, Bool, true, false, cond, List, [], ◌∷◌, ◌++◌, refl, sym, ap, subst, ◌∙◌}
use Rattle.std.specs.Prelude.{map}
use Rattle.std.specs.List.{AllByRecursion, filter, flat_map, list_any}
use Rattle.std.specs.List.Sorted.{IsStrictlySortedBy}
use Rattle.std.specs.Cmp.{IsTotalOrder, both_ways, Equal-is, tied_itself}
use Rattle.std.specs.FinMap.{IsAntisymmetric}
use Rattle.std.specs.Ordering.{eq_by_cmp, is_eq}
use Rattle.std.specs.declared.cmp.Ordering.{Ordering}
use Rattle.std.proofs.lemmas.Bool.{false≢true, or_cases, or_left, or_right, false_from_ne_true}
use Rattle.ma_cells.specs.Ascending.{ascending_of, has}
use Rattle.ma_cells.proofs.Ascents.{has-ascending_of, same_sorted, sorted-ascending_of}

abbrev pub In : {X : Type 0} → X → List X → Type 0
In x [] = ⊥
In x (y ∷ ys) = (x ≡ y) ⊎ In x ys

module _ {X : Type 0} where
  pub all-in : (P : X → Type 0) (xs : List X) (x : X) → AllByRecursion P xs → In x xs → P x
  all-in P [] x all h = absurd h
  all-in P (y ∷ ys) x all h = elim h [ inl e ↦ subst P (sym e) all.0 | inr k ↦ all-in P ys x all.1 k ]

  pub all-from_in : (P : X → Type 0) (xs : List X) → ((x : X) → In x xs → P x) → AllByRecursion P xs
  all-from_in P [] h = tt
  all-from_in P (y ∷ ys) h = (h y (inl refl), all-from_in P ys (λ x k. h x (inr k)))

  module _ (t : X → Bool) where
    pub any-in : (xs : List X) (x : X) → In x xs → t x ≡ true → list_any t xs ≡ true
    any-in [] x h e = absurd h
    any-in (y ∷ ys) x h e = elim h [ inl same ↦ or_left (t y) (list_any t ys) (ap t (sym same) ∙ e) | inr k ↦ or_right (t y) (list_any t ys) (any-in ys x k e) ]

    pub from-any : (xs : List X) → list_any t xs ≡ true → (x : X) × In x xs × (t x ≡ true)
    from-any [] h = absurd (false≢true h)
    from-any (y ∷ ys) h = elim (or_cases (t y) (list_any t ys) h) [ inl e ↦ (y, inl refl, e) | inr k ↦ let r = from-any ys k in (r.0, inr r.1, r.2) ]

    pub in-filter : (xs : List X) (x : X) → In x xs → t x ≡ true → In x (filter t xs)
    in-filter [] x h e = h
    in-filter (y ∷ ys) x h e = elim (t y) as (λ b. t y ≡ b → In x (cond b (y ∷ filter t ys) (filter t ys))) [
      | true ↦ λ g. elim h [ inl same ↦ inl same | inr k ↦ inr (in-filter ys x k e) ]
      | false ↦ λ g. elim h [ inl same ↦ absurd (false≢true (sym g ∙ ap t (sym same) ∙ e)) | inr k ↦ in-filter ys x k e ]
    ] refl

    pub from-filter : (xs : List X) (x : X) → In x (filter t xs) → In x xs × (t x ≡ true)
    from-filter [] x h = absurd h
    from-filter (y ∷ ys) x h = elim (t y) as (λ b. t y ≡ b → In x (cond b (y ∷ filter t ys) (filter t ys)) → In x (y ∷ ys) × (t x ≡ true)) [
      | true ↦ λ g k. elim k [ inl same ↦ (inl same, ap t same ∙ g) | inr j ↦ let r = from-filter ys x j in (inr r.0, r.1) ]
      | false ↦ λ g k. let r = from-filter ys x k in (inr r.0, r.1)
    ] refl h

    pub filter-all : (xs : List X) → ((x : X) → In x xs → t x ≡ true) → filter t xs ≡ xs
    filter-all [] h = refl
    filter-all (y ∷ ys) h = ap (λ b. cond b (y ∷ filter t ys) (filter t ys)) (h y (inl refl)) ∙ ap (λ r. y ∷ r) (filter-all ys (λ x k. h x (inr k)))

    -- tests that agree on the items keep the same
    pub filter-agree : (u : X → Bool) (xs : List X) → ((x : X) → In x xs → t x ≡ u x) → filter t xs ≡ filter u xs
    filter-agree u [] h = refl
    filter-agree u (y ∷ ys) h = ap (λ b. cond b (y ∷ filter t ys) (filter t ys)) (h y (inl refl)) ∙ ap (λ r. cond (u y) (y ∷ r) r) (filter-agree u ys (λ x k. h x (inr k)))

    -- where the second test is the narrower
    pub filter-filter : (u : X → Bool) (xs : List X) → ((x : X) → In x xs → u x ≡ true → t x ≡ true) → filter u (filter t xs) ≡ filter u xs
    filter-filter u [] h = refl
    filter-filter u (y ∷ ys) h = elim (t y) as (λ b. t y ≡ b → filter u (cond b (y ∷ filter t ys) (filter t ys)) ≡ cond (u y) (y ∷ filter u ys) (filter u ys)) [
      | true ↦ λ g. ap (λ r. cond (u y) (y ∷ r) r) (filter-filter u ys (λ x k. h x (inr k)))
      | false ↦ λ g. filter-filter u ys (λ x k. h x (inr k)) ∙ ap (λ b. cond b (y ∷ filter u ys) (filter u ys)) (sym (false_from_ne_true (u y) (λ e. false≢true (sym g ∙ h y (inl refl) e))))
    ] refl

  pub in-append_left : (xs ys : List X) (x : X) → In x xs → In x (xs ++ ys)
  in-append_left [] ys x h = absurd h
  in-append_left (z ∷ zs) ys x h = elim h [ inl e ↦ inl e | inr k ↦ inr (in-append_left zs ys x k) ]

  pub in-append_right : (xs ys : List X) (x : X) → In x ys → In x (xs ++ ys)
  in-append_right [] ys x h = h
  in-append_right (z ∷ zs) ys x h = inr (in-append_right zs ys x h)

  pub from-append : (xs ys : List X) (x : X) → In x (xs ++ ys) → In x xs ⊎ In x ys
  from-append [] ys x h = inr h
  from-append (z ∷ zs) ys x h = elim h [ inl e ↦ inl (inl e) | inr k ↦ elim (from-append zs ys x k) [ inl a ↦ inl (inr a) | inr b ↦ inr b ] ]

module _ {X Y : Type 0} where
  pub in-map : (f : X → Y) (xs : List X) (x : X) → In x xs → In (f x) (map f xs)
  in-map f [] x h = h
  in-map f (z ∷ zs) x h = elim h [ inl e ↦ inl (ap f e) | inr k ↦ inr (in-map f zs x k) ]

  pub from-map : (f : X → Y) (xs : List X) (y : Y) → In y (map f xs) → (x : X) × In x xs × (y ≡ f x)
  from-map f [] y h = absurd h
  from-map f (z ∷ zs) y h = elim h [ inl e ↦ (z, inl refl, e) | inr k ↦ let r = from-map f zs y k in (r.0, inr r.1, r.2) ]

  pub map-agree : (f g : X → Y) (xs : List X) → ((x : X) → In x xs → f x ≡ g x) → map f xs ≡ map g xs
  map-agree f g [] h = refl
  map-agree f g (z ∷ zs) h = λ i. h z (inl refl) i ∷ map-agree f g zs (λ x k. h x (inr k)) i

  pub in-flat_map : (f : X → List Y) (xs : List X) (x : X) (y : Y) → In x xs → In y (f x) → In y (flat_map f xs)
  in-flat_map f [] x y h k = absurd h
  in-flat_map f (z ∷ zs) x y h k = elim h [ inl e ↦ in-append_left (f z) (flat_map f zs) y (subst (λ w. In y (f w)) e k) | inr j ↦ in-append_right (f z) (flat_map f zs) y (in-flat_map f zs x y j k) ]

  pub from-flat_map : (f : X → List Y) (xs : List X) (y : Y) → In y (flat_map f xs) → (x : X) × In x xs × In y (f x)
  from-flat_map f [] y h = absurd h
  from-flat_map f (z ∷ zs) y h = elim (from-append (f z) (flat_map f zs) y h) [ inl k ↦ (z, inl refl, k) | inr k ↦ let r = from-flat_map f zs y k in (r.0, inr r.1, r.2) ]

-- ---- sets
module _ {K : Type 0} {R : K → K → Ordering} (o : IsTotalOrder R) (exact : IsAntisymmetric R) where
  pub in-has : (xs : List K) (x : K) → In x xs → has R x xs ≡ true
  in-has xs x h = any-in (eq_by_cmp R x) xs x h (ap is_eq (tied_itself o x))

  pub from-has : (xs : List K) (x : K) → has R x xs ≡ true → In x xs
  from-has xs x h = let r = from-any (eq_by_cmp R x) xs h in subst (λ y. In y xs) (sym (exact x r.0 ((Equal-is (R x r.0)).0 r.2))) r.1

  pub in-ascending_of : (xs : List K) (x : K) → In x xs → In x (ascending_of R xs)
  in-ascending_of xs x h = from-has (ascending_of R xs) x (has-ascending_of o x xs ∙ in-has xs x h)

  pub from-ascending_of : (xs : List K) (x : K) → In x (ascending_of R xs) → In x xs
  from-ascending_of xs x h = from-has xs x (sym (has-ascending_of o x xs) ∙ in-has (ascending_of R xs) x h)

  -- ascending lists with the same items are equal
  pub same_set : (xs ys : List K) → IsStrictlySortedBy R xs → IsStrictlySortedBy R ys → ((x : K) → In x xs → In x ys) → ((x : K) → In x ys → In x xs) → xs ≡ ys
  same_set xs ys s t there back = same_sorted o exact xs ys s t (λ q. both_ways (has R q xs) (has R q ys) (λ h. in-has ys q (there q (from-has xs q h))) (λ h. in-has xs q (back q (from-has ys q h))))

  -- lists with the same items make one set
  pub same_made : (xs ys : List K) → ((x : K) → In x xs → In x ys) → ((x : K) → In x ys → In x xs) → ascending_of R xs ≡ ascending_of R ys
  same_made xs ys there back = same_set (ascending_of R xs) (ascending_of R ys) (sorted-ascending_of o xs) (sorted-ascending_of o ys)
      (λ x h. in-ascending_of ys x (there x (from-ascending_of xs x h))) (λ x h. in-ascending_of xs x (back x (from-ascending_of ys x h)))

  -- the set of these items is this ascending list
  pub is_made : (xs ys : List K) → IsStrictlySortedBy R ys → ((x : K) → In x xs → In x ys) → ((x : K) → In x ys → In x xs) → ascending_of R xs ≡ ys
  is_made xs ys s there back = same_set (ascending_of R xs) ys (sorted-ascending_of o xs) s (λ x h. there x (from-ascending_of xs x h)) (λ x h. in-ascending_of xs x (back x h))

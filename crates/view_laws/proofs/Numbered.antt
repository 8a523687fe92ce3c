-- Which numbers of parts and which bodies a list has, and how many.
use Rattle.std.proofs.Common.{◌≡◌, ◌≢◌, ℕ, zero, suc, ◌<◌, ◌≤◌, inl, inr, true, false, List, [], ◌∷◌, ◌++◌, length, refl, sym, ap, subst, ◌∙◌, arith}
use Rattle.std.specs.Prelude.{◌==◌, map}
use Rattle.std.specs.List.{flat_map}
use Rattle.part_phases.specs.Inboxes.{below, gathered}
use Rattle.part_store.proofs.Members.{In, in-map, from-map, in-append_left, in-append_right, from-append}

module _ {X : Type 0} where
  pub some_item : (xs : List X) (x : X) → In x xs → 1 ≤ length xs
  some_item [] x h = absurd h
  some_item (y ∷ ys) x h = omega arith

  -- two different items are two
  pub two_items : (xs : List X) (x y : X) → In x xs → In y xs → x ≢ y → 2 ≤ length xs
  two_items [] x y h k differ = absurd h
  two_items (z ∷ zs) x y h k differ = elim h [
    | inl e ↦ elim k [ inl f ↦ absurd (differ (e ∙ sym f)) | inr k' ↦ let some = some_item zs y k' in omega arith ]
    | inr h' ↦ let some = some_item zs x h' in omega arith
  ]

pub in-below : (n p : ℕ) → p < n → In p (below n)
in-below zero p h = absurd (omega arith)
in-below (suc n) p h = elim (p == n) as (λ b. (p == n) ≡ b → In p (below n ++ n ∷ [])) [
  | true ↦ λ e. let same : p ≡ n = grind arith in in-append_right (below n) (n ∷ []) p (inl same)
  | false ↦ λ e. let less : p < n = grind arith in in-append_left (below n) (n ∷ []) p (in-below n p less)
] refl

pub from-below : (n p : ℕ) → In p (below n) → p < n
from-below zero p h = absurd h
from-below (suc n) p h = elim (from-append (below n) (n ∷ []) p h) [
  | inl k ↦ let less = from-below n p k in omega arith
  | inr k ↦ elim k [ inl e ↦ omega arith | inr j ↦ absurd j ]
]

module _ {B : Type 0} (f : ℕ → B) where
  pub in-gathered : (n p : ℕ) → p < n → In {X = ℕ × B} (p, f p) (gathered n f)
  in-gathered n p h = in-map (λ q. (q, f q)) (below n) p (in-below n p h)

  pub from-gathered : (n : ℕ) (e : ℕ × B) → In e (gathered n f) → (e.0 < n) × (e.1 ≡ f e.0)
  from-gathered n e h =
      let r = from-map (λ q. (q, f q)) (below n) e h in
      let at : e.0 ≡ r.0 = ap (λ z. z.0) r.2 in
      (subst (λ q. q < n) (sym at) (from-below n r.0 r.1), ap (λ z. z.1) r.2 ∙ ap f (sym at))

  -- what is listed of each body of some senders
  pub flat-listed : {Y : Type 0} (g : B → List Y) (ps : List ℕ) → flat_map {X = ℕ × B} (λ e. g e.1) (map (λ p. (p, f p)) ps) ≡ flat_map (λ p. g (f p)) ps
  flat-listed g [] = refl
  flat-listed g (p ∷ ps) = ap (λ l. g (f p) ++ l) (flat-listed g ps)

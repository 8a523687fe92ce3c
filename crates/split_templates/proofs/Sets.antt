-- Sets and bisections as lists: what is put in one after the other, and what holds of all of it.
use Rattle.std.proofs.Common.{◌≡◌, ℕ, suc, ◌+◌, ◌/◌, ◌%◌, ◌==◌, ◌≤◌, true, false, List, [], ◌∷◌, ◌++◌, length, refl, ap, ◌∙◌, arith}
use Rattle.std.specs.Prelude.{map, cond}
use Rattle.std.specs.declared.cmp.Ordering.{Ordering}
use Rattle.std.specs.declared.cmp.Ordering.TheVariants.{Less, Equal, Greater}
use Rattle.std.specs.List.{AllByRecursion, flat_map}
use Rattle.std.specs.Ordering.{is_eq, is_lt}
use Rattle.std.proofs.lemmas.Grind.{flat_map-append}
use Rattle.ma_geom.specs.Coordinates.{Coordinates}
use Rattle.ma_cells.specs.Ascending.{put, ascending_of}
use Rattle.split_templates.specs.Edges.{chosen}
use Rattle.split_templates.specs.Pieces.{bisected_along, halves}
use Rattle.split_templates.specs.steps.Putting.{put_all}

-- ---- what is put in one after the other
module _ {K : Type 0} (R : K → K → Ordering) where
  pub put_all-append : (xs ys zs : List K) → put_all R (xs ++ ys) zs ≡ put_all R xs (put_all R ys zs)
  put_all-append [] ys zs = refl
  put_all-append (x ∷ xs) ys zs = ap (put R x) (put_all-append xs ys zs)

  pub put_all-nothing : (xs : List K) → put_all R xs [] ≡ ascending_of R xs
  put_all-nothing [] = refl
  put_all-nothing (x ∷ xs) = ap (put R x) (put_all-nothing xs)

  pub length-put : (x : K) (ys : List K) → length (put R x ys) ≤ suc (length ys)
  length-put x [] = omega arith
  length-put x (y ∷ ys) =
      let more = length-put x ys in
      elim (R x y) as (λ r. length (cond (is_lt r) (x ∷ y ∷ ys) (cond (is_eq r) (y ∷ ys) (y ∷ put R x ys))) ≤ suc (suc (length ys))) [
        | Less ↦ omega arith
        | Equal ↦ omega arith
        | Greater ↦ omega arith
      ]

  pub length-put_all : (xs ys : List K) → length (put_all R xs ys) ≤ length xs + length ys
  length-put_all [] ys = omega arith
  length-put_all (x ∷ xs) ys =
      let more = length-put_all xs ys in
      let one = length-put x (put_all R xs ys) in
      omega arith

-- a map that keeps the order carries sets over
module _ {K L : Type 0} (R : K → K → Ordering) (S : L → L → Ordering) (f : K → L) (same : (x y : K) → S (f x) (f y) ≡ R x y) where
  pub map-put : (x : K) (ys : List K) → put S (f x) (map f ys) ≡ map f (put R x ys)
  map-put x [] = refl
  map-put x (y ∷ ys) =
      rw (same x y) (elim (R x y) as (λ r. cond (is_lt r) (f x ∷ f y ∷ map f ys) (cond (is_eq r) (f y ∷ map f ys) (f y ∷ put S (f x) (map f ys))) ≡ map f (cond (is_lt r) (x ∷ y ∷ ys) (cond (is_eq r) (y ∷ ys) (y ∷ put R x ys)))) [
        | Less ↦ refl
        | Equal ↦ refl
        | Greater ↦ ap (λ zs. f y ∷ zs) (map-put x ys)
      ])

-- ---- chosen items
pub all-chosen : {X : Type 0} (P : X → Type 0) (mask : ℕ) (xs : List X) → AllByRecursion P xs → AllByRecursion P (chosen mask xs)
all-chosen P mask [] h = tt
all-chosen P mask (x ∷ xs) h =
    elim (mask % 2 == 1) as (λ b. AllByRecursion P (cond b (x ∷ chosen (mask / 2) xs) (chosen (mask / 2) xs))) [
      | true ↦ (h.0, all-chosen P (mask / 2) xs h.1)
      | false ↦ all-chosen P (mask / 2) xs h.1
    ]

-- ---- pieces of several cells
pub bisected_along-append : (edges ps qs : List (List Coordinates)) → bisected_along edges (ps ++ qs) ≡ bisected_along edges ps ++ bisected_along edges qs
bisected_along-append [] ps qs = refl
bisected_along-append (e ∷ es) ps qs =
    ap (bisected_along es) (flat_map-append (halves e) ps qs) ∙ bisected_along-append es (flat_map (halves e) ps) (flat_map (halves e) qs)

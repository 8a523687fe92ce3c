-- How many pieces a cell has: each of its own edges at which it is bisected takes an own corner from either half.
use Rattle.std.proofs.Common.{◌≡◌, ◌≢◌, ℕ, zero, suc, ◌+◌, ◌≤◌, Bool, true, false, cond, not, ◌&&◌, ◌||◌, ◌⊎◌, inl, inr, List, [], ◌∷◌, length, Some, None, refl, sym, ap, subst, ◌∙◌, length-append, arith}
use Rattle.std.specs.Prelude.{map}
use Rattle.std.specs.declared.cmp.Ordering.TheVariants.{Less, Equal, Greater}
use Rattle.std.specs.List.{AllByRecursion}
use Rattle.std.specs.Ordering.{eq_by_cmp, is_eq, is_lt}
use Rattle.std.proofs.lemmas.Bool.{false≢true}
use Rattle.ma_geom.specs.Coordinates.{Coordinates, place_cmp}
use Rattle.ma_geom.specs.Midpoints.{midpoint}
use Rattle.ma_geom.specs.Rational.{IsMiddle}
use Rattle.ma_cells.specs.Ascending.{ascending_of, has, put}
use Rattle.ma_cells.specs.Bisection.{replaced}
use Rattle.ma_cells.specs.Faces.{holds_all}
use Rattle.ma_cells.proofs.Bisections.{bisect-with, has-replaced}
use Rattle.ma_cells.proofs.Permutations.{apart, both, same}
use Rattle.split_templates.specs.Pieces.{bisected_along, halves, halves_at}
use Rattle.split_templates.proofs.Cut.{pieces_of_halves, pieces_of_whole}
use Rattle.split_templates.proofs.Middles.{midpoint-IsMiddle}

-- an edge of a cell with these own corners: its ends are two of them, and its midpoint is none of them
pub record IsFresh (own edge : List Coordinates) : Type 0 where
  pub a : Coordinates
  pub b : Coordinates
  pub is : edge ≡ a ∷ b ∷ []
  pub differ : a ≢ b
  pub there : holds_all own (a ∷ b ∷ []) ≡ true
  pub new : (m : Coordinates) → IsMiddle m a b → has place_cmp m own ≡ false

-- what an edge does to a cell: nothing, or it has two halves
pub record IsSplit (a b : Coordinates) (corners : List Coordinates) : Type 0 where
  pub m : Coordinates
  pub middle : IsMiddle m a b
  pub there : holds_all corners (a ∷ b ∷ []) ≡ true
  pub halved : halves (a ∷ b ∷ []) corners ≡ replaced a m corners ∷ replaced b m corners ∷ []

pub split_or_whole : (a b : Coordinates) (corners : List Coordinates) → (halves (a ∷ b ∷ []) corners ≡ corners ∷ []) ⊎ IsSplit a b corners
split_or_whole a b corners =
    elim (midpoint a b) as (λ o. midpoint a b ≡ o → (halves_at a b o corners ≡ corners ∷ []) ⊎ IsSplit a b corners) [
      | None ↦ λ _. inl refl
      | Some m ↦ λ is. elim (holds_all corners (a ∷ b ∷ [])) as (λ t. holds_all corners (a ∷ b ∷ []) ≡ t → (cond t (replaced a m corners ∷ replaced b m corners ∷ []) (corners ∷ []) ≡ corners ∷ []) ⊎ IsSplit a b corners) [
        | true ↦ λ e. inr (record { m = m; middle = midpoint-IsMiddle a b m is; there = e; halved = ap (λ o. halves_at a b o corners) is ∙ bisect-with a b m corners e })
        | false ↦ λ _. inl refl
      ] refl
    ] refl

-- ---- counting corners
abbrev pub count : (Coordinates → Bool) → List Coordinates → ℕ
count f [] = 0
count f (p ∷ ps) = cond (f p) 1 0 + count f ps

pub count-length : (f : Coordinates → Bool) (ps : List Coordinates) → count f ps ≤ length ps
count-length f [] = omega arith
count-length f (p ∷ ps) =
    let more = count-length f ps in
    elim (f p) as (λ t. cond t 1 0 + count f ps ≤ suc (length ps)) [
      | true ↦ omega arith
      | false ↦ omega arith
    ]

count-put : (f : Coordinates → Bool) (x : Coordinates) (ys : List Coordinates) → count f (put place_cmp x ys) ≤ cond (f x) 1 0 + count f ys
count-put f x [] = omega arith
count-put f x (y ∷ ys) =
    let more = count-put f x ys in
    elim (place_cmp x y) as (λ r. count f (cond (is_lt r) (x ∷ y ∷ ys) (cond (is_eq r) (y ∷ ys) (y ∷ put place_cmp x ys))) ≤ cond (f x) 1 0 + (cond (f y) 1 0 + count f ys)) [
      | Less ↦ omega arith
      | Equal ↦ omega arith
      | Greater ↦ omega arith
    ]

count-ascending_of : (f : Coordinates → Bool) (xs : List Coordinates) → count f (ascending_of place_cmp xs) ≤ count f xs
count-ascending_of f [] = omega arith
count-ascending_of f (x ∷ xs) =
    let more = count-ascending_of f xs in
    let one = count-put f x (ascending_of place_cmp xs) in
    omega arith

abbrev moved : (a m : Coordinates) → List Coordinates → List Coordinates
moved a m places = map (λ p. cond (eq_by_cmp place_cmp a p) m p) places

-- where a counts and m doesn't, m in the place of a counts less
count-moved : (f : Coordinates → Bool) (a m : Coordinates) (ps : List Coordinates) → f a ≡ true → f m ≡ false → count f (moved a m ps) + cond (has place_cmp a ps) 1 0 ≤ count f ps
count-moved f a m [] fa fm = omega arith
count-moved f a m (p ∷ ps) fa fm =
    let more = count-moved f a m ps fa fm in
    elim (eq_by_cmp place_cmp a p) as (λ t. eq_by_cmp place_cmp a p ≡ t → (cond (f (cond t m p)) 1 0 + count f (moved a m ps)) + cond (t || has place_cmp a ps) 1 0 ≤ cond (f p) 1 0 + count f ps) [
      | true ↦ λ e.
          let fp : f p ≡ true = ap f (sym (same a p e)) ∙ fa in
          rw (fm, fp) (omega arith)
      | false ↦ λ _. omega arith
    ] refl

count-replaced : (f : Coordinates → Bool) (a m : Coordinates) (ps : List Coordinates) → f a ≡ true → f m ≡ false → has place_cmp a ps ≡ true → count f (replaced a m ps) + 1 ≤ count f ps
count-replaced f a m ps fa fm there =
    let sorted = count-ascending_of f (moved a m ps) in
    let less = count-moved f a m ps fa fm in
    let one = ap (λ t. cond {A = ℕ} t 1 0) there in
    omega arith

count-has : (f : Coordinates → Bool) (b : Coordinates) (ps : List Coordinates) → f b ≡ true → has place_cmp b ps ≡ true → 1 ≤ count f ps
count-has f b [] fb there = absurd (false≢true there)
count-has f b (p ∷ ps) fb there =
    elim (eq_by_cmp place_cmp b p) as (λ t. eq_by_cmp place_cmp b p ≡ t → (t || has place_cmp b ps) ≡ true → 1 ≤ cond (f p) 1 0 + count f ps) [
      | true ↦ λ e _.
          let fp : f p ≡ true = ap f (sym (same b p e)) ∙ fb in
          rw fp (omega arith)
      | false ↦ λ _ h. let more = count-has f b ps fb h in omega arith
    ] refl there

-- the other end stays in a half
has_other_end : (a b m : Coordinates) (ps : List Coordinates) → has place_cmp b ps ≡ true → a ≢ b → has place_cmp a ps ≡ true → has place_cmp b (replaced a m ps) ≡ true
has_other_end a b m ps there differ first =
    has-replaced b a m ps ∙ rw (first, there, apart b a (λ e. differ (sym e))) (last (eq_by_cmp place_cmp b m))
  where
    last : (s : Bool) → ((s && true) || (true && not false)) ≡ true
    last true = refl
    last false = refl

-- twice as many for each corner past the first
abbrev pub doubled : ℕ → ℕ
doubled zero = 1
doubled (suc n) = doubled n + doubled n

some : (n : ℕ) → 1 ≤ doubled n
some zero = omega arith
some (suc n) = let more = some n in omega arith

abbrev owned : List Coordinates → Coordinates → Bool
owned own p = has place_cmp p own

pub count_pieces : (own : List Coordinates) (edges : List (List Coordinates)) → AllByRecursion (IsFresh own) edges → (n : ℕ) (corners : List Coordinates)
    → count (owned own) corners ≤ suc n → length (bisected_along edges (corners ∷ [])) ≤ doubled n
count_pieces own [] fresh n corners few = some n
count_pieces own (edge ∷ edges) fresh n corners few =
    let f = fresh.0 in
    let Goal : List Coordinates → Type 0 = λ e. length (bisected_along (e ∷ edges) (corners ∷ [])) ≤ doubled n in
    subst Goal (sym f.is) (at_edge own edges (count_pieces own edges fresh.1) n corners few f.a f.b f.differ f.there f.new)
  where
    at_edge : (own : List Coordinates) (edges : List (List Coordinates)) → ((n : ℕ) (corners : List Coordinates) → count (owned own) corners ≤ suc n → length (bisected_along edges (corners ∷ [])) ≤ doubled n)
        → (n : ℕ) (corners : List Coordinates) → count (owned own) corners ≤ suc n
        → (a b : Coordinates) → a ≢ b → holds_all own (a ∷ b ∷ []) ≡ true → ((m : Coordinates) → IsMiddle m a b → has place_cmp m own ≡ false)
        → length (bisected_along ((a ∷ b ∷ []) ∷ edges) (corners ∷ [])) ≤ doubled n
    at_edge own edges rest n corners few a b differ there new =
        elim (split_or_whole a b corners) [
          | inl whole ↦ subst (λ ps. length ps ≤ doubled n) (sym (pieces_of_whole (a ∷ b ∷ []) edges corners whole)) (rest n corners few)
          | inr s ↦
              let none = new s.m s.middle in
              let owns = both (has place_cmp a own) (has place_cmp b own) there in
              let ends = both (has place_cmp a corners) (has place_cmp b corners) s.there in
              let p = replaced a s.m corners in
              let q = replaced b s.m corners in
              let less_p = count-replaced (owned own) a s.m corners owns.0 none ends.0 in
              let less_q = count-replaced (owned own) b s.m corners owns.1 none ends.1 in
              let one = count-has (owned own) b p owns.1 (has_other_end a b s.m corners ends.1 differ ends.0) in
              let whole = ap length (pieces_of_halves (a ∷ b ∷ []) edges corners p q s.halved) ∙ length-append (bisected_along edges (p ∷ [])) (bisected_along edges (q ∷ [])) in
              two_halves own edges rest n p q (length (bisected_along ((a ∷ b ∷ []) ∷ edges) (corners ∷ []))) (omega arith) (omega arith) one whole
        ]
      where
        two_halves : (own : List Coordinates) (edges : List (List Coordinates)) → ((n : ℕ) (corners : List Coordinates) → count (owned own) corners ≤ suc n → length (bisected_along edges (corners ∷ [])) ≤ doubled n)
            → (n : ℕ) (p q : List Coordinates) (whole : ℕ) → count (owned own) p ≤ n → count (owned own) q ≤ n → 1 ≤ count (owned own) p
            → whole ≡ length (bisected_along edges (p ∷ [])) + length (bisected_along edges (q ∷ [])) → whole ≤ doubled n
        two_halves own edges rest zero p q whole few_p few_q one sum = absurd (omega arith)
        two_halves own edges rest (suc n) p q whole few_p few_q one sum =
            let left = rest n p few_p in
            let right = rest n q few_q in
            omega arith

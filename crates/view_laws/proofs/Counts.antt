-- The counts of the posts make the number of tetrahedra.
use Rattle.std.proofs.Common.{◌≡◌, ℕ, zero, suc, ◌+◌, ◌<◌, ◌≤◌, Bool, true, false, cond, nat_lt, List, [], ◌∷◌, ◌++◌, filter, length, refl, sym, ap, ◌∙◌, arith}
use Rattle.std.specs.Prelude.{map, ◌==◌}
use Rattle.std.proofs.lemmas.Bool.{lt-ltb}
use Rattle.std.proofs.lemmas.Bool.Decides.{nat_tests}
use Rattle.std.proofs.lemmas.List.{length-map}
use Rattle.ma_geom.specs.Coordinates.{Coordinates}
use Rattle.ma_cells.specs.Cells.{CellMark}
use Rattle.ma_cells.specs.Tetrahedron.{Tetrahedron}
use Rattle.directory.specs.Posting.{most_told, told}
use Rattle.part_phases.specs.Inboxes.{below, gathered}
use Rattle.part_rules.specs.Ends.{after_posts, counted, if_within, total_by}
use Rattle.part_rules.specs.Owed.{IsLabelled, holding, owed_post}
use Rattle.part_store.specs.Labelled.{LabelledMesh, has_label, own_of, tet_of}
use Rattle.part_store.proofs.Members.{filter-all}
use Rattle.view_laws.proofs.MeshItems.{label-below}

sum_of : (ℕ → ℕ) → List ℕ → ℕ
sum_of f [] = 0
sum_of f (p ∷ ps) = f p + sum_of f ps

sum-append : (f : ℕ → ℕ) (ps qs : List ℕ) → sum_of f (ps ++ qs) ≡ sum_of f ps + sum_of f qs
unfolding sum_of
sum-append f [] qs = omega arith
sum-append f (p ∷ ps) qs = let rest = sum-append f ps qs in omega arith

sum-more : (f : ℕ → ℕ) (n : ℕ) → sum_of f (below (suc n)) ≡ sum_of f (below n) + f n
unfolding sum_of
sum-more f n = let a = sum-append f (below n) (n ∷ []) in omega arith

abbrev other : ℕ → (ℕ → ℕ) → ℕ → ℕ
other me f r = cond (r == me) 0 (f r)

-- without the own, and with it
without : (f : ℕ → ℕ) (me n : ℕ) → sum_of (other me f) (below n) + cond (nat_lt me n) (f me) 0 ≡ sum_of f (below n)
unfolding sum_of
without f me zero = let none : nat_lt me 0 ≡ false = grind (arith, nat_tests) in rw none refl
without f me (suc n) =
    let rest = without f me n in
    let more = sum-more f n in
    let less = sum-more (other me f) n in
    let last : other me f n + cond (nat_lt me (suc n)) (f me) 0 ≡ cond (nat_lt me n) (f me) 0 + f n =
    elim (n == me) as (λ b. (n == me) ≡ b → cond b 0 (f n) + cond (nat_lt me (suc n)) (f me) 0 ≡ cond (nat_lt me n) (f me) 0 + f n) [
      | true ↦ λ e.
          let same : n ≡ me = grind (arith, nat_tests) in
          let above : nat_lt me n ≡ false = grind (arith, nat_tests) in
          let within : nat_lt me (suc n) ≡ true = grind (arith, nat_tests) in
          let value : f n ≡ f me = ap f same in
          rw (above, within) (omega arith)
      | false ↦ λ e.
          let alike : nat_lt me (suc n) ≡ nat_lt me n = grind (arith, nat_tests) in
          rw alike (omega arith)
    ] refl in
    omega arith

-- ---- tetrahedra by their labels
abbrev labels_below : ℕ → Tetrahedron × ℕ → Bool
labels_below n e = nat_lt e.1 n

with_label_below : (tets : List (Tetrahedron × ℕ)) (n : ℕ) → length (filter (labels_below n) tets) + length (filter (has_label n) tets) ≡ length (filter (labels_below (suc n)) tets)
with_label_below [] n = refl
with_label_below (e ∷ es) n =
    let rest = with_label_below es n in
    let low = filter (labels_below n) es in
    let next = filter (labels_below (suc n)) es in
    let here = filter (has_label n) es in
    elim (e.1 == n) as (λ b. (e.1 == n) ≡ b → length (cond (nat_lt e.1 n) (e ∷ low) low) + length (cond b (e ∷ here) here) ≡ length (cond (nat_lt e.1 (suc n)) (e ∷ next) next)) [
      | true ↦ λ g.
          let above : nat_lt e.1 n ≡ false = grind (arith, nat_tests) in
          let within : nat_lt e.1 (suc n) ≡ true = grind (arith, nat_tests) in
          rw (above, within) (omega arith)
      | false ↦ λ g.
          let alike : nat_lt e.1 (suc n) ≡ nat_lt e.1 n = grind (arith, nat_tests) in
          rw alike (elim (nat_lt e.1 n) as (λ b. length (cond b (e ∷ low) low) + length here ≡ length (cond b (e ∷ next) next)) [
            | true ↦ omega arith
            | false ↦ rest
          ])
    ] refl

none_below : (tets : List (Tetrahedron × ℕ)) → length (filter (labels_below 0) tets) ≡ 0
none_below [] = refl
none_below (e ∷ es) =
    let none : nat_lt e.1 0 ≡ false = grind (arith, nat_tests) in
    ap (λ b. length (cond b (e ∷ filter (labels_below 0) es) (filter (labels_below 0) es))) none ∙ none_below es

small : (n : ℕ) → n ≤ most_told → told n ≡ n
small n h = omega arith

module _ (mesh : LabelledMesh) where
  own_number : ℕ → ℕ
  own_number p = length (own_of mesh p)

  sum-below : (n : ℕ) → sum_of own_number (below n) ≡ length (filter (labels_below n) mesh.tets)
  unfolding sum_of own_number
  sum-below zero = sym (none_below mesh.tets)
  sum-below (suc n) =
      let a = sum-more own_number n in
      let b = sum-below n in
      let c = with_label_below mesh.tets n in
      let d : own_number n ≡ length (filter (has_label n) mesh.tets) = length-map (filter (has_label n) mesh.tets) tet_of in
      omega arith

  module _ (parts : ℕ) (right : IsLabelled parts mesh) where
    all-below : sum_of own_number (below parts) ≡ length mesh.tets
    all-below = sum-below parts ∙ ap length (filter-all (labels_below parts) mesh.tets (λ e h. lt-ltb e.1 parts (label-below parts mesh right e h)))

    one_of : (p n : ℕ) → p < n → own_number p ≤ sum_of own_number (below n)
    one_of p n h =
        let a = without own_number p n in
        let b = ap (λ b. cond b (own_number p) 0) (lt-ltb p n h) in
        omega arith

    module _ (home : Coordinates → ℕ) (carried : ℕ → List CellMark) where
      counted-listed : (me : ℕ) (ps : List ℕ) → counted me (map (λ r. (r, owed_post parts home mesh carried r me)) ps) ≡ sum_of (other me (λ r. told (own_number r))) ps
      unfolding sum_of own_number
      counted-listed me [] = refl
      counted-listed me (p ∷ ps) = ap (λ k. cond (p == me) 0 (told (length (own_of mesh p))) + k) (counted-listed me ps)

      told_all : length mesh.tets ≤ most_told → (n : ℕ) → n ≤ parts → sum_of (λ r. told (own_number r)) (below n) ≡ sum_of own_number (below n)
      unfolding sum_of
      told_all few zero h = refl
      told_all few (suc n) h =
          let rest = told_all few n (omega arith) in
          let a = sum-more (λ r. told (own_number r)) n in
          let b = sum-more own_number n in
          let one = one_of n parts (omega arith) in
          let all = all-below in
          let at = small (own_number n) (omega arith) in
          omega arith

      total_is : (p : ℕ) → p < parts → length mesh.tets ≤ most_told → total_by (holding parts home mesh carried 0 p) (gathered parts (λ r. owed_post parts home mesh carried r p)) ≡ length mesh.tets
      unfolding own_number
      total_is p within few =
          let listed : counted p (gathered parts (λ r. owed_post parts home mesh carried r p)) ≡ sum_of (other p (λ r. told (own_number r))) (below parts) = counted-listed p (below parts) in
          let a = without (λ r. told (own_number r)) p parts in
          let b = ap (λ b. cond b (told (own_number p)) 0) (lt-ltb p parts within) in
          let c = told_all few parts (omega arith) in
          let d = all-below in
          let one = one_of p parts within in
          let e = small (own_number p) (omega arith) in
          omega arith

      pub after_posts_are : (p : ℕ) → p < parts → length mesh.tets ≤ most_told
          → after_posts (holding parts home mesh carried 0 p) (gathered parts (λ r. owed_post parts home mesh carried r p)) ≡ if_within (length mesh.tets) (holding parts home mesh carried 0 p)
      after_posts_are p within few = ap (λ n. if_within n (holding parts home mesh carried 0 p)) (total_is p within few)

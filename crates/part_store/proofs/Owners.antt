-- The least of the labels of tetrahedra, from label to label.
use Rattle.std.proofs.Common.{◌≡◌, ℕ, Bool, true, false, cond, ◌||◌, List, [], ◌∷◌, ◌++◌, Option, Some, None, filter, map, if◌then◌else◌, refl, sym, ap, ◌∙◌, arith, min, ⊎_elim}
use Rattle.std.proofs.Math.Nat.{min-eq_left, min-eq_right}
use Rattle.std.proofs.lemmas.Bool.{cases_lt}
use Rattle.std.specs.Cmp.{nat_cmp_is}
use Rattle.std.specs.List.{list_any}
use Rattle.std.specs.Ordering.{nat_cmp}
use Rattle.std.specs.declared.cmp.Ordering.TheVariants.{Less, Equal, Greater}
use Rattle.ma_cells.specs.Ascending.{ascending_of, put}
use Rattle.ma_cells.specs.Tetrahedron.{Tetrahedron}
use Rattle.part_store.specs.Agreement.{first_of}
use Rattle.part_store.specs.Labelled.{label_of, labelled}
use Rattle.part_store.specs.steps.Owners.{lesser}

pub lesser-none : (m : Option ℕ) → lesser m None ≡ m
lesser-none None = refl
lesser-none (Some m) = refl

min-same : (n : ℕ) → min n n ≡ n
min-same n = min-eq_left {n = n} {m = n} (omega arith)

min_assoc : (a b c : ℕ) → min (min a b) c ≡ min a (min b c)
min_assoc a b c = omega arith

pub lesser_assoc : (a b c : Option ℕ) → lesser (lesser a b) c ≡ lesser a (lesser b c)
lesser_assoc None b c = refl
lesser_assoc (Some a) None c = refl
lesser_assoc (Some a) (Some b) None = refl
lesser_assoc (Some a) (Some b) (Some c) = ap Some (min_assoc a b c)

first-put : (n : ℕ) (ns : List ℕ) → first_of (put nat_cmp n ns) ≡ lesser (Some n) (first_of ns)
first-put n [] = refl
first-put n (m ∷ ns) = ⊎_elim
    (λ below. let least : min n m ≡ n = min-eq_left {n = n} {m = m} (omega (arith, below)) in rw (sym (nat_cmp_is n m Less below), least) refl)
    (λ above. ⊎_elim
    (λ below. let least : min n m ≡ m = min-eq_right {n = m} {m = n} (omega (arith, below)) in rw (sym (nat_cmp_is n m Greater below), least) refl)
    (λ other.
    let same : n ≡ m = omega (arith, above, other) in
    let least : min n m ≡ m = min-eq_right {n = m} {m = n} (omega (arith, same)) in rw (sym (nat_cmp_is n m Equal same), least) refl)
    (cases_lt m n))
    (cases_lt n m)

abbrev pub least : List ℕ → Option ℕ
least labels = first_of (ascending_of nat_cmp labels)

least-append : (ms ns : List ℕ) → least (ms ++ ns) ≡ lesser (least ms) (least ns)
least-append [] ns = refl
least-append (m ∷ ms) ns =
    first-put m (ascending_of nat_cmp (ms ++ ns)) ∙ ap (lesser (Some m)) (least-append ms ns) ∙ sym (lesser_assoc (Some m) (least ms) (least ns)) ∙ ap (λ o. lesser o (least ns)) (sym (first-put m (ascending_of nat_cmp ms)))

module _ (test : Tetrahedron × ℕ → Bool) where
  abbrev passing : List (Tetrahedron × ℕ) → List ℕ
  passing entries = map label_of (filter test entries)

  passing-append : (xs ys : List (Tetrahedron × ℕ)) → passing (xs ++ ys) ≡ passing xs ++ passing ys
  passing-append [] ys = refl
  passing-append (x ∷ xs) ys =
      elim (test x) as (λ b. map label_of (cond b (x ∷ filter test (xs ++ ys)) (filter test (xs ++ ys))) ≡ map label_of (cond b (x ∷ filter test xs) (filter test xs)) ++ passing ys) [
        | true ↦ ap (λ ns. label_of x ∷ ns) (passing-append xs ys)
        | false ↦ passing-append xs ys
      ]

  pub owner-append : (xs ys : List (Tetrahedron × ℕ)) → least (passing (xs ++ ys)) ≡ lesser (least (passing xs)) (least (passing ys))
  owner-append xs ys = ap least (passing-append xs ys) ∙ least-append (passing xs) (passing ys)

  -- one more in front
  pub owner-next : (x : Tetrahedron × ℕ) (xs : List (Tetrahedron × ℕ)) → least (passing (x ∷ xs)) ≡ lesser (if test x then Some (label_of x) else None) (least (passing xs))
  owner-next x xs =
      elim (test x) as (λ b. least (map label_of (cond b (x ∷ filter test xs) (filter test xs))) ≡ lesser (if b then Some (label_of x) else None) (least (passing xs))) [
        | true ↦ first-put (label_of x) (ascending_of nat_cmp (passing xs))
        | false ↦ refl
      ]

-- tetrahedra of one part
pub owner-labelled : (part : ℕ) (test : Tetrahedron → Bool) (tets : List Tetrahedron)
    → least (map label_of (filter (λ (entry : Tetrahedron × ℕ). test entry.0) (labelled part tets))) ≡ (if list_any test tets then Some part else None)
owner-labelled part test [] = refl
owner-labelled part test (tet ∷ tets) =
    owner-next (λ entry. test entry.0) (tet, part) (labelled part tets)
    ∙ ap (lesser (if test tet then Some part else None)) (owner-labelled part test tets)
    ∙ either (test tet) (list_any test tets)
  where
    either : (a b : Bool) → lesser (if a then Some part else None) (if b then Some part else None) ≡ (if a || b then Some part else None)
    either true true = ap Some (min-same part)
    either true false = refl
    either false b = refl

-- the owner, by whether a part's own tetrahedra have a cell and by the least label of others
pub owner_is : (part : ℕ) (test : Tetrahedron → Bool) (own : List Tetrahedron) (others : List (Tetrahedron × ℕ)) (there : Bool) (mine rest owner : Option ℕ)
    → there ≡ list_any test own → mine ≡ (if there then Some part else None) → rest ≡ least (map label_of (filter (λ (entry : Tetrahedron × ℕ). test entry.0) others)) → owner ≡ lesser mine rest
    → owner ≡ least (map label_of (filter (λ (entry : Tetrahedron × ℕ). test entry.0) (labelled part own ++ others)))
owner_is part test own others there mine rest owner on first second is =
    is
    ∙ ap (λ o. lesser o rest) (first ∙ ap (λ b. if b then Some part else None) on ∙ sym (owner-labelled part test own))
    ∙ ap (lesser (least (map label_of (filter (λ (entry : Tetrahedron × ℕ). test entry.0) (labelled part own))))) second
    ∙ sym (owner-append (λ entry. test entry.0) (labelled part own) others)

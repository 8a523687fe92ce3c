-- The tetrahedra around a place, as a table tells them.
use Rattle.std.proofs.Common.{◌≡◌, ℕ, zero, suc, ◌+◌, ◌<◌, ◌≤◌, Bool, true, false, cond, not, ◌&&◌, ◌||◌, if◌then◌else◌, List, [], ◌∷◌, ◌++◌, map, filter, length, get_or, take, drop, ◌-◌, inl, inr, ◌⊎◌, ⊎_elim, length-append, length-drop, append_assoc, refl, sym, ap, subst, ◌∙◌, arith}
use Rattle.std.specs.declared.cmp.Ordering.{Ordering}
use Rattle.std.specs.declared.cmp.Ordering.TheVariants.{Less, Equal, Greater}
use Rattle.std.specs.Cmp.{IsTotalOrder, nat_cmp_total, tied_itself}
use Rattle.std.specs.FinMap.{IsAntisymmetric, nat_cmp-IsAntisymmetric}
use Rattle.std.specs.List.{AllByRecursion}
use Rattle.std.specs.List.Sorted.{IsPartitionPoint, IsPartitionedBy, IsStrictlySortedBy}
use Rattle.std.specs.Ordering.{eq_by_cmp, is_eq, is_lt, nat_cmp, ordering_reverse, ordering_then}
use Rattle.std.proofs.lemmas.Bool.{false≢true, and_parts, cases_lt, or_right}
use Rattle.std.proofs.lemmas.Bool.Decides.{nat_tests}
use Rattle.std.proofs.lemmas.Cmp.{on_total, then_total}
use Rattle.std.proofs.Math.Seq.{drop-append_seam, take-length}
use Rattle.std.proofs.lemmas.List.{drop_more, length-map, map-append, take_all, take_more}
use Rattle.std.proofs.lemmas.List.Elements.{All-from_recursion, All-get_or, filter-append}
use Rattle.std.proofs.lemmas.Map.Keys.{Less-from_sorted}
use Rattle.std.proofs.lemmas.List.Folds.{list_any-append}
use Rattle.std.proofs.lemmas.List.Kept.{IsStrictlySortedBy-filter}
use Rattle.ma_geom.specs.Coordinates.{Coordinates, place_cmp}
use Rattle.ma_geom.proofs.PlaceOrder.{both_tie, place_cmp-IsAntisymmetric, place_cmp_total}
use Rattle.ma_cells.specs.Ascending.{ascending_of, has}
use Rattle.ma_cells.specs.Faces.{holds_all}
use Rattle.ma_cells.proofs.Ascents.{has-ascending_of, has-below, same_sorted, sorted-ascending_of}
use Rattle.ma_cells.proofs.Choices.{all-append}
use Rattle.ma_cells.proofs.Members.{any-at, has-filter, tied_is}
use Rattle.ma_cells.proofs.Passing.{all-filter, all-map, all_anyway, all_weaker, any-map}
use Rattle.ma_cells.proofs.SetItems.{all-ascending_of}
use Rattle.ma_cells.proofs.SetOperations.{head_and_tail}
use Rattle.corner_tables.specs.Tables.{corner_at, corner_cmp, corners_from}
use Rattle.corner_tables.specs.steps.Near.{near, not_above, not_below, picked}
use Rattle.corner_tables.specs.Tables.{positions_from}
use Rattle.corner_tables.specs.declared.table.Corner.{Corner}

pub corner_cmp_total : IsTotalOrder corner_cmp
corner_cmp_total = then_total (on_total (λ (c : Corner). c.place) place_cmp_total) (on_total (λ (c : Corner). c.position) nat_cmp_total)

pub corner_cmp-IsAntisymmetric : IsAntisymmetric corner_cmp
corner_cmp-IsAntisymmetric c d e =
    let both = both_tie (place_cmp c.place d.place) _ e in
    let places = place_cmp-IsAntisymmetric c.place d.place both.0 in
    let positions = nat_cmp-IsAntisymmetric c.position d.position both.1 in
    λ i. record { place = places i; position = positions i }

below : (m n : ℕ) → m < n → nat_cmp m n ≡ Less
below m n h = grind (arith, nat_tests)

-- ---- positions ascend, and are those of the items that pass the test
above : {X : Type 0} (k : ℕ) (test : X → Bool) (xs : List X) → AllByRecursion (λ i. k ≤ i) (positions_from k test xs)
above k test [] = tt
above k test (x ∷ xs) =
    let rest : AllByRecursion (λ i. k ≤ i) (positions_from (k + 1) test xs) = all_weaker (λ i. k + 1 ≤ i) (λ i. k ≤ i) (λ i h. omega arith) _ (above (k + 1) test xs) in
    elim (test x) as (λ b. AllByRecursion (λ i. k ≤ i) (cond b (k ∷ positions_from (k + 1) test xs) (positions_from (k + 1) test xs))) [ true ↦ (omega arith, rest) | false ↦ rest ]

later : {X : Type 0} (k : ℕ) (test : X → Bool) (xs : List X) → AllByRecursion (λ i. nat_cmp k i ≡ Less) (positions_from (k + 1) test xs)
later k test xs = all_weaker (λ i. k + 1 ≤ i) (λ i. nat_cmp k i ≡ Less) (λ i h. below k i (omega arith)) _ (above (k + 1) test xs)

pub positions-ascend : {X : Type 0} (k : ℕ) (test : X → Bool) (xs : List X) → IsStrictlySortedBy nat_cmp (positions_from k test xs)
unfolding IsStrictlySortedBy
positions-ascend k test [] = tt
positions-ascend k test (x ∷ xs) =
    elim (test x) as (λ b. IsStrictlySortedBy nat_cmp (cond b (k ∷ positions_from (k + 1) test xs) (positions_from (k + 1) test xs))) [
      | true ↦ (later k test xs, positions-ascend (k + 1) test xs)
      | false ↦ positions-ascend (k + 1) test xs
    ]

other : (m n : ℕ) → m < n → eq_by_cmp nat_cmp n m ≡ false
other m n h = grind (arith, nat_tests)

pub has-positions : {X : Type 0} (k : ℕ) (test : X → Bool) (xs : List X) (i : ℕ) (x : X) → i < length xs → x ≡ get_or xs i x → has nat_cmp (k + i) (positions_from k test xs) ≡ test x
has-positions k test [] i x within at = absurd (omega arith)
has-positions k test (y ∷ ys) zero x within at =
    subst (λ n. has nat_cmp n (positions_from k test (y ∷ ys)) ≡ test x) (omega arith) (first ∙ ap test (sym at))
  where
    first : has nat_cmp k (positions_from k test (y ∷ ys)) ≡ test y
    first =
        elim (test y) as (λ b. has nat_cmp k (cond b (k ∷ positions_from (k + 1) test ys) (positions_from (k + 1) test ys)) ≡ b) [
          | true ↦ ap (λ r. is_eq r || has nat_cmp k (positions_from (k + 1) test ys)) (tied_itself nat_cmp_total k)
          | false ↦ has-below nat_cmp_total k (positions_from (k + 1) test ys) (later k test ys)
        ]
has-positions k test (y ∷ ys) (suc i) x within at =
    let rest : has nat_cmp (k + suc i) (positions_from (k + 1) test ys) ≡ test x = subst (λ n. has nat_cmp n (positions_from (k + 1) test ys) ≡ test x) (omega arith) (has-positions (k + 1) test ys i x (omega arith) at) in
    elim (test y) as (λ b. has nat_cmp (k + suc i) (cond b (k ∷ positions_from (k + 1) test ys) (positions_from (k + 1) test ys)) ≡ test x) [
      | true ↦ ap (λ b. b || has nat_cmp (k + suc i) (positions_from (k + 1) test ys)) (other k (k + suc i) (omega arith)) ∙ rest
      | false ↦ rest
    ]

-- ---- the corners near a place are at it, and ascend by positions
neither : (p q : Coordinates) → not (is_lt (place_cmp p q)) ≡ true → not (is_lt (place_cmp q p)) ≡ true → p ≡ q
neither p q h k =
    elim (place_cmp p q) as (λ r. place_cmp p q ≡ r → not (is_lt r) ≡ true → p ≡ q) [
      | Less ↦ λ _ e. absurd (false≢true e)
      | Equal ↦ λ e _. place_cmp-IsAntisymmetric p q e
      | Greater ↦ λ e _. absurd (false≢true (sym (ap (λ r. not (is_lt r)) (place_cmp_total.antisymm q p ∙ ap ordering_reverse e)) ∙ k))
    ] refl h

near-all : (place : Coordinates) (cs : List Corner) → AllByRecursion (λ c. c.place ≡ place) (near place cs)
near-all place [] = tt
near-all place (c ∷ cs) =
    elim (not_below place c) as (λ b. not_below place c ≡ b → AllByRecursion (λ d. d.place ≡ place) (filter (not_above place) (cond b (c ∷ filter (not_below place) cs) (filter (not_below place) cs)))) [
      | true ↦ λ low. elim (not_above place c) as (λ b. not_above place c ≡ b → AllByRecursion (λ d. d.place ≡ place) (cond b (c ∷ near place cs) (near place cs))) [
        | true ↦ λ high. (neither c.place place low high, near-all place cs)
        | false ↦ λ _. near-all place cs
      ] refl
      | false ↦ λ _. near-all place cs
    ] refl

after_tie : (o p : Ordering) → o ≡ Equal → ordering_then o p ≡ Less → p ≡ Less
after_tie o p e h = sym (ap (λ r. ordering_then r p) e) ∙ h

below_all : (place : Coordinates) (c : Corner) (ds : List Corner) → c.place ≡ place → AllByRecursion (λ d. d.place ≡ place) ds → AllByRecursion (λ d. corner_cmp c d ≡ Less) ds
    → AllByRecursion (λ i. nat_cmp c.position i ≡ Less) (map (λ d. d.position) ds)
below_all place c [] e h k = tt
below_all place c (d ∷ ds) e h k =
    let tie : place_cmp c.place d.place ≡ Equal = ap (λ p. place_cmp c.place p) (h.0 ∙ sym e) ∙ tied_itself place_cmp_total c.place in
    (after_tie (place_cmp c.place d.place) (nat_cmp c.position d.position) tie k.0, below_all place c ds e h.1 k.1)

rise : (place : Coordinates) (cs : List Corner) → AllByRecursion (λ c. c.place ≡ place) cs → IsStrictlySortedBy corner_cmp cs → IsStrictlySortedBy nat_cmp (map (λ c. c.position) cs)
unfolding IsStrictlySortedBy
rise place [] h s = tt
rise place (c ∷ cs) h s = (below_all place c cs h.0 h.1 s.0, rise place cs h.1 s.1)

-- ---- each tetrahedron that has a place is told by a corner there
alike : (position : ℕ) (place : Coordinates) (ps : List Coordinates) → has corner_cmp (corner_at position place) (map (corner_at position) ps) ≡ has place_cmp place ps
alike position place [] = refl
alike position place (p ∷ ps) = rw (tied_itself nat_cmp_total position) (rw (alike position place ps) (ap (λ b. b || has place_cmp place ps) (then_equal (place_cmp place p))))
  where
    then_equal : (o : Ordering) → is_eq (ordering_then o Equal) ≡ is_eq o
    then_equal Less = refl
    then_equal Equal = refl
    then_equal Greater = refl

or_left : (a b : Bool) → a ≡ true → (a || b) ≡ true
or_left a b e = ap (λ c. c || b) e

told : (k i : ℕ) (place : Coordinates) (rest : List Coordinates) (cells : List (List Coordinates)) → has nat_cmp i (positions_from k (λ cell. holds_all cell (place ∷ rest)) cells) ≡ true
    → has corner_cmp (corner_at i place) (corners_from k cells) ≡ true
told k i place rest [] there = absurd (false≢true there)
told k i place rest (cell ∷ cells) there =
    let split = list_any-append (eq_by_cmp corner_cmp (corner_at i place)) (map (corner_at k) cell) (corners_from (k + 1) cells) in
    let here = has corner_cmp (corner_at i place) (map (corner_at k) cell) in
    let behind : has nat_cmp i (positions_from (k + 1) (λ c. holds_all c (place ∷ rest)) cells) ≡ true → has corner_cmp (corner_at i place) (corners_from k (cell ∷ cells)) ≡ true
    = λ m. split ∙ or_right here (has corner_cmp (corner_at i place) (corners_from (k + 1) cells)) (told (k + 1) i place rest cells m) in
    elim (holds_all cell (place ∷ rest)) as (λ b. holds_all cell (place ∷ rest) ≡ b
    → has nat_cmp i (cond b (k ∷ positions_from (k + 1) (λ c. holds_all c (place ∷ rest)) cells) (positions_from (k + 1) (λ c. holds_all c (place ∷ rest)) cells)) ≡ true
    → has corner_cmp (corner_at i place) (corners_from k (cell ∷ cells)) ≡ true) [
      | true ↦ λ holds. elim (eq_by_cmp nat_cmp i k) as (λ b. eq_by_cmp nat_cmp i k ≡ b → (b || has nat_cmp i (positions_from (k + 1) (λ c. holds_all c (place ∷ rest)) cells)) ≡ true
          → has corner_cmp (corner_at i place) (corners_from k (cell ∷ cells)) ≡ true) [
            | true ↦ λ tied _. split ∙ or_left here (has corner_cmp (corner_at i place) (corners_from (k + 1) cells))
                (subst (λ j. has corner_cmp (corner_at j place) (map (corner_at k) cell) ≡ true) (sym (tied_is nat_cmp-IsAntisymmetric i k tied)) (alike k place cell ∙ (and_parts (has place_cmp place cell) _ holds).0))
            | false ↦ λ _ m. behind m
          ] refl
      | false ↦ λ _ m. behind m
    ] refl there

-- ---- so what a table tells are the positions
module _ (place : Coordinates) (rest : List Coordinates) (cells : List (List Coordinates)) where
  abbrev table : List Corner
  table = ascending_of corner_cmp (corners_from 0 cells)

  abbrev wanted : List ℕ
  wanted = positions_from 0 (λ cell. holds_all cell (place ∷ rest)) cells

  abbrev found : List ℕ
  found = map (λ c. c.position) (near place table)

  itself : not (is_lt (place_cmp place place)) ≡ true
  itself = ap (λ r. not (is_lt r)) (tied_itself place_cmp_total place)

  among : (i : ℕ) → has nat_cmp i wanted ≡ true → has nat_cmp i found ≡ true
  among i there =
      let q = corner_at i place in
      let in_table : has corner_cmp q table ≡ true = has-ascending_of corner_cmp_total q (corners_from 0 cells) ∙ told 0 i place rest cells there in
      let low : has corner_cmp q (filter (not_below place) table) ≡ true = has-filter corner_cmp-IsAntisymmetric (not_below place) q table ∙ rw (in_table) itself in
      let is_near : has corner_cmp q (near place table) ≡ true = has-filter corner_cmp-IsAntisymmetric (not_above place) q (filter (not_below place) table) ∙ rw (low) itself in
      any-map (eq_by_cmp nat_cmp i) (λ c. c.position) (near place table) ∙ any-at corner_cmp-IsAntisymmetric (λ c. eq_by_cmp nat_cmp i c.position) q (near place table) is_near (ap is_eq (tied_itself nat_cmp_total i))

  both : (a b : Bool) → (b ≡ true → a ≡ true) → (a && b) ≡ b
  both a true h = rw (h refl) refl
  both true false h = refl
  both false false h = refl

  found-ascend : IsStrictlySortedBy nat_cmp found
  found-ascend =
      rise place (near place table) (near-all place table)
      (IsStrictlySortedBy-filter corner_cmp (not_above place) _ (IsStrictlySortedBy-filter corner_cmp (not_below place) table (sorted-ascending_of corner_cmp_total (corners_from 0 cells))))

  pub found-wanted : filter (λ i. has nat_cmp i wanted) found ≡ wanted
  found-wanted =
      same_sorted nat_cmp_total nat_cmp-IsAntisymmetric (filter (λ i. has nat_cmp i wanted) found) wanted
      (IsStrictlySortedBy-filter nat_cmp (λ i. has nat_cmp i wanted) found found-ascend) (positions-ascend 0 _ cells)
      (λ i. has-filter nat_cmp-IsAntisymmetric (λ j. has nat_cmp j wanted) i found ∙ both (has nat_cmp i found) (has nat_cmp i wanted) (among i))

-- ---- positions of corners are below the number of cells
bounded : (k : ℕ) (cells : List (List Coordinates)) → AllByRecursion (λ c. c.position < k + length cells) (corners_from k cells)
bounded k [] = tt
bounded k (cell ∷ cells) =
    all-append (λ c. c.position < k + suc (length cells)) (map (corner_at k) cell) (corners_from (k + 1) cells)
    (all-map (λ p. Unit {0}) (λ c. c.position < k + suc (length cells)) (corner_at k) (λ p _. omega arith) cell (all_anyway cell))
    (all_weaker (λ c. c.position < (k + 1) + length cells) (λ c. c.position < k + suc (length cells)) (λ c h. omega arith) _ (bounded (k + 1) cells))

pub near-bounded : (place : Coordinates) (cells : List (List Coordinates)) → AllByRecursion (λ c. c.position < length cells) (near place (ascending_of corner_cmp (corners_from 0 cells)))
near-bounded place cells =
    let all : AllByRecursion (λ c. c.position < length cells) (corners_from 0 cells) = all_weaker (λ c. c.position < 0 + length cells) (λ c. c.position < length cells) (λ c h. omega arith) _ (bounded 0 cells) in
    all-filter _ (not_above place) _ (all-filter _ (not_below place) _ (all-ascending_of corner_cmp (λ c. c.position < length cells) (corners_from 0 cells) all))

-- ---- a part of a list that a test cuts off at a point
pub cut : {X : Type 0} (p : X → Bool) (xs : List X) (i : ℕ) → i ≤ length xs → IsPartitionPoint (λ y. p y ≡ true) (λ y. p y ≡ false) xs i
    → (take i xs ≡ filter p xs) × (drop i xs ≡ filter (λ x. not (p x)) xs)
cut p [] zero h k = (refl, refl)
cut p [] (suc i) h k = absurd (omega arith)
cut p (x ∷ xs) zero h k =
    let rest = cut p xs zero (omega arith) (λ j d low high. absurd (omega arith), λ j d low high. k.1 (suc j) d (omega arith) (omega arith)) in
    rw (k.1 zero x (omega arith) (omega arith)) (rest.0, ap (λ ys. x ∷ ys) rest.1)
cut p (x ∷ xs) (suc i) h k =
    let rest = cut p xs i (omega arith) (λ j d low high. k.0 (suc j) d (omega arith) (omega arith), λ j d low high. k.1 (suc j) d (omega arith) (omega arith)) in
    rw (k.0 zero x (omega arith) (omega arith)) (ap (λ ys. x ∷ ys) rest.0, rest.1)

pub all_of_rest : {X : Type 0} (xs : List X) (i : ℕ) → take (length xs - i) (drop i xs) ≡ drop i xs
all_of_rest xs i = subst (λ n. take n (drop i xs) ≡ drop i xs) (length-drop i xs) (take-length (drop i xs))

-- ---- ascending corners are cut by their places
by_rank : (p : Corner → Bool) (cs : List Corner) → ((c d : Corner) → corner_cmp c d ≡ Less → p d ≡ true → p c ≡ true) → IsStrictlySortedBy corner_cmp cs → IsPartitionedBy p cs
by_rank p cs closed s i j d low high passed =
    ⊎_elim
    (λ less. closed (get_or cs i d) (get_or cs j d) (Less-from_sorted corner_cmp cs i j d s less high) passed)
    (λ over. subst (λ n. p (get_or cs n d) ≡ true) (omega arith) passed)
    (cases_lt i j)

not_after : (c d : Corner) → corner_cmp c d ≡ Less → (place_cmp c.place d.place ≡ Less) ⊎ (c.place ≡ d.place)
not_after c d e =
    elim (place_cmp c.place d.place) as (λ r. place_cmp c.place d.place ≡ r → ordering_then r (nat_cmp c.position d.position) ≡ Less → (place_cmp c.place d.place ≡ Less) ⊎ (c.place ≡ d.place)) [
      | Less ↦ λ is _. inl is
      | Equal ↦ λ is _. inr (place_cmp-IsAntisymmetric c.place d.place is)
      | Greater ↦ λ _ k. absurd (cc)
    ] refl e

less : (o : Ordering) → is_lt o ≡ true → o ≡ Less
less Less h = refl
less Equal h = absurd (false≢true h)
less Greater h = absurd (false≢true h)

pub cut_below : (place : Coordinates) (cs : List Corner) → IsStrictlySortedBy corner_cmp cs → IsPartitionedBy (λ c. is_lt (place_cmp c.place place)) cs
cut_below place cs s =
    by_rank (λ c. is_lt (place_cmp c.place place)) cs
    (λ c d e h. ⊎_elim
    (λ before. ap is_lt (place_cmp_total.trans c.place d.place place before (less _ h)))
    (λ same. subst (λ q. is_lt (place_cmp q place) ≡ true) (sym same) h)
    (not_after c d e)) s

pub cut_above : (place : Coordinates) (cs : List Corner) → IsStrictlySortedBy corner_cmp cs → IsPartitionedBy (not_above place) cs
cut_above place cs s =
    by_rank (not_above place) cs
    (λ c d e h. ⊎_elim
    (λ before. elim (place_cmp place c.place) as (λ r. place_cmp place c.place ≡ r → not (is_lt r) ≡ true) [
      | Less ↦ λ is. absurd (false≢true (sym (ap (λ r. not (is_lt r)) (place_cmp_total.trans place c.place d.place is before)) ∙ h))
      | Equal ↦ λ _. refl
      | Greater ↦ λ _. refl
    ] refl)
    (λ same. subst (λ q. not (is_lt (place_cmp place q)) ≡ true) (sym same) h)
    (not_after c d e)) s

-- ---- steps of the code
pub kept_step : (p : ℕ → Bool) (cs : List Corner) (i : ℕ) (c : Corner) (before after : List ℕ) (b : Bool) → i < length cs → c ≡ get_or cs i c → b ≡ p c.position
    → before ≡ filter p (map (λ d. d.position) (take i cs)) → after ≡ before ++ (if b then c.position ∷ [] else []) → after ≡ filter p (map (λ d. d.position) (take (i + 1) cs))
kept_step p cs i c before after b within at is so_far e =
    e ∙ rw (so_far, is) (sym (ap (λ ds. filter p (map (λ d. d.position) ds)) (take_more cs i c within ∙ ap (λ d. take i cs ++ d ∷ []) (sym at))
    ∙ ap (filter p) (map-append (λ d. d.position) (take i cs) (c ∷ [])) ∙ filter-append p (map (λ d. d.position) (take i cs)) (c.position ∷ [])))

-- what is at positions
picked-append : {X : Type 0} (xs : List X) (is js : List ℕ) → picked xs (is ++ js) ≡ picked xs is ++ picked xs js
picked-append xs [] js = refl
picked-append xs (i ∷ is) js = ap (λ ys. take 1 (drop i xs) ++ ys) (picked-append xs is js) ∙ sym (append_assoc (take 1 (drop i xs)) (picked xs is) (picked xs js))

pub picked_step : {X : Type 0} (xs : List X) (p : ℕ → Bool) (cs : List Corner) (i : ℕ) (c : Corner) (x : X) (before after : List X) (b : Bool) → i < length cs → c ≡ get_or cs i c
    → c.position < length xs → x ≡ get_or xs c.position x → b ≡ p c.position
    → before ≡ picked xs (filter p (map (λ d. d.position) (take i cs))) → after ≡ before ++ (if b then x ∷ [] else []) → after ≡ picked xs (filter p (map (λ d. d.position) (take (i + 1) cs)))
picked_step xs p cs i c x before after b within at inside there is so_far e =
    let so = filter p (map (λ d. d.position) (take i cs)) in
    e ∙ ap (λ ys. ys ++ (if b then x ∷ [] else [])) so_far ∙ ap (λ ys. picked xs so ++ ys) (one b) ∙ sym (picked-append xs so (if b then c.position ∷ [] else []))
    ∙ ap (picked xs) (kept_step p cs i c so (so ++ (if b then c.position ∷ [] else [])) b within at is refl refl)
  where
    there_alone : x ∷ [] ≡ take 1 (drop c.position xs) ++ []
    there_alone = rw (drop_more xs c.position x inside) (ap (λ y. y ∷ []) there)

    one : (b : Bool) → (if b then x ∷ [] else []) ≡ picked xs (if b then c.position ∷ [] else [])
    one true = there_alone
    one false = refl

picked_from : {X : Type 0} (test : X → Bool) (pre xs : List X) → picked (pre ++ xs) (positions_from (length pre) test xs) ≡ filter test xs
picked_from test pre [] = refl
picked_from test pre (x ∷ xs) =
    let rest : picked (pre ++ x ∷ xs) (positions_from (length pre + 1) test xs) ≡ filter test xs
    = subst (λ ys. picked ys (positions_from (length pre + 1) test xs) ≡ filter test xs) (append_assoc pre (x ∷ []) xs)
    (subst (λ n. picked ((pre ++ x ∷ []) ++ xs) (positions_from n test xs) ≡ filter test xs) (length-append pre (x ∷ [])) (picked_from test (pre ++ x ∷ []) xs)) in
    elim (test x) as (λ b. picked (pre ++ x ∷ xs) (cond b (length pre ∷ positions_from (length pre + 1) test xs) (positions_from (length pre + 1) test xs)) ≡ cond b (x ∷ filter test xs) (filter test xs)) [
      | true ↦ ap (λ ys. take 1 ys ++ picked (pre ++ x ∷ xs) (positions_from (length pre + 1) test xs)) (drop-append_seam pre (x ∷ xs)) ∙ ap (λ ys. x ∷ ys) rest
      | false ↦ rest
    ]

positions-map : {X Y : Type 0} (k : ℕ) (test : Y → Bool) (f : X → Y) (xs : List X) → positions_from k test (map f xs) ≡ positions_from k (λ x. test (f x)) xs
positions-map k test f [] = refl
positions-map k test f (x ∷ xs) = ap (λ is. if test (f x) then k ∷ is else is) (positions-map (k + 1) test f xs)

-- ---- what the code finds by a table of items, each with its corners
module _ {X : Type 0} (f : X → List Coordinates) (xs : List X) where
  abbrev table_of : List Corner
  table_of = ascending_of corner_cmp (corners_from 0 (map f xs))

  abbrev places_of : List Coordinates → List ℕ
  places_of at = positions_from 0 (λ x. holds_all (f x) at) xs

  pub position_within : (place : Coordinates) (all cs : List Corner) (i : ℕ) (c : Corner) → all ≡ table_of → cs ≡ near place all → i < length cs → c ≡ get_or cs i c → c.position < length xs
  position_within place all cs i c is_table is_near within at =
      let bound : AllByRecursion (λ d. d.position < length (map f xs)) cs = subst (λ ds. AllByRecursion (λ d. d.position < length (map f xs)) ds) (sym (is_near ∙ ap (near place) is_table)) (near-bounded place (map f xs)) in
      subst (λ n. c.position < n) (length-map xs f)
      (subst (λ d. d.position < length (map f xs)) (sym at) (All-get_or (λ d. d.position < length (map f xs)) cs i c within (All-from_recursion _ cs bound)))

  pub has-place : (at : List Coordinates) (i : ℕ) (x : X) → i < length xs → x ≡ get_or xs i x → has nat_cmp i (places_of at) ≡ holds_all (f x) at
  has-place at i x within there =
      subst (λ n. has nat_cmp n (places_of at) ≡ holds_all (f x) at) (omega arith) (has-positions 0 (λ y. holds_all (f y) at) xs i x within there)

  pub found_all : (at : List Coordinates) (place : Coordinates) (all cs : List Corner) (i : ℕ) → 1 ≤ length at → place ≡ get_or at 0 place → all ≡ table_of → cs ≡ near place all → length cs ≤ i
      → filter (λ j. has nat_cmp j (places_of at)) (map (λ c. c.position) (take i cs)) ≡ places_of at
  found_all at place all cs i some first is_table is_near over =
      ap (λ ds. filter (λ j. has nat_cmp j (places_of at)) (map (λ c. c.position) ds)) (take_all i cs over ∙ is_near ∙ ap (near place) is_table)
      ∙ subst (λ is. filter (λ j. has nat_cmp j is) (map (λ c. c.position) (near place table_of)) ≡ is) (positions-map 0 (λ cell. holds_all cell at) f xs)
      (subst (λ qs. filter (λ j. has nat_cmp j (positions_from 0 (λ cell. holds_all cell qs) (map f xs))) (map (λ c. c.position) (near place table_of)) ≡ positions_from 0 (λ cell. holds_all cell qs) (map f xs))
      (sym (head_and_tail at place some first)) (found-wanted place _ (map f xs)))

  pub picked_all : (at : List Coordinates) → picked xs (places_of at) ≡ filter (λ x. holds_all (f x) at) xs
  picked_all at = picked_from (λ x. holds_all (f x) at) [] xs

-- ---- positions are within the list
pub positions_bound : {X : Type 0} (k : ℕ) (test : X → Bool) (xs : List X) → AllByRecursion (λ i. i < k + length xs) (positions_from k test xs)
positions_bound k test [] = tt
positions_bound k test (x ∷ xs) =
    let rest : AllByRecursion (λ i. i < k + suc (length xs)) (positions_from (k + 1) test xs) = subst (λ n. AllByRecursion (λ i. i < n) (positions_from (k + 1) test xs)) (omega arith) (positions_bound (k + 1) test xs) in
    elim (test x) as (λ b. AllByRecursion (λ i. i < k + suc (length xs)) (cond b (k ∷ positions_from (k + 1) test xs) (positions_from (k + 1) test xs))) [
      | true ↦ (omega arith, rest)
      | false ↦ rest
    ]

pub positions_below : {X : Type 0} (test : X → Bool) (xs : List X) → AllByRecursion (λ i. i < length xs) (positions_from 0 test xs)
positions_below test xs = subst (λ n. AllByRecursion (λ i. i < n) (positions_from 0 test xs)) (omega arith) (positions_bound 0 test xs)

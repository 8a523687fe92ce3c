-- The first operation that collapses a corner of a mark, by a table of numbers.
use Rattle.std.proofs.Common.{◌≡◌, ℕ, suc, ◌+◌, ◌<◌, ◌≤◌, min, Bool, true, false, cond, ◌||◌, if◌then◌else◌, List, [], ◌∷◌, ◌++◌, length, take, drop, IfSome, Option, Some, None, refl, sym, ap, subst, ◌∙◌, append_assoc, arith, length-append}
use Rattle.std.specs.BTreeMap.{insert_entry, is_at}
use Rattle.std.specs.Cmp.{IsTotalOrder, eq_by_cmp_equiv}
use Rattle.std.specs.declared.cmp.Ordering.{Ordering}
use Rattle.std.specs.declared.cmp.Ordering.TheVariants.{Less, Equal, Greater}
use Rattle.std.specs.List.{flat_map}
use Rattle.std.specs.Map.{lookup}
use Rattle.std.specs.Ordering.{eq_by_cmp, is_eq, match_ordering}
use Rattle.ma_geom.specs.Coordinates.{Coordinates, place_cmp}
use Rattle.ma_geom.proofs.PlaceOrder.{place_cmp_total}
use Rattle.ma_cells.specs.Ascending.{has}
use Rattle.ma_cells.specs.Cells.{CellMark, corners_of}
use Rattle.cavity_rank.specs.Operations.{Operation}
use Rattle.pass_rules.specs.Passes.{changed_at, changed_by}
use Rattle.mesh_passes.specs.Marking.{collapses_one, first_at, first_from, firsts_from, lesser, moved_at, moved_by, numbered}

-- ---- what a table has at a key, once an entry is put in
turned : {K : Type 0} {R : K → K → Ordering} (o : IsTotalOrder R) (p a : K) → is_eq (R p a) ≡ is_eq (R a p)
turned o p a = (eq_by_cmp_equiv o).symm p a

module _ {K X : Type 0} {R : K → K → Ordering} (o : IsTotalOrder R) where
  pub looked_up : (p a : K) (k : X) (es : List (K × X)) → lookup (is_at (R p)) (insert_entry R es a k) ≡ cond (is_eq (R a p)) (Some k) (lookup (is_at (R p)) es)
  looked_up p a k [] = ap (λ b. cond b (Some k) None) (turned o p a)
  looked_up p a k (e ∷ es) =
      let rest = lookup (is_at (R p)) es in
      elim (R a e.0) as (λ r. R a e.0 ≡ r → lookup (is_at (R p)) (match_ordering r ((a, k) ∷ e ∷ es) ((e.0, k) ∷ es) (e ∷ insert_entry R es a k)) ≡ cond (is_eq (R a p)) (Some k) (cond (is_eq (R p e.0)) (Some e.1) rest)) [
        | Less ↦ λ _. ap (λ b. cond b (Some k) (cond (is_eq (R p e.0)) (Some e.1) rest)) (turned o p a)
        | Equal ↦ λ h.
            rw (ap is_eq (o.congr a e.0 p h) ∙ turned o e.0 p) (elim (is_eq (R p e.0)) as (λ b. cond b (Some k) rest ≡ cond b (Some k) (cond b (Some e.1) rest)) [ true ↦ refl | false ↦ refl ])
        | Greater ↦ λ h. ap (λ later. cond (is_eq (R p e.0)) (Some e.1) later) (looked_up p a k es)
            ∙ elim (R a p) as (λ r. R a p ≡ r → cond (is_eq (R p e.0)) (Some e.1) (cond (is_eq r) (Some k) rest) ≡ cond (is_eq r) (Some k) (cond (is_eq (R p e.0)) (Some e.1) rest)) [
              | Less ↦ λ _. refl
              | Equal ↦ λ f. ap (λ r. cond (is_eq r) (Some e.1) (Some k)) (sym (o.congr a p e.0 f) ∙ h)
              | Greater ↦ λ _. refl
            ] refl
      ] refl

-- ---- the first number at one corner, and at many
only : (b : Bool) → b ≡ (b || false)
only true = refl
only false = refl

at_corner : (p : Coordinates) (at : List Coordinates) (k : ℕ) (table : List (Coordinates × ℕ))
    → lookup (is_at (place_cmp p)) (numbered at k table) ≡ (if collapses_one at (p ∷ []) then Some k else lookup (is_at (place_cmp p)) table)
at_corner p [] k table = refl
at_corner p (a ∷ []) k table = looked_up place_cmp_total p a k table ∙ ap (λ b. cond b (Some k) (lookup (is_at (place_cmp p)) table)) (only (eq_by_cmp place_cmp a p))
at_corner p (a ∷ b ∷ at) k table = refl

first_of_corner : (k : ℕ) (p : Coordinates) (ops : List Operation) → lookup (is_at (place_cmp p)) (firsts_from k ops) ≡ first_from k (p ∷ []) ops
first_of_corner k p [] = refl
first_of_corner k p (op ∷ ops) = at_corner p op.at k (firsts_from (k + 1) ops) ∙ ap (λ later. if collapses_one op.at (p ∷ []) then Some k else later) (first_of_corner (k + 1) p ops)

-- no number is below where the count begins
no_lower : (k : ℕ) (corners : List Coordinates) (ops : List Operation) → IfSome (first_from k corners ops) (λ i. k ≤ i)
no_lower k corners [] = tt
no_lower k corners (op ∷ ops) =
    elim (collapses_one op.at corners) as (λ b. IfSome (if b then Some k else first_from (k + 1) corners ops) (λ i. k ≤ i)) [
      | true ↦ omega arith
      | false ↦ weaken (first_from (k + 1) corners ops) (no_lower (k + 1) corners ops)
    ]
  where
    weaken : (first : Option ℕ) → IfSome first (λ i. k + 1 ≤ i) → IfSome first (λ i. k ≤ i)
    weaken (Some i) h = omega (arith, h)
    weaken None h = tt

first_is : (k : ℕ) (other : Option ℕ) → IfSome other (λ i. k + 1 ≤ i) → Some k ≡ lesser (Some k) other
first_is k (Some i) h = let least : k ≡ min k i = omega (arith, h) in ap (λ n. Some n) least
first_is k None h = refl

second_is : (k : ℕ) (other : Option ℕ) → IfSome other (λ i. k + 1 ≤ i) → Some k ≡ lesser other (Some k)
second_is k (Some i) h = let least : k ≡ min i k = omega (arith, h) in ap (λ n. Some n) least
second_is k None h = refl

either : (p : Coordinates) (at corners : List Coordinates) → collapses_one at (p ∷ corners) ≡ (collapses_one at (p ∷ []) || collapses_one at corners)
either p [] corners = refl
either p (a ∷ []) corners = ap (λ b. b || has place_cmp a corners) (only (eq_by_cmp place_cmp a p))
either p (a ∷ b ∷ at) corners = refl

first_more : (k : ℕ) (p : Coordinates) (corners : List Coordinates) (ops : List Operation) → first_from k (p ∷ corners) ops ≡ lesser (first_from k (p ∷ []) ops) (first_from k corners ops)
first_more k p corners [] = refl
first_more k p corners (op ∷ ops) =
    ap (λ b. if b then Some k else first_from (k + 1) (p ∷ corners) ops) (either p op.at corners)
    ∙ by (first_more (k + 1) p corners ops) (collapses_one op.at (p ∷ [])) (collapses_one op.at corners)
  where
    by : (later : first_from (k + 1) (p ∷ corners) ops ≡ lesser (first_from (k + 1) (p ∷ []) ops) (first_from (k + 1) corners ops)) (b c : Bool) → (if b || c then Some k else first_from (k + 1) (p ∷ corners) ops) ≡ lesser (if b then Some k else first_from (k + 1) (p ∷ []) ops) (if c then Some k else first_from (k + 1) corners ops)
    by later true true = let same : k ≡ min k k = omega arith in ap (λ n. Some n) same
    by later true false = first_is k (first_from (k + 1) corners ops) (no_lower (k + 1) corners ops)
    by later false true = second_is k (first_from (k + 1) (p ∷ []) ops) (no_lower (k + 1) (p ∷ []) ops)
    by later false false = later

none_there : (at : List Coordinates) → collapses_one at [] ≡ false
none_there [] = refl
none_there (a ∷ []) = refl
none_there (a ∷ b ∷ at) = refl

first_of_none : (k : ℕ) (ops : List Operation) → first_from k [] ops ≡ None
first_of_none k [] = refl
first_of_none k (op ∷ ops) = rw (none_there op.at) (first_of_none (k + 1) ops)

pub first_listed : (k : ℕ) (corners : List Coordinates) (ops : List Operation) → first_at (firsts_from k ops) corners ≡ first_from k corners ops
first_listed k [] ops = sym (first_of_none k ops)
first_listed k (p ∷ corners) ops = (λ i. lesser (first_of_corner k p ops i) (first_listed k corners ops i)) ∙ sym (first_more k p corners ops)

-- ---- that number is one of an operation, and that operation decides
first_within : (k : ℕ) (corners : List Coordinates) (ops : List Operation) → IfSome (first_from k corners ops) (λ i. i < k + length ops)
first_within k corners [] = tt
first_within k corners (op ∷ ops) =
    elim (collapses_one op.at corners) as (λ b. IfSome (if b then Some k else first_from (k + 1) corners ops) (λ i. i < k + suc (length ops))) [
      | true ↦ omega arith
      | false ↦ weaken (first_from (k + 1) corners ops) (first_within (k + 1) corners ops)
    ]
  where
    weaken : (first : Option ℕ) → IfSome first (λ i. i < k + 1 + length ops) → IfSome first (λ i. i < k + suc (length ops))
    weaken (Some i) h = omega (arith, h)
    weaken None h = tt

pub is_within : (corners : List Coordinates) (ops : List Operation) → IfSome (first_at (firsts_from 0 ops) corners) (λ i. i < length ops)
is_within corners ops = rw (first_listed 0 corners ops) (plain (first_from 0 corners ops) (first_within 0 corners ops))
  where
    plain : (first : Option ℕ) → IfSome first (λ i. i < 0 + length ops) → IfSome first (λ i. i < length ops)
    plain (Some i) h = omega (arith, h)
    plain None h = tt

at_seam : (pre ops : List Operation) (op : Operation) → take 1 (drop (length pre) (pre ++ op ∷ ops)) ≡ op ∷ []
at_seam [] ops op = refl
at_seam (p ∷ pre) ops op = at_seam pre ops op

append_none : (marks : List CellMark) → marks ++ [] ≡ marks
append_none [] = refl
append_none (mark ∷ marks) = ap (λ rest. mark ∷ rest) (append_none marks)

module _ (mark : CellMark) where
  moved_from : (pre ops : List Operation) → moved_by (first_from (length pre) (corners_of mark.cell) ops) (pre ++ ops) mark ≡ changed_by ops mark
  moved_from pre [] = refl
  moved_from pre (op ∷ ops) = by (later (moved_from (pre ++ op ∷ []) ops)) op.at refl
    where
      later : moved_by (first_from (length (pre ++ op ∷ [])) (corners_of mark.cell) ops) ((pre ++ op ∷ []) ++ ops) mark ≡ changed_by ops mark
          → moved_by (first_from (length pre + 1) (corners_of mark.cell) ops) (pre ++ op ∷ ops) mark ≡ changed_by ops mark
      later before = subst (λ n. moved_by (first_from n (corners_of mark.cell) ops) (pre ++ op ∷ ops) mark ≡ changed_by ops mark) (length-append pre (op ∷ []))
          (subst (λ all. moved_by (first_from (length (pre ++ op ∷ [])) (corners_of mark.cell) ops) all mark ≡ changed_by ops mark) (append_assoc pre (op ∷ []) ops) before)

      by : moved_by (first_from (length pre + 1) (corners_of mark.cell) ops) (pre ++ op ∷ ops) mark ≡ changed_by ops mark → (at : List Coordinates) → op.at ≡ at
          → moved_by (if collapses_one at (corners_of mark.cell) then Some (length pre) else first_from (length pre + 1) (corners_of mark.cell) ops) (pre ++ op ∷ ops) mark ≡ changed_at at op.apex mark (changed_by ops mark)
      by after [] e = after
      by after (a ∷ []) e =
          elim (has place_cmp a (corners_of mark.cell)) as (λ b. moved_by (if b then Some (length pre) else first_from (length pre + 1) (corners_of mark.cell) ops) (pre ++ op ∷ ops) mark ≡ (if b then moved_at (a ∷ []) op.apex mark else changed_by ops mark)) [
            | true ↦ ap (flat_map (λ (op : Operation). moved_at op.at op.apex mark)) (at_seam pre ops op) ∙ append_none (moved_at op.at op.apex mark) ∙ ap (λ at. moved_at at op.apex mark) e
            | false ↦ after
          ]
      by after (a ∷ b ∷ at) e = after

  pub moved_first : (ops : List Operation) → moved_by (first_at (firsts_from 0 ops) (corners_of mark.cell)) ops mark ≡ changed_by ops mark
  moved_first ops = ap (λ first. moved_by first ops mark) (first_listed 0 (corners_of mark.cell) ops) ∙ moved_from [] ops

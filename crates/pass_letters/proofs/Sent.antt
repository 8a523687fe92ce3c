-- What goes to a part, found in lists.
use Rattle.std.proofs.Common.{◌≡◌, ℕ, Bool, true, false, cond, ◌&&◌, ◌||◌, List, [], ◌∷◌, map, filter, refl, sym, ap, ◌∙◌}
use Rattle.std.specs.Prelude.{◌==◌}
use Rattle.std.specs.declared.cmp.Ordering.{Ordering}
use Rattle.std.specs.declared.cmp.Ordering.TheVariants.{Less}
use Rattle.std.specs.List.{AllByRecursion, flat_map, zip}
use Rattle.std.specs.List.Sorted.{IsStrictlySortedBy}
use Rattle.std.specs.Ordering.{eq_by_cmp, nat_cmp}
use Rattle.std.proofs.lemmas.List.Folds.{list_any-append}
use Rattle.ma_cells.specs.Ascending.{ascending_of, has}
use Rattle.ma_cells.specs.Tetrahedron.{Tetrahedron}
use Rattle.ma_cells.specs.declared.batch.Batch.{Batch}
use Rattle.ma_cells.proofs.Ascents.{has-ascending_of}
use Rattle.cavity_rank.specs.Operations.{Operation, rank}
use Rattle.cavity_rank.proofs.Ranked.{rank_total}
use Rattle.part_gather.specs.Gathering.{deliveries}
use Rattle.part_gather.specs.Ordered.{ordered_by}
use Rattle.part_store.specs.Labelled.{marks_on}
use Rattle.part_store.specs.Stores.{StoreState}
use Rattle.part_vote.specs.Leading.{cavity_labels, reaches}
use Rattle.part_vote.specs.Voting.{is_from}
use Rattle.pass_letters.specs.Sending.{addressed_to}

-- ---- operations with the labels of their cavities
pub same_operations : {X Y : Type 0} (f : X → Y) (xs : List X) → map (λ (entry : X × Y). entry.0) (zip xs (map f xs)) ≡ xs
same_operations f [] = refl
same_operations f (x ∷ xs) = ap (λ rest. x ∷ rest) (same_operations f xs)

pub to_those_in_cavities : (tets : List (Tetrahedron × ℕ)) (part : ℕ) (ops : List Operation) → addressed_to (record { entries = zip ops (map (cavity_labels tets) ops) }) part ≡ filter (reaches tets part) ops
to_those_in_cavities tets part [] = refl
to_those_in_cavities tets part (op ∷ ops) =
    step (has nat_cmp part (cavity_labels tets op)) ∙ ap (λ rest. cond (has nat_cmp part (cavity_labels tets op)) (op ∷ rest) rest) (to_those_in_cavities tets part ops)
  where
    rest : List (Operation × List ℕ)
    rest = filter (λ (entry : Operation × List ℕ). has nat_cmp part entry.1) (zip ops (map (cavity_labels tets) ops))

    step : (b : Bool) → map (λ (entry : Operation × List ℕ). entry.0) (cond b ((op, cavity_labels tets op) ∷ rest) rest) ≡ cond b (op ∷ map (λ entry. entry.0) rest) (map (λ entry. entry.0) rest)
    step true = refl
    step false = refl

-- those that pass rise as all do
below_kept : {X Y : Type 0} (P : Y → Type 0) (f : X → Y) (test : X → Bool) (xs : List X) → AllByRecursion P (map f xs) → AllByRecursion P (map f (filter test xs))
below_kept P f test [] all = all
below_kept P f test (x ∷ xs) all =
    elim (test x) as (λ b. AllByRecursion P (map f (cond b (x ∷ filter test xs) (filter test xs)))) [
      | true ↦ (all.0, below_kept P f test xs all.1)
      | false ↦ below_kept P f test xs all.1
    ]

pub kept_rise : {X Y : Type 0} (R : Y → Y → Ordering) (f : X → Y) (test : X → Bool) (xs : List X) → IsStrictlySortedBy R (map f xs) → IsStrictlySortedBy R (map f (filter test xs))
unfolding IsStrictlySortedBy
kept_rise R f test [] rises = rises
kept_rise R f test (x ∷ xs) rises =
    elim (test x) as (λ b. IsStrictlySortedBy R (map f (cond b (x ∷ filter test xs) (filter test xs)))) [
      | true ↦ (below_kept (λ y. R (f x) y ≡ Less) f test xs rises.0, kept_rise R f test xs rises.1)
      | false ↦ kept_rise R f test xs rises.1
    ]

-- ---- an operation came from a part just if it is in the part's lists
in_own_lists : (lists : List (ℕ × List Operation)) (part : ℕ) (op : Operation) → has rank op (ordered_by lists part) ≡ is_from lists op part
in_own_lists [] part op = refl
in_own_lists (list ∷ lists) part op = by (list.0 == part) (in_own_lists lists part op)
  where
    rest : List (ℕ × List Operation)
    rest = filter (λ (order : ℕ × List Operation). order.0 == part) lists

    by : (b : Bool) → has rank op (ordered_by lists part) ≡ is_from lists op part → has rank op (flat_map (λ order. order.1) (cond b (list ∷ rest) rest)) ≡ ((b && has rank op list.1) || is_from lists op part)
    by true same = list_any-append (eq_by_cmp rank op) list.1 (ordered_by lists part) ∙ ap (λ b. has rank op list.1 || b) same
    by false same = same

pub in_own_set : (lists : List (ℕ × List Operation)) (part : ℕ) (op : Operation) → has rank op (ascending_of rank (ordered_by lists part)) ≡ is_from lists op part
in_own_set lists part op = has-ascending_of rank_total op (ordered_by lists part) ∙ in_own_lists lists part op

-- ---- where nothing is ordered, nothing is delivered
none_pass : {X : Type 0} (xs : List X) → filter (λ _. false) xs ≡ []
none_pass [] = refl
none_pass (x ∷ xs) = none_pass xs

pub nothing_ordered : (s : StoreState) → ◌≡◌ {A = Batch} (record { tets = []; marks = [] }) (deliveries s [])
nothing_ordered s = λ i. record { tets = sym (none_pass s.own) i; marks = sym (ap (λ tets. marks_on tets s.marks) (none_pass s.own) ∙ none_pass s.marks) i }

-- The holders of a cell are the tetrahedra that have all its corners.
use Rattle.std.proofs.Common.{◌≡◌, ℕ, zero, suc, ◌<◌, ◌⊎◌, inl, inr, Bool, true, false, cond, ◌&&◌, List, [], ◌∷◌, ◌++◌, Option, Some, None, Ok, Err, OnOk, Result, All, length, eqb, get_or, drop, take, map, flat_map, append_assoc, add-one, drop-cons, length-drop, ◌+◌, ◌-◌, ◌≤◌, refl, sym, ap, subst, ◌∙◌, arith}
use Rattle.std.specs.declared.cmp.Ordering.{Ordering}
use Rattle.std.specs.declared.cmp.Ordering.TheVariants.{Less, Equal, Greater}
use Rattle.std.specs.Cmp.{IsTotalOrder, nat_cmp_total, tied_itself}
use Rattle.std.specs.Cmp.Lexicographic.{options_total}
use Rattle.std.specs.FinMap.{IsAntisymmetric, nat_cmp-IsAntisymmetric}
use Rattle.std.specs.List.{AllByRecursion, HoldsAt, filter, list_any, take_while}
use Rattle.std.specs.List.Sorted.{IsStrictlySortedBy}
use Rattle.std.specs.Option.{is_none, option_cmp, unwrap_or}
use Rattle.std.specs.Ordering.{eq_by_cmp, is_eq, nat_cmp, ordering_then}
use Rattle.std.proofs.lemmas.Bool.{and_right}
use Rattle.std.proofs.lemmas.Bool.Decides.{nat_tests}
use Rattle.std.proofs.lemmas.Cmp.{on_total, then_total}
use Rattle.std.proofs.lemmas.List.{take_all}
use Rattle.std.proofs.lemmas.List.Folds.{list_any_at}
use Rattle.std.proofs.lemmas.List.Sums.{take_while-cons}
use Rattle.ma_geom.specs.Coordinates.{Coordinates, place_cmp}
use Rattle.ma_geom.proofs.PlaceOrder.{both_tie}
use Rattle.ma_cells.specs.Ascending.{are_ascending, ascending_of, has}
use Rattle.ma_cells.specs.Cells.{CellMark, cell_cmp, corners_of, is_cell}
use Rattle.ma_cells.specs.Faces.{holds_all}
use Rattle.ma_cells.specs.Incidence.{cells_of}
use Rattle.ma_cells.specs.Tetrahedron.{Tetrahedron, tet_cmp}
use Rattle.ma_cells.specs.declared.cell.Cell.{Cell}
use Rattle.ma_cells.proofs.Ascents.{has-ascending_of, is-ascending_of, sorted-ascending_of}
use Rattle.ma_cells.proofs.CellOrders.{cell_cmp-IsAntisymmetric, cell_cmp_total, derived_cell_cmp, tet_cmp-IsAntisymmetric}
use Rattle.ma_cells.proofs.CellLists.{has-cells_of}
use Rattle.ma_cells.specs.contracts.cell.CellOrd.TheImpl as CellOrder
use Rattle.msh_write.specs.steps.Holders.{Holder, holder_cmp, holder_element, holder_tags, holders_by, holders_of, is_among, is_of, marked_cells}
use Rattle.msh_write.specs.PartText.{Member, cell_tags, is_on_own, member_cmp, resident_element, resident_tags, residents_of}
use Rattle.msh_write.specs.Text.{element_line, mark_element, item_lines}
use Rattle.msh_write.proofs.TextLines.{numbered-alike}
use Rattle.msh_write.proofs.Sets.{any-and, any-ascending_of, any-filter, any-flat_map, any-same}
use Rattle.ma_cells.proofs.Passing.{any-map}

option-IsAntisymmetric : IsAntisymmetric (option_cmp nat_cmp)
option-IsAntisymmetric None None e = refl
option-IsAntisymmetric None (Some y) e = absurd (cc)
option-IsAntisymmetric (Some x) None e = absurd (cc)
option-IsAntisymmetric (Some x) (Some y) e = ap Some (nat_cmp-IsAntisymmetric x y e)

pub member_cmp-IsAntisymmetric : IsAntisymmetric member_cmp
member_cmp-IsAntisymmetric m n e =
    let both = both_tie (tet_cmp m.0 n.0) _ e in
    let tets = tet_cmp-IsAntisymmetric m.0 n.0 both.0 in
    let labels = option-IsAntisymmetric m.1 n.1 both.1 in
    λ i. (tets i, labels i)

pub holder_cmp_total : IsTotalOrder holder_cmp
holder_cmp_total =
    then_total (on_total (λ (h : Holder). h.0) cell_cmp_total) (on_total (λ (h : Holder). h.1) (options_total nat_cmp_total))

pub holder_cmp-IsAntisymmetric : IsAntisymmetric holder_cmp
holder_cmp-IsAntisymmetric h k e =
    let both = both_tie (cell_cmp h.0 k.0) _ e in
    let cells = cell_cmp-IsAntisymmetric h.0 k.0 both.0 in
    let labels = option-IsAntisymmetric h.1 k.1 both.1 in
    λ i. (cells i, labels i)

-- the derived order of holders is theirs

pub derived_holder_cmp : (λ (h k : Holder). ordering_then (CellOrder.ghosts.cmp h.0 k.0) (option_cmp nat_cmp h.1 k.1)) ≡ holder_cmp
derived_holder_cmp = λ i h k. ordering_then (derived_cell_cmp h.0 k.0 i) (option_cmp nat_cmp h.1 k.1)

-- what is below another by two orders is below it by the first or tied
not_above : (a b : Ordering) → ordering_then a b ≡ Less → (a ≡ Less) ⊎ (a ≡ Equal)
not_above Less b e = inl refl
not_above Equal b e = inr refl
not_above Greater b e = absurd (cc)

-- what comes after a later cell isn't of the cell
none-later : (cell : Cell) (h : Holder) (hs : List Holder) → cell_cmp cell h.0 ≡ Less → AllByRecursion (λ k. holder_cmp h k ≡ Less) hs → filter (is_of cell) hs ≡ []
none-later cell h [] later s = refl
none-later cell h (k ∷ hs) later s =
    let after : cell_cmp cell k.0 ≡ Less = elim (not_above (cell_cmp h.0 k.0) _ s.0) [
      | inl low ↦ cell_cmp_total.trans cell h.0 k.0 later low
      | inr tie ↦ subst (λ c. cell_cmp cell c ≡ Less) (cell_cmp-IsAntisymmetric h.0 k.0 tie) later
    ] in
    rw after (none-later cell h hs later s.1)

-- those of a cell come first among all from the cell on
first-filter : (cell : Cell) (hs : List Holder) → IsStrictlySortedBy holder_cmp hs → AllByRecursion (λ h. holder_cmp (cell, None) h ≡ Less) hs
    → take_while (is_of cell) hs ≡ filter (is_of cell) hs
unfolding IsStrictlySortedBy
first-filter cell [] s above = refl
first-filter cell (h ∷ hs) s above =
    take_while-cons (is_of cell) h hs
    ∙ elim (not_above (cell_cmp cell h.0) _ above.0) [
      | inl low ↦ rw low (sym (none-later cell h hs low s.0))
      | inr tie ↦ rw tie (ap (λ ks. h ∷ ks) (first-filter cell hs s.1 above.1))
    ]

below_first : (a b : Ordering) → (b ≡ Less → ⊥) → ordering_then a b ≡ Less → a ≡ Less
below_first Less b h e = refl
below_first Equal b h e = absurd (h e)
below_first Greater b h e = absurd (cc)

none_is_least : (label : Option ℕ) → option_cmp nat_cmp label None ≡ Less → ⊥
none_is_least None e = cc
none_is_least (Some label) e = cc

-- what is below the cell's own holder isn't of the cell
none-before : (cell : Cell) (h : Holder) → holder_cmp h (cell, None) ≡ Less → is_of cell h ≡ false
none-before cell h e =
    let low : cell_cmp h.0 cell ≡ Less = below_first (cell_cmp h.0 cell) (option_cmp nat_cmp h.1 None) (none_is_least h.1) e in
    rw (cell_cmp_total.antisymm cell h.0, low) refl

at-tail : (h : Holder) (hs : List Holder) (k : ℕ) (d : Holder) → k < length hs → AllByRecursion (λ z. holder_cmp h z ≡ Less) hs → holder_cmp h (get_or hs k d) ≡ Less
at-tail h [] k d below s = absurd (omega arith)
at-tail h (z ∷ hs) zero d below s = s.0
at-tail h (z ∷ hs) (suc k) d below s = at-tail h hs k d (omega arith) s.1

-- the holders of a cell begin where its own holder is
pub from-first : (cell : Cell) (hs : List Holder) (i : ℕ) (d : Holder) → IsStrictlySortedBy holder_cmp hs → i < length hs → get_or hs i d ≡ (cell, None)
    → take_while (is_of cell) (drop i hs) ≡ filter (is_of cell) hs
unfolding IsStrictlySortedBy
from-first cell [] i d s below is = absurd (omega arith)
from-first cell (h ∷ hs) zero d s below is =
    let itself : is_of cell h ≡ true = ap (λ k. is_of cell k) is ∙ ap is_eq (tied_itself cell_cmp_total cell) in
    take_while-cons (is_of cell) h hs
    ∙ rw itself (ap (λ ks. h ∷ ks) (first-filter cell hs s.1 (subst (λ k. AllByRecursion (λ z. holder_cmp k z ≡ Less) hs) is s.0)))
from-first cell (h ∷ hs) (suc k) d s below is =
    let before : is_of cell h ≡ false = none-before cell h (subst (λ z. holder_cmp h z ≡ Less) is (at-tail h hs k d (omega arith) s.0)) in
    rw before (from-first cell hs k d s.1 (omega arith) is)

is_long : (n m : ℕ) → eqb n m ≡ true → n ≡ m
is_long n m h = grind (arith, nat_tests)

own_tie : (o : Ordering) (label : Option ℕ) → is_eq (ordering_then o (option_cmp nat_cmp None label)) ≡ (is_eq o && is_none label)
own_tie Less label = refl
own_tie Equal None = refl
own_tie Equal (Some label) = refl
own_tie Greater label = refl

and_turned : (a b : Bool) → (a && b) ≡ (b && a)
and_turned true true = refl
and_turned true false = refl
and_turned false true = refl
and_turned false false = refl

module _ (cells : List Cell) (cell : Cell) (is : is_cell cell ≡ true) (marked : is_among cells cell ≡ true) where
  -- what is the cell is among the cells
  kept : (c : Cell) (b : Bool) → (is_among cells c && (eq_by_cmp cell_cmp cell c && b)) ≡ (eq_by_cmp cell_cmp cell c && b)
  kept c b =
      elim (cell_cmp cell c) as (λ r. cell_cmp cell c ≡ r → (is_among cells c && (is_eq r && b)) ≡ (is_eq r && b)) [
        | Less ↦ λ _. and_right (is_among cells c) false refl
        | Equal ↦ λ e. ap (λ a. a && b) (subst (λ d. is_among cells d ≡ true) (cell_cmp-IsAntisymmetric cell c e) marked)
        | Greater ↦ λ _. and_right (is_among cells c) false refl
      ] refl

  -- a further condition on who has the cell
  of_member : (m : Member) (b : Bool) → are_ascending place_cmp m.0.corners ≡ true → list_any (λ c. eq_by_cmp cell_cmp cell c && b) (filter (is_among cells) (cells_of m.0.corners)) ≡ (holds_all m.0.corners (corners_of cell) && b)
  of_member m b rises =
      any-filter (λ c. eq_by_cmp cell_cmp cell c && b) (is_among cells) (cells_of m.0.corners)
      ∙ ap (λ f. list_any f (cells_of m.0.corners)) (λ i c. kept c b i)
      ∙ any-and (λ c. eq_by_cmp cell_cmp cell c) b (cells_of m.0.corners) ∙ ap (λ a. a && b) (has-cells_of m.0.corners rises cell is)

  own-by : (m : Member) → are_ascending place_cmp m.0.corners ≡ true → has holder_cmp (cell, None) (holders_by cells m) ≡ (is_none m.1 && holds_all m.0.corners (corners_of cell))
  own-by m rises =
      any-map (eq_by_cmp holder_cmp (cell, None)) (λ c. (c, m.1)) (filter (is_among cells) (cells_of m.0.corners))
      ∙ ap (λ f. list_any f (filter (is_among cells) (cells_of m.0.corners))) (λ i c. own_tie (cell_cmp cell c) m.1 i)
      ∙ of_member m (is_none m.1) rises
      ∙ and_turned (holds_all m.0.corners (corners_of cell)) (is_none m.1)

  own-each : (members : List Member) → AllByRecursion (λ m. are_ascending place_cmp m.0.corners ≡ true) members
      → AllByRecursion (λ m. has holder_cmp (cell, None) (holders_by cells m) ≡ (is_none m.1 && holds_all m.0.corners (corners_of cell))) members
  own-each [] h = tt
  own-each (m ∷ members) h = (own-by m h.0, own-each members h.1)

  own-is : (members : List Member) → AllByRecursion (λ m. are_ascending place_cmp m.0.corners ≡ true) members → has holder_cmp (cell, None) (holders_of cells members) ≡ is_on_own members (corners_of cell)
  own-is members h =
      has-ascending_of holder_cmp_total (cell, None) (flat_map (holders_by cells) members)
      ∙ any-flat_map (eq_by_cmp holder_cmp (cell, None)) (holders_by cells) members
      ∙ any-same (λ m. has holder_cmp (cell, None) (holders_by cells m)) (λ m. is_none m.1 && holds_all m.0.corners (corners_of cell)) members (own-each members h)

  resident-each : (part q : ℕ) (members : List Member) → AllByRecursion (λ m. are_ascending place_cmp m.0.corners ≡ true) members
      → AllByRecursion (λ m. list_any (λ h. is_of cell h && eq_by_cmp nat_cmp q (unwrap_or h.1 part)) (holders_by cells m) ≡ (holds_all m.0.corners (corners_of cell) && eq_by_cmp nat_cmp q (unwrap_or m.1 part))) members
  resident-each part q [] h = tt
  resident-each part q (m ∷ members) h = (
    any-map (λ k. is_of cell k && eq_by_cmp nat_cmp q (unwrap_or k.1 part)) (λ c. (c, m.1)) (filter (is_among cells) (cells_of m.0.corners)) ∙ of_member m (eq_by_cmp nat_cmp q (unwrap_or m.1 part)) h.0,
    resident-each part q members h.1,
  )

  resident-is : (part q : ℕ) (members : List Member) → AllByRecursion (λ m. are_ascending place_cmp m.0.corners ≡ true) members
      → has nat_cmp q (map (λ h. unwrap_or h.1 part) (filter (is_of cell) (holders_of cells members)))
      ≡ has nat_cmp q (map (λ m. unwrap_or m.1 part) (filter (λ m. holds_all m.0.corners (corners_of cell)) members))
  resident-is part q members h =
      let wanted : Holder → Bool = λ k. is_of cell k && eq_by_cmp nat_cmp q (unwrap_or k.1 part) in
      any-map (eq_by_cmp nat_cmp q) (λ k. unwrap_or k.1 part) (filter (is_of cell) (holders_of cells members))
      ∙ any-filter (λ k. eq_by_cmp nat_cmp q (unwrap_or k.1 part)) (is_of cell) (holders_of cells members)
      ∙ any-ascending_of holder_cmp-IsAntisymmetric wanted (flat_map (holders_by cells) members)
      ∙ any-flat_map wanted (holders_by cells) members
      ∙ any-same (λ m. list_any wanted (holders_by cells m)) (λ m. holds_all m.0.corners (corners_of cell) && eq_by_cmp nat_cmp q (unwrap_or m.1 part)) members (resident-each part q members h)
      ∙ sym (any-map (eq_by_cmp nat_cmp q) (λ m. unwrap_or m.1 part) (filter (λ m. holds_all m.0.corners (corners_of cell)) members)
      ∙ any-filter (λ m. eq_by_cmp nat_cmp q (unwrap_or m.1 part)) (λ m. holds_all m.0.corners (corners_of cell)) members)

  residents-are : (part : ℕ) (members : List Member) → AllByRecursion (λ m. are_ascending place_cmp m.0.corners ≡ true) members
      → ascending_of nat_cmp (map (λ h. unwrap_or h.1 part) (filter (is_of cell) (holders_of cells members))) ≡ residents_of part members (corners_of cell)
  residents-are part members h =
      let labels : List ℕ = map (λ k. unwrap_or k.1 part) (filter (is_of cell) (holders_of cells members)) in
      is-ascending_of nat_cmp_total nat_cmp-IsAntisymmetric (ascending_of nat_cmp labels) _ (sorted-ascending_of nat_cmp_total labels)
      (λ q. has-ascending_of nat_cmp_total q labels ∙ resident-is part q members h)

  -- the tags by the holders are those that the tetrahedra give
  pub tags-are : (part : ℕ) (members : List Member) → AllByRecursion (λ m. are_ascending place_cmp m.0.corners ≡ true) members → holder_tags part (holders_of cells members) cell ≡ cell_tags part members (corners_of cell)
  tags-are part members h =
      ap (λ b. cond b (resident_tags (ascending_of nat_cmp (map (λ k. unwrap_or k.1 part) (filter (is_of cell) (holders_of cells members))))) []) (own-is members h)
      ∙ ap (λ parts. cond (is_on_own members (corners_of cell)) (resident_tags parts) []) (residents-are part members h)

-- one more holder of the cell
pub parts-step : (cell : Cell) (part : ℕ) (hs : List Holder) (i : ℕ) (h : Holder) (before written all : List ℕ) → i < length hs → h ≡ get_or hs i h → is_of cell h ≡ true
    → before ++ map (λ k. unwrap_or k.1 part) (take_while (is_of cell) (drop i hs)) ≡ all → written ≡ before ++ unwrap_or h.1 part ∷ []
    → written ++ map (λ k. unwrap_or k.1 part) (take_while (is_of cell) (drop (i + 1) hs)) ≡ all
parts-step cell part hs i h before written all below at tied so_far e =
    let rest : List Holder = drop (suc i) hs in
    let more : take_while (is_of cell) (drop i hs) ≡ h ∷ take_while (is_of cell) rest =
    rw (drop-cons hs i h, ← at) (take_while-cons (is_of cell) h rest ∙ ap (λ b. cond b (h ∷ take_while (is_of cell) rest) []) tied) in
    rw (e, add-one i) (append_assoc before (unwrap_or h.1 part ∷ []) _ ∙ sym (ap (λ ks. before ++ map (λ k. unwrap_or k.1 part) ks) more) ∙ so_far)

pub members-added : (own own' : List Tetrahedron) (ghosts ghosts' : List (Tetrahedron × ℕ)) (a b c : List Member) → a ≡ [] → own' ≡ own → ghosts' ≡ ghosts
    → b ≡ a ++ map (λ tet. (tet, None)) own' → c ≡ b ++ map (λ g. (g.0, Some g.1)) ghosts' → c ≡ map (λ tet. (tet, None)) own ++ map (λ g. (g.0, Some g.1)) ghosts
members-added own own' ghosts ghosts' a b c start owns ghosts_are first second = rw (second, first, start, owns, ghosts_are) refl

pub tied_holder : (h k : Holder) → ordering_then (CellOrder.ghosts.cmp h.0 k.0) (option_cmp nat_cmp h.1 k.1) ≡ Equal → h ≡ k
tied_holder h k e = holder_cmp-IsAntisymmetric h k (ap (λ R. R h k) (sym derived_holder_cmp) ∙ e)

rest_length : {X : Type 0} (xs : List X) (i : ℕ) → length (drop i xs) ≤ length xs - i
rest_length xs i = rw (length-drop i xs) (omega arith)

-- the tags from where the holders of a cell begin
pub tags-from-first : (part : ℕ) (hs : List Holder) (cell : Cell) (i : ℕ) → IsStrictlySortedBy holder_cmp hs → i < length hs → HoldsAt (λ h. h ≡ (cell, None)) hs i
    → resident_tags (ascending_of nat_cmp (map (λ h. unwrap_or h.1 part) (take_while (is_of cell) (take (length hs - i) (drop i hs))))) ≡ holder_tags part hs cell
tags-from-first part hs cell i s below at =
    let own : Holder = (cell, None) in
    let itself : eq_by_cmp holder_cmp own (get_or hs i own) ≡ true = ap (λ h. eq_by_cmp holder_cmp own h) (at own) ∙ ap is_eq (tied_itself holder_cmp_total own) in
    let there : has holder_cmp own hs ≡ true = list_any_at (eq_by_cmp holder_cmp own) hs i own below itself in
    ap (λ ks. resident_tags (ascending_of nat_cmp (map (λ h. unwrap_or h.1 part) (take_while (is_of cell) ks)))) (take_all (length hs - i) (drop i hs) (rest_length hs i))
    ∙ ap (λ ks. resident_tags (ascending_of nat_cmp (map (λ h. unwrap_or h.1 part) ks))) (from-first cell hs i own s below (at own))
    ∙ sym (ap (λ b. cond b (resident_tags (ascending_of nat_cmp (map (λ h. unwrap_or h.1 part) (filter (is_of cell) hs)))) []) there)

by_recursion : {X : Type 0} (P : X → Type 0) (xs : List X) → All P xs → AllByRecursion P xs
by_recursion P [] h = tt
by_recursion P (x ∷ xs) h = (h 0 x (omega arith), by_recursion P xs (λ k d below. h (suc k) d (omega arith)))

marked-there : (marks : List CellMark) → All (λ mark. is_among (marked_cells marks) mark.cell ≡ true) marks
marked-there marks = λ k d below.
    let cell : Cell = (get_or marks k d).cell in
    has-ascending_of cell_cmp_total cell (map (λ mark. mark.cell) marks)
    ∙ any-map (eq_by_cmp cell_cmp cell) (λ mark. mark.cell) marks
    ∙ list_any_at (λ mark. eq_by_cmp cell_cmp cell mark.cell) marks k d below (ap is_eq (tied_itself cell_cmp_total cell))

-- the lines of marks by the holders of their cells
pub marks-alike : (nodes : List Coordinates) (part : ℕ) (cells : List Cell) (members : List Member) (holders : List Holder) (marks : List CellMark) → cells ≡ marked_cells marks
    → holders ≡ holders_of cells members → All (λ m. are_ascending place_cmp m.0.corners ≡ true) members → All (λ mark. is_cell mark.cell ≡ true) marks
    → item_lines (λ number mark. element_line nodes number (holder_element part holders mark)) marks ≡ item_lines (λ number mark. element_line nodes number (resident_element part members mark)) marks
marks-alike nodes part cells members holders marks marked is rise are_cells =
    ap (λ hs. item_lines (λ number mark. element_line nodes number (holder_element part hs mark)) marks) is
    ∙ numbered-alike (λ number mark. element_line nodes number (holder_element part (holders_of cells members) mark)) (λ number mark. element_line nodes number (resident_element part members mark))
    (λ mark. (is_cell mark.cell ≡ true) × (is_among cells mark.cell ≡ true))
    (λ number mark known. ap (λ tags. element_line nodes number (mark_element tags mark)) (tags-are cells mark.cell known.0 known.1 part members (by_recursion (λ m. are_ascending place_cmp m.0.corners ≡ true) members rise)))
    marks (λ k d below. (are_cells k d below, subst (λ cs. is_among cs (get_or marks k d).cell ≡ true) (sym marked) (marked-there marks k d below)))

pub both_ok : {T E A B C : Type 0} (r : Result T E) → OnOk r A → OnOk r B → (A → B → C) → OnOk r C
both_ok (Ok x) a b f = f a b
both_ok (Err e) a b f = tt

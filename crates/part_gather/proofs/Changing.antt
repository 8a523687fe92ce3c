-- What operations leave of marks and of cavities.
use Rattle.std.proofs.Common.{◌≡◌, ℕ, ◌+◌, ◌<◌, ◌≤◌, ◌⊎◌, ⊎_elim, arith, append_assoc, drop_of_length-le, Bool, true, false, cond, ◌&&◌, ◌||◌, List, [], ◌∷◌, ◌++◌, drop, filter, get_or, length, ◌==◌, refl, sym, ap, ap₂, ◌∙◌}
use Rattle.std.specs.Prelude.{Some}
use Rattle.std.specs.Cmp.{IsTotalOrder, tied_itself}
use Rattle.std.specs.FinMap.{IsAntisymmetric}
use Rattle.std.specs.List.{AllByRecursion, flat_map}
use Rattle.std.specs.List.Sorted.{IsStrictlySortedBy}
use Rattle.std.specs.Option.{option_map, option_to_list}
use Rattle.std.specs.Ordering.{eq_by_cmp, is_eq}
use Rattle.std.specs.declared.cmp.Ordering.{Ordering}
use Rattle.std.proofs.lemmas.Bool.{and_parts, eqb-true, false≢true, or_parts}
use Rattle.std.proofs.lemmas.List.{append-nil, drop_more}
use Rattle.std.proofs.lemmas.List.Folds.{list_any-append}
use Rattle.std.proofs.lemmas.List.Kept.{IsStrictlySortedBy-filter}
use Rattle.std.proofs.lemmas.List.Sorted.{IsPermutation-refl}
use Rattle.ma_geom.specs.Coordinates.{Coordinates, place_cmp}
use Rattle.ma_geom.proofs.PlaceOrder.{place_cmp-IsAntisymmetric, place_cmp_total}
use Rattle.ma_cells.specs.Ascending.{are_ascending, ascending_of, has}
use Rattle.ma_cells.specs.Cells.{CellMark, cell_of, corners_of, is_cell, mark_cmp, mark_on}
use Rattle.ma_cells.specs.Stars.{cone}
use Rattle.ma_cells.specs.Tetrahedron.{Tetrahedron, tet_cmp}
use Rattle.ma_cells.specs.declared.batch.Batch.{Batch}
use Rattle.ma_cells.specs.declared.cell.Cell.{Cell}
use Rattle.ma_cells.specs.declared.cell.Cell.TheVariants.{Point, Seg, Tri}
use Rattle.ma_cells.proofs.Ascents.{has-ascending_of, is-ascending_of, sorted-ascending_of}
use Rattle.ma_cells.proofs.CellOrders.{mark_cmp-IsAntisymmetric, mark_cmp_total, tet_cmp-IsAntisymmetric, tet_cmp_total}
use Rattle.ma_cells.proofs.Cornered.{cell_of-sorted, cell_on-three, cell_on-two}
use Rattle.ma_cells.proofs.Members.{has-filter, tied_is}
use Rattle.cavity_rank.specs.Operations.{Operation}
use Rattle.cavity_collapse.specs.Collapsing.{is_same, moved_corners, moved_mark}
use Rattle.cavity_swap.specs.Swapping.{outer_faces, swapped}
use Rattle.pass_rules.specs.Choosing.{is_in, is_taken}
use Rattle.pass_rules.specs.Passes.{changed_at, filling}
use Rattle.part_gather.specs.Gathering.{cavity, filled, marks_by}

-- ---- sets
module _ {K : Type 0} {R : K → K → Ordering} (o : IsTotalOrder R) (exact : IsAntisymmetric R) where
  -- what ascends is its own set
  pub set_is : (xs : List K) → IsStrictlySortedBy R xs → ascending_of R xs ≡ xs
  set_is xs rises = sym (is-ascending_of o exact xs xs rises (λ q. refl))

  -- lists with the same members make one set
  pub same_set : (xs ys : List K) → ((q : K) → has R q xs ≡ has R q ys) → ascending_of R xs ≡ ascending_of R ys
  same_set xs ys same = is-ascending_of o exact (ascending_of R xs) ys (sorted-ascending_of o xs) (λ q. has-ascending_of o q xs ∙ same q)

-- ---- a collapse leaves a mark without its vertex
unmoved : (a v : Coordinates) (l : List Coordinates) → has place_cmp a l ≡ false → moved_corners a v l ≡ l
unmoved a v [] none = refl
unmoved a v (p ∷ l) none =
    let parts = or_parts (eq_by_cmp place_cmp a p) (has place_cmp a l) none in
    ap₂ (λ q k. q ∷ k) (by (is_same p a) (λ tied. false≢true (sym parts.0 ∙ ap (λ q. eq_by_cmp place_cmp a q) (tied_is place_cmp-IsAntisymmetric p a tied) ∙ ap is_eq (tied_itself place_cmp_total a)))) (unmoved a v l parts.1)
  where
    by : (b : Bool) → (b ≡ true → ⊥) → cond b v p ≡ p
    by true not = absurd (not refl)
    by false not = refl

itself : (cell : Cell) → is_cell cell ≡ true → cell_of (corners_of cell) ≡ Some cell
itself (Point p) is = refl
itself (Seg s) is =
    let parts = and_parts (length s == 2) (are_ascending place_cmp s) is in
    cell_of-sorted s s (IsPermutation-refl s) parts.1 ∙ sym (cell_on-two s (eqb-true (length s) 2 parts.0))
itself (Tri t) is =
    let parts = and_parts (length t == 3) (are_ascending place_cmp t) is in
    cell_of-sorted t t (IsPermutation-refl t) parts.1 ∙ sym (cell_on-three t (eqb-true (length t) 3 parts.0))

stays : (a v : Coordinates) (m : CellMark) → is_cell m.cell ≡ true → has place_cmp a (corners_of m.cell) ≡ false → moved_mark a v m ≡ m ∷ []
stays a v m is none =
    ap (λ l. option_to_list (mark_on l m.phys m.elem)) (unmoved a v (corners_of m.cell) none)
    ∙ ap (λ o. option_to_list (option_map (λ (cell : Cell). record { cell = cell; phys = m.phys; elem = m.elem }) o)) (itself m.cell is)

left_by : (a v : Coordinates) (m : CellMark) → is_cell m.cell ≡ true → moved_mark a v m ≡ changed_at (a ∷ []) v m (m ∷ [])
left_by a v m is = by (has place_cmp a (corners_of m.cell)) refl
  where
    by : (b : Bool) → has place_cmp a (corners_of m.cell) ≡ b → moved_mark a v m ≡ cond b (moved_mark a v m) (m ∷ [])
    by true there = refl
    by false none = stays a v m is none

pub marks_left : (a v : Coordinates) (marks : List CellMark) → AllByRecursion (λ (m : CellMark). is_cell m.cell ≡ true) marks
    → flat_map (moved_mark a v) marks ≡ flat_map (λ m. changed_at (a ∷ []) v m (m ∷ [])) marks
marks_left a v [] are = refl
marks_left a v (m ∷ marks) are = ap₂ (λ here rest. here ++ rest) (left_by a v m are.0) (marks_left a v marks are.1)

-- a swap leaves all marks
each_itself : (marks : List CellMark) → flat_map (λ m. m ∷ []) marks ≡ marks
each_itself [] = refl
each_itself (m ∷ marks) = ap (λ rest. m ∷ rest) (each_itself marks)

as_set : (marks : List CellMark) → IsStrictlySortedBy mark_cmp marks → ascending_of mark_cmp (flat_map (λ m. m ∷ []) marks) ≡ marks
as_set marks rises = ap (ascending_of mark_cmp) (each_itself marks) ∙ set_is mark_cmp_total mark_cmp-IsAntisymmetric marks rises

pub all_stay : (at : List Coordinates) (v : Coordinates) (marks : List CellMark) → (length at < 1) ⊎ (2 ≤ length at) → IsStrictlySortedBy mark_cmp marks
    → marks ≡ ascending_of mark_cmp (flat_map (λ m. changed_at at v m (m ∷ [])) marks)
all_stay [] v marks two rises = sym (as_set marks rises)
all_stay (a ∷ []) v marks two rises = absurd (⊎_elim (λ low. omega (arith, low)) (λ high. omega (arith, high)) two)
all_stay (a ∷ b ∷ at) v marks two rises = sym (as_set marks rises)

-- ---- what fills a cavity by a swap is a set
pub swap_is_set : (v : Coordinates) (star : List Tetrahedron) → IsStrictlySortedBy tet_cmp (swapped v star)
swap_is_set v [] = sorted-ascending_of tet_cmp_total []
swap_is_set v (first ∷ rest) = sorted-ascending_of tet_cmp_total (flat_map (λ (tet : Tetrahedron). flat_map (cone v first.phys first.elem) (outer_faces (first ∷ rest) tet)) (first ∷ rest))

pub swap_again : (v : Coordinates) (star tets set : List Tetrahedron) → IsStrictlySortedBy tet_cmp star → tets ≡ swapped v (ascending_of tet_cmp star) → set ≡ ascending_of tet_cmp tets → set ≡ swapped v star
swap_again v star tets set rises made is =
    is ∙ ap (ascending_of tet_cmp) (made ∙ ap (swapped v) (set_is tet_cmp_total tet_cmp-IsAntisymmetric star rises)) ∙ set_is tet_cmp_total tet_cmp-IsAntisymmetric (swapped v star) (swap_is_set v star)

-- ---- one more operation whose marks are added as a set
pub marks_next : (f : Operation → List CellMark) (so_far more : List CellMark) (ops : List Operation) (i : ℕ) (op : Operation) (all : List CellMark) → i < length ops → op ≡ get_or ops i op
    → more ≡ so_far ++ ascending_of mark_cmp (f op) → ascending_of mark_cmp (so_far ++ flat_map f (drop i ops)) ≡ all → ascending_of mark_cmp (more ++ flat_map f (drop (i + 1) ops)) ≡ all
marks_next f so_far more ops i op all within at pushed before =
    let rest = flat_map f (drop (i + 1) ops) in
    ap (λ ms. ascending_of mark_cmp (ms ++ rest)) pushed
    ∙ same_set mark_cmp_total mark_cmp-IsAntisymmetric ((so_far ++ ascending_of mark_cmp (f op)) ++ rest) (so_far ++ (f op ++ rest)) (alike rest)
    ∙ ap (λ later. ascending_of mark_cmp (so_far ++ flat_map f later)) (sym (drop_more ops i op within ∙ ap (λ o. o ∷ drop (i + 1) ops) (sym at)))
    ∙ before
  where
    regroup : (b c d : Bool) → ((b || c) || d) ≡ (b || (c || d))
    regroup true c d = refl
    regroup false c d = refl

    alike : (rest : List CellMark) (q : CellMark) → has mark_cmp q ((so_far ++ ascending_of mark_cmp (f op)) ++ rest) ≡ has mark_cmp q (so_far ++ (f op ++ rest))
    alike rest q =
        let tied = eq_by_cmp mark_cmp q in
        list_any-append tied (so_far ++ ascending_of mark_cmp (f op)) rest
        ∙ ap (λ b. b || has mark_cmp q rest) (list_any-append tied so_far (ascending_of mark_cmp (f op)) ∙ ap (λ b. has mark_cmp q so_far || b) (has-ascending_of mark_cmp_total q (f op)))
        ∙ regroup (has mark_cmp q so_far) (has mark_cmp q (f op)) (has mark_cmp q rest)
        ∙ sym (list_any-append tied so_far (f op ++ rest) ∙ ap (λ b. has mark_cmp q so_far || b) (list_any-append tied (f op) rest))

-- one more operation whose tetrahedra are added
pub tets_next : (f : Operation → List Tetrahedron) (so_far more : List Tetrahedron) (ops : List Operation) (i : ℕ) (op : Operation) (all : List Tetrahedron) → i < length ops → op ≡ get_or ops i op
    → more ≡ so_far ++ f op → so_far ++ flat_map f (drop i ops) ≡ all → more ++ flat_map f (drop (i + 1) ops) ≡ all
tets_next f so_far more ops i op all within at pushed before =
    let rest = flat_map f (drop (i + 1) ops) in
    ap (λ ts. ts ++ rest) pushed ∙ append_assoc so_far (f op) rest
    ∙ ap (λ later. so_far ++ flat_map f later) (sym (drop_more ops i op within ∙ ap (λ o. o ∷ drop (i + 1) ops) (sym at)))
    ∙ before

-- what is there when no operation is left
pub filled_is : (tets : List Tetrahedron) (marks : List CellMark) (won : List Operation) (i : ℕ) (new_tets : List Tetrahedron) (new_marks : List CellMark) (tet_set : List Tetrahedron) (mark_set : List CellMark)
    → length won ≤ i → new_tets ++ flat_map (filling tets) (drop i won) ≡ flat_map (filling tets) won
    → ascending_of mark_cmp (new_marks ++ flat_map (marks_by tets marks) (drop i won)) ≡ ascending_of mark_cmp (flat_map (marks_by tets marks) won)
    → tet_set ≡ ascending_of tet_cmp new_tets → mark_set ≡ ascending_of mark_cmp new_marks → ◌≡◌ {A = Batch} (record { tets = tet_set; marks = mark_set }) (filled tets marks won)
filled_is tets marks won i new_tets new_marks tet_set mark_set over all_tets all_marks of_tets of_marks =
    let none : drop i won ≡ [] = drop_of_length-le won over in
    let here : new_tets ≡ flat_map (filling tets) won = sym (append-nil new_tets) ∙ ap (λ rest. new_tets ++ flat_map (filling tets) rest) (sym none) ∙ all_tets in
    let there : ascending_of mark_cmp new_marks ≡ ascending_of mark_cmp (flat_map (marks_by tets marks) won)
    = ap (ascending_of mark_cmp) (sym (append-nil new_marks) ∙ ap (λ rest. new_marks ++ flat_map (marks_by tets marks) rest) (sym none)) ∙ all_marks in
    λ k. record { tets = (of_tets ∙ ap (ascending_of tet_cmp) here) k; marks = (of_marks ∙ there) k }

-- ---- the set of all cavities has the tetrahedra that are taken
has_cavities : (tets : List Tetrahedron) (ops : List Operation) (q : Tetrahedron) → has tet_cmp q (flat_map (cavity tets) ops) ≡ (has tet_cmp q tets && is_taken ops q)
has_cavities tets [] q = none (has tet_cmp q tets)
  where
    none : (b : Bool) → false ≡ (b && false)
    none true = refl
    none false = refl
has_cavities tets (op ∷ ops) q =
    list_any-append (eq_by_cmp tet_cmp q) (cavity tets op) (flat_map (cavity tets) ops)
    ∙ ap₂ (λ b c. b || c) (has-filter tet_cmp-IsAntisymmetric (is_in op) q tets) (has_cavities tets ops q)
    ∙ shared (has tet_cmp q tets) (is_in op q) (is_taken ops q)
  where
    shared : (h b c : Bool) → ((h && b) || (h && c)) ≡ (h && (b || c))
    shared true b c = refl
    shared false b c = refl

pub taken_is : (tets : List Tetrahedron) (ops : List Operation) → IsStrictlySortedBy tet_cmp tets → ascending_of tet_cmp (flat_map (cavity tets) ops) ≡ filter (is_taken ops) tets
taken_is tets ops rises =
    sym (is-ascending_of tet_cmp_total tet_cmp-IsAntisymmetric (filter (is_taken ops) tets) (flat_map (cavity tets) ops) (IsStrictlySortedBy-filter tet_cmp (is_taken ops) tets rises)
    (λ q. has-filter tet_cmp-IsAntisymmetric (is_taken ops) q tets ∙ sym (has_cavities tets ops q)))

-- The marks of a pass: each is changed once, whatever the order of the collapses.
use Rattle.std.proofs.Common.{◌≡◌, Bool, true, false, cond, not, ◌&&◌, ◌||◌, List, [], ◌∷◌, refl, sym, ap, ap₂, ◌∙◌}
use Rattle.std.proofs.Math.Bool.{or-false}
use Rattle.std.specs.Prelude.{map}
use Rattle.std.specs.List.{flat_map, list_any}
use Rattle.std.specs.List.Sorted.{IsPermutation, IsStrictlySortedBy}
use Rattle.std.specs.Ordering.{eq_by_cmp}
use Rattle.std.proofs.lemmas.List.Sorted.{list_any-IsPermutation}
use Rattle.ma_geom.specs.Coordinates.{place_cmp}
use Rattle.ma_cells.specs.Ascending.{ascending_of, has}
use Rattle.ma_cells.specs.Cells.{CellMark, corners_of, is_cell, mark_cmp}
use Rattle.ma_cells.proofs.Ascents.{has-ascending_of, is-ascending_of, sorted-ascending_of}
use Rattle.ma_cells.proofs.CellOrders.{mark_cmp-IsAntisymmetric, mark_cmp_total}
use Rattle.ma_cells.proofs.Passing.{all_weaker}
use Rattle.mesh_laws.proofs.Lists.{all_two}
use Rattle.cavity_rank.specs.Operations.{Operation}
use Rattle.cavity_collapse.specs.Collapsing.{moved_mark, moved_marks}
use Rattle.pass_rules.specs.Passes.{changed_by, marked_in_turn}
use Rattle.collapse_passes.proofs.Each.{any-flat_map, any_alike, any_none, any_set}
use Rattle.collapse_passes.proofs.Marking.{AreMarks, IsMark, moved_mark_lacks, stays, still_marks}
use Rattle.collapse_passes.proofs.Removals.{HasOne, IsClear, Lack, Removal, operation, others_lack}
use Rattle.collapse_passes.proofs.Turns.{AreClear, all_by_one}

-- ---- one mark
-- one that has none of the vertices stays
unchanged : (cs : List Removal) (m : CellMark) → Lack cs (corners_of m.cell) → changed_by (map operation cs) m ≡ m ∷ []
unchanged [] m lack = refl
unchanged (c ∷ cs) m lack = rw (lack.0) (unchanged cs m lack.1)

module _ (q m : CellMark) where
  abbrev is_at : Removal → Bool
  is_at c = has place_cmp c.at (corners_of m.cell)

  -- whether q is what the collapse leaves of m
  abbrev is_left : Removal → Bool
  is_left c = is_at c && has mark_cmp q (moved_mark c.at c.apex m)

  -- what becomes of m, whatever the order
  changed_is : (cs : List Removal) → HasOne cs (corners_of m.cell) → has mark_cmp q (changed_by (map operation cs) m) ≡ (list_any is_left cs || (not (list_any is_at cs) && eq_by_cmp mark_cmp q m))
  changed_is [] one = or-false (eq_by_cmp mark_cmp q m)
  changed_is (c ∷ cs) one = by (is_at c) refl (changed_is cs one.1)
    where
      away : (a b x : Bool) → b ≡ false → a ≡ ((a || b) || (false && x))
      away true b x e = refl
      away false b x e = sym (ap (λ c. c || false) e)

      no_left : Lack cs (corners_of m.cell) → list_any (λ d. has place_cmp d.at (corners_of m.cell) && has mark_cmp q (moved_mark d.at d.apex m)) cs ≡ false
      no_left lack =
          any_none (λ d. has place_cmp d.at (corners_of m.cell) && has mark_cmp q (moved_mark d.at d.apex m)) cs
          (all_weaker (λ d. has place_cmp d.at (corners_of m.cell) ≡ false) (λ d. (has place_cmp d.at (corners_of m.cell) && has mark_cmp q (moved_mark d.at d.apex m)) ≡ false)
          (λ d e. ap (λ b. b && has mark_cmp q (moved_mark d.at d.apex m)) e) cs lack)

      by : (b : Bool) → has place_cmp c.at (corners_of m.cell) ≡ b → has mark_cmp q (changed_by (map operation cs) m) ≡ (list_any is_left cs || (not (list_any is_at cs) && eq_by_cmp mark_cmp q m))
          → has mark_cmp q (cond b (moved_mark c.at c.apex m) (changed_by (map operation cs) m))
          ≡ (((b && has mark_cmp q (moved_mark c.at c.apex m)) || list_any is_left cs) || (not (b || list_any is_at cs) && eq_by_cmp mark_cmp q m))
      by true there rest = away (has mark_cmp q (moved_mark c.at c.apex m)) (list_any is_left cs) (eq_by_cmp mark_cmp q m) (no_left (others_lack c cs (corners_of m.cell) one there))
      by false none rest = rest

-- ---- all marks
-- the first collapse, and then the others
first_then : (q : CellMark) (c : Removal) (cs : List Removal) (m : CellMark) → IsClear c cs → IsMark (c ∷ cs) m
    → list_any (λ n. has mark_cmp q (changed_by (map operation cs) n)) (moved_mark c.at c.apex m) ≡ has mark_cmp q (changed_by (map operation (c ∷ cs)) m)
first_then q c cs m clear is = by (has place_cmp c.at (corners_of m.cell)) refl
  where
    then : CellMark → Bool
    then n = has mark_cmp q (changed_by (map operation cs) n)

    by : (b : Bool) → has place_cmp c.at (corners_of m.cell) ≡ b
        → list_any (λ n. has mark_cmp q (changed_by (map operation cs) n)) (moved_mark c.at c.apex m) ≡ has mark_cmp q (cond b (moved_mark c.at c.apex m) (changed_by (map operation cs) m))
    by true there =
        any_alike then (eq_by_cmp mark_cmp q) (moved_mark c.at c.apex m)
        (all_weaker (λ (n : CellMark). (is_cell n.cell ≡ true) × Lack cs (corners_of n.cell)) (λ n. then n ≡ eq_by_cmp mark_cmp q n)
        (λ n h. ap (has mark_cmp q) (unchanged cs n h.1) ∙ or-false (eq_by_cmp mark_cmp q n)) (moved_mark c.at c.apex m) (moved_mark_lacks c cs clear m is there))
    by false none = ap (list_any then) (stays c.at c.apex m is.cell none) ∙ or-false (then m)

changed_alone : (marks : List CellMark) → flat_map (changed_by []) marks ≡ marks
changed_alone [] = refl
changed_alone (m ∷ marks) = ap (λ l. m ∷ l) (changed_alone marks)

has-in_turn : (q : CellMark) (cs : List Removal) (marks : List CellMark) → AreClear cs → AreMarks cs marks
    → has mark_cmp q (marked_in_turn (map operation cs) marks) ≡ has mark_cmp q (flat_map (changed_by (map operation cs)) marks)
has-in_turn q [] marks clear are = ap (has mark_cmp q) (sym (changed_alone marks))
has-in_turn q (c ∷ cs) marks clear are =
    ap (λ l. has mark_cmp q (marked_in_turn (map operation cs) (ascending_of mark_cmp l))) (sym (all_by_one c (c ∷ cs) marks are))
    ∙ has-in_turn q cs (moved_marks c.at c.apex marks) clear.1 (still_marks c cs clear.0 marks are)
    ∙ any-flat_map (eq_by_cmp mark_cmp q) (changed_by (map operation cs)) (moved_marks c.at c.apex marks)
    ∙ any_set mark_cmp-IsAntisymmetric (λ n. has mark_cmp q (changed_by (map operation cs) n)) (flat_map (moved_mark c.at c.apex) marks)
    ∙ any-flat_map (λ n. has mark_cmp q (changed_by (map operation cs) n)) (moved_mark c.at c.apex) marks
    ∙ any_alike (λ m. list_any (λ n. has mark_cmp q (changed_by (map operation cs) n)) (moved_mark c.at c.apex m)) (λ m. has mark_cmp q (changed_by (map operation (c ∷ cs)) m)) marks
    (all_weaker (IsMark (c ∷ cs)) (λ m. list_any (λ n. has mark_cmp q (changed_by (map operation cs) n)) (moved_mark c.at c.apex m) ≡ has mark_cmp q (changed_by (map operation (c ∷ cs)) m))
    (λ m is. first_then q c cs m clear.0 is) marks are)
    ∙ sym (any-flat_map (eq_by_cmp mark_cmp q) (changed_by (map operation (c ∷ cs))) marks)

rises_in_turn : (ops : List Operation) (marks : List CellMark) → IsStrictlySortedBy mark_cmp marks → IsStrictlySortedBy mark_cmp (marked_in_turn ops marks)
rises_in_turn [] marks rises = rises
rises_in_turn (op ∷ ops) marks rises =
    rises_in_turn ops (ascending_of mark_cmp (flat_map (changed_by (op ∷ [])) marks)) (sorted-ascending_of mark_cmp_total (flat_map (changed_by (op ∷ [])) marks))

-- one after the other, they leave what all leave at once
marks_at_once : (cs : List Removal) (marks : List CellMark) → AreClear cs → AreMarks cs marks → IsStrictlySortedBy mark_cmp marks
    → marked_in_turn (map operation cs) marks ≡ ascending_of mark_cmp (flat_map (changed_by (map operation cs)) marks)
marks_at_once cs marks clear are rises =
    is-ascending_of mark_cmp_total mark_cmp-IsAntisymmetric (marked_in_turn (map operation cs) marks) (flat_map (changed_by (map operation cs)) marks) (rises_in_turn (map operation cs) marks rises)
    (λ q. has-in_turn q cs marks clear are)

-- and whatever the order, the same
pub marks_in_any_order : (cs ds : List Removal) (marks : List CellMark) → IsPermutation cs ds → AreClear ds → AreMarks cs marks → AreMarks ds marks → IsStrictlySortedBy mark_cmp marks
    → marked_in_turn (map operation ds) marks ≡ ascending_of mark_cmp (flat_map (changed_by (map operation cs)) marks)
marks_in_any_order cs ds marks moved clear are are_too rises =
    marks_at_once ds marks clear are_too rises
    ∙ is-ascending_of mark_cmp_total mark_cmp-IsAntisymmetric (ascending_of mark_cmp (changes ds)) (changes cs) (sorted-ascending_of mark_cmp_total (changes ds))
    (λ q. has-ascending_of mark_cmp_total q (changes ds)
    ∙ any-flat_map (eq_by_cmp mark_cmp q) (changed_by (map operation ds)) marks
    ∙ any_alike (λ m. has mark_cmp q (changed_by (map operation ds) m)) (λ m. has mark_cmp q (changed_by (map operation cs) m)) marks
    (all_two (IsMark cs) (IsMark ds) (λ m. has mark_cmp q (changed_by (map operation ds) m) ≡ has mark_cmp q (changed_by (map operation cs) m)) (λ m is too. same q m is.one too.one) marks are are_too)
    ∙ sym (any-flat_map (eq_by_cmp mark_cmp q) (changed_by (map operation cs)) marks))
  where
    changes : List Removal → List CellMark
    changes bs = flat_map (changed_by (map operation bs)) marks

    same : (q m : CellMark) → HasOne cs (corners_of m.cell) → HasOne ds (corners_of m.cell) → has mark_cmp q (changed_by (map operation ds) m) ≡ has mark_cmp q (changed_by (map operation cs) m)
    same q m one too =
        changed_is q m ds too
        ∙ ap₂ (λ b a. b || (not a && eq_by_cmp mark_cmp q m)) (sym (list_any-IsPermutation (is_left q m) cs ds moved)) (sym (list_any-IsPermutation (is_at q m) cs ds moved))
        ∙ sym (changed_is q m cs one)

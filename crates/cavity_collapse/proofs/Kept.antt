-- A least quality that isn't kept, and the tests of a collapse in the order in which they are asked.
use Rattle.std.proofs.Common.{◌≡◌, ℕ, min, Bool, true, false, cond, nat_le, ◌+◌, ◌<◌, ◌≤◌, drop, drop_of_length-le, get_or, length, ◌^◌, ◌&&◌, ◌||◌, List, [], ◌∷◌, ◌++◌, Option, Some, None, refl, sym, ap, ◌∙◌, arith}
use Rattle.std.specs.List.{list_all}
use Rattle.std.specs.Option.{option_to_list, unwrap_or}
use Rattle.std.proofs.lemmas.Bool.{false≢true}
use Rattle.std.proofs.lemmas.Bool.Decides.{nat_tests}
use Rattle.std.proofs.lemmas.List.{drop_more}
use Rattle.std.proofs.lemmas.Option.{none-some}
use Rattle.ma_geom.specs.Coordinates.{Coordinates}
use Rattle.ma_cells.specs.Cells.{CellMark}
use Rattle.ma_cells.specs.Tetrahedron.{Tetrahedron}
use Rattle.ma_cells.specs.Worst.{least, worst}
use Rattle.size_marks.specs.Field.{Field}
use Rattle.cavity_rank.specs.Verdicts.{first_failing, verdict_of}
use Rattle.cavity_collapse.specs.Collapsing.{collapsed}
use Rattle.cavity_collapse.specs.Curves.{curves_are_kept, is_free_point}
use Rattle.cavity_collapse.specs.Judging.{edges_stay_short, faces_are_seen, is_short_edge, judged_collapse, legal_quality, quality_is_kept}
use Rattle.cavity_collapse.specs.Facing.{cone_qualities, cone_quality, facing_of, if_at_least}
use Rattle.cavity_collapse.specs.Steps.{each_passes, least_with, with_quality}
use Rattle.cavity_collapse.specs.Surfaces.{planes_are_kept, surfaces_are_kept, turns_are_kept}
use Rattle.cavity_collapse.specs.declared.facing.SidedFace.{SidedFace}
use Rattle.cavity_collapse.proofs.Cones.{qualities_facing}
use Rattle.cavity_collapse.proofs.Worsts.{one_more, worst_of_set}

-- what is below a number at one is below it at the least
lower : (k n l : ℕ) → nat_le k n ≡ false → nat_le k (min n l) ≡ false
lower k n l e = grind (arith, nat_tests)

lower_so_far : (floor : ℕ) (w : Option ℕ) (ns : List ℕ) → each_passes (nat_le floor) w ≡ false → nat_le floor (least_with w ns) ≡ false
lower_so_far floor (Some n) [] e = e
lower_so_far floor (Some n) (m ∷ ns) e = lower floor n (least (m ∷ ns)) e
lower_so_far floor None ns e = absurd (false≢true (sym e))

-- ---- over faces, one after the other
with_next : (w q : Option ℕ) (ns : List ℕ) → least_with (with_quality w q) ns ≡ least_with w (option_to_list q ++ ns)
with_next w None ns = refl
with_next w (Some n) ns = one_more w n ns

module _ (v : Coordinates) (faces : List SidedFace) where
  pub next_face : (w : Option ℕ) (i : ℕ) (one : SidedFace) (next : Option ℕ) → i < length faces → one ≡ get_or faces i one → next ≡ with_quality w (cone_quality v one.face)
      → least_with w (cone_qualities v (drop i faces)) ≡ least (cone_qualities v faces) → least_with next (cone_qualities v (drop (i + 1) faces)) ≡ least (cone_qualities v faces)
  next_face w i one next within is n e =
      let rest : drop i faces ≡ one ∷ drop (i + 1) faces = drop_more faces i one within ∙ ap (λ x. x ∷ drop (i + 1) faces) (sym is) in
      ap (λ o. least_with o (cone_qualities v (drop (i + 1) faces))) n ∙ with_next w (cone_quality v one.face) (cone_qualities v (drop (i + 1) faces)) ∙ ap (λ l. least_with w (cone_qualities v l)) (sym rest) ∙ e

  -- what there is at the end
  told : (o : Option ℕ) → unwrap_or o 0 ≡ least_with o []
  told (Some n) = refl
  told None = refl

  pub at_the_end : (w : Option ℕ) (i : ℕ) → length faces ≤ i → least_with w (cone_qualities v (drop i faces)) ≡ least (cone_qualities v faces) → unwrap_or w 0 ≡ least (cone_qualities v faces)
  at_the_end w i over e = told w ∙ ap (λ l. least_with w (cone_qualities v l)) (sym (drop_of_length-le faces over)) ∙ e

-- given up at the first that is below
pub given_up : (floor : ℕ) (next : Option ℕ) (rest all : List ℕ) → each_passes (nat_le floor) next ≡ false → least_with next rest ≡ least all → ◌≡◌ {A = Option ℕ} None (if_at_least floor (least all))
given_up floor next rest all e whole = ap (λ b. cond b (Some (least all)) None) (sym (ap (nat_le floor) (sym whole) ∙ lower_so_far floor next rest e))

-- ---- a least quality that is kept
abbrev kept : (old new : ℕ) → Option ℕ
kept old new = cond (quality_is_kept old new) (Some new) None

by_lesser : (old new : ℕ) → nat_le (min old (2 ^ 24)) new ≡ (nat_le old new || nat_le (2 ^ 24) new)
by_lesser old new = grind (arith, nat_tests)

pub by_floor : (old new : ℕ) → if_at_least (min old (2 ^ 24)) new ≡ kept old new
by_floor old new = ap (λ b. cond b (Some new) None) (by_lesser old new)

-- however great the old one was
pub kept_at_once : (old new n : ℕ) → Some n ≡ if_at_least (2 ^ 24) new → Some n ≡ kept old new
kept_at_once old new n e =
    elim (nat_le (2 ^ 24) new) as (λ b. Some n ≡ cond b (Some new) None → Some n ≡ cond (nat_le old new || b) (Some new) None) [
      | true ↦ λ h. h ∙ ap (λ b. cond b (Some new) None) (sym (or_true (nat_le old new)))
      | false ↦ λ h. absurd (none-some n (sym h))
    ] e
  where
    or_true : (b : Bool) → (b || true) ≡ true
    or_true true = refl
    or_true false = refl

-- what fills the star, by the faces
pub least_over : (a v : Coordinates) (star : List Tetrahedron) (faces : List SidedFace) → faces ≡ facing_of star a → least (cone_qualities v faces) ≡ worst (collapsed a v star)
least_over a v star faces is = ap (λ l. least (cone_qualities v l)) is ∙ ap least (qualities_facing a v star) ∙ worst_of_set a v star

-- quality is asked last, and the others in any order
pub legal_in_turn : (w : ℕ) (short free curves planes surfaces turns seen edges kept : Bool)
    → cond ((short && (free && (planes && (seen && true)))) && (curves && (surfaces && (turns && (edges && true))))) (cond kept (Some w) None) None
    ≡ legal_quality (verdict_of w (first_failing 1 (short ∷ free ∷ curves ∷ planes ∷ surfaces ∷ turns ∷ seen ∷ edges ∷ kept ∷ [])))
legal_in_turn w false free curves planes surfaces turns seen edges kept = refl
legal_in_turn w true false curves planes surfaces turns seen edges kept = refl
legal_in_turn w true true false false surfaces turns seen edges kept = refl
legal_in_turn w true true false true surfaces turns false edges kept = refl
legal_in_turn w true true false true surfaces turns true edges kept = refl
legal_in_turn w true true true false surfaces turns seen edges kept = refl
legal_in_turn w true true true true false turns false edges kept = refl
legal_in_turn w true true true true false turns true edges kept = refl
legal_in_turn w true true true true true false false edges kept = refl
legal_in_turn w true true true true true false true edges kept = refl
legal_in_turn w true true true true true true false edges kept = refl
legal_in_turn w true true true true true true true false kept = refl
legal_in_turn w true true true true true true true true false = refl
legal_in_turn w true true true true true true true true true = refl

-- the same of a collapse
module _ (field : Field) (star : List Tetrahedron) (marks : List CellMark) (a v : Coordinates) where
  pub legal_by_turns : (may : Bool) (found : Option ℕ)
      → may ≡ (list_all (λ test. test) (is_short_edge field star a v ∷ is_free_point marks a ∷ planes_are_kept marks a v ∷ faces_are_seen star a v ∷ []) && list_all (λ test. test) (curves_are_kept marks a v ∷ surfaces_are_kept marks a v ∷ turns_are_kept marks a v ∷ edges_stay_short field star a v ∷ []))
      → found ≡ cond (quality_is_kept (worst star) (worst (collapsed a v star))) (Some (worst (collapsed a v star))) None
      → cond may found None ≡ legal_quality (judged_collapse field star marks a v)
  legal_by_turns may found m f =
      rw (m, f)
      (legal_in_turn (worst (collapsed a v star)) (is_short_edge field star a v) (is_free_point marks a) (curves_are_kept marks a v) (planes_are_kept marks a v) (surfaces_are_kept marks a v)
      (turns_are_kept marks a v) (faces_are_seen star a v) (edges_stay_short field star a v) (quality_is_kept (worst star) (worst (collapsed a v star))))

-- Tests of a swap by the outer faces of its cavity.
use Rattle.std.proofs.Common.{◌≡◌, ℕ, true, false, cond, ◌&&◌, Bool, min, nat_lt, ◌==◌, List, [], ◌∷◌, ◌++◌, map, filter, drop, Option, Some, None, refl, sym, ap, subst, ◌∙◌, ◌||◌, append_assoc, arith}
use Rattle.std.specs.List.{flat_map, list_all}
use Rattle.std.specs.Option.{option_to_list}
use Rattle.std.proofs.lemmas.Bool.{and_parts, false≢true}
use Rattle.std.proofs.lemmas.Bool.Decides.{nat_tests}
use Rattle.ma_geom.specs.Coordinates.{Coordinates, place_cmp}
use Rattle.ma_geom.specs.Quality.{quality}
use Rattle.ma_geom.specs.Signs.{same_sign, side_of}
use Rattle.ma_cells.specs.Ascending.{has}
use Rattle.ma_cells.specs.Cells.{CellMark}
use Rattle.ma_cells.specs.Stars.{besides, cone}
use Rattle.ma_cells.specs.Tetrahedron.{Tetrahedron, tetrahedron_of}
use Rattle.ma_cells.specs.Worst.{least, worst}
use Rattle.ma_cells.proofs.CellOrders.{tet_cmp-IsAntisymmetric}
use Rattle.cavity_rank.specs.Verdicts.{first_failing, verdict_of}
use Rattle.cavity_collapse.specs.Judging.{legal_quality}
use Rattle.cavity_collapse.proofs.Listed.{all_listed}
use Rattle.cavity_collapse.proofs.Worsts.{least_set, qualities}
use Rattle.cavity_swap.specs.Judging.{has_one_region, is_bad, is_bare, judged_swap, outer_faces_are_seen}
use Rattle.cavity_swap.specs.Outer.{may_be_taken, outer_of, quality_from, sees, with_corners}
use Rattle.cavity_swap.specs.Steps.{are_above, is_seen_from, outer_at, passes_from}
use Rattle.cavity_swap.specs.Swapping.{had_by, outer_faces, swapped}
use Rattle.cavity_swap.specs.declared.outer.OuterFace.{OuterFace}
use Rattle.cavity_swap.proofs.FaceByFace.{beside_all}

-- ---- lists that are made of lists
all-append : {Y : Type 0} (test : Y → Bool) (ys zs : List Y) → list_all test (ys ++ zs) ≡ (list_all test ys && list_all test zs)
all-append test [] zs = refl
all-append test (y ∷ ys) zs = ap (λ b. test y && b) (all-append test ys zs) ∙ joined (test y) (list_all test ys) (list_all test zs)
  where
    joined : (a b c : Bool) → (a && (b && c)) ≡ ((a && b) && c)
    joined true b c = refl
    joined false b c = refl

all-flat : {X Y : Type 0} (test : Y → Bool) (f : X → List Y) (xs : List X) → list_all test (flat_map f xs) ≡ list_all (λ x. list_all test (f x)) xs
all-flat test f [] = refl
all-flat test f (x ∷ xs) = all-append test (f x) (flat_map f xs) ∙ ap (λ b. list_all test (f x) && b) (all-flat test f xs)

all-mapped : {X Y : Type 0} (test : Y → Bool) (f : X → Y) (xs : List X) → list_all test (map f xs) ≡ list_all (λ x. test (f x)) xs
all-mapped test f [] = refl
all-mapped test f (x ∷ xs) = ap (λ b. test (f x) && b) (all-mapped test f xs)

flat-append : {Y Z : Type 0} (g : Y → List Z) (ys zs : List Y) → flat_map g (ys ++ zs) ≡ flat_map g ys ++ flat_map g zs
flat-append g [] zs = refl
flat-append g (y ∷ ys) zs = ap (λ l. g y ++ l) (flat-append g ys zs) ∙ sym (append_assoc (g y) (flat_map g ys) (flat_map g zs))

flat-flat : {X Y Z : Type 0} (g : Y → List Z) (f : X → List Y) (xs : List X) → flat_map g (flat_map f xs) ≡ flat_map (λ x. flat_map g (f x)) xs
flat-flat g f [] = refl
flat-flat g f (x ∷ xs) = flat-append g (f x) (flat_map f xs) ∙ ap (λ l. flat_map g (f x) ++ l) (flat-flat g f xs)

flat-mapped : {X Y Z : Type 0} (g : Y → List Z) (f : X → Y) (xs : List X) → flat_map g (map f xs) ≡ flat_map (λ x. g (f x)) xs
flat-mapped g f [] = refl
flat-mapped g f (x ∷ xs) = ap (λ l. g (f x) ++ l) (flat-mapped g f xs)

-- the outer ones of some faces
pub outer_among : (cavity : List Tetrahedron) (corners : List Coordinates) (faces : List (List Coordinates)) → flat_map (outer_at cavity corners) faces ≡ map (with_corners corners) (filter (λ face. had_by cavity face == 1) faces)
outer_among cavity corners [] = refl
outer_among cavity corners (face ∷ faces) =
    elim (had_by cavity face == 1) as (λ b. cond b (with_corners corners face ∷ []) [] ++ flat_map (outer_at cavity corners) faces ≡ map (with_corners corners) (cond b (face ∷ filter (λ face. had_by cavity face == 1) faces) (filter (λ face. had_by cavity face == 1) faces))) [
      | true ↦ ap (λ l. with_corners corners face ∷ l) (outer_among cavity corners faces)
      | false ↦ outer_among cavity corners faces
    ]

-- ---- the tests
-- what isn't above a number on one isn't above it at the least
one_below : (old : ℕ) (ns : List ℕ) → list_all (nat_lt old) ns ≡ false → nat_lt old (least ns) ≡ false
one_below old [] e = absurd (false≢true (sym e))
one_below old (n ∷ []) e = alone (nat_lt old n) e
  where
    alone : (b : Bool) → (b && true) ≡ false → b ≡ false
    alone true e = e
    alone false e = refl
one_below old (n ∷ m ∷ ns) e =
    elim (nat_lt old n) as (λ b. nat_lt old n ≡ b → (b && list_all (nat_lt old) (m ∷ ns)) ≡ false → nat_lt old (min n (least (m ∷ ns))) ≡ false) [
      | true ↦ λ t r. let rest : nat_lt old (least (m ∷ ns)) ≡ false = one_below old (m ∷ ns) r in grind (arith, nat_tests)
      | false ↦ λ t r. grind (arith, nat_tests)
    ] refl e

pub sees_by_steps : (outer : List OuterFace) (v : Coordinates) → list_all (λ one. is_seen_from v one.corners one.face) outer ≡ sees outer v
sees_by_steps outer v = λ i. list_all (λ (one : OuterFace). has place_cmp v one.face || beside_all one.face v one.corners i) outer

module _ (cavity : List Tetrahedron) (v : Coordinates) where
  pub all_seen : list_all (λ one. is_seen_from v one.corners one.face) (outer_of cavity) ≡ outer_faces_are_seen cavity v
  all_seen =
      all-flat (λ (one : OuterFace). is_seen_from v one.corners one.face) (λ tet. map (with_corners tet.corners) (outer_faces cavity tet)) cavity
      ∙ (λ i. list_all (λ tet. all-mapped (λ (one : OuterFace). is_seen_from v one.corners one.face) (with_corners tet.corners) (outer_faces cavity tet) i) cavity)
      ∙ (λ i. list_all (λ tet. list_all (λ face. has_or face tet i) (outer_faces cavity tet)) cavity)
    where
      has_or : (face : List Coordinates) (tet : Tetrahedron) → is_seen_from v tet.corners face ≡ (has place_cmp v face || list_all (λ d. same_sign (side_of face v) (side_of face d)) (besides face tet.corners))
      has_or face tet = ap (λ b. has place_cmp v face || b) (beside_all face v tet.corners)

  module _ (first : Tetrahedron) where
    abbrev cone_at : OuterFace → Option Tetrahedron
    cone_at one = tetrahedron_of (v ∷ one.face) first.phys first.elem

    cones_are : flat_map (λ one. option_to_list (cone_at one)) (outer_of cavity) ≡ flat_map (λ tet. flat_map (cone v first.phys first.elem) (outer_faces cavity tet)) cavity
    cones_are =
        flat-flat (λ one. option_to_list (cone_at one)) (λ tet. map (with_corners tet.corners) (outer_faces cavity tet)) cavity
        ∙ (λ i. flat_map (λ tet. flat-mapped (λ one. option_to_list (cone_at one)) (with_corners tet.corners) (outer_faces cavity tet) i) cavity)

    not_above : (old : ℕ) → are_above old first v (outer_of cavity) ≡ false → nat_lt old (least (qualities (flat_map (λ tet. flat_map (cone v first.phys first.elem) (outer_faces cavity tet)) cavity))) ≡ false
    not_above old e =
        let cones = flat_map (λ tet. flat_map (cone v first.phys first.elem) (outer_faces cavity tet)) cavity in
        one_below old (qualities cones)
        (all-mapped (nat_lt old) (λ (tet : Tetrahedron). quality tet.corners) cones ∙ ap (list_all (λ (tet : Tetrahedron). nat_lt old (quality tet.corners))) (sym cones_are)
        ∙ all_listed (λ (tet : Tetrahedron). nat_lt old (quality tet.corners)) cone_at (outer_of cavity) ∙ e)

worst_of : (first : Tetrahedron) (rest : List Tetrahedron) (v : Coordinates)
    → worst (swapped v (first ∷ rest)) ≡ least (qualities (flat_map (λ tet. flat_map (cone v first.phys first.elem) (outer_faces (first ∷ rest) tet)) (first ∷ rest)))
unfolding worst
worst_of first rest v = least_set tet_cmp-IsAntisymmetric (λ (tet : Tetrahedron). quality tet.corners) (flat_map (λ tet. flat_map (cone v first.phys first.elem) (outer_faces (first ∷ rest) tet)) (first ∷ rest))

none_from : (first : Tetrahedron) (rest : List Tetrahedron) (v : Coordinates) → are_above (worst (first ∷ rest)) first v (outer_of (first ∷ rest)) ≡ false → quality_from (first ∷ rest) v ≡ None
none_from first rest v e =
    let no : nat_lt (worst (first ∷ rest)) (worst (swapped v (first ∷ rest))) ≡ false = ap (nat_lt (worst (first ∷ rest))) (worst_of first rest v) ∙ not_above (first ∷ rest) v first (worst (first ∷ rest)) e in
    ap (λ b. cond (outer_faces_are_seen (first ∷ rest) v && b) (Some (worst (swapped v (first ∷ rest)))) None) no ∙ neither (outer_faces_are_seen (first ∷ rest) v) (worst (swapped v (first ∷ rest)))
  where
    neither : (b : Bool) (n : ℕ) → cond (b && false) (Some n) None ≡ None
    neither true n = refl
    neither false n = refl

module _ (first : Tetrahedron) (rest : List Tetrahedron) (v : Coordinates) where
  let_pass : passes_from (worst (first ∷ rest)) first v (outer_of (first ∷ rest)) ≡ true
      → cond (nat_lt (worst (first ∷ rest)) (worst (swapped v (first ∷ rest)))) (Some (worst (swapped v (first ∷ rest)))) None ≡ quality_from (first ∷ rest) v
  let_pass e =
      let seen : outer_faces_are_seen (first ∷ rest) v ≡ true = sym (all_seen (first ∷ rest) v) ∙ (and_parts (list_all (λ one. is_seen_from v one.corners one.face) (outer_of (first ∷ rest))) _ e).0 in
      ap (λ b. cond (b && nat_lt (worst (first ∷ rest)) (worst (swapped v (first ∷ rest)))) (Some (worst (swapped v (first ∷ rest)))) None) (sym seen)

  let_stop : passes_from (worst (first ∷ rest)) first v (outer_of (first ∷ rest)) ≡ false → None ≡ quality_from (first ∷ rest) v
  let_stop e = by (list_all (λ one. is_seen_from v one.corners one.face) (outer_of (first ∷ rest))) (are_above (worst (first ∷ rest)) first v (outer_of (first ∷ rest))) refl refl e
    where
      by : (seen above : Bool) → list_all (λ one. is_seen_from v one.corners one.face) (outer_of (first ∷ rest)) ≡ seen → are_above (worst (first ∷ rest)) first v (outer_of (first ∷ rest)) ≡ above → (seen && above) ≡ false → None ≡ quality_from (first ∷ rest) v
      by true true s a e = absurd (false≢true (sym e))
      by true false s a e = sym (none_from first rest v a)
      by false above s a e = ap (λ b. cond (b && nat_lt (worst (first ∷ rest)) (worst (swapped v (first ∷ rest)))) (Some (worst (swapped v (first ∷ rest)))) None) (sym s ∙ all_seen (first ∷ rest) v)

-- of a cavity by its first tetrahedron
module _ (cavity : List Tetrahedron) (first : Tetrahedron) (v : Coordinates) (front : cavity ≡ first ∷ drop 1 cavity) where
  pub passing : passes_from (worst cavity) first v (outer_of cavity) ≡ true → cond (nat_lt (worst cavity) (worst (swapped v cavity))) (Some (worst (swapped v cavity))) None ≡ quality_from cavity v
  passing = subst (λ tets. passes_from (worst tets) first v (outer_of tets) ≡ true → cond (nat_lt (worst tets) (worst (swapped v tets))) (Some (worst (swapped v tets))) None ≡ quality_from tets v) (sym front) (let_pass first (drop 1 cavity) v)

  pub stopping : passes_from (worst cavity) first v (outer_of cavity) ≡ false → None ≡ quality_from cavity v
  stopping = subst (λ tets. passes_from (worst tets) first v (outer_of tets) ≡ false → None ≡ quality_from tets v) (sym front) (let_stop first (drop 1 cavity) v)

-- a swap is legal by both
pub legal_by_both : (cavity : List Tetrahedron) (marks : List CellMark) (at : List Coordinates) (v : Coordinates)
    → legal_quality (judged_swap cavity marks at v) ≡ cond (may_be_taken cavity marks at) (quality_from cavity v) None
legal_by_both cavity marks at v =
    by (worst (swapped v cavity)) (has_one_region cavity) (is_bare marks at cavity) (outer_faces_are_seen cavity v) (is_bad (worst cavity)) (nat_lt (worst cavity) (worst (swapped v cavity)))
  where
    by : (w : ℕ) (one bare seen bad more : Bool)
        → legal_quality (verdict_of w (first_failing 1 (one ∷ bare ∷ seen ∷ bad ∷ more ∷ []))) ≡ cond (one && (bare && bad)) (cond (seen && more) (Some w) None) None
    by w false bare seen bad more = refl
    by w true false seen bad more = refl
    by w true true false false more = refl
    by w true true false true more = refl
    by w true true true false more = refl
    by w true true true true false = refl
    by w true true true true true = refl

-- ---- a place that doesn't see each outer face makes no swap
pub sees_outer : (cavity : List Tetrahedron) (v : Coordinates) → sees (outer_of cavity) v ≡ outer_faces_are_seen cavity v
sees_outer cavity v = sym (sees_by_steps (outer_of cavity) v) ∙ all_seen cavity v

pub unseen : (cavity : List Tetrahedron) (marks : List CellMark) (at : List Coordinates) (v : Coordinates) → sees (outer_of cavity) v ≡ false
    → ◌≡◌ {A = Option ℕ} None (legal_quality (judged_swap cavity marks at v))
unseen cavity marks at v e =
    let off : quality_from cavity v ≡ None = ap (λ b. cond (b && nat_lt (worst cavity) (worst (swapped v cavity))) (Some (worst (swapped v cavity))) None) (sym (sees_outer cavity v) ∙ e) in
    sym (legal_by_both cavity marks at v ∙ ap (λ (o : Option ℕ). cond (may_be_taken cavity marks at) o None) off ∙ both_none (may_be_taken cavity marks at))
  where
    both_none : (b : Bool) → ◌≡◌ {A = Option ℕ} (cond b None None) None
    both_none true = refl
    both_none false = refl

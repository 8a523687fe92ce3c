-- Of the marks on its cells a part owns those whose cells no lesser part has, and all parts that see a mesh have it together.
use Rattle.std.proofs.Common.{◌≡◌, ℕ, zero, suc, ◌<◌, ◌≤◌, inl, inr, Bool, true, false, cond, not, ◌&&◌, List, [], ◌∷◌, ◌++◌, Option, Some, None, filter, length, nat_lt, refl, sym, ap, subst, ◌∙◌, arith, eqb-true}
use Rattle.std.specs.Prelude.{map, slice_get}
use Rattle.std.specs.List.{flat_map}
use Rattle.std.specs.List.Sorted.{IsStrictlySortedBy}
use Rattle.std.specs.Option.{option_map}
use Rattle.std.specs.Ordering.{nat_cmp}
use Rattle.std.specs.Cmp.{nat_cmp_total}
use Rattle.std.specs.FinMap.{nat_cmp-IsAntisymmetric}
use Rattle.std.specs.declared.cmp.Ordering.TheVariants.{Less}
use Rattle.std.proofs.lemmas.Bool.{false≢true, eq-eqb}
use Rattle.std.proofs.lemmas.Bool.Decides.{nat_tests}
use Rattle.std.proofs.lemmas.Option.{same_Some}
use Rattle.ma_cells.specs.Ascending.{ascending_of, has}
use Rattle.ma_cells.specs.Cells.{CellMark, corners_of, mark_cmp}
use Rattle.ma_cells.specs.Faces.{holds_all}
use Rattle.ma_cells.specs.Incidence.{is_on}
use Rattle.ma_cells.specs.Tetrahedron.{Tetrahedron, tet_cmp}
use Rattle.ma_cells.specs.contracts.cell.MarkOrd.TheImpl as MarkOrder
use Rattle.ma_cells.specs.declared.cell.Cell.{Cell}
use Rattle.ma_cells.specs.declared.view.View.{View}
use Rattle.ma_cells.proofs.Ascents.{sorted-ascending_of}
use Rattle.part_core.proofs.Bodies.{less}
use Rattle.ma_cells.proofs.CellOrders.{derived_mark_cmp, mark_cmp_total, mark_cmp-IsAntisymmetric, tet_cmp_total, tet_cmp-IsAntisymmetric}
use Rattle.part_core.specs.Parts.{PartState}
use Rattle.part_phases.specs.Inboxes.{below}
use Rattle.part_rules.specs.Owed.{IsLabelled}
use Rattle.part_store.specs.Agreement.{first_of, owner_of}
use Rattle.part_store.specs.Labelled.{LabelledMesh, label_of, labelled, marks_on, own_of, tet_of, view_of}
use Rattle.part_store.specs.Stores.{StoreState, view_in}
use Rattle.part_store.proofs.Agreeing.{from-own, in-own}
use Rattle.part_store.proofs.Members.{In, all-in, any-in, from-any, in-filter, from-filter, filter-agree, in-has, from-has, in-append_left, in-append_right, from-append, in-map, from-map, in-flat_map, from-flat_map, in-ascending_of, from-ascending_of, same_made}
use Rattle.view_laws.specs.Views.{is_part, owned_marks}
use Rattle.view_laws.proofs.MeshItems.{label-below}
use Rattle.view_laws.proofs.Numbered.{in-below, from-below}
use Rattle.view_laws.proofs.Unions.{union_is}
use Rattle.world_run.specs.Rounds.{SeeMesh}
use Rattle.world_run.specs.Union.{PartsMakeMesh, union_in}
use Rattle.world_run.specs.steps.Uniting.{lesser_ghosts}

-- ---- who owns a cell of own tetrahedra
-- the first of ascending numbers is the least
first_least : (ns : List ℕ) (n : ℕ) → IsStrictlySortedBy nat_cmp ns → In n ns → (o : ℕ) × (first_of ns ≡ Some o) × (o ≤ n) × In o ns
unfolding IsStrictlySortedBy
first_least [] n sorted h = absurd h
first_least (o ∷ ns) n sorted h = elim h [
  | inl same ↦ (o, refl, omega (arith, same), inl refl)
  | inr rest ↦ let behind : o < n = less o n (all-in (λ m. nat_cmp o m ≡ Less) ns n sorted.0 rest) in (o, refl, omega (arith, behind), inl refl)
]

same_bools : (a b : Bool) → (a ≡ true → b ≡ true) → (b ≡ true → a ≡ true) → a ≡ b
same_bools true b f g = sym (f refl)
same_bools false true f g = g refl
same_bools false false f g = refl

some_of : (n : ℕ) (o : Option ℕ) → is_part n o ≡ true → o ≡ Some n
some_of n None h = absurd (false≢true h)
some_of n (Some m) h = ap Some (eqb-true m n h)

not_true : (b : Bool) → (b ≡ true → ⊥) → not b ≡ true
not_true true h = absurd (h refl)
not_true false h = refl

from_not : (b : Bool) → not b ≡ true → b ≡ true → ⊥
from_not true h k = false≢true h
from_not false h k = false≢true k

module _ (s : StoreState) (cell : Cell) (on : is_on s.own cell ≡ true) where
  abbrev has_it : Tetrahedron × ℕ → Bool
  has_it e = holds_all (tet_of e).corners (corners_of cell)

  abbrev listed : List (Tetrahedron × ℕ)
  listed = labelled s.part s.own ++ s.ghosts

  abbrev labels : List ℕ
  labels = map label_of (filter has_it listed)

  abbrev ranked : List ℕ
  ranked = ascending_of nat_cmp labels

  ranked_in : (e : Tetrahedron × ℕ) → In e listed → has_it e ≡ true → In (label_of e) ranked
  ranked_in e h it = in-ascending_of nat_cmp_total nat_cmp-IsAntisymmetric labels (label_of e) (in-map label_of (filter has_it listed) e (in-filter has_it listed e h it))

  from_ranked : (n : ℕ) → In n ranked → (e : Tetrahedron × ℕ) × In e listed × (has_it e ≡ true) × (n ≡ label_of e)
  from_ranked n h =
      let e = from-map label_of (filter has_it listed) n (from-ascending_of nat_cmp_total nat_cmp-IsAntisymmetric labels n h) in
      let kept = from-filter has_it listed e.0 e.1 in
      (e.0, kept.0, kept.1, e.2)

  mine : In s.part ranked
  mine =
      let t = from-any (λ tet. holds_all tet.corners (corners_of cell)) s.own on in
      ranked_in (t.0, s.part) (in-append_left (labelled s.part s.own) s.ghosts (t.0, s.part) (in-map (λ tet. (tet, s.part)) s.own t.0 t.1)) t.2

  abbrev is_lesser : Tetrahedron × ℕ → Bool
  is_lesser ghost = nat_lt (label_of ghost) s.part

  -- a part owns the cell just where no lesser one has it
  owns : is_part s.part (first_of ranked) ≡ not (is_on (lesser_ghosts s.part s.ghosts) cell)
  owns =
      let least = first_least ranked s.part (sorted-ascending_of nat_cmp_total labels) mine in
      same_bools (is_part s.part (first_of ranked)) (not (is_on (lesser_ghosts s.part s.ghosts) cell))
      (λ owned. not_true (is_on (lesser_ghosts s.part s.ghosts) cell) (λ there.
      let t = from-any (λ tet. holds_all tet.corners (corners_of cell)) (lesser_ghosts s.part s.ghosts) there in
      let g = from-map tet_of (filter is_lesser s.ghosts) t.0 t.1 in
      let kept = from-filter is_lesser s.ghosts g.0 g.1 in
      let small : label_of g.0 < s.part = let test = kept.1 in grind (arith, nat_tests) in
      let it : has_it g.0 ≡ true = subst (λ (tet : Tetrahedron). holds_all tet.corners (corners_of cell) ≡ true) g.2 t.2 in
      let before = first_least ranked (label_of g.0) (sorted-ascending_of nat_cmp_total labels) (ranked_in g.0 (in-append_right (labelled s.part s.own) s.ghosts g.0 kept.0) it) in
      let same : before.0 ≡ s.part = same_Some before.0 s.part (sym before.1 ∙ some_of s.part (first_of ranked) owned) in
      let low = before.2 in
      omega (arith, same, low, small)))
      (λ none.
      let o = least.0 in
      let e = from_ranked o least.3 in
      let equal : o ≡ s.part = elim (from-append (labelled s.part s.own) s.ghosts e.0 e.1) [
        | inl own ↦ let t = from-map (λ tet. (tet, s.part)) s.own e.0 own in e.3 ∙ ap label_of t.2
        | inr ghost ↦ elim (nat_lt o s.part) as (λ b. nat_lt o s.part ≡ b → o ≡ s.part) [
          | true ↦ λ small. absurd (from_not (is_on (lesser_ghosts s.part s.ghosts) cell) none
              (any-in (λ tet. holds_all tet.corners (corners_of cell)) (lesser_ghosts s.part s.ghosts) (tet_of e.0) (in-map tet_of (filter is_lesser s.ghosts) e.0 (in-filter is_lesser s.ghosts e.0 ghost (ap (λ n. nat_lt n s.part) (sym e.3) ∙ small))) e.2))
          | false ↦ λ big. let high : s.part ≤ o = grind (arith, nat_tests) in let low = least.2 in omega (arith, high, low)
        ] refl
      ] in
      ap (is_part s.part) least.1 ∙ eq-eqb o s.part equal)

-- ---- the marks that a part owns
module _ (s : StoreState) where
  abbrev others : List CellMark
  others = marks_on (lesser_ghosts s.part s.ghosts) s.marks

  abbrev is_own : CellMark → Bool
  is_own m = is_on s.own m.cell

  among_others : (m : CellMark) → In m s.marks → has mark_cmp m others ≡ is_on (lesser_ghosts s.part s.ghosts) m.cell
  among_others m h = same_bools (has mark_cmp m others) (is_on (lesser_ghosts s.part s.ghosts) m.cell)
      (λ there. (from-filter (λ (m : CellMark). is_on (lesser_ghosts s.part s.ghosts) m.cell) s.marks m (from-has mark_cmp_total mark_cmp-IsAntisymmetric others m there)).1)
      (λ on. in-has mark_cmp_total mark_cmp-IsAntisymmetric others m (in-filter (λ (m : CellMark). is_on (lesser_ghosts s.part s.ghosts) m.cell) s.marks m h on))

  agree : (m : CellMark) → In m s.marks → (is_own m && not (has mark_cmp m others)) ≡ (is_own m && is_part s.part (owner_of (view_in s) m.cell))
  agree m h = elim (is_own m) as (λ b. is_own m ≡ b → (b && not (has mark_cmp m others)) ≡ (b && is_part s.part (owner_of (view_in s) m.cell))) [
    | false ↦ λ _. refl
    | true ↦ λ on. ap not (among_others m h) ∙ sym (owns s m.cell on)
  ] refl

  both : (marks : List CellMark) → filter (λ m. not (has mark_cmp m others)) (filter is_own marks) ≡ filter (λ m. is_own m && not (has mark_cmp m others)) marks
  both [] = refl
  both (m ∷ marks) = elim (is_own m) as (λ b. filter (λ m. not (has mark_cmp m others)) (cond b (m ∷ filter is_own marks) (filter is_own marks)) ≡ cond (b && not (has mark_cmp m others)) (m ∷ filter (λ m. is_own m && not (has mark_cmp m others)) marks) (filter (λ m. is_own m && not (has mark_cmp m others)) marks)) [
    | true ↦ ap (λ r. cond (not (has mark_cmp m others)) (m ∷ r) r) (both marks)
    | false ↦ both marks
  ]

  pub owned_is : filter (λ m. not (has mark_cmp m others)) (marks_on s.own s.marks) ≡ owned_marks (view_in s)
  owned_is = both s.marks ∙ filter-agree (λ m. is_own m && not (has mark_cmp m others)) (λ m. is_own m && is_part s.part (owner_of (view_in s) m.cell)) s.marks agree

-- from the lists of the code
pub owned_by : (s : StoreState) (view : View) (ghosts : List (Tetrahedron × ℕ)) (lesser seen : List Tetrahedron) (apart own owned : List CellMark)
    → view ≡ view_in s → ghosts ≡ view.ghosts → lesser ≡ lesser_ghosts view.part ghosts → seen ≡ lesser → apart ≡ marks_on seen s.marks → own ≡ marks_on s.own s.marks
    → owned ≡ filter (λ m. not (has MarkOrder.ghosts.cmp m apart)) own → owned ≡ owned_marks (view_in s)
owned_by s view ghosts lesser seen apart own owned a b c d e f g =
    let ghosts_are : ghosts ≡ s.ghosts = b ∙ ap (λ (v : View). v.ghosts) a in
    let seen_are : seen ≡ lesser_ghosts s.part s.ghosts = d ∙ c ∙ ap (λ (v : View). lesser_ghosts v.part ghosts) a ∙ ap (lesser_ghosts s.part) ghosts_are in
    let apart_are : apart ≡ marks_on (lesser_ghosts s.part s.ghosts) s.marks = e ∙ ap (λ tets. marks_on tets s.marks) seen_are in
    g ∙ ap (λ R. filter (λ m. not (has R m apart)) own) derived_mark_cmp ∙ ap (λ xs. filter (λ m. not (has mark_cmp m apart)) xs) f ∙ ap (λ ms. filter (λ m. not (has mark_cmp m ms)) (marks_on s.own s.marks)) apart_are ∙ owned_is s

-- ---- all parts
at_place : {X : Type 0} (xs : List X) (x : X) → In x xs → (i : ℕ) × (i < length xs) × (slice_get xs i ≡ Some x)
at_place [] x h = absurd h
at_place (y ∷ ys) x h = elim h [
  | inl same ↦ (0, omega arith, ap Some (sym same))
  | inr rest ↦ let r = at_place ys x rest in (suc r.0, omega (arith, r.1), r.2)
]

there : {X : Type 0} (xs : List X) (i : ℕ) → i < length xs → (x : X) × In x xs × (slice_get xs i ≡ Some x)
there [] i h = absurd (omega (arith, h))
there (y ∷ ys) zero h = (y, inl refl, refl)
there (y ∷ ys) (suc i) h = let r = there ys i (omega (arith, h)) in (r.0, inr r.1, r.2)

module _ (mesh : LabelledMesh) (parts : List PartState) (right : IsLabelled (length parts) mesh) (see : SeeMesh mesh parts) where
  abbrev seen : PartState → View
  seen part = view_in part.standing.holds

  abbrev views : List View
  views = map (view_of mesh) (below (length parts))

  sees : (i : ℕ) (part : PartState) → i < length parts → slice_get parts i ≡ Some part → seen part ≡ view_of mesh i
  sees i part within is = same_Some (seen part) (view_of mesh i) (sym (ap (option_map seen) is) ∙ see i within)

  -- what is gathered from the parts is gathered from the views
  module _ {Y : Type 0} (gather : View → List Y) where
    pub from_parts : (y : Y) → In y (flat_map (λ part. gather (seen part)) parts) → In y (flat_map gather views)
    from_parts y h =
        let part = from-flat_map (λ part. gather (seen part)) parts y h in
        let at = at_place parts part.0 part.1 in
        in-flat_map gather views (view_of mesh at.0) y (in-map (view_of mesh) (below (length parts)) at.0 (in-below (length parts) at.0 at.1)) (subst (λ v. In y (gather v)) (sees at.0 part.0 at.1 at.2) part.2)

    pub from_views : (y : Y) → In y (flat_map gather views) → In y (flat_map (λ part. gather (seen part)) parts)
    from_views y h =
        let view = from-flat_map gather views y h in
        let number = from-map (view_of mesh) (below (length parts)) view.0 view.1 in
        let within = from-below (length parts) number.0 number.1 in
        let part = there parts number.0 within in
        in-flat_map (λ part. gather (seen part)) parts part.0 y part.1 (subst (λ v. In y (gather v)) (number.2 ∙ sym (sees number.0 part.0 within part.2)) view.2)

  own_from : (t : Tetrahedron) → In t (flat_map (λ view. view.own) views) → In t (map tet_of mesh.tets)
  own_from t h =
      let view = from-flat_map (λ (view : View). view.own) views t h in
      let number = from-map (view_of mesh) (below (length parts)) view.0 view.1 in
      let own : In t (own_of mesh number.0) = subst (λ (v : View). In t v.own) number.2 view.2 in
      in-map tet_of mesh.tets (t, number.0) (from-own mesh number.0 t own)

  own_in : (t : Tetrahedron) → In t (map tet_of mesh.tets) → In t (flat_map (λ view. view.own) views)
  own_in t h =
      let entry = from-map tet_of mesh.tets t h in
      let label = label_of entry.0 in
      let own : In t (own_of mesh label) = subst (λ u. In u (own_of mesh label)) (sym entry.2) (in-own mesh label (tet_of entry.0) entry.1) in
      in-flat_map (λ (view : View). view.own) views (view_of mesh label) t (in-map (view_of mesh) (below (length parts)) label (in-below (length parts) label (label-below (length parts) mesh right entry.0 entry.1))) own

  tets_are : (union_in parts).tets ≡ ascending_of tet_cmp (map tet_of mesh.tets)
  tets_are = same_made tet_cmp_total tet_cmp-IsAntisymmetric (flat_map (λ (part : PartState). part.standing.holds.own) parts) (map tet_of mesh.tets)
      (λ t h. own_from t (from_parts (λ view. view.own) t h)) (λ t h. from_views (λ view. view.own) t (own_in t h))

  marks_are : (union_in parts).marks ≡ mesh.marks
  marks_are =
      same_made mark_cmp_total mark_cmp-IsAntisymmetric (flat_map (λ (part : PartState). owned_marks (seen part)) parts) (flat_map owned_marks views) (from_parts owned_marks) (from_views owned_marks)
      ∙ ap (λ (m : LabelledMesh). m.marks) (union_is (length parts) mesh right)

pub parts_make_mesh : PartsMakeMesh
parts_make_mesh mesh parts right see = λ i. record { tets = tets_are mesh parts right see i; marks = marks_are mesh parts right see i }

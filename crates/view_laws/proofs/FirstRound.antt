-- Parts that start with their tetrahedra of a mesh hold what the mesh tells of round 0, and end it with their views.
use Rattle.std.proofs.Common.{◌≡◌, ℕ, zero, suc, ◌-◌, ◌<◌, ◌≤◌, Bool, true, false, List, [], ◌∷◌, ◌++◌, filter, get_or, length, refl, sym, ap, subst, ◌∙◌, arith, eqb-true}
use Rattle.std.specs.Prelude.{map, ◌==◌}
use Rattle.std.specs.List.{AllByRecursion}
use Rattle.std.specs.List.Sorted.{IsStrictlySortedBy}
use Rattle.std.specs.Ordering.{nat_cmp, ordering_then}
use Rattle.std.specs.Cmp.{nat_cmp_total, tied_itself}
use Rattle.std.specs.declared.cmp.Ordering.{Ordering}
use Rattle.std.specs.declared.cmp.Ordering.TheVariants.{Less, Equal, Greater}
use Rattle.std.proofs.lemmas.List.{get_or-map, get_or_append_left, get_or_push, length-map, length_push}
use Rattle.std.proofs.lemmas.List.Kept.{IsStrictlySortedBy-filter}
use Rattle.ma_cells.specs.Ascending.{ascending_of}
use Rattle.ma_cells.specs.Cells.{CellMark, mark_cmp}
use Rattle.ma_cells.specs.Grid.{are_on_grid, marks_are_on_grid}
use Rattle.ma_cells.specs.Incidence.{is_on}
use Rattle.ma_cells.specs.Tetrahedron.{Tetrahedron, tet_cmp}
use Rattle.ma_cells.specs.Views.{ghost_cmp}
use Rattle.ma_cells.proofs.CellOrders.{mark_cmp_total, mark_cmp-IsAntisymmetric, tet_cmp_total, tet_cmp-IsAntisymmetric}
use Rattle.ma_geom.specs.Coordinates.{Coordinates}
use Rattle.letters.specs.declared.letter.Body.{Body}
use Rattle.directory.specs.Homes.{home_of}
use Rattle.part_phases.specs.Inboxes.{below}
use Rattle.part_phases.specs.Standings.{Standing}
use Rattle.part_rules.specs.Owed.{AreCarried, IsLabelled, holding}
use Rattle.part_rules.specs.Rounds.{rules}
use Rattle.part_rules.specs.declared.course.Course.{Course}
use Rattle.part_store.specs.Labelled.{LabelledMesh, has_label, marks_on, own_of, tet_of}
use Rattle.part_store.specs.Stores.{StoreState, started, view_in}
use Rattle.part_store.proofs.Agreeing.{in-own}
use Rattle.part_store.proofs.Members.{In, all-in, all-from_in, in-filter, from-filter, from-map, is_made}
use Rattle.phase_laws.specs.Drawing.{BeginSo, part_at}
use Rattle.phase_laws.proofs.Starts.{all_end_whatever_is_drawn}
use Rattle.view_laws.specs.Truths.{IsShared, mesh_truth}
use Rattle.view_laws.specs.Views.{FirstRoundEndsInViews, first_standing}
use Rattle.view_laws.proofs.Following.{follows_mesh}
use Rattle.view_laws.proofs.MeshItems.{from-on, in-marks, label-below, on-from}

-- ---- the tetrahedra of a part ascend
then-equal : (a b : Ordering) → b ≡ Equal → ordering_then a b ≡ Less → a ≡ Less
then-equal Less b e h = refl
then-equal Equal b e h = absurd (cc)
then-equal Greater b e h = h

-- tetrahedra of one label ascend as they do with it
sorted-tets : (p : ℕ) (es : List (Tetrahedron × ℕ)) → IsStrictlySortedBy ghost_cmp es → AllByRecursion {X = Tetrahedron × ℕ} (λ e. e.1 ≡ p) es → IsStrictlySortedBy tet_cmp (map tet_of es)
unfolding IsStrictlySortedBy
sorted-tets p [] s a = tt
sorted-tets p (e ∷ es) s a = (below_all es s.0 a.1, sorted-tets p es s.1 a.1)
  where
    below_all : (fs : List (Tetrahedron × ℕ)) → AllByRecursion (λ f. ghost_cmp e f ≡ Less) fs → AllByRecursion {X = Tetrahedron × ℕ} (λ f. f.1 ≡ p) fs → AllByRecursion (λ t. tet_cmp e.0 t ≡ Less) (map tet_of fs)
    below_all [] b l = tt
    below_all (f ∷ fs) b l = (then-equal (tet_cmp e.0 f.0) (nat_cmp e.1 f.1) (ap (λ x. nat_cmp x f.1) (a.0 ∙ sym l.0) ∙ tied_itself nat_cmp_total f.1) b.0, below_all fs b.1 l.1)

sorted-own : (mesh : LabelledMesh) (p : ℕ) → IsStrictlySortedBy ghost_cmp mesh.tets → IsStrictlySortedBy tet_cmp (own_of mesh p)
sorted-own mesh p s =
    sorted-tets p (filter (has_label p) mesh.tets) (IsStrictlySortedBy-filter ghost_cmp (has_label p) mesh.tets s)
    (all-from_in {X = Tetrahedron × ℕ} (λ e. e.1 ≡ p) (filter (has_label p) mesh.tets) (λ e h. eqb-true e.1 p (from-filter (has_label p) mesh.tets e h).1))

-- ---- numbers of parts in their order
pub length-below : (n : ℕ) → length (below n) ≡ n
length-below zero = refl
length-below (suc n) = let before = length-below n in let more = length_push (below n) n in omega arith

pub number_at : (n q : ℕ) → q < n → get_or (below n) q 0 ≡ q
number_at zero q h = absurd (omega arith)
number_at (suc n) q h =
    let long = length-below n in
    elim (q == n) as (λ b. (q == n) ≡ b → get_or (below n ++ n ∷ []) q 0 ≡ q) [
      | true ↦ λ e.
          let same : q ≡ n = eqb-true q n e in
          get_or_push (below n) n 0 q (long ∙ sym same) ∙ sym same
      | false ↦ λ e.
          let less : q < n = grind arith in
          get_or_append_left (below n) (n ∷ []) 0 q (omega arith) ∙ number_at n q less
    ] refl

-- ---- what parts hold at first
module _ (parts : ℕ) (mesh : LabelledMesh) (right : IsLabelled parts mesh) where
  abbrev on_own : ℕ → CellMark → Bool
  on_own p m = is_on (own_of mesh p) m.cell

  abbrev pub first_marks : ℕ → List CellMark
  first_marks p = marks_on (own_of mesh p) mesh.marks

  first_carried : AreCarried parts mesh first_marks
  first_carried = record {
    right = λ p within. all-from_in _ (first_marks p) (λ m h. let kept = from-filter (on_own p) mesh.marks m h in (in-marks mesh.marks m kept.0, kept.1));
    all = all-from_in _ mesh.marks (λ m h.
        let t = from-on (map tet_of mesh.tets) m.cell (all-in (λ m. is_on (map tet_of mesh.tets) m.cell ≡ true) mesh.marks m right.on_cells h) in
        let e = from-map tet_of mesh.tets t.0 t.1 in
        let p = e.0.1 in
        let own : In t.0 (own_of mesh p) = in-own mesh p t.0 (subst (λ z. In z mesh.tets) (λ i. (sym e.2 i, p)) e.1) in
        (p, label-below parts mesh right e.0 e.1, in-marks (first_marks p) m (in-filter (on_own p) mesh.marks m h (on-from (own_of mesh p) t.0 m.cell own t.2))));
  }

  started_is : (home : Coordinates → ℕ) (p : ℕ) → started p (own_of mesh p) mesh.marks ≡ holding parts home mesh first_marks 0 p
  started_is home p =
      let own : ascending_of tet_cmp (own_of mesh p) ≡ own_of mesh p = is_made tet_cmp_total tet_cmp-IsAntisymmetric (own_of mesh p) (own_of mesh p) (sorted-own mesh p right.tets) (λ t h. h) (λ t h. h) in
      let marks : ascending_of mark_cmp (first_marks p) ≡ first_marks p =
      is_made mark_cmp_total mark_cmp-IsAntisymmetric (first_marks p) (first_marks p) (IsStrictlySortedBy-filter mark_cmp (on_own p) mesh.marks right.marks) (λ t h. h) (λ t h. h) in
      λ i. record { part = p; own = own i; ghosts = []; marks = marks i; shared = [] }

-- ---- the round
module _ (course : Course) (mesh : LabelledMesh) (some : 1 ≤ course.parts) (right : IsLabelled course.parts mesh) where
  abbrev pub parts : List (Standing StoreState Body)
  parts = map (first_standing mesh) (below course.parts)

  abbrev pub carried : ℕ → List CellMark
  carried = first_marks course.parts mesh right

  pub is_shared : are_on_grid course.grid (map tet_of mesh.tets) ≡ true → marks_are_on_grid course.grid mesh.marks ≡ true → IsShared course mesh carried 0
  is_shared tets marks =
      let same : course.grid ≡ course.grid - 0 = omega arith in
      record {
        parts = some;
        labelled = right;
        known = first_carried course.parts mesh right;
        tets = subst (λ k. are_on_grid k (map tet_of mesh.tets) ≡ true) same tets;
        marks = subst (λ k. marks_are_on_grid k mesh.marks ≡ true) same marks;
      }

  pub first_at : (default : Standing StoreState Body) (q : ℕ) → q < course.parts → part_at default parts q ≡ first_standing mesh q
  first_at default q within =
      let long = length-below course.parts in
      get_or-map (first_standing mesh) (below course.parts) q 0 default (omega arith) ∙ ap (first_standing mesh) (number_at course.parts q within)

  pub begin_so : (default : Standing StoreState Body) → BeginSo (rules course) (mesh_truth course mesh carried 0) default parts
  begin_so default = record {
    all = length-map (below course.parts) (first_standing mesh) ∙ length-below course.parts;
    numbers = λ q within. ap (λ z. z.me) (first_at default q within);
    holds = λ q within. ap (λ z. z.holds) (first_at default q within) ∙ started_is course.parts mesh right (home_of (course.grid - 0) course.parts) q;
    kept = λ q within. refl;
  }

pub ends_in_views : FirstRoundEndsInViews
ends_in_views course mesh some right few tets marks default n picks enough =
    let carried = first_marks course.parts mesh right in
    let truth = mesh_truth course mesh carried 0 in
    let follows = follows_mesh course mesh carried 0 (is_shared course mesh some right tets marks) few in
    let end = all_end_whatever_is_drawn (rules course) truth default (map (first_standing mesh) (below course.parts)) follows (begin_so course mesh some right default) n picks enough in
    (end.0, λ q within. let ended = end.1 q within in (ended.0, ap view_in ended.1))

-- Parts that are started with their tetrahedra in the order of the mesh are those of the labelled mesh, and what they say as they begin.
use Rattle.std.proofs.Common.{◌≡◌, ◌+◌, ◌<◌, ◌≤◌, ℕ, zero, suc, true, false, cond, List, [], ◌∷◌, ◌++◌, length, get_or, take, inl, inr, Option, Some, None, refl, sym, ap, ap₂, subst, ◌∙◌, arith}
use Rattle.std.specs.Prelude.{map, filter, slice_get, ◌==◌, is_some}
use Rattle.std.specs.Option.{option_or}
use Rattle.std.specs.Cmp.{both_ways}
use Rattle.std.specs.List.{zip}
use Rattle.std.proofs.lemmas.Bool.{false≢true}
use Rattle.std.proofs.lemmas.List.{map-append, take_all}
use Rattle.std.proofs.lemmas.List.Elements.{filter_more}
use Rattle.std.proofs.lemmas.Slice.Zip.{get_or-zip, length-zip}
use Rattle.ma_cells.specs.Ascending.{ascending_of}
use Rattle.ma_cells.specs.Cells.{CellMark, mark_cmp}
use Rattle.ma_cells.specs.Incidence.{is_on}
use Rattle.ma_cells.specs.Meshes.{MarkedMesh}
use Rattle.ma_cells.specs.Tetrahedron.{Tetrahedron}
use Rattle.ma_cells.specs.Views.{ghost_cmp}
use Rattle.ma_cells.specs.declared.cell.Cell.{Cell}
use Rattle.ma_cells.proofs.CellOrders.{ghost_cmp-IsAntisymmetric, ghost_cmp_total, tet_cmp-IsAntisymmetric, tet_cmp_total}
use Rattle.part_core.specs.Parts.{PartState, first_part}
use Rattle.part_phases.specs.Inboxes.{below}
use Rattle.part_rules.specs.declared.course.Course.{Course}
use Rattle.part_store.specs.Labelled.{has_label, marks_on, own_of, tet_of}
use Rattle.part_store.specs.Stores.{StoreState, started}
use Rattle.part_store.proofs.Members.{In, any-in, filter-agree, filter-filter, from-any, from-ascending_of, from-filter, from-map, in-ascending_of, in-filter, in-map, same_made}
use Rattle.world_run.specs.Meshes.{labelled_mesh}
use Rattle.world_run.specs.declared.excess.Excess.{Excess}
use Rattle.world_run.specs.steps.Beginning.{AreUnspent, Says, SaysAll}

-- ---- the tetrahedra of a part
pub in_firsts : (tets : List Tetrahedron) (labels : List ℕ) (e : Tetrahedron × ℕ) → In e (zip tets labels) → In (tet_of e) tets
in_firsts [] labels e h = absurd h
in_firsts (t ∷ tets) [] e h = absurd h
in_firsts (t ∷ tets) (l ∷ labels) e h = elim h [ inl same ↦ inl (ap tet_of same) | inr k ↦ inr (in_firsts tets labels e k) ]

-- more tetrahedra have more cells
pub on_more : (xs ys : List Tetrahedron) → ((t : Tetrahedron) → In t xs → In t ys) → (cell : Cell) → is_on xs cell ≡ true → is_on ys cell ≡ true
on_more xs ys more cell h = let r = from-any _ xs h in any-in _ ys r.0 (more r.0 r.1) r.2

abbrev unbegun : ℕ → Course → StoreState → PartState
unbegun p course store = record {
  course = course;
  standing = record { me = p; round = 0; phase = 3; holds = store; now = []; early = []; kept = [] };
  begun = 0;
  spent = false;
}

abbrev stored : ℕ → List Tetrahedron → List CellMark → StoreState
stored p own marks = record { part = p; own = own; ghosts = []; marks = ascending_of mark_cmp marks; shared = [] }

abbrev pub listed : List Tetrahedron → List ℕ → ℕ → List Tetrahedron
listed tets labels p = map tet_of (filter (has_label p) (zip tets labels))

module _ (mesh : MarkedMesh) (labels : List ℕ) (p : ℕ) where
  there : (t : Tetrahedron) → In t (listed mesh.tets labels p) → In t (own_of (labelled_mesh mesh labels) p)
  there t h =
      let pairs : List (Tetrahedron × ℕ) = zip mesh.tets labels in
      let set : List (Tetrahedron × ℕ) = ascending_of ghost_cmp pairs in
      let e = from-map tet_of (filter (has_label p) pairs) t h in
      let f = from-filter (has_label p) pairs e.0 e.1 in
      subst (λ u. In u (own_of (labelled_mesh mesh labels) p)) (sym e.2)
      (in-map tet_of (filter (has_label p) set) e.0 (in-filter (has_label p) set e.0 (in-ascending_of ghost_cmp_total ghost_cmp-IsAntisymmetric pairs e.0 f.0) f.1))

  back : (t : Tetrahedron) → In t (own_of (labelled_mesh mesh labels) p) → In t (listed mesh.tets labels p)
  back t h =
      let pairs : List (Tetrahedron × ℕ) = zip mesh.tets labels in
      let set : List (Tetrahedron × ℕ) = ascending_of ghost_cmp pairs in
      let e = from-map tet_of (filter (has_label p) set) t h in
      let f = from-filter (has_label p) set e.0 e.1 in
      subst (λ u. In u (listed mesh.tets labels p)) (sym e.2)
      (in-map tet_of (filter (has_label p) pairs) e.0 (in-filter (has_label p) pairs e.0 (from-ascending_of ghost_cmp_total ghost_cmp-IsAntisymmetric pairs e.0 f.0) f.1))

  in_mesh : (t : Tetrahedron) → In t (own_of (labelled_mesh mesh labels) p) → In t mesh.tets
  in_mesh t h =
      let pairs : List (Tetrahedron × ℕ) = zip mesh.tets labels in
      let e = from-map tet_of (filter (has_label p) pairs) t (back t h) in
      subst (λ u. In u mesh.tets) (sym e.2) (in_firsts mesh.tets labels e.0 (from-filter (has_label p) pairs e.0 e.1).0)

  same_marks : marks_on (listed mesh.tets labels p) mesh.marks ≡ marks_on (own_of (labelled_mesh mesh labels) p) (marks_on mesh.tets mesh.marks)
  same_marks =
      let own = own_of (labelled_mesh mesh labels) p in
      let some = listed mesh.tets labels p in
      filter-agree (λ mark. is_on some mark.cell) (λ mark. is_on own mark.cell) mesh.marks (λ mark _. both_ways (is_on some mark.cell) (is_on own mark.cell) (on_more some own there mark.cell) (on_more own some back mark.cell))
      ∙ sym (filter-filter (λ mark. is_on mesh.tets mark.cell) (λ mark. is_on own mark.cell) mesh.marks (λ mark _ h. on_more own mesh.tets in_mesh mark.cell h))

  same_store : started p (listed mesh.tets labels p) mesh.marks ≡ started p (own_of (labelled_mesh mesh labels) p) (marks_on mesh.tets mesh.marks)
  same_store = ap₂ (stored p) (same_made tet_cmp_total tet_cmp-IsAntisymmetric (listed mesh.tets labels p) (own_of (labelled_mesh mesh labels) p) there back) same_marks

  pub same_part : (course : Course) (own : List Tetrahedron) → own ≡ listed mesh.tets labels p → first_part p course own mesh.marks ≡ first_part p course (own_of (labelled_mesh mesh labels) p) (labelled_mesh mesh labels).marks
  same_part course own is = ap (λ ts. first_part p course ts mesh.marks) is ∙ ap (unbegun p course) same_store

-- ---- one more tetrahedron of a mesh
abbrev pub front : List Tetrahedron → List ℕ → ℕ → ℕ → List Tetrahedron
front tets labels p i = map tet_of (filter (has_label p) (take i (zip tets labels)))

pub front_more : (tets : List Tetrahedron) (labels : List ℕ) (p i : ℕ) (tet : Tetrahedron) → length labels ≡ length tets → i < length tets → tet ≡ get_or tets i tet
    → front tets labels p (i + 1) ≡ front tets labels p i ++ cond (get_or labels i 0 == p) (tet ∷ []) []
front_more tets labels p i tet long within here =
    let pairs : List (Tetrahedron × ℕ) = zip tets labels in
    let label : ℕ = get_or labels i 0 in
    let as_long = length-zip tets labels in
    let at : get_or pairs i (tet, 0) ≡ (tet, label) = get_or-zip tets labels i (tet, 0) within (omega (arith, long, within)) ∙ (λ k. (sym here k, label)) in
    ap (map tet_of) (filter_more (has_label p) pairs i (tet, 0) (omega (arith, long, within, as_long)) ∙ ap (λ e. filter (has_label p) (take i pairs) ++ cond (has_label p e) (e ∷ []) []) at)
    ∙ map-append tet_of (filter (has_label p) (take i pairs)) (cond (label == p) ((tet, label) ∷ []) [])
    ∙ ap (λ l. front tets labels p i ++ l) (elim (label == p) as (λ b. map tet_of (cond b ((tet, label) ∷ []) []) ≡ cond b (tet ∷ []) []) [ true ↦ refl | false ↦ refl ])

pub front_whole : (tets : List Tetrahedron) (labels : List ℕ) (p i : ℕ) → length labels ≡ length tets → length tets ≤ i → front tets labels p i ≡ listed tets labels p
front_whole tets labels p i long past =
    let as_long = length-zip tets labels in
    ap (λ pairs. map tet_of (filter (has_label p) pairs)) (take_all i (zip tets labels) (omega (arith, long, past, as_long)))

-- ---- one more part
pub below_more : (n : ℕ) → below (n + 1) ≡ below n ++ n ∷ []
below_more n = let next : suc n ≡ n + 1 = omega arith in subst (λ m. below m ≡ below n ++ n ∷ []) next refl

pub parts_more : {X : Type 0} (f : ℕ → X) (n : ℕ) → map f (below (n + 1)) ≡ map f (below n) ++ f n ∷ []
parts_more f n = ap (map f) (below_more n) ∙ map-append f (below n) (n ∷ [])

there_before : (parts : List PartState) (q : ℕ) (x part : PartState) → slice_get parts q ≡ Some part → slice_get (parts ++ x ∷ []) q ≡ Some part
there_before [] q x part h = absurd (false≢true (ap is_some h))
there_before (y ∷ parts) zero x part h = h
there_before (y ∷ parts) (suc q) x part h = there_before parts q x part h

there_last : (parts : List PartState) (x : PartState) → slice_get (parts ++ x ∷ []) (length parts) ≡ Some x
there_last [] x = refl
there_last (y ∷ parts) x = there_last parts x

unspent_more : (parts : List PartState) (x : PartState) → AreUnspent parts → x.spent ≡ false → AreUnspent (parts ++ x ∷ [])
unspent_more [] x all one = (one, tt)
unspent_more (y ∷ parts) x all one = (all.0, unspent_more parts x all.1 one)

pub says_more : (parts : List PartState) (x : PartState) (excess said : Option Excess) → SaysAll parts excess → Says x said → SaysAll (parts ++ x ∷ []) (option_or excess said)
says_more parts x None None all one = unspent_more parts x all one
says_more parts x None (Some e) all one = record { number = length parts; part = x; there = there_last parts x; spent = one.spent; round_is = one.round_is; stage_is = one.stage_is; count_is = one.count_is; much = one.much }
says_more parts x (Some e) said all one = record { number = all.number; part = all.part; there = there_before parts all.number x all.part all.there; spent = all.spent; round_is = all.round_is; stage_is = all.stage_is; count_is = all.count_is; much = all.much }

-- A mesh that is handed out by labels is one that is labelled by parts, with no flat tetrahedron, on the grid that the mesh was on. Without the labels it is the mesh.
use Rattle.std.proofs.Common.{◌≡◌, ◌<◌, ◌≤◌, ℕ, Bool, true, List, [], ◌∷◌, length, inl, inr, sym, ap, subst, arith}
use Rattle.std.specs.Prelude.{map}
use Rattle.std.specs.List.{All, AllByRecursion, list_all, zip}
use Rattle.std.specs.List.Sorted.{IsStrictlySortedBy}
use Rattle.std.proofs.lemmas.List.Elements.{recursion_from_All}
use Rattle.std.proofs.lemmas.List.Kept.{IsStrictlySortedBy-filter}
use Rattle.std.proofs.lemmas.Slice.Zip.{length-zip}
use Rattle.ma_cells.specs.Ascending.{ascending_of}
use Rattle.ma_cells.specs.Cells.{CellMark, corners_of, is_cell, mark_cmp}
use Rattle.ma_cells.specs.Grid.{are_on_grid, is_on_grid, marks_are_on_grid}
use Rattle.ma_cells.specs.Incidence.{is_on}
use Rattle.ma_cells.specs.Meshes.{MarkedMesh}
use Rattle.ma_cells.specs.Tetrahedron.{Tetrahedron, are_corners, are_tetrahedra, tet_cmp}
use Rattle.ma_cells.proofs.Ascents.{length-ascending_of, sorted-ascending_of}
use Rattle.ma_cells.proofs.CellOrders.{ghost_cmp-IsAntisymmetric, ghost_cmp_total, tet_cmp-IsAntisymmetric, tet_cmp_total}
use Rattle.ma_cells.proofs.Passing.{all-filter, all_pass, test_all}
use Rattle.part_rules.specs.Owed.{IsLabelled}
use Rattle.part_rules.specs.declared.course.Course.{Course}
use Rattle.part_store.specs.Labelled.{LabelledMesh, label_of, marks_on, tet_of}
use Rattle.part_store.proofs.Members.{In, all-from_in, all-in, from-ascending_of, from-filter, from-map, in-ascending_of, in-map, same_made}
use Rattle.world_run.specs.Meshes.{LabelledMeshIsMesh, labelled_mesh}
use Rattle.world_run.specs.Rounds.{IsWhole}
use Rattle.world_run.proofs.Beginnings.{in_firsts, on_more}

in_seconds : (tets : List Tetrahedron) (labels : List ℕ) (e : Tetrahedron × ℕ) → In e (zip tets labels) → In (label_of e) labels
in_seconds [] labels e h = absurd h
in_seconds (t ∷ tets) [] e h = absurd h
in_seconds (t ∷ tets) (l ∷ labels) e h = elim h [ inl same ↦ inl (ap label_of same) | inr k ↦ inr (in_seconds tets labels e k) ]

-- each tetrahedron has a label
a_label : (tets : List Tetrahedron) (labels : List ℕ) → length labels ≡ length tets → (t : Tetrahedron) → In t tets → (l : ℕ) × In (t, l) (zip tets labels)
a_label [] labels long t h = absurd h
a_label (u ∷ tets) [] long t h = absurd (omega (arith, long))
a_label (u ∷ tets) (l ∷ labels) long t h = elim h [
  | inl same ↦ (l, inl (ap (λ z. (z, l)) same))
  | inr k ↦ let r = a_label tets labels (omega (arith, long)) t k in (r.0, inr r.1)
]

module _ (mesh : MarkedMesh) (labels : List ℕ) where
  abbrev pairs : List (Tetrahedron × ℕ)
  pairs = zip mesh.tets labels

  abbrev whole : LabelledMesh
  whole = labelled_mesh mesh labels

  in_pairs : (e : Tetrahedron × ℕ) → In e whole.tets → In e pairs
  in_pairs e h = from-ascending_of ghost_cmp_total ghost_cmp-IsAntisymmetric pairs e h

  -- its tetrahedra are those of the mesh
  in_mesh : (t : Tetrahedron) → In t (map tet_of whole.tets) → In t mesh.tets
  in_mesh t h = let e = from-map tet_of whole.tets t h in subst (λ u. In u mesh.tets) (sym e.2) (in_firsts mesh.tets labels e.0 (in_pairs e.0 e.1))

  in_whole : length labels ≡ length mesh.tets → (t : Tetrahedron) → In t mesh.tets → In t (map tet_of whole.tets)
  in_whole long t h =
      let p = a_label mesh.tets labels long t h in
      in-map tet_of whole.tets (t, p.0) (in-ascending_of ghost_cmp_total ghost_cmp-IsAntisymmetric pairs (t, p.0) p.1)

  is_labelled : (parts : ℕ) → length labels ≡ length mesh.tets → All (λ label. label < parts) labels → IsStrictlySortedBy mark_cmp mesh.marks → AllByRecursion (λ mark. is_cell mark.cell ≡ true) mesh.marks → IsLabelled parts whole
  is_labelled parts long below rise cells = record {
    tets = sorted-ascending_of ghost_cmp_total pairs;
    marks = IsStrictlySortedBy-filter mark_cmp (λ mark. is_on mesh.tets mark.cell) mesh.marks rise;
    labels = all-from_in {X = Tetrahedron × ℕ} (λ e. label_of e < parts) whole.tets (λ e h.
        all-in (λ label. label < parts) labels (label_of e) (recursion_from_All (λ label. label < parts) labels below) (in_seconds mesh.tets labels e (in_pairs e h)));
    cells = all-filter (λ mark. is_cell mark.cell ≡ true) (λ mark. is_on mesh.tets mark.cell) mesh.marks cells;
    on_cells = all-from_in (λ mark. is_on (map tet_of whole.tets) mark.cell ≡ true) whole.marks (λ mark h.
        on_more mesh.tets (map tet_of whole.tets) (in_whole long) mark.cell (from-filter (λ m. is_on mesh.tets m.cell) mesh.marks mark h).1);
  }

  -- ---- its corners
  -- a test that all tetrahedra of the mesh pass
  passed : (test : Tetrahedron → Bool) → list_all test mesh.tets ≡ true → list_all test (map tet_of whole.tets) ≡ true
  passed test all = test_all test (map tet_of whole.tets) (all-from_in (λ tet. test tet ≡ true) (map tet_of whole.tets) (λ tet h. all-in (λ tet. test tet ≡ true) mesh.tets tet (all_pass test mesh.tets all) (in_mesh tet h)))

  tets_on_grid : (k : ℕ) → are_on_grid k mesh.tets ≡ true → are_on_grid k (map tet_of whole.tets) ≡ true
  tets_on_grid k on = passed (λ tet. list_all (is_on_grid k) tet.corners) on

  tets_solid : are_tetrahedra mesh.tets ≡ true → are_tetrahedra (map tet_of whole.tets) ≡ true
  tets_solid solid = passed (λ tet. are_corners tet.corners) solid

  marks_on_grid : (k : ℕ) → marks_are_on_grid k mesh.marks ≡ true → marks_are_on_grid k whole.marks ≡ true
  marks_on_grid k on =
      let test = λ (mark : CellMark). list_all (is_on_grid k) (corners_of mark.cell) in
      test_all test whole.marks (all-filter (λ mark. test mark ≡ true) (λ mark. is_on mesh.tets mark.cell) mesh.marks (all_pass test mesh.marks on))

  pub labelled_is_whole : (course : Course) → 1 ≤ course.parts → length labels ≡ length mesh.tets → All (λ label. label < course.parts) labels → IsStrictlySortedBy mark_cmp mesh.marks → AllByRecursion (λ mark. is_cell mark.cell ≡ true) mesh.marks
      → are_tetrahedra mesh.tets ≡ true → are_on_grid course.grid mesh.tets ≡ true → marks_are_on_grid course.grid mesh.marks ≡ true → IsWhole course whole
  labelled_is_whole course some long below rise cells solid tets marks = record {
    some = some;
    labelled = is_labelled course.parts long below rise cells;
    solid = tets_solid solid;
    tets = tets_on_grid course.grid tets;
    marks = marks_on_grid course.grid marks;
  }

  -- ---- how many tetrahedra it has
  pub no_more : length whole.tets ≤ length mesh.tets
  no_more = let set = (length-ascending_of ghost_cmp_total pairs).0 in let both = length-zip mesh.tets labels in omega (arith, set, both)

-- ---- the mesh
pub labelled_mesh_is_mesh : LabelledMeshIsMesh
labelled_mesh_is_mesh mesh labels long =
    let whole : LabelledMesh = labelled_mesh mesh labels in
    let tets : ascending_of tet_cmp (map tet_of whole.tets) ≡ ascending_of tet_cmp mesh.tets = same_made tet_cmp_total tet_cmp-IsAntisymmetric (map tet_of whole.tets) mesh.tets (in_mesh mesh labels) (in_whole mesh labels long) in
    λ i. record { tets = tets i; marks = marks_on mesh.tets mesh.marks }

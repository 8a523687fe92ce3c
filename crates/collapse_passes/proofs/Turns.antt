-- Legal collapses of vertices that share no tetrahedron, one after the other.
use Rattle.std.proofs.Common.{◌≡◌, Bool, true, false, cond, not, ◌&&◌, ◌||◌, List, [], ◌∷◌, ◌++◌, filter, refl, sym, ap, ap₂, ◌∙◌}
use Rattle.std.specs.Prelude.{map}
use Rattle.std.specs.List.{AllByRecursion, flat_map}
use Rattle.std.specs.List.Sorted.{IsStrictlySortedBy}
use Rattle.std.specs.Ordering.{eq_by_cmp}
use Rattle.std.proofs.lemmas.List.Folds.{list_any-append}
use Rattle.ma_geom.specs.Coordinates.{place_cmp}
use Rattle.ma_cells.specs.Ascending.{ascending_of, has}
use Rattle.ma_cells.specs.Cells.{CellMark, corners_of, is_cell, mark_cmp}
use Rattle.ma_cells.specs.Faces.{holds_all}
use Rattle.ma_cells.specs.Stars.{marks_at, star_of}
use Rattle.ma_cells.specs.Tetrahedron.{Tetrahedron, tet_cmp}
use Rattle.ma_cells.specs.declared.batch.Batch.{Batch}
use Rattle.ma_cells.proofs.Ascents.{has-ascending_of, is-ascending_of, sorted-ascending_of}
use Rattle.ma_cells.proofs.CellOrders.{mark_cmp_total, tet_cmp-IsAntisymmetric, tet_cmp_total}
use Rattle.ma_cells.proofs.Members.{has-filter}
use Rattle.mesh_laws.specs.Adapted.{IsAdapted, IsSoundMesh}
use Rattle.mesh_laws.proofs.Adapted.{adapted_composes, sound_is_adapted}
use Rattle.mesh_laws.proofs.BothSides.{Pairs}
use Rattle.mesh_laws.proofs.Lists.{all_two}
use Rattle.size_marks.specs.Field.{Field}
use Rattle.cavity_rank.specs.declared.verdict.Verdict.TheVariants.{Legal}
use Rattle.cavity_collapse.specs.Collapsing.{collapsed, moved_mark, moved_marks}
use Rattle.cavity_collapse.specs.Judging.{judged_collapse}
use Rattle.collapse_laws.specs.Collapses.{collapsed_mesh}
use Rattle.collapse_laws.proofs.Adapts.{legal_collapse_adapts}
use Rattle.pass_rules.specs.Changes.{changed, changed_in_turn, without}
use Rattle.pass_rules.specs.Passes.{change_of, changed_by, marked_in_turn}
use Rattle.pass_rules.proofs.AtOnce.{has-without}
use Rattle.collapse_passes.proofs.Each.{distinct_from_strict}
use Rattle.collapse_passes.proofs.Marking.{AreMarks, marks_stand, stays, still_marks}
use Rattle.collapse_passes.proofs.Removals.{IsClear, Removal, operation}
use Rattle.collapse_passes.proofs.Standing.{AllHaveOne, stars_stand, still_one, tets_after}

-- a mesh after one collapse, and after all of them, one after the other
abbrev pub next : Removal → Batch → Batch
next c mesh = collapsed_mesh c.at c.apex mesh

abbrev pub after_all : List Removal → Batch → Batch
after_all [] mesh = mesh
after_all (c ∷ cs) mesh = after_all cs (next c mesh)

-- that no vertex goes to one that is collapsed later
abbrev pub AreClear : List Removal → Type 0
AreClear cs = Pairs (λ c d. eq_by_cmp place_cmp d.at c.apex ≡ false) cs

-- that a collapse is legal in a mesh
abbrev pub IsLegal : Field → Batch → Removal → Type 0
IsLegal field mesh c = judged_collapse field (star_of (c.at ∷ []) mesh.tets) (marks_at (c.at ∷ []) mesh.marks) c.at c.apex ≡ Legal c.worst

-- that these collapses have in a sound mesh the stars and the marks that they had in another, and share none
pub record Stand (mesh now : Batch) (cs : List Removal) : Type 0 where
  pub sound : IsSoundMesh now
  pub rises : IsStrictlySortedBy mark_cmp now.marks
  pub tets : AllHaveOne cs now.tets
  pub marks : AreMarks cs now.marks
  pub stars : AllByRecursion (λ c. star_of (c.at ∷ []) now.tets ≡ star_of (c.at ∷ []) mesh.tets) cs
  pub at : AllByRecursion (λ c. marks_at (c.at ∷ []) now.marks ≡ marks_at (c.at ∷ []) mesh.marks) cs

module _ (mesh : Batch) where
  -- so they stand after the first of them
  stand_next : (c : Removal) (cs : List Removal) (now : Batch) → IsClear c cs → Stand mesh now (c ∷ cs) → IsSoundMesh (next c now) → Stand mesh (next c now) cs
  stand_next c cs now clear is sound = record {
    sound = sound;
    rises = sorted-ascending_of mark_cmp_total (flat_map (moved_mark c.at c.apex) now.marks);
    tets = still_one c cs clear now.tets is.tets;
    marks = still_marks c cs clear now.marks is.marks;
    stars = all_two (λ d. star_of (d.at ∷ []) (tets_after c now.tets) ≡ star_of (d.at ∷ []) now.tets) (λ d. star_of (d.at ∷ []) now.tets ≡ star_of (d.at ∷ []) mesh.tets)
        (λ d. star_of (d.at ∷ []) (tets_after c now.tets) ≡ star_of (d.at ∷ []) mesh.tets) (λ d e f. e ∙ f) cs (stars_stand c cs clear now.tets is.tets) is.stars.1;
    at = all_two (λ d. marks_at (d.at ∷ []) (moved_marks c.at c.apex now.marks) ≡ marks_at (d.at ∷ []) now.marks) (λ d. marks_at (d.at ∷ []) now.marks ≡ marks_at (d.at ∷ []) mesh.marks)
        (λ d. marks_at (d.at ∷ []) (moved_marks c.at c.apex now.marks) ≡ marks_at (d.at ∷ []) mesh.marks) (λ d e f. e ∙ f) cs (marks_stand c cs clear now.marks is.rises is.marks) is.at.1;
  }

  -- ---- tetrahedra as sets
  kept : (h s : Bool) → (h && not s) ≡ (h && not (h && s))
  kept true s = refl
  kept false s = refl

  -- a collapse is a change of a set
  is_change : (c : Removal) (now : List Tetrahedron) → star_of (c.at ∷ []) now ≡ star_of (c.at ∷ []) mesh.tets
      → ascending_of tet_cmp (tets_after c now) ≡ changed tet_cmp (change_of mesh.tets (operation c)) (ascending_of tet_cmp now)
  is_change c now stands =
      is-ascending_of tet_cmp_total tet_cmp-IsAntisymmetric (ascending_of tet_cmp (tets_after c now)) (without tet_cmp (star_of (c.at ∷ []) mesh.tets) (ascending_of tet_cmp now) ++ added)
      (sorted-ascending_of tet_cmp_total (tets_after c now))
      (λ q. has-ascending_of tet_cmp_total q (tets_after c now)
      ∙ list_any-append (eq_by_cmp tet_cmp q) (filter (λ tet. not (at tet)) now) (collapsed c.at c.apex (star_of (c.at ∷ []) now))
      ∙ ap₂ (λ b l. b || has tet_cmp q (collapsed c.at c.apex l)) (has-filter tet_cmp-IsAntisymmetric (λ tet. not (at tet)) q now ∙ kept (has tet_cmp q now) (at q)
      ∙ ap (λ b. has tet_cmp q now && not b) (sym (has-filter tet_cmp-IsAntisymmetric at q now) ∙ ap (has tet_cmp q) stands)
      ∙ ap (λ b. b && not (has tet_cmp q (star_of (c.at ∷ []) mesh.tets))) (sym (has-ascending_of tet_cmp_total q now))) stands
      ∙ sym (has-without tet_cmp_total tet_cmp-IsAntisymmetric q (star_of (c.at ∷ []) mesh.tets) (ascending_of tet_cmp now) added))
    where
      at : Tetrahedron → Bool
      at tet = holds_all tet.corners (c.at ∷ [])

      added : List Tetrahedron
      added = collapsed c.at c.apex (star_of (c.at ∷ []) mesh.tets)

-- ---- marks
-- a mark as one collapse leaves it
by_one : (c : Removal) (m : CellMark) → is_cell m.cell ≡ true → moved_mark c.at c.apex m ≡ changed_by (operation c ∷ []) m
by_one c m is = by (has place_cmp c.at (corners_of m.cell)) (stays c.at c.apex m is)
  where
    by : (b : Bool) → (b ≡ false → moved_mark c.at c.apex m ≡ m ∷ []) → moved_mark c.at c.apex m ≡ cond b (moved_mark c.at c.apex m) (m ∷ [])
    by true k = refl
    by false k = k refl

pub all_by_one : (c : Removal) (cs : List Removal) (marks : List CellMark) → AreMarks cs marks → flat_map (moved_mark c.at c.apex) marks ≡ flat_map (changed_by (operation c ∷ [])) marks
all_by_one c cs [] are = refl
all_by_one c cs (m ∷ marks) are = ap₂ (λ k l. k ++ l) (by_one c m are.0.cell) (all_by_one c cs marks are.1)

-- ---- all of them
module _ (field : Field) (mesh : Batch) where
  legal_now : (c : Removal) (now : Batch) → star_of (c.at ∷ []) now.tets ≡ star_of (c.at ∷ []) mesh.tets → marks_at (c.at ∷ []) now.marks ≡ marks_at (c.at ∷ []) mesh.marks
      → IsLegal field mesh c → IsLegal field now c
  legal_now c now star marks legal = ap₂ (λ s m. judged_collapse field s m c.at c.apex) star marks ∙ legal

  adapts_next : (c : Removal) (cs : List Removal) (now : Batch) → IsLegal field mesh c → Stand mesh now (c ∷ cs) → IsAdapted now (next c now)
  adapts_next c cs now legal is =
      legal_collapse_adapts field now c.at c.apex c.worst is.sound (distinct_from_strict mark_cmp_total now.marks is.rises) (legal_now c now is.stars.0 is.at.0 legal)

  -- they are legal one after the other, and leave an adapted mesh
  pub adapts : (cs : List Removal) (now : Batch) → AllByRecursion (IsLegal field mesh) cs → AreClear cs → Stand mesh now cs → IsAdapted now (after_all cs now)
  adapts [] now legal clear is = sound_is_adapted now is.sound
  adapts (c ∷ cs) now legal clear is =
      let first = adapts_next c cs now legal.0 is in
      adapted_composes now (next c now) (after_all cs (next c now)) is.sound first (adapts cs (next c now) legal.1 clear.1 (stand_next mesh c cs now clear.0 is first.sound))

  -- it has the tetrahedra of changes in turn, as a set
  pub changed_tets : (cs : List Removal) (now : Batch) → AllByRecursion (IsLegal field mesh) cs → AreClear cs → Stand mesh now cs
      → ascending_of tet_cmp (after_all cs now).tets ≡ changed_in_turn tet_cmp (map (change_of mesh.tets) (map operation cs)) (ascending_of tet_cmp now.tets)
  changed_tets [] now legal clear is = refl
  changed_tets (c ∷ cs) now legal clear is =
      changed_tets cs (next c now) legal.1 clear.1 (stand_next mesh c cs now clear.0 is (adapts_next c cs now legal.0 is).sound)
      ∙ ap (changed_in_turn tet_cmp (map (change_of mesh.tets) (map operation cs))) (is_change mesh c now.tets is.stars.0)

  -- and the marks
  pub changed_marks : (cs : List Removal) (now : Batch) → AllByRecursion (IsLegal field mesh) cs → AreClear cs → Stand mesh now cs
      → (after_all cs now).marks ≡ marked_in_turn (map operation cs) now.marks
  changed_marks [] now legal clear is = refl
  changed_marks (c ∷ cs) now legal clear is =
      changed_marks cs (next c now) legal.1 clear.1 (stand_next mesh c cs now clear.0 is (adapts_next c cs now legal.0 is).sound)
      ∙ ap (λ l. marked_in_turn (map operation cs) (ascending_of mark_cmp l)) (all_by_one c (c ∷ cs) now.marks is.marks)

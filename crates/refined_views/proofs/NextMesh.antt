-- The mesh of the next round, and of any later round.
use Rattle.std.proofs.Common.{◌≡◌, ℕ, zero, suc, ◌-◌, ◌<◌, ◌≤◌, true, refl, sym, ap, subst, ◌∙◌, arith}
use Rattle.std.specs.Prelude.{map}
use Rattle.std.specs.Fn.{iterate}
use Rattle.ma_cells.specs.Grid.{are_on_grid, marks_are_on_grid}
use Rattle.ma_cells.specs.Tetrahedron.{are_tetrahedra}
use Rattle.mesh_laws.specs.Adapted.{IsAdapted}
use Rattle.mesh_laws.proofs.Adapted.{adapted_composes, sound_is_adapted}
use Rattle.size_marks.specs.Field.{Field}
use Rattle.refinement.specs.Refinement.{refine}
use Rattle.refine_laws.proofs.Sound.{refinement_adapts}
use Rattle.part_rules.specs.Owed.{IsLabelled}
use Rattle.part_rules.specs.declared.course.Course.{Course}
use Rattle.part_store.specs.Labelled.{LabelledMesh, tet_of}
use Rattle.view_laws.specs.Truths.{IsShared}
use Rattle.view_laws.proofs.FirstRound.{is_shared}
use Rattle.refined_views.specs.Laws.{RefinedIsShared}
use Rattle.refined_views.specs.Repeated.{RefinedTimesIsAdapted, RefinedTimesIsRefinement, RefinedTimesIsShared, refined_times}
use Rattle.refined_views.specs.Refined.{carried_pieces, refined_labelled, without_labels}
use Rattle.refined_views.proofs.Beginnings.{marks_are_carried}
use Rattle.refined_views.proofs.RefinedMesh.{refined_halves_the_grid, refined_is_labelled, refined_is_not_flat, refined_is_refinement}

module _ (field : Field) (course : Course) (mesh : LabelledMesh) (right : IsLabelled course.parts mesh) (solid : are_tetrahedra (map tet_of mesh.tets) ≡ true) (round : ℕ) (finer : round < course.grid) where
  pub shared_next : 1 ≤ course.parts → are_on_grid (course.grid - round) (map tet_of mesh.tets) ≡ true → marks_are_on_grid (course.grid - round) mesh.marks ≡ true
      → IsShared course (refined_labelled field mesh) (carried_pieces field mesh) (suc round)
  shared_next some tets marks =
      let k = course.grid - suc round in
      let twice : course.grid - round ≡ suc k = omega arith in
      let halved = refined_halves_the_grid k field mesh (subst (λ j. are_on_grid j (map tet_of mesh.tets) ≡ true) twice tets) (subst (λ j. marks_are_on_grid j mesh.marks ≡ true) twice marks) in
      record {
        parts = some;
        labelled = refined_is_labelled field course.parts mesh right solid;
        known = marks_are_carried field course.parts mesh right solid;
        tets = halved.0;
        marks = halved.1;
      }

pub refined_is_shared : RefinedIsShared
refined_is_shared field course mesh held round finer shared solid = shared_next field course mesh shared.labelled solid round finer shared.parts shared.tets shared.marks

-- ---- any number of rounds
pub times_not_flat : (field : Field) (mesh : LabelledMesh) (round : ℕ) → are_tetrahedra (map tet_of mesh.tets) ≡ true → are_tetrahedra (map tet_of (refined_times round field mesh).tets) ≡ true
times_not_flat field mesh zero solid = solid
times_not_flat field mesh (suc n) solid = refined_is_not_flat field (refined_times n field mesh) (times_not_flat field mesh n solid)

pub refined_times_is_shared : RefinedTimesIsShared
refined_times_is_shared field course mesh zero finer some right solid tets marks = is_shared course mesh some right tets marks
refined_times_is_shared field course mesh (suc n) finer some right solid tets marks =
    let before = refined_times_is_shared field course mesh n (omega arith) some right solid tets marks in
    let last = refined_times n field mesh in
    shared_next field course last before.labelled (times_not_flat field mesh n solid) n finer before.parts before.tets before.marks

-- without labels
once_more : {A : Type 0} (h : A → A) (n : ℕ) (x : A) → iterate h (suc n) x ≡ h (iterate h n x)
once_more h zero x = refl
once_more h (suc n) x = once_more h n (h x)

pub refined_times_is_refinement : RefinedTimesIsRefinement
refined_times_is_refinement field mesh zero = refl
refined_times_is_refinement field mesh (suc n) =
    refined_is_refinement field (refined_times n field mesh) ∙ ap (refine field) (refined_times_is_refinement field mesh n) ∙ sym (once_more (refine field) n (without_labels mesh))

pub refined_times_is_adapted : RefinedTimesIsAdapted
refined_times_is_adapted field mesh zero is = sound_is_adapted (without_labels mesh) is
refined_times_is_adapted field mesh (suc n) is =
    let last = refined_times n field mesh in
    let before = refined_times_is_adapted field mesh n is in
    let next = refinement_adapts field (without_labels last) before.sound in
    subst (IsAdapted (without_labels mesh)) (sym (refined_is_refinement field last)) (adapted_composes (without_labels mesh) (without_labels last) (refine field (without_labels last)) is before next)

-- What a later round of parts comes to, which saw an adapted mesh after the round before: they share that mesh refined once more, and what each of its passes leaves.
use Rattle.std.proofs.Common.{◌≡◌, ◌+◌, ◌-◌, ◌*◌, ◌<◌, ◌≤◌, ℕ, zero, suc, true, List, length, Some, refl, sym, ap, subst, ◌∙◌, arith}
use Rattle.std.specs.Prelude.{map}
use Rattle.std.specs.List.{AllByRecursion}
use Rattle.std.specs.Option.{option_map}
use Rattle.std.proofs.lemmas.List.{get_or-map, length-map}
use Rattle.std.proofs.lemmas.Option.{get_or_from_slice_get}
use Rattle.ma_cells.specs.Tetrahedron.{are_corners, are_tetrahedra}
use Rattle.letters.specs.declared.letter.Body.{Body}
use Rattle.directory.specs.Homes.{home_of}
use Rattle.directory.specs.Posting.{most_told}
use Rattle.one_mesh.specs.Adaptation.{Plan, adapted, kind_of_pass, last_stage, staged}
use Rattle.part_core.specs.Parts.{PartState}
use Rattle.part_phases.specs.Standings.{Standing}
use Rattle.part_rules.specs.Owed.{IsLabelled}
use Rattle.part_rules.specs.declared.course.Course.{Course}
use Rattle.part_store.specs.Labelled.{LabelledMesh, tet_of, view_of}
use Rattle.part_store.specs.Stores.{StoreState, view_in}
use Rattle.pass_counts.proofs.Fourfold.{passes_are_at_most_fourfold}
use Rattle.phase_laws.specs.Drawing.{BeginSo, part_at}
use Rattle.phase_laws.proofs.Staying.{same_some}
use Rattle.refined_views.specs.Refined.{without_labels}
use Rattle.refined_views.proofs.Beginnings.{refined_stores}
use Rattle.refined_views.proofs.Eightfold.{refined_is_at_most_eightfold}
use Rattle.round_laws.specs.Truths.{StaysWithinUpTo, round_truth}
use Rattle.round_rules.specs.Rounds.{rules}
use Rattle.round_rules.specs.Stages.{passes_in}
use Rattle.staged_meshes.specs.Laws.{plan_of}
use Rattle.staged_meshes.specs.Staged.{adapted_times, carried_at, opened, passed_times}
use Rattle.staged_meshes.proofs.OneLabel.{stages_are_as_many}
use Rattle.staged_meshes.proofs.OneStage.{rounds_are_adapted, stages_are_one}
use Rattle.staged_meshes.proofs.Sets.{as_list}
use Rattle.staged_meshes.proofs.StagesShared.{opened_is_shared, opened_marks_stay, passed_is_shared}
use Rattle.view_laws.specs.Truths.{IsShared}
use Rattle.view_laws.specs.Views.{first_standing}
use Rattle.world_run.specs.Rounds.{HaveAdapted, IsOnce, IsWhole}
use Rattle.world_run.proofs.Closing.{BeginOn}
use Rattle.world_run.proofs.DoneRounds.{all-done, of-course, upto-done}

module _ (course : Course) (mesh : LabelledMesh) (round : ℕ) (parts : List PartState) (whole : IsWhole course mesh) (once : IsOnce mesh) (have : HaveAdapted course mesh round parts) where
  abbrev plan : Plan
  plan = plan_of course

  abbrev last : LabelledMesh
  last = adapted_times plan mesh round

  abbrev next : LabelledMesh
  next = opened plan mesh (suc round)

  abbrev pub first : Standing StoreState Body
  first = first_standing mesh 0

  abbrev standings : List (Standing StoreState Body)
  standings = map (λ part. part.standing) parts

  -- a part of a number, and what it has
  stands-at : (q : ℕ) → q < course.parts → (part : PartState) × (part_at first standings q ≡ part.standing) × (part.standing.me ≡ q) × (view_in part.standing.holds ≡ view_of last q)
  stands-at q within =
      let has = have.done.each q within in
      let part = has.0 in
      let all = have.done.all in
      let inside : q < length parts = omega (arith, within, all) in
      let seen : Some (view_in part.standing.holds) ≡ Some (view_of last q) = ap (option_map (λ p. view_in p.standing.holds)) (sym has.1) ∙ have.see q inside in (
        part,
        get_or-map (λ p. p.standing) parts q part first inside ∙ ap (λ p. p.standing) (get_or_from_slice_get parts q part part has.1),
        has.2.number_is,
        same_some (view_in part.standing.holds) (view_of last q) seen,
      )

  solid : are_tetrahedra (map tet_of last.tets) ≡ true
  solid = as_list (λ tet. are_corners tet.corners) (map tet_of last.tets) (rounds_are_adapted plan mesh round once.sound).sound.tetrahedra

  -- a pass behind the opening leaves at most four times as many
  grows : (before : ℕ) → length (passed_times plan next (suc before)).tets ≤ 4 * length (passed_times plan next before).tets
  grows before =
      let here = stages_are_as_many plan mesh round before once.sound once.as_many in
      let there = stages_are_as_many plan mesh round (suc before) once.sound once.as_many in
      let one = ap (λ m. length m.tets) (stages_are_one plan mesh round before) in
      let two = ap (λ m. length m.tets) (stages_are_one plan mesh round (suc before)) in
      let more = passes_are_at_most_fourfold (kind_of_pass plan before) plan.field (staged plan before (adapted plan round (without_labels mesh))) in
      omega (arith, here, there, one, two, more)

  told : (stage : ℕ) → stage ≤ passes_in course (suc round) → StaysWithinUpTo course next stage → length (passed_times plan next stage).tets ≤ most_told
  told zero upto earlier = let more = refined_is_at_most_eightfold course.field last solid in let before = have.few in omega (arith, more, before)
  told (suc stage) upto earlier = let more = grows stage in let before = earlier stage (omega arith) in omega (arith, more, before)

  module _ (finer : AllByRecursion (λ part. part.begun ≤ part.course.grid) parts) where
    upto : suc round ≤ course.grid
    upto = let under = upto-done course (round + 1) parts have.done whole.some finer in omega (arith, under)

    shared-at : (n : ℕ) → n ≤ course.grid → IsShared course (opened plan mesh n) (carried_at plan mesh n) n
    shared-at n under = opened_is_shared course mesh n under whole.some whole.labelled once.sound whole.tets whole.marks

    -- what a round leaves is labelled as what it began with
    left_labelled : (n : ℕ) → n ≤ course.grid → IsLabelled course.parts (adapted_times plan mesh n)
    left_labelled zero under = whole.labelled
    left_labelled (suc n) under =
        (passed_is_shared course (opened plan mesh (suc n)) (carried_at plan mesh (suc n)) (suc n) (last_stage plan) (shared-at (suc n) under) (opened_marks_stay plan mesh n (last_stage plan) once.sound)).labelled

    begin-next : BeginSo (rules course) (round_truth course next (carried_at plan mesh (suc round)) (suc round)) first standings
    begin-next =
        let labelled = left_labelled round (let under = upto in omega (arith, under)) in
        record {
          all = length-map parts (λ part. part.standing) ∙ have.done.all;
          numbers = λ q within. let at = stands-at q within in ap (λ s. s.me) at.1 ∙ at.2;
          holds = λ q within.
              let at = stands-at q within in
              let seen : view_in (part_at first standings q).holds ≡ view_of last q = ap (λ s. view_in s.holds) at.1 ∙ at.3 in
              refined_stores course.field course.parts (home_of (course.grid - suc round) course.parts) last q (part_at first standings q).holds labelled solid seen;
          kept = λ q within. refl;
        }

    abbrev On : ℕ → Type 0
    On n = BeginOn course (opened plan mesh n) (carried_at plan mesh n) n first parts

    pub begin_next_on : On (round + 1)
    begin_next_on =
        let same : suc round ≡ round + 1 = omega arith in
        subst On same (record {
          shared = shared-at (suc round) upto;
          stay = opened_marks_stay plan mesh round (passes_in course (suc round)) once.sound;
          told = told;
          of_course = subst (λ n. AllByRecursion (λ part. (part.course ≡ course) × (part.standing.me < course.parts) × (part.begun ≡ n)) parts) (sym same) (of-course course (round + 1) parts have.done);
          courses = all-done course (round + 1) parts have.done _ (λ q part within has. has.course_is);
          rounds = all-done course (round + 1) parts have.done _ (λ q part within has. has.begun ∙ sym same);
          begin = begin-next;
        })

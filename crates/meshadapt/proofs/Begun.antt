-- What the start of the parts of a mesh that was fetched requires, and what it comes to.
use Rattle.std.proofs.Common.{◌≡◌, ◌≤◌, List, ℕ, length, Some, false, sym, subst}
use Rattle.std.specs.Prelude.{IfSome, Result, Ok, Err}
use Rattle.carrier.specs.Carried.{Carried}
use Rattle.carrier.specs.Schedule.{Picks}
use Rattle.directory.specs.Posting.{most_told}
use Rattle.part_rules.specs.declared.course.Course.{Course}
use Rattle.part_store.specs.Labelled.{LabelledMesh}
use Rattle.round_laws.specs.Ends.{letters_in}
use Rattle.size_marks.specs.Field.{Field}
use Rattle.world_run.specs.Drawn.{Draws, EndsAlone, IfAllIsTold, drawn, picks_left, used}
use Rattle.world_run.specs.Meshes.{labelled_mesh}
use Rattle.world_run.specs.Replay.{all_next, first_parts}
use Rattle.world_run.specs.Rounds.{AreDone, IsWhole}
use Rattle.world_run.specs.Told.{HasCause, RunTells, WorldState}
use Rattle.world_run.specs.declared.fault.RunFault.{RunFault}
use Rattle.meshadapt.specs.declared.fetching.Accepted.{Accepted}
use Rattle.meshadapt.specs.declared.fetching.Handout.{Handout as FetchedHandout}
use Rattle.meshadapt.specs.declared.words.Job.{Job as Words}
use Rattle.meshadapt.specs.Acts.{course_of}
use Rattle.meshadapt.specs.OverParts.{StartComes}
use Rattle.meshadapt.specs.Verdict.{Handout, Inputs}
use Rattle.meshadapt.specs.Words.{Job}
use Rattle.meshadapt.specs.steps.Asking.{IsInRange, asked}
use Rattle.meshadapt.specs.steps.Fetching.{HandoutFits, IsRunnable, handout_of, inputs_over}
use Rattle.meshadapt.specs.steps.OverRounds.{BreaksFirst, HaveCome}
use Rattle.meshadapt.proofs.HandedOut.{CanStart, can_start, may_run}
use Rattle.meshadapt.proofs.PartRounds.{broke_first, came_first}

-- what the call that starts parts tells, of a course and labels that it was handed
module _ (accepted : Accepted) (fetched : FetchedHandout) (left : Picks) (s t : Carried) where
  abbrev mesh_of : List ℕ → LabelledMesh
  mesh_of labels = labelled_mesh accepted.mesh labels

  pub record StartTells (course : Course) (labels : List ℕ) (result : Result WorldState RunFault) : Type 0 where
    pub told : IfSome s.given (λ before. RunTells (all_next (first_parts course (mesh_of labels))) 0 before t.given result)
    pub drawn : IfAllIsTold s (λ before. length accepted.mesh.tets ≤ most_told
        → Draws course 0 (mesh_of labels) (drawn course 0 (first_parts course (mesh_of labels)) (picks_left fetched.schedule)) 0 before t result)
    pub alone : course.parts ≡ 1 → length accepted.mesh.tets ≤ most_told → EndsAlone course 0 (mesh_of labels) (all_next (first_parts course (mesh_of labels))) s t result

  pub record IsStarted (course : Course) (labels : List ℕ) (world : WorldState) : Type 0 where
    pub tells : StartTells course labels (Ok world)
    pub is_whole : IsWhole course (mesh_of labels)
    pub done : AreDone course 1 world.parts
    pub letters : world.letters ≡ letters_in course 0
    pub unspent : world.spent ≡ false
    pub picks : left ≡ used fetched.schedule world.letters
    pub faults : s.faults ≤ t.faults
    pub dry : s.dry ≤ t.dry

module _ (words : Words) (accepted : Accepted) (fetched : FetchedHandout) (right : IsInRange words) (runs : IsRunnable accepted.mesh accepted.grid) (fits : HandoutFits words.division (length accepted.mesh.tets) (Some fetched))
    (finer : words.rounds ≤ accepted.grid) (field : Field) where
  abbrev pub job : Job
  job = asked words

  abbrev pub inputs : Inputs
  inputs = inputs_over accepted field fetched

  abbrev pub handout : Handout
  handout = handout_of accepted.mesh fetched

  module _ (course : Course) (is : course ≡ course_of job inputs handout) (labels : List ℕ) (same : labels ≡ handout.labels) where
    pub may_start : CanStart accepted.mesh labels course
    may_start =
        subst (λ (ls : List ℕ). CanStart accepted.mesh ls course) (sym same)
        (subst (λ (x : Course). CanStart accepted.mesh handout.labels x) (sym is) (can_start words accepted fetched right runs fits field))

    module _ (left : Picks) (s t : Carried) where
      comes_so : (result : Result WorldState RunFault) → StartTells accepted fetched left s t (course_of job inputs handout) handout.labels result → StartComes job inputs handout s t result
      comes_so result tells = record {
        told = tells.told;
        drawn = λ before held given. tells.drawn before held given may_start.few;
        alone = λ one. tells.alone one may_start.few;
      }

      pub starts_so : (world : WorldState) → IsStarted accepted fetched left s t course labels world → HaveCome job inputs handout (λ _. world) 0 left s t
      starts_so world tells =
          let started : IsStarted accepted fetched left s t (course_of job inputs handout) handout.labels world
          = subst (λ (ls : List ℕ). IsStarted accepted fetched left s t (course_of job inputs handout) ls world) same (subst (λ (x : Course). IsStarted accepted fetched left s t x labels world) is tells) in
          came_first job inputs handout (may_run words accepted fetched right runs fits field finer) s t world left (comes_so (Ok world) started.tells) started.is_whole started.done started.letters started.unspent started.picks started.faults started.dry

      pub stops_so : (fault : RunFault) → StartTells accepted fetched left s t course labels (Err fault) → HasCause {W = WorldState} s t (Err fault) → BreaksFirst job inputs handout s t fault
      stops_so fault tells cause =
          let stopped : StartTells accepted fetched left s t (course_of job inputs handout) handout.labels (Err fault)
          = subst (λ (ls : List ℕ). StartTells accepted fetched left s t (course_of job inputs handout) ls (Err fault)) same (subst (λ (x : Course). StartTells accepted fetched left s t x labels (Err fault)) is tells) in
          broke_first job inputs handout (may_run words accepted fetched right runs fits field finer) s t fault (comes_so (Err fault) stopped) cause

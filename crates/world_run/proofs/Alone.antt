-- One part ends the round by itself, or finds too many tetrahedra as it begins it.
use Rattle.std.proofs.Common.{◌≡◌, ◌+◌, ◌-◌, ◌*◌, ℕ, List, [], ◌∷◌, ◌++◌, Option, Some, None, Ok, Err, is_ok, length, inl, inr, refl, sym, ap, subst, ◌∙◌, arith}
use Rattle.std.specs.Prelude.{map, Result}
use Rattle.std.specs.List.{AllByRecursion}
use Rattle.std.proofs.lemmas.Bool.{false≢true}
use Rattle.ma_cells.specs.Cells.{CellMark}
use Rattle.carrier.specs.Carried.{Carried}
use Rattle.letters.specs.declared.letter.Body.{Body}
use Rattle.letters.specs.declared.letter.Letter.{Letter}
use Rattle.part_core.specs.Parts.{PartState, taken}
use Rattle.part_phases.specs.Standings as phases
use Rattle.round_rules.specs.Rounds.{rules}
use Rattle.part_rules.specs.declared.course.Course.{Course}
use Rattle.part_store.specs.Labelled.{LabelledMesh}
use Rattle.part_store.specs.Stores.{StoreState}
use Rattle.phase_laws.specs.Truth.{IsTrueLetter, Truth}
use Rattle.round_laws.specs.Ends.{letters_in}
use Rattle.round_rules.specs.Stages.{passes_in}
use Rattle.staged_meshes.specs.Laws.{plan_of}
use Rattle.staged_meshes.specs.Staged.{passed_times}
use Rattle.world_run.specs.Drawn.{EndsAlone}
use Rattle.world_run.specs.Replay.{all_next, first_waiting}
use Rattle.world_run.specs.Rounds.{SeeMesh}
use Rattle.world_run.specs.Told.{WorldState}
use Rattle.world_run.specs.declared.fault.RunFault.{RunFault}
use Rattle.world_run.specs.declared.fault.RunFault.TheVariants.{BadLetter, Link, Memory, Over, Starved}
use Rattle.world_run.specs.steps.Beginning.{AreUnspent, letters_next}
use Rattle.world_run.specs.steps.Drawing.{BeginRight, GoesAlong, RestsAlone, opening}
use Rattle.world_run.specs.steps.Turns.{Rests}
use Rattle.world_run.proofs.Closing.{BeginOn, IsPast, StaysWithin, drawing_at, few_begin, few_is, first_excess, low_phase, many_begin, many_is, not_done, sees_mesh, by_sevens, which}
use Rattle.world_run.proofs.Excesses.{in_err}
use Rattle.world_run.proofs.Handings.{none_waits}
use Rattle.world_run.proofs.Opening.{courses_are, opening_right, opens, standings_are}
use Rattle.world_run.proofs.Turning.{turn_ends}

-- a carrier that tells all, and nothing happened with it
abbrev silent : Carried
silent = record { posted = None; held = Some []; given = Some []; faults = 0; dry = 0 }

-- no letter is from a part to another where there is one part alone
none_true : (course : Course) (truth : Truth StoreState Body) → course.parts ≡ 1 → (waiting : List (phases.Letter Body)) → AllByRecursion (λ letter. IsTrueLetter (rules course) truth letter) waiting → waiting ≡ []
none_true course truth one [] all = refl
none_true course truth one (letter ∷ waiting) all =
    let sender = all.0.2 in
    let target = all.0.3 in
    let apart = all.0.4 in
    absurd (apart (omega (arith, one, sender, target)))

none_behind : (front letters : List Letter) → front ++ letters ≡ [] → letters ≡ []
none_behind [] letters none = none
none_behind (letter ∷ front) letters none = let long = ap length none in absurd (omega (arith, long))

none_mapped : (letters : List Letter) → map taken letters ≡ [] → letters ≡ []
none_mapped [] none = refl
none_mapped (letter ∷ letters) none = let long = ap length none in absurd (omega (arith, long))

-- ---- over any truth of the round
module _ (course : Course) (truth : Truth StoreState Body) (default : phases.Standing StoreState Body) (parts : List PartState) (one : course.parts ≡ 1) (begin : BeginRight course truth default parts) (unspent : AreUnspent (all_next parts)) where
  -- it is done once it has begun
  pub rests_first : first_waiting (all_next parts) ≡ None
  rests_first =
      let right = opening_right course truth default parts begin in
      let along : GoesAlong course truth default [] silent (all_next parts) (letters_next parts) (opening course truth default parts) = opens course truth default parts begin silent [] refl refl unspent in
      let both : along.older ++ letters_next parts ≡ [] = none_mapped (along.older ++ letters_next parts) (sym along.waiting ∙ none_true course truth one (opening course truth default parts).waiting right.1.all_true) in
      let none : letters_next parts ≡ [] = none_behind along.older (letters_next parts) both in
      let alone : GoesAlong course truth default [] silent (all_next parts) [] (opening course truth default parts) = subst (λ sent. GoesAlong course truth default [] silent (all_next parts) sent (opening course truth default parts)) none along in
      none_first (first_waiting (all_next parts)) refl alone
    where
      none_first : (first : Option (ℕ × ℕ)) → first_waiting (all_next parts) ≡ first → GoesAlong course truth default [] silent (all_next parts) [] (opening course truth default parts) → first_waiting (all_next parts) ≡ None
      none_first None is alone = is
      none_first (Some first) is alone =
          absurd (turn_ends course truth default begin.follows ℕ ℕ [] silent silent (all_next parts) (all_next parts) [] [] (opening course truth default parts) [] [] 0 first (Starved 0 0) alone refl refl tt is (tt, refl))

  pub rests_alone : (new : List PartState) (before now : Carried) (result : Result ℕ RunFault) → Rests (all_next parts) new before now result → RestsAlone course truth default parts new before now result
  rests_alone new before now (Ok letters) rests = (rests.1, rests.0, none_waits (all_next parts) rests_first)
  rests_alone new before now (Err fault) rests = absurd rests

-- ---- over a mesh
module _ (course : Course) (mesh : LabelledMesh) (carried : ℕ → List CellMark) (round : ℕ) (default : phases.Standing StoreState Body) (parts : List PartState) (on : BeginOn course mesh carried round default parts) (one : course.parts ≡ 1)
    (new : List PartState) (old now : Carried) where
  abbrev pub RestsSo : Result ℕ RunFault → Type 0
  RestsSo result = (truth : Truth StoreState Body) → BeginRight course truth default parts → RestsAlone course truth default parts new old now result

  few_err : (fault : RunFault) → RestsAlone course (few_is course mesh carried round default parts on) default parts new old now (Err fault) → EndsAlone course round mesh (all_next parts) old now (Err fault)
  few_err Link rests = rests
  few_err (BadLetter bytes) rests = rests
  few_err (Starved part phase) rests = rests
  few_err (Over over stage count) rests = absurd (false≢true (sym (ap is_ok rests.1.2.2)))
  few_err Memory rests = tt

  many_err : (first : ℕ) → IsPast course mesh round first → (fault : RunFault) → RestsAlone course (many_is course mesh carried round default parts on first) default parts new old now (Err fault)
      → EndsAlone course round mesh (all_next parts) old now (Err fault)
  many_err first past Link rests = rests
  many_err first past (BadLetter bytes) rests = rests
  many_err first past (Starved part phase) rests = rests
  many_err first past (Over over stage count) rests =
      (rests.0, rests.1.0, first_excess course mesh carried round default parts on first past stage count (rests.1.1 ∙ by_sevens first) (sym (ap in_err rests.1.2.2)))
  many_err first past Memory rests = tt

  pub alone_err : (fault : RunFault) → RestsSo (Err fault) → EndsAlone course round mesh (all_next parts) old now (Err fault)
  alone_err fault so = elim (which course mesh carried round default parts on) [
    | inr past ↦ many_err past.0 past.1 fault (so (many_is course mesh carried round default parts on past.0) (many_begin course mesh carried round default parts on past.0 past.1))
    | inl few ↦ few_err fault (so (few_is course mesh carried round default parts on) (few_begin course mesh carried round default parts on few))
  ]

  module _ (letters : ℕ) (so : RestsSo (Ok letters)) where
    never : (first : ℕ) → IsPast course mesh round first → ⊥
    never first past =
        let truth = many_is course mesh carried round default parts on first in
        let begin = many_begin course mesh carried round default parts on first past in
        let rests = so truth begin in
        let right = opening_right course truth default parts begin in
        let some = on.shared.parts in
        let all = right.0 in
        let stands = right.1.stands 0 some in
        not_done course round default (all_next parts) (opening course truth default parts).parts (standings_are course round parts on.courses on.rounds) (omega (arith, all, some)) (courses_are course round parts on.courses)
        (ap (λ s. s.round) stands.is) (low_phase course mesh carried round default parts on first _ past.upto stands.upto) rests.2

    sees : StaysWithin course mesh carried round default parts on → SeeMesh (passed_times (plan_of course) mesh (passes_in course round)) (all_next parts)
    sees few =
        let no_letters : letters_in course round ≡ 0 = none_in one in
        sees_mesh course mesh carried round default parts on few [] (all_next parts)
        (standings_are course round parts on.courses on.rounds ∙ ap (λ n. (drawing_at course mesh carried round default parts on n []).parts) (sym no_letters))
      where
        no_times : (n : ℕ) → 1 * (n * (1 - 1)) ≡ 0
        no_times n = omega arith

        none_in : course.parts ≡ 1 → letters_in course round ≡ 0
        none_in is = ap (λ p. p * (((rules course).last round + 1) * (p - 1))) is ∙ no_times ((rules course).last round + 1)

    pub alone_ok : (world : WorldState) → world.parts ≡ new → EndsAlone course round mesh (all_next parts) old now (Ok world)
    alone_ok world parts_are = elim (which course mesh carried round default parts on) [
      | inr past ↦ absurd (never past.0 past.1)
      | inl few ↦
          let rests = so (few_is course mesh carried round default parts on) (few_begin course mesh carried round default parts on few) in
          let is : world.parts ≡ all_next parts = parts_are ∙ rests.1 in
          (rests.0, few, is, subst (SeeMesh (passed_times (plan_of course) mesh (passes_in course round))) (sym is) (sees few))
    ]

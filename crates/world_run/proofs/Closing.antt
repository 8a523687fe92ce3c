-- What a round of parts that share a mesh draws and comes to, and what its parts then see.
use Rattle.std.proofs.Common.{◌≡◌, ◌+◌, ◌/◌, ◌*◌, ◌-◌, ◌<◌, ◌≤◌, ℕ, zero, suc, ◌⊎◌, true, false, List, [], ◌∷◌, ◌++◌, get_or, length, inl, inr, Some, Ok, Err, is_ok, sym, ap, subst, ◌∙◌, arith}
use Rattle.std.specs.Prelude.{map, Result}
use Rattle.std.specs.List.{AllByRecursion}
use Rattle.std.specs.Option.{option_map}
use Rattle.std.proofs.lemmas.Bool.{and_parts, cases_lt, false≢true, ltb-true}
use Rattle.std.proofs.lemmas.List.{append_cancel_left, get_or-map, length-map}
use Rattle.std.proofs.lemmas.Option.{same_Some, slice_get-get_or}
use Rattle.ma_cells.specs.Cells.{CellMark}
use Rattle.carrier.specs.Carried.{Carried, Letters}
use Rattle.carrier.specs.Schedule.{Picks}
use Rattle.letters.specs.declared.letter.Body.{Body}
use Rattle.directory.specs.Posting.{most_told}
use Rattle.part_core.specs.Parts.{PartState}
use Rattle.part_phases.specs.Standings as phases
use Rattle.part_rules.specs.Ends.{most_tets}
use Rattle.round_rules.specs.Rounds.{rules}
use Rattle.part_rules.specs.declared.course.Course.{Course}
use Rattle.part_store.specs.Labelled.{LabelledMesh, view_of}
use Rattle.part_store.specs.Stores.{StoreState, view_in}
use Rattle.phase_laws.specs.Drawing.{BeginSo, Drawing, all_begun, part_at, turns}
use Rattle.phase_laws.specs.Truth.{Truth}
use Rattle.phase_laws.proofs.Draws.{right_turns}
use Rattle.phase_laws.proofs.Starts.{all_end_whatever_is_drawn}
use Rattle.round_laws.specs.Ends.{letters_in}
use Rattle.round_laws.specs.Truths.{StaysWithinUpTo, over_truth, round_truth}
use Rattle.round_laws.proofs.Following.{rules_follow, rules_stop}
use Rattle.round_rules.specs.Stages.{passes_in}
use Rattle.staged_meshes.specs.Laws.{MarksStayUpTo, plan_of}
use Rattle.staged_meshes.specs.Staged.{passed_times}
use Rattle.view_laws.specs.Truths.{IsShared}
use Rattle.world_run.specs.Drawn.{Draws, IsDrawn, IsFirstExcess, drawn, picks_left, spelled}
use Rattle.world_run.specs.Replay.{all_done, all_next, is_done}
use Rattle.world_run.specs.Rounds.{SeeMesh}
use Rattle.world_run.specs.Told.{WorldState}
use Rattle.world_run.specs.declared.fault.RunFault.{RunFault}
use Rattle.world_run.specs.declared.fault.RunFault.TheVariants.{BadLetter, Link, Memory, Over, Starved}
use Rattle.world_run.specs.steps.Beginning.{owed_all}
use Rattle.world_run.specs.steps.Drawing.{BeginRight, ComesTo, EndsSo, opening}
use Rattle.world_run.specs.steps.Turns.{Runs}
use Rattle.world_run.proofs.Excesses.{in_err}
use Rattle.world_run.proofs.Opening.{AreOf, opening_right, owed_next}

-- parts of which the first is in no phase past the last of its round aren't all done
pub not_done : (course : Course) (round : ℕ) (default : phases.Standing StoreState Body) (new : List PartState) (parts : List (phases.Standing StoreState Body)) → map (λ part. part.standing) new ≡ parts → 0 < length parts
    → AllByRecursion (λ part. part.course ≡ course) new → (part_at default parts 0).round ≡ round → (part_at default parts 0).phase ≤ (rules course).last round → all_done new ≡ true → ⊥
not_done course round default [] parts are some courses here low done = let none = ap length are in absurd (omega (arith, none, some))
not_done course round default (part ∷ new) parts are some courses here low done =
    let first : part_at default parts 0 ≡ part.standing = ap (λ ps. get_or ps 0 default) (sym are) in
    let early : part.standing.phase ≤ (rules course).last round = subst (λ (s : phases.Standing StoreState Body). s.phase ≤ (rules course).last round) first low in
    let late : (rules part.course).last part.standing.round < part.standing.phase = ltb-true ((rules part.course).last part.standing.round) part.standing.phase (and_parts (is_done part) (all_done new) done).0 in
    let round_is : part.standing.round ≡ round = subst (λ (s : phases.Standing StoreState Body). s.round ≡ round) first here in
    let past : (rules course).last round < part.standing.phase = subst (λ r. (rules course).last r < part.standing.phase) round_is (subst (λ c. (rules c).last part.standing.round < part.standing.phase) courses.0 late) in
    absurd (omega (arith, early, past))

-- either no number of a list is past a bound, or one of them is the first
first_past : (count : ℕ → ℕ) (most n : ℕ) → ((k : ℕ) → k < n → count k ≤ most) ⊎ ((k : ℕ) × (k < n) × (most < count k) × ((before : ℕ) → before < k → count before ≤ most))
first_past count most zero = inl (λ k below. absurd (omega arith))
first_past count most (suc n) = elim (first_past count most n) [
  | inr found ↦ inr (found.0, (let below = found.1 in omega (arith, below)), found.2, found.3)
  | inl within ↦ elim (cases_lt most (count n)) [
    | inl past ↦ inr (n, omega arith, past, within)
    | inr few ↦ inl (λ k below. elim (cases_lt k n) [
      | inl less ↦ within k less
      | inr last ↦ let same : n ≡ k = omega (arith, below, last) in subst (λ z. count z ≤ most) same few
    ])
  ]
]

pub by_sevens : (stage : ℕ) → (7 * stage) / 7 ≡ stage
by_sevens stage = omega arith

-- what is given of parts of a course that begin a round, with what they hold there of a mesh that they share, and whose marks stay on cells in all its passes
pub record BeginOn (course : Course) (mesh : LabelledMesh) (carried : ℕ → List CellMark) (round : ℕ) (default : phases.Standing StoreState Body) (parts : List PartState) : Type 0 where
  pub shared : IsShared course mesh carried round
  pub stay : MarksStayUpTo (plan_of course) mesh (passes_in course round)
  pub told : (stage : ℕ) → stage ≤ passes_in course round → StaysWithinUpTo course mesh stage → length (passed_times (plan_of course) mesh stage).tets ≤ most_told
  pub of_course : AreOf course round parts
  pub courses : AllByRecursion (λ part. part.course ≡ course) parts
  pub rounds : AllByRecursion (λ part. part.begun ≡ round) parts
  pub begin : BeginSo (rules course) (round_truth course mesh carried round) default (map (λ part. part.standing) parts)

-- that a stage of a round is the first past the limit
pub record IsPast (course : Course) (mesh : LabelledMesh) (round stage : ℕ) : Type 0 where
  pub upto : stage ≤ passes_in course round
  pub much : most_tets < length (passed_times (plan_of course) mesh stage).tets
  pub earlier : StaysWithinUpTo course mesh stage

module _ (course : Course) (mesh : LabelledMesh) (carried : ℕ → List CellMark) (round : ℕ) (default : phases.Standing StoreState Body) (parts : List PartState) (on : BeginOn course mesh carried round default parts) where
  abbrev behind : ℕ → LabelledMesh
  behind passes = passed_times (plan_of course) mesh passes

  abbrev pub StaysWithin : Type 0
  StaysWithin = StaysWithinUpTo course mesh (passes_in course round + 1)

  abbrev pub few_is : Truth StoreState Body
  few_is = round_truth course mesh carried round

  abbrev pub many_is : ℕ → Truth StoreState Body
  many_is stage = over_truth course mesh carried round stage

  -- ---- the two kinds of truth of the round
  pub few_begin : StaysWithin → BeginRight course few_is default parts
  few_begin few = record { follows = rules_follow course mesh carried round on.shared on.stay few; courses = on.courses; rounds = on.rounds; begin = on.begin }

  pub many_begin : (stage : ℕ) → IsPast course mesh round stage → BeginRight course (many_is stage) default parts
  many_begin stage past = record {
    follows = rules_stop course mesh carried round stage on.shared past.upto (λ before below. on.stay before (let upto = past.upto in omega (arith, upto, below))) past.earlier past.much (on.told stage past.upto past.earlier);
    courses = on.courses;
    rounds = on.rounds;
    begin = record { all = on.begin.all; numbers = on.begin.numbers; holds = on.begin.holds; kept = on.begin.kept };
  }

  pub which : StaysWithin ⊎ ((stage : ℕ) × IsPast course mesh round stage)
  which = elim (first_past (λ stage. length (behind stage).tets) most_tets (passes_in course round + 1)) [
    | inl within ↦ inl within
    | inr found ↦ inr (found.0, record { upto = (let below = found.1 in omega (arith, below)); much = found.2; earlier = found.3 })
  ]

  as_many : length parts ≡ course.parts
  as_many = sym (length-map parts (λ part. part.standing)) ∙ on.begin.all

  pub owed_is : owed_all (all_next parts) ≡ letters_in course round
  owed_is = owed_next course round parts on.of_course ∙ ap (λ n. n * (((rules course).last round + 1) * (course.parts - 1))) as_many

  -- ---- faults
  few_ends : (drawing : Drawing StoreState Body) (taken : ℕ) (before : Letters) (now : Carried) (fault : RunFault) → EndsSo course few_is default {X = ℕ} (Err fault) → Draws course round mesh drawing taken before now (Err fault)
  few_ends drawing taken before now Link ends = tt
  few_ends drawing taken before now (BadLetter bytes) ends = ends
  few_ends drawing taken before now (Starved part phase) ends = ends
  few_ends drawing taken before now (Over over stage count) ends = absurd (false≢true (sym (ap is_ok ends.2.2)))
  few_ends drawing taken before now Memory ends = tt

  pub first_excess : (first : ℕ) → IsPast course mesh round first → (stage count : ℕ) → stage ≡ first → count ≡ length (behind first).tets → IsFirstExcess course round mesh stage count
  first_excess first past stage count is counted =
      subst (λ z. IsFirstExcess course round mesh z count) (sym is) (record { upto = past.upto; count_is = counted; much = subst (λ n. most_tets < n) (sym counted) past.much; earlier = past.earlier })

  many_ends : (first : ℕ) → IsPast course mesh round first → (drawing : Drawing StoreState Body) (taken : ℕ) (before : Letters) (now : Carried) (fault : RunFault) → EndsSo course (many_is first) default {X = ℕ} (Err fault)
      → Draws course round mesh drawing taken before now (Err fault)
  many_ends first past drawing taken before now Link ends = tt
  many_ends first past drawing taken before now (BadLetter bytes) ends = ends
  many_ends first past drawing taken before now (Starved part phase) ends = ends
  many_ends first past drawing taken before now (Over over stage count) ends = (ends.0, first_excess first past stage count (ends.1 ∙ by_sevens first) (sym (ap in_err ends.2.2)))
  many_ends first past drawing taken before now Memory ends = tt

  -- ---- what the parts see
  abbrev pub drawing_at : ℕ → List ℕ → Drawing StoreState Body
  drawing_at n picks = turns (rules course) n picks (all_begun (rules course) round (map (λ part. part.standing) parts))

  pub sees_mesh : StaysWithin → (picks : List ℕ) (new : List PartState) → map (λ part. part.standing) new ≡ (drawn course round parts picks).parts → SeeMesh (behind (passes_in course round)) new
  sees_mesh few picks new are number within =
      let end = drawn course round parts picks in
      let begin = few_begin few in
      let enough : course.parts * (((rules course).last round + 1) * (course.parts - 1)) ≤ letters_in course round = no_less (letters_in course round) in
      let right = turns_right few_is default begin (letters_in course round) picks in
      let long = length-map new (λ part. part.standing) in
      let all = ap length are in
      let inside : number < course.parts = omega (arith, within, long, all, right) in
      let ended = (all_end_whatever_is_drawn (rules course) few_is default (map (λ part. part.standing) parts) begin.follows begin.begin (letters_in course round) picks enough).1 number inside in
      let other : PartState = record { course = course; standing = default; begun = 0; spent = false } in
      let at : part_at default end.parts number ≡ (get_or new number other).standing = ap (λ ps. get_or ps number default) (sym are) ∙ get_or-map (λ part. part.standing) new number other default within in
      let seen : view_in (part_at default end.parts number).holds ≡ view_of (behind (passes_in course round)) number = ap view_in ended.1 in
      ap (option_map (λ part. view_in part.standing.holds)) (slice_get-get_or new number other within) ∙ ap (λ s. Some (view_in s.holds)) (sym at) ∙ ap Some seen
    where
      no_less : (n : ℕ) → n ≤ n
      no_less n = omega arith

      turns_right : (truth : Truth StoreState Body) (d : phases.Standing StoreState Body) → BeginRight course truth d parts → (n : ℕ) (picks : List ℕ)
          → length (turns (rules course) n picks (opening course truth d parts)).parts ≡ course.parts
      turns_right truth d begin n picks = (right_turns (rules course) truth d begin.follows n picks (opening course truth d parts) (opening_right course truth d parts begin)).0

  -- a part that stands where a stage is past the limit is in no phase past the last
  pub low_phase : (first phase : ℕ) → first ≤ passes_in course round → phase ≤ 7 * first + 1 → phase ≤ (rules course).last round
  low_phase first phase upto low = omega (arith, upto, low)

  -- ---- the round
  module _ (new : List PartState) (now : Carried) (schedule : Picks) (before : Letters) (taken : ℕ) where
    abbrev pub CameSo : Result ℕ RunFault → Type 0
    CameSo result = (truth : Truth StoreState Body) → BeginRight course truth default parts → ComesTo course truth default parts new before now schedule result

    abbrev drew : Drawing StoreState Body
    drew = drawn course round parts (picks_left schedule)

    pub draws_err : (fault : RunFault) → CameSo (Err fault) → Draws course round mesh drew taken before now (Err fault)
    draws_err fault so = elim which [
      | inr past ↦ many_ends past.0 past.1 drew taken before now fault (so (many_is past.0) (many_begin past.0 past.1))
      | inl few ↦ few_ends drew taken before now fault (so few_is (few_begin few))
    ]

    module _ (letters : ℕ) (so : CameSo (Ok letters)) (ran : Runs (all_next parts) new before now.given (Ok letters)) (courses : AllByRecursion (λ part. part.course ≡ course) new) where
      never : (first : ℕ) → IsPast course mesh round first → ⊥
      never first past =
          let came = so (many_is first) (many_begin first past) in
          let all = came.3.0 in
          let some = on.shared.parts in
          let stands = came.3.1.stands 0 some in
          not_done course round default new _ came.2 (omega (arith, all, some)) courses (ap (λ s. s.round) stands.is) (low_phase first _ past.upto stands.upto) ran.3

      is_drawn : StaysWithin → (world : WorldState) → world.parts ≡ new → world.letters ≡ taken + letters → IsDrawn drew taken before now world
      is_drawn few world parts_are letters_are =
          let came = so few_is (few_begin few) in
          let same = ap (λ n. drawing_at n (picks_left schedule)) owed_is in
          let all : now.given ≡ Some (before ++ map spelled drew.drawn) = came.0 ∙ ap (λ (d : Drawing StoreState Body). Some (before ++ map spelled d.drawn)) same in
          let grown : ran.0 ≡ map spelled drew.drawn = append_cancel_left before ran.0 (map spelled drew.drawn) (same_Some (before ++ ran.0) (before ++ map spelled drew.drawn) (sym ran.1 ∙ all)) in
          record {
            given = all;
            held = came.1;
            parts = ap (map (λ part. part.standing)) parts_are ∙ came.2 ∙ ap (λ (d : Drawing StoreState Body). d.parts) same;
            letters = letters_are ∙ ap (λ n. taken + n) (ran.4 ∙ ap length grown ∙ length-map drew.drawn spelled);
          }

      pub draws_ok : (world : WorldState) → world.parts ≡ new → world.letters ≡ taken + letters → Draws course round mesh drew taken before now (Ok world)
      draws_ok world parts_are letters_are = elim which [
        | inr past ↦ absurd (never past.0 past.1)
        | inl few ↦ let is = is_drawn few world parts_are letters_are in (few, is, sees_mesh few (picks_left schedule) world.parts is.parts)
      ]

-- Parts that have begun their next round, and the letters that they sent, go along with the drawing of the round, in which all stands right.
use Rattle.std.proofs.Common.{◌≡◌, ◌+◌, ◌-◌, ◌*◌, ◌<◌, ◌≤◌, ◌/◌, ◌%◌, ℕ, zero, suc, inl, inr, true, false, List, [], ◌∷◌, ◌++◌, length, Some, Err, refl, sym, ap, subst, ◌∙◌, arith}
use Rattle.std.specs.Prelude.{map, slice_get, is_some}
use Rattle.std.specs.List.{AllByRecursion, flat_map}
use Rattle.std.proofs.lemmas.Bool.{cases_lt, false≢true}
use Rattle.std.proofs.lemmas.List.{append-nil, get_or-map, length-map, map-append}
use Rattle.std.proofs.lemmas.Option.{get_or_from_slice_get, slice_get_within}
use Rattle.ma_geom.specs.Coordinates.{Coordinates}
use Rattle.carrier.specs.Carried.{Carried, Letters}
use Rattle.letters.specs.declared.letter.Body.{Body}
use Rattle.part_core.specs.Parts.{PartState, sent, taken}
use Rattle.part_phases.specs.Inboxes.{others}
use Rattle.part_phases.specs.Owed.{letters_owed}
use Rattle.part_phases.specs.Phases.{begun, is_complete}
use Rattle.part_phases.specs.Standings as phases
use Rattle.part_phases.proofs.Inboxes.{length-others}
use Rattle.part_phases.proofs.Owed.{round_begun_owes_all_letters}
use Rattle.part_rules.specs.Bodies.{posts_in}
use Rattle.part_rules.specs.Ends.{total_by}
use Rattle.round_rules.specs.Rounds.{rules}
use Rattle.round_rules.specs.Stages.{last_phase, passes_in, phase_kind}
use Rattle.round_rules.proofs.Turns.{in_turn}
use Rattle.letters.specs.Bodies.{kind_at}
use Rattle.part_rules.specs.declared.course.Course.{Course}
use Rattle.part_store.specs.Stores.{StoreState}
use Rattle.phase_laws.specs.Drawing.{IsRight, part_at}
use Rattle.phase_laws.specs.Truth.{Follows, Rests, Stands, Truth}
use Rattle.phase_laws.proofs.Starts.{start_is_right}
use Rattle.phase_laws.proofs.Staying.{outcome_is, same_some}
use Rattle.world_run.specs.Replay.{all_next, is_too_many, next_begun, next_outcome}
use Rattle.world_run.specs.Told.{IsOver}
use Rattle.world_run.specs.steps.Beginning.{AreUnspent, letters_next, owed_all}
use Rattle.world_run.specs.steps.Drawing.{BeginRight, GoesAlong, ends_over, is_stuck, opening}
use Rattle.world_run.proofs.Excesses.{is_post, left_over, over_is_post}
use Rattle.world_run.proofs.Resting.{Rests as Rested, could_go_on, rests-begun}
use Rattle.world_run.proofs.Tracking.{taken_sent}

-- ---- one part
module _ (r : phases.Rules StoreState Body Coordinates) (part : phases.Standing StoreState Body) where
  -- a part that doesn't find too many tetrahedra waits for a letter or is done
  waits : (answer : phases.Answer Coordinates) → Rested r part answer → is_too_many answer ≡ false → could_go_on r part ≡ false
  waits (phases.Stepped phases.Waiting) rests is = rests
  waits (phases.Stepped (phases.Moved phase)) rests is = rests
  waits (phases.Stepped phases.RoundDone) rests is = rests
  waits (phases.Stepped (phases.Over phase total)) rests is = absurd (false≢true (sym is))
  waits (phases.NotExpected phase) rests is = absurd rests
  waits (phases.Wrong place) rests is = absurd rests

  -- one that finds them has all letters of its phase
  finds : (answer : phases.Answer Coordinates) → Rested r part answer → is_too_many answer ≡ true → (total : ℕ) × (is_complete r part ≡ true) × (r.ends part ≡ Err total)
  finds (phases.Stepped phases.Waiting) rests is = absurd (false≢true is)
  finds (phases.Stepped (phases.Moved phase)) rests is = absurd (false≢true is)
  finds (phases.Stepped phases.RoundDone) rests is = absurd (false≢true is)
  finds (phases.Stepped (phases.Over phase total)) rests is = (total, rests.1, rests.2)
  finds (phases.NotExpected phase) rests is = absurd (false≢true is)
  finds (phases.Wrong place) rests is = absurd (false≢true is)

-- a phase behind the last of a round has no posts
no_posts : (passes phase : ℕ) → phase ≡ last_phase passes + 1 → is_post (phase_kind phase) ≡ false
no_posts passes phase is =
    let place : phase % 7 ≡ 3 = omega (arith, is) in
    ap is_post ((in_turn phase).0 ∙ ap (λ k. kind_at (k + 1)) place)

-- a part that finds too many tetrahedra is in a phase of the round
module _ (course : Course) (truth : Truth StoreState Body) (follows : Follows (rules course) truth) (q : ℕ) (within : q < course.parts) (part : phases.Standing StoreState Body) (stands : Stands (rules course) truth q part) (total : ℕ) where
  pub in_round : (rules course).ends part ≡ Err total → part.phase ≤ truth.end
  in_round ends = elim (cases_lt truth.end part.phase) [
    | inr low ↦ low
    | inl past ↦
        let upto = stands.upto in
        let at : part.phase ≡ truth.end + 1 = omega (arith, past, upto) in
        let last = (follows.final q within (truth.holds (truth.end + 1) q) (stands.done at)).0 in
        let posts = over_is_post (phase_kind part.phase) part total ends in
        absurd (false≢true (sym (no_posts (passes_in course truth.round) part.phase (at ∙ ap (λ n. n + 1) last)) ∙ posts))
  ]

-- ---- lists
pub all-at : (P : PartState → Type 0) (parts : List PartState) (q : ℕ) (part : PartState) → AllByRecursion P parts → slice_get parts q ≡ Some part → P part
all-at P [] q part all there = absurd (false≢true (ap is_some there))
all-at P (x ∷ parts) zero part all there = subst P (same_some x part there) all.0
all-at P (x ∷ parts) (suc q) part all there = all-at P parts q part all.1 there

-- a part that has begun the next round was one of those before
next-from : (parts : List PartState) (q : ℕ) (x : PartState) → slice_get (all_next parts) q ≡ Some x → (part : PartState) × (slice_get parts q ≡ Some part) × (next_begun part ≡ x)
next-from [] q x there = absurd (false≢true (ap is_some there))
next-from (part ∷ parts) zero x there = (part, refl, same_some (next_begun part) x there)
next-from (part ∷ parts) (suc q) x there = next-from parts q x there

-- ---- how many letters all are owed
-- parts of a course whose numbers are below that of the parts, and which begin this round
abbrev pub AreOf : Course → ℕ → List PartState → Type 0
AreOf course round parts = AllByRecursion (λ part. (part.course ≡ course) × (part.standing.me < course.parts) × (part.begun ≡ round)) parts

no_parts : (n : ℕ) → 0 ≡ 0 * n
no_parts n = omega arith

one_more : (n p : ℕ) → p + n * p ≡ suc n * p
one_more n p = omega arith

less_one : (n all me : ℕ) → n ≡ all → me < all → length (others n me) ≡ all - 1
less_one n all me same below = let count = length-others n me (omega (arith, same, below)) in omega (arith, count, same)

pub owed_next : (course : Course) (round : ℕ) (parts : List PartState) → AreOf course round parts → owed_all (all_next parts) ≡ length parts * (((rules course).last round + 1) * (course.parts - 1))
owed_next course round [] are = no_parts (((rules course).last round + 1) * (course.parts - 1))
owed_next course round (part ∷ parts) are =
    let all = round_begun_owes_all_letters (rules part.course) part.begun part.standing in
    let same : part.course.parts ≡ course.parts = ap (λ c. c.parts) are.0.0 in
    let count : length (others part.course.parts part.standing.me) ≡ course.parts - 1 = less_one part.course.parts course.parts part.standing.me same are.0.1 in
    let last : (rules part.course).last part.begun ≡ (rules course).last round = λ i. (rules (are.0.0 i)).last (are.0.2 i) in
    let one : letters_owed (rules part.course) (next_outcome part).part ≡ ((rules course).last round + 1) * (course.parts - 1) = all ∙ (λ i. (last i + 1) * count i) in
    let rest = owed_next course round parts are.1 in
    (λ i. one i + rest i) ∙ one_more (length parts) (((rules course).last round + 1) * (course.parts - 1))

-- ---- parts of a course that begin a round
module _ (course : Course) (round : ℕ) where
  abbrev pub r : phases.Rules StoreState Body Coordinates
  r = rules course

  abbrev AreIn : List PartState → Type 0
  AreIn parts = AllByRecursion (λ part. part.course ≡ course) parts

  abbrev AreBefore : List PartState → Type 0
  AreBefore parts = AllByRecursion (λ part. part.begun ≡ round) parts

  outcome-is : (part : PartState) → part.course ≡ course → part.begun ≡ round → next_outcome part ≡ begun r round part.standing
  outcome-is part c b = λ i. begun (rules (c i)) (b i) part.standing

  pub standings_are : (parts : List PartState) → AreIn parts → AreBefore parts → map (λ part. part.standing) (all_next parts) ≡ map (λ part. (begun r round part).part) (map (λ part. part.standing) parts)
  standings_are [] courses rounds = refl
  standings_are (part ∷ parts) courses rounds =
      ap (λ (s : phases.Standing StoreState Body). s ∷ map (λ part. part.standing) (all_next parts)) (ap (λ due. due.part) (outcome-is part courses.0 rounds.0))
      ∙ ap (λ l. (begun r round part.standing).part ∷ l) (standings_are parts courses.1 rounds.1)

  pub courses_are : (parts : List PartState) → AreIn parts → AreIn (all_next parts)
  courses_are [] courses = tt
  courses_are (part ∷ parts) courses = (courses.0, courses_are parts courses.1)

  pub letters_are : (parts : List PartState) → AreIn parts → AreBefore parts → flat_map (λ part. (begun r round part).letters) (map (λ part. part.standing) parts) ≡ map taken (letters_next parts)
  letters_are [] courses rounds = refl
  letters_are (part ∷ parts) courses rounds =
      let letters = (next_outcome part).letters in
      let more = letters_next parts in
      ap (λ due. due.letters ++ flat_map (λ part. (begun r round part).letters) (map (λ part. part.standing) parts)) (sym (outcome-is part courses.0 rounds.0))
      ∙ ap (λ l. letters ++ l) (letters_are parts courses.1 rounds.1) ∙ ap (λ l. l ++ map taken more) (sym (taken_sent letters)) ∙ sym (map-append taken (map sent letters) more)

all_wait : (parts : List PartState) → AreUnspent (all_next parts) → AllByRecursion (λ part. is_stuck part ≡ false) (all_next parts)
all_wait [] unspent = tt
all_wait (part ∷ parts) unspent =
    let due = next_outcome part in
    (waits (rules part.course) due.part due.answer (rests-begun (rules part.course) part.begun part.standing) unspent.0, all_wait parts unspent.1)

-- ---- over any truth of the round
module _ (course : Course) (truth : Truth StoreState Body) (default : phases.Standing StoreState Body) (parts : List PartState) (begin : BeginRight course truth default parts) where
  pub opening_right : IsRight (rules course) truth default (opening course truth default parts)
  opening_right = start_is_right (rules course) truth default (map (λ part. part.standing) parts) begin.follows begin.begin

  pub opens : (carried : Carried) (base : Letters) → carried.held ≡ Some [] → carried.given ≡ Some base → AreUnspent (all_next parts)
      → GoesAlong course truth default base carried (all_next parts) (letters_next parts) (opening course truth default parts)
  opens carried base held given unspent = record {
    older = [];
    held = held;
    letters = tt;
    given = given ∙ ap Some (sym (append-nil base));
    parts_are = standings_are course truth.round parts begin.courses begin.rounds;
    courses = courses_are course truth.round parts begin.courses;
    waiting = letters_are course truth.round parts begin.courses begin.rounds;
    right = opening_right;
    free = all_wait parts unspent;
  }

  -- a part that finds too many as it begins has ended the round
  pub opens_over : (round stage count : ℕ) → IsOver (all_next parts) round stage count → ends_over course truth default round stage count
  opens_over round stage count over =
      let q = over.number in
      let before = next-from parts q over.part over.there in
      let part = before.0 in
      let is : over.part ≡ next_begun part = sym before.2 in
      let own = rules part.course in
      let due = next_outcome part in
      let of_course : part.course ≡ course = all-at (λ p. p.course ≡ course) parts q part begin.courses before.1 in
      let listed = slice_get_within parts q part before.1 in
      let long = length-map parts (λ p. p.standing) in
      let all = begin.begin.all in
      let within : q < course.parts = omega (arith, listed, long, all) in
      let inside = slice_get_within (all_next parts) q over.part over.there in
      let at : part_at default (opening course truth default parts).parts q ≡ due.part =
      ap (λ ps. part_at default ps q) (sym (standings_are course truth.round parts begin.courses begin.rounds)) ∙ get_or-map (λ p. p.standing) (all_next parts) q over.part default inside
      ∙ ap (λ p. p.standing) (get_or_from_slice_get (all_next parts) q over.part over.part over.there ∙ is) in
      let stands : Stands (rules course) truth q due.part = subst (Stands (rules course) truth q) at (opening_right.1.stands q within) in
      let rests : Rests (rules course) truth q due.part = subst (Rests (rules course) truth q) at (opening_right.1.rests q within) in
      let found = finds own due.part due.answer (rests-begun own part.begun part.standing) (ap (λ p. p.spent) (sym is) ∙ over.spent) in
      let complete : is_complete (rules course) due.part ≡ true = subst (λ c. is_complete (rules c) due.part ≡ true) of_course found.1 in
      let of_rules : (rules course).ends due.part ≡ Err found.0 = subst (λ c. (rules c).ends due.part ≡ Err found.0) of_course found.2 in
      let ended = rests (in_round course truth begin.follows q within due.part stands found.0 of_rules) complete in
      let counted = (left_over (phase_kind due.part.phase) due.part found.0 found.2).0 in
      let count_is : count ≡ found.0 = over.count_is ∙ ap (λ p. total_by p.standing.holds (posts_in p.standing.now)) is ∙ sym counted in
      let outcome : truth.outcome q ≡ Err found.0 = sym (outcome_is (rules course) truth begin.follows q due.part within stands ended.0 complete) ∙ found.2 in (
        over.round_is ∙ ap (λ p. p.standing.round) is ∙ ap (λ s. s.round) stands.is,
        over.stage_is ∙ ap (λ p. p.standing.phase / 7) is ∙ ap (λ n. n / 7) ended.0,
        (q, within, outcome ∙ ap Err (sym count_is)),
      )

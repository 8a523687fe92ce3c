-- Parts of a course that have done some rounds: they may begin the next, are owed all letters of it, and have done one more after it.
use Rattle.std.proofs.Common.{◌≡◌, ◌+◌, ◌-◌, ◌*◌, ◌^◌, ◌<◌, ◌≤◌, ℕ, zero, suc, true, false, List, [], ◌∷◌, get_or, length, Some, refl, sym, ap, subst, ◌∙◌, arith}
use Rattle.std.specs.Prelude.{map, slice_get, is_some}
use Rattle.std.specs.List.{AllByRecursion}
use Rattle.std.proofs.lemmas.Bool.{and_parts, false≢true, ltb-true}
use Rattle.std.proofs.lemmas.List.{get_or-map, length-map}
use Rattle.std.proofs.lemmas.Option.{get_or_from_slice_get, slice_get-get_or, slice_get_within}
use Rattle.part_core.specs.Parts.{PartState, first_part}
use Rattle.part_phases.specs.Inboxes.{below}
use Rattle.part_rules.specs.declared.course.Course.{Course}
use Rattle.part_store.specs.Labelled.{LabelledMesh, own_of}
use Rattle.phase_laws.proofs.Staying.{same_some}
use Rattle.view_laws.proofs.FirstRound.{length-below, number_at}
use Rattle.round_laws.specs.Ends.{letters_in}
use Rattle.round_rules.specs.Rounds.{rules}
use Rattle.round_rules.specs.Stages.{last_phase, passes_in}
use Rattle.world_run.specs.Replay.{all_done, all_next, first_parts, is_done}
use Rattle.world_run.specs.Rounds.{AreDone, HasDone, MayGoOn}
use Rattle.world_run.specs.Told.{WorldState}
use Rattle.world_run.specs.steps.Beginning.{AreKept, AreUnspent, MayAllBegin, known_of, owed_all}
use Rattle.world_run.proofs.Handings.{unspent-at}
use Rattle.world_run.proofs.Keeping.{known-next, known_next}
use Rattle.world_run.proofs.Opening.{AreOf, all-at, owed_next}

all-from_at : (P : PartState → Type 0) (parts : List PartState) → ((q : ℕ) (part : PartState) → slice_get parts q ≡ Some part → P part) → AllByRecursion P parts
all-from_at P [] each = tt
all-from_at P (x ∷ parts) each = (each 0 x refl, all-from_at P parts (λ q part there. each (suc q) part there))

done-of : (parts : List PartState) (q : ℕ) (part : PartState) → all_done parts ≡ true → slice_get parts q ≡ Some part → is_done part ≡ true
done-of [] q part done there = absurd (false≢true (ap is_some there))
done-of (x ∷ parts) zero part done there = subst (λ p. is_done p ≡ true) (same_some x part there) (and_parts (is_done x) (all_done parts) done).0
done-of (x ∷ parts) (suc q) part done there = done-of parts q part (and_parts (is_done x) (all_done parts) done).1 there

-- ---- parts that have done so many rounds
module _ (course : Course) (rounds : ℕ) (parts : List PartState) (are : AreDone course rounds parts) where
  done-at : (q : ℕ) (part : PartState) → slice_get parts q ≡ Some part → (q < course.parts) × HasDone course rounds q part
  done-at q part there =
      let listed = slice_get_within parts q part there in
      let all = are.all in
      let within : q < course.parts = omega (arith, listed, all) in
      let has = are.each q within in
      (within, subst (HasDone course rounds q) (same_some has.0 part (sym has.1 ∙ there)) has.2)

  pub all-done : (P : PartState → Type 0) → ((q : ℕ) (part : PartState) → q < course.parts → HasDone course rounds q part → P part) → AllByRecursion P parts
  all-done P each = all-from_at P parts (λ q part there. let is = done-at q part there in each q part is.0 is.1)

  pub may-begin : AllByRecursion (λ part. part.begun ≤ part.course.grid) parts → MayAllBegin parts
  may-begin finer = all-from_at _ parts (λ q part there.
      let has = (done-at q part there).1 in
      record { unspent = has.unspent; over = ltb-true ((rules part.course).last part.standing.round) part.standing.phase has.done; next = refl; on_grid = all-at (λ p. p.begun ≤ p.course.grid) parts q part finer there })

  pub of-course : AreOf course rounds parts
  of-course = all-done _ (λ q part within has. let number = has.number_is in (has.course_is, omega (arith, number, within), has.begun))

  pub owed_next-done : owed_all (all_next parts) ≡ letters_in course rounds
  owed_next-done = owed_next course rounds parts of-course ∙ ap (λ n. n * (((rules course).last rounds + 1) * (course.parts - 1))) are.all

  -- ---- once they have done one more
  module _ (new : List PartState) (kept : AreKept (all_next parts) new) (done : all_done new ≡ true) (unspent : AreUnspent new) where
    known : map known_of new ≡ map (λ part. known_next (known_of part)) parts
    known = kept ∙ known-next parts

    as_long : length new ≡ length parts
    as_long = sym (length-map new known_of) ∙ ap length known ∙ length-map parts (λ part. known_next (known_of part))

    each-next : (q : ℕ) → q < course.parts → (part : PartState) × (slice_get new q ≡ Some part) × HasDone course (rounds + 1) q part
    each-next q within =
        let has = are.each q within in
        let old = has.0 in
        let part = get_or new q old in
        let all = are.all in
        let long = as_long in
        let inside : q < length new = omega (arith, within, all, long) in
        let before : q < length parts = omega (arith, within, all) in
        let there = slice_get-get_or new q old inside in
        let same : known_of part ≡ known_next (known_of old) =
        sym (get_or-map known_of new q old (known_of old) inside) ∙ ap (λ l. get_or l q (known_of old)) known ∙ get_or-map (λ p. known_next (known_of p)) parts q old (known_of old) before
        ∙ ap (λ p. known_next (known_of p)) (get_or_from_slice_get parts q old old has.1) in (
          part,
          there,
          record {
            course_is = ap (λ k. k.0) same ∙ has.2.course_is;
            number_is = ap (λ k. k.1) same ∙ has.2.number_is;
            begun = ap (λ k. k.2) same ∙ ap (λ n. n + 1) has.2.begun;
            done = done-of new q part done there;
            unspent = unspent-at new q part unspent there;
          },
        )

    pub done-next : AreDone course (rounds + 1) new
    done-next = record { all = as_long ∙ are.all; each = each-next }

-- ---- parts that have done none
module _ (course : Course) (mesh : LabelledMesh) where
  abbrev first_of : ℕ → PartState
  first_of p = first_part p course (own_of mesh p) mesh.marks

  pub done-first : AreDone course 0 (first_parts course mesh)
  done-first =
      let ns = below course.parts in
      let long = length-map ns first_of in
      let count = length-below course.parts in
      record {
        all = long ∙ count;
        each = λ q within.
            let first = first_of q in
            let there = slice_get-get_or (first_parts course mesh) q first (omega (arith, within, long, count)) in
            let is : get_or (first_parts course mesh) q first ≡ first = get_or-map first_of ns q 0 first (omega (arith, within, count)) ∙ ap first_of (number_at course.parts q within) in
            (first, there ∙ ap Some is, record { course_is = refl; number_is = refl; begun = refl; done = refl; unspent = refl });
      }

  pub may-first : MayAllBegin (first_parts course mesh)
  may-first = may-begin course 0 (first_parts course mesh) done-first (all-done course 0 (first_parts course mesh) done-first _ (λ q part within has. let none = has.begun in omega (arith, none)))

-- ---- 64 parts have few letters
more_by : (a b c : ℕ) → a ≤ b → c * a ≤ c * b
more_by a b zero upto = omega arith
more_by a b (suc c) upto = let rest = more_by a b c upto in omega (arith, rest, upto)

few_passes : (course : Course) (round : ℕ) → course.collapse ≤ 16 → course.swap ≤ 16 → last_phase (passes_in course round) + 1 ≤ 227
few_passes course zero collapses swaps = omega arith
few_passes course (suc round) collapses swaps = omega (arith, collapses, swaps)

pub few_letters : (course : Course) (round : ℕ) → course.parts ≤ 64 → course.collapse ≤ 16 → course.swap ≤ 16 → letters_in course round ≤ 64 * (227 * 63)
few_letters course round upto collapses swaps =
    let phases = last_phase (passes_in course round) + 1 in
    let one = more_by (course.parts - 1) 63 phases (omega (arith, upto)) in
    let few = few_passes course round collapses swaps in
    let sent : phases * (course.parts - 1) ≤ 227 * 63 = omega (arith, one, few) in
    let all = more_by (phases * (course.parts - 1)) (227 * 63) course.parts sent in
    omega (arith, upto, all)

pub few_next : (course : Course) (rounds : ℕ) (parts : List PartState) → AreDone course rounds parts → course.parts ≤ 64 → course.collapse ≤ 16 → course.swap ≤ 16 → owed_all (all_next parts) < 2 ^ 64
few_next course rounds parts are few collapses swaps =
    let owed = owed_next-done course rounds parts are in
    let most = few_letters course rounds few collapses swaps in
    omega (arith, owed, most)

-- ---- another round
pub finer-done : (course : Course) (rounds : ℕ) (parts : List PartState) → AreDone course rounds parts → rounds ≤ course.grid → AllByRecursion (λ part. part.begun ≤ part.course.grid) parts
finer-done course rounds parts are finer = all-done course rounds parts are _ (λ q part within has.
    let begun = has.begun in
    let same = ap (λ (c : Course). c.grid) has.course_is in
    omega (arith, finer, begun, same))

-- the grid can be halved at least as often, where some part tells it
pub upto-done : (course : Course) (rounds : ℕ) (parts : List PartState) → AreDone course rounds parts → 1 ≤ course.parts → AllByRecursion (λ part. part.begun ≤ part.course.grid) parts → rounds ≤ course.grid
upto-done course rounds parts are some finer =
    let has = are.each 0 some in
    let under = all-at (λ p. p.begun ≤ p.course.grid) parts 0 has.0 finer has.1 in
    let begun = has.2.begun in
    let same = ap (λ (c : Course). c.grid) has.2.course_is in
    omega (arith, under, begun, same)

pub may_go_on : (course : Course) (rounds : ℕ) (world : WorldState) → AreDone course rounds world.parts → rounds ≤ course.grid → world.spent ≡ false → MayGoOn world
may_go_on course rounds world are finer unspent = record { unspent = unspent; finer = finer-done course rounds world.parts are finer }

-- ---- where these are the parts that began the round
pub next-of : (course : Course) (rounds : ℕ) (first : List PartState) → AreDone course rounds first → (parts new : List PartState) → parts ≡ first → AreKept (all_next parts) new → all_done new ≡ true → AreUnspent new → AreDone course (rounds + 1) new
next-of course rounds first are parts new is kept done unspent = done-next course rounds first are new (kept ∙ ap (λ ps. map known_of (all_next ps)) is) done unspent

pub letters_next-done : (course : Course) (rounds : ℕ) (parts : List PartState) → AreDone course rounds parts → owed_all (all_next parts) ≡ letters_in course rounds
letters_next-done course rounds parts are = owed_next-done course rounds parts are

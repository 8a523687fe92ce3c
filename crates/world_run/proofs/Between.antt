-- A world stands between two rounds after its first, and after each further one.
use Rattle.std.proofs.Common.{◌≡◌, ◌+◌, ◌*◌, ◌<◌, ◌≤◌, ◌^◌, ℕ, true, refl, arith}
use Rattle.std.specs.List.{AllByRecursion}
use Rattle.part_rules.specs.declared.course.Course.{Course}
use Rattle.round_laws.specs.Ends.{letters_in}
use Rattle.world_run.specs.Replay.{all_done, all_next}
use Rattle.world_run.specs.Rounds.{AreBetween, AreDone}
use Rattle.world_run.specs.Told.{WorldState}
use Rattle.world_run.specs.steps.Beginning.{AreKept, AreUnspent, MayAllBegin, owed_all}
use Rattle.world_run.proofs.DoneRounds.{few_letters, few_next, letters_next-done, may-begin, next-of, upto-done}

-- after the first round
pub between_first : (course : Course) (world : WorldState) → 1 ≤ course.parts → course.parts ≤ 64 → course.grid ≤ 30 → course.collapse ≤ 16 → course.swap ≤ 16 → AreDone course 1 world.parts → world.letters ≡ letters_in course 0 → AreBetween world
between_first course world some few grid collapses swaps done letters = record {
  course = course;
  rounds = 1;
  some = some;
  parts = few;
  grid = grid;
  collapses = collapses;
  swaps = swaps;
  upto = omega arith;
  done = done;
  letters = let most = few_letters course 0 few collapses swaps in omega (arith, letters, most);
}

module _ (world : WorldState) (between : AreBetween world) where
  pub may_all : AllByRecursion (λ part. part.begun ≤ part.course.grid) world.parts → MayAllBegin world.parts
  may_all finer = may-begin between.course between.rounds world.parts between.done finer

  pub few_owed : owed_all (all_next world.parts) < 2 ^ 64
  few_owed = few_next between.course between.rounds world.parts between.done between.parts between.collapses between.swaps

  counted : (letters : ℕ) → letters ≡ owed_all (all_next world.parts) → letters ≤ 64 * (227 * 63)
  counted letters is =
      let all = letters_next-done between.course between.rounds world.parts between.done in
      let most = few_letters between.course between.rounds between.parts between.collapses between.swaps in
      omega (arith, is, all, most)

  module _ (finer : AllByRecursion (λ part. part.begun ≤ part.course.grid) world.parts) (letters : ℕ) (is : letters ≡ owed_all (all_next world.parts)) where
    upto : between.rounds ≤ between.course.grid
    upto = upto-done between.course between.rounds world.parts between.done between.some finer

    -- the sum of all letters is far from the greatest number of 64 bits
    pub sum_fits : world.letters + letters < 2 ^ 64
    sum_fits =
        let more = counted letters is in
        let sum = between.letters in
        let finest = between.grid in
        let rounds = upto in
        omega (arith, more, sum, finest, rounds)

    -- after one more round
    pub between_next : (next : WorldState) → AreKept (all_next world.parts) next.parts → all_done next.parts ≡ true → AreUnspent next.parts → next.letters ≡ world.letters + letters → AreBetween next
    between_next next kept done unspent letters_are = record {
      course = between.course;
      rounds = between.rounds + 1;
      some = between.some;
      parts = between.parts;
      grid = between.grid;
      collapses = between.collapses;
      swaps = between.swaps;
      upto = let rounds = upto in omega (arith, rounds);
      done = next-of between.course between.rounds world.parts between.done world.parts next.parts refl kept done unspent;
      letters = let more = counted letters is in let sum = between.letters in omega (arith, more, sum, letters_are);
    }

-- Steps of the code: no public contract names them, and nothing here is a promise. How parts begin a round.
--     excess_of      what a step says of too many tetrahedra, in a round
--     Exceeds        that a part has found them
--     Says           what one part says, and SaysAll what the first of all says
--     AreUnspent     that all parts can go on
--     MayAllBegin    that each can begin its next round
--     owed_all       how many letters all are owed
--     letters_next   the letters of all that begin their next round
--     AreKept        that parts are those of before: of the same course, with their number and the rounds that they have begun
use Rattle.std.specs.Prelude.{◌≡◌, ◌<◌, ◌+◌, ◌/◌, ℕ, true, false, List, [], ◌∷◌, map, Option, Some, None}
use Rattle.std.specs.List.{AllByRecursion, flat_map}
use Rattle.letters.specs.declared.letter.Letter.{Letter}
use Rattle.part_core.specs.Parts.{MayBegin, PartState, sent}
use Rattle.part_core.specs.declared.answers.Step.{Step}
use Rattle.part_core.specs.declared.answers.Step.TheVariants as steps
use Rattle.part_phases.specs.Owed.{letters_owed}
use Rattle.part_rules.specs.Bodies.{posts_in}
use Rattle.part_rules.specs.Ends.{most_tets, total_by}
use Rattle.round_rules.specs.Rounds.{rules}
use Rattle.part_rules.specs.declared.course.Course.{Course}
use Rattle.world_run.specs.Replay.{next_outcome}
use Rattle.world_run.specs.Told.{IsOver}
use Rattle.world_run.specs.declared.excess.Excess.{Excess}

abbrev pub excess_of : ℕ → Step → Option Excess
excess_of round (steps.Over phase total) = Some (record { round = round; stage = phase / 7; count = total })
excess_of round _ = None

pub record Exceeds (part : PartState) (excess : Excess) : Type 0 where
  pub spent : part.spent ≡ true
  pub round_is : excess.round ≡ part.standing.round
  pub stage_is : excess.stage ≡ part.standing.phase / 7
  pub count_is : excess.count ≡ total_by part.standing.holds (posts_in part.standing.now)
  pub much : most_tets < excess.count

abbrev pub Says : PartState → Option Excess → Type 0
Says part None = part.spent ≡ false
Says part (Some excess) = Exceeds part excess

abbrev pub AreUnspent : List PartState → Type 0
AreUnspent parts = AllByRecursion (λ part. part.spent ≡ false) parts

abbrev pub MayAllBegin : List PartState → Type 0
MayAllBegin parts = AllByRecursion (λ part. MayBegin part part.begun) parts

abbrev pub SaysAll : List PartState → Option Excess → Type 0
SaysAll parts None = AreUnspent parts
SaysAll parts (Some excess) = IsOver parts excess.round excess.stage excess.count

abbrev pub owed_all : List PartState → ℕ
owed_all [] = 0
owed_all (part ∷ parts) = letters_owed (rules part.course) part.standing + owed_all parts

-- the letters, as they are posted
abbrev pub letters_next : List PartState → List Letter
letters_next parts = flat_map (λ part. map sent (next_outcome part).letters) parts

-- what no letter changes of a part
abbrev pub known_of : PartState → Course × ℕ × ℕ
known_of part = (part.course, part.standing.me, part.begun)

abbrev pub AreKept : List PartState → List PartState → Type 0
AreKept old new = map known_of new ≡ map known_of old

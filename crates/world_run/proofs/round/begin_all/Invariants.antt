use Rattle.std.proofs.Common.{◌≡◌, ◌++◌, take}
use Rattle.world_run.specs.Replay.{all_next}
use Rattle.world_run.specs.steps.Beginning.{SaysAll, letters_next}
use Rattle.world_run.proofs.Nexts.{partly}
use Rattle.world_run.proofs.round.begin_all.Given as goal

-- the parts so far have begun, what the first of them says is kept, and their letters are appended
abbrev pub invariant-loop-number : goal.invariant-loop-number
invariant-loop-number l = record {
  parts : l.parts ≡ partly l.fn.parts l.number;
  says : SaysAll (all_next (take l.number l.fn.parts)) l.excess;
  letters : l.out.items ≡ l.fn.out.items ++ letters_next (take l.number l.fn.parts);
}

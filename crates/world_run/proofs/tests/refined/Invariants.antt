use Rattle.std.proofs.Common.{◌≡◌, ◌+◌, ◌≤◌, false, []}
use Rattle.world_run.specs.Rounds.{AreDone}
use Rattle.world_run.proofs.tests.refined.Given as goal

-- so many rounds are done
abbrev pub invariant-loop-round : goal.invariant-loop-round
invariant-loop-round l = record {
  done : AreDone (record { parts = 2; grid = 2; collapse = 0; swap = 0; field = record { default = 1; boxes = [] } }) (l._round + 1) l.world.parts;
  unspent : l.world.spent ≡ false;
}

use Rattle.std.proofs.Common.{◌≡◌, ◌≤◌, take}
use Rattle.world_run.proofs.Postings.{Wait}
use Rattle.world_run.proofs.posting.post_all.Given as goal

-- the letters so far wait, nothing was handed out, and no count has fallen
abbrev pub invariant-loop-letter : goal.invariant-loop-letter
invariant-loop-letter g l = record {
  held : Wait (g.C.Carrier.carried l.fn.carrier).held (take l.letter-index l.letters) (g.C.Carrier.carried l.carrier).held;
  given : (g.C.Carrier.carried l.carrier).given ≡ (g.C.Carrier.carried l.fn.carrier).given;
  faults : (g.C.Carrier.carried l.fn.carrier).faults ≤ (g.C.Carrier.carried l.carrier).faults;
  dry : (g.C.Carrier.carried l.fn.carrier).dry ≤ (g.C.Carrier.carried l.carrier).dry;
}

use Rattle.std.proofs.Common.{◌≡◌, ◌+◌, ◌≤◌, None}
use Rattle.std.specs.Prelude.{IfSome}
use Rattle.letters.specs.declared.letter.Body.{Body}
use Rattle.part_phases.specs.Standings.{Standing}
use Rattle.part_rules.specs.declared.course.Course.{Course}
use Rattle.part_store.specs.Stores.{StoreState}
use Rattle.phase_laws.specs.Truth.{Truth}
use Rattle.world_run.specs.Drawn.{used}
use Rattle.world_run.specs.Replay.{first_waiting}
use Rattle.world_run.specs.steps.Beginning.{AreKept, AreUnspent, owed_all}
use Rattle.world_run.specs.steps.Turns.{Ran}
use Rattle.world_run.proofs.Along.{KeepsAlong}
use Rattle.world_run.proofs.Tracking.{KeepsTracks}
use Rattle.world_run.proofs.running.run.Given as goal

-- the parts, which are those at first, are what the letters so far made of them, each of which was owed and took a pick, the run goes along with a drawing, and no count has fallen
abbrev pub invariant-loop-waiting : goal.invariant-loop-waiting
invariant-loop-waiting g l = record {
  unspent : AreUnspent l.parts;
  kept : AreKept l.fn.parts l.parts;
  sum : l.letters + owed_all l.parts ≡ owed_all l.fn.parts;
  told : IfSome (g.C.Carrier.carried l.fn.carrier).given (λ before. Ran l.fn.parts l.parts before (g.C.Carrier.carried l.carrier).given l.letters);
  picks : l.schedule ≡ used l.fn.schedule l.letters;
  draws : (course : Course) (truth : Truth StoreState Body) (default : Standing StoreState Body)
      → KeepsAlong course truth default l.fn.parts l.parts l.fn.sent.items l.sent.items (g.C.Carrier.carried l.fn.carrier) (g.C.Carrier.carried l.carrier) l.fn.schedule l.schedule;
  tracks : (course : Course) → KeepsTracks course l.fn.parts l.parts l.fn.sent.items l.sent.items (g.C.Carrier.carried l.fn.carrier) (g.C.Carrier.carried l.carrier) l.fn.schedule l.schedule;
  rests : first_waiting l.fn.parts ≡ None → (l.parts ≡ l.fn.parts) × (g.C.Carrier.carried l.carrier ≡ g.C.Carrier.carried l.fn.carrier);
  faults : (g.C.Carrier.carried l.fn.carrier).faults ≤ (g.C.Carrier.carried l.carrier).faults;
  dry : (g.C.Carrier.carried l.fn.carrier).dry ≤ (g.C.Carrier.carried l.carrier).dry;
}

abbrev pub decreases-loop-waiting : goal.decreases-loop-waiting
decreases-loop-waiting g l = owed_all l.parts

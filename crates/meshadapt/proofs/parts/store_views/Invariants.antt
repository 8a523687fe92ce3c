use Rattle.std.specs.Prelude.{map, Ok}
use Rattle.std.proofs.Common.{take}
use Rattle.meshadapt.specs.steps.Storing.{StoresAll, view_outputs}
use Rattle.meshadapt.proofs.Divided.{seen_of}
use Rattle.meshadapt.proofs.parts.store_views.Given as goal

-- what the parts so far see is stored
abbrev pub invariant-loop-number : goal.invariant-loop-number
invariant-loop-number g l = StoresAll {X = Unit {0}} (Ok tt) (take l.number (view_outputs l.out l.names (map seen_of l.world.parts))) (g.D.Depot.held l.fn.depot) (g.D.Depot.held l.depot)

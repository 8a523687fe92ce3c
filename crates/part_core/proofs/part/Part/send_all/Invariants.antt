use Rattle.std.proofs.Common.{◌≡◌, ◌++◌, map}
use Rattle.part_phases.specs.Inboxes.{others}
use Rattle.part_core.specs.Parts.{sent}
use Rattle.round_rules.specs.Rounds.{rules}
use Rattle.part_core.proofs.part.Part.send_all.Given as goal

-- the letters to those below the target
abbrev pub invariant-loop-target : goal.invariant-loop-target
invariant-loop-target l =
    l.out.items ≡ l.fn.out.items ++ map sent (map (λ q. record { round = l.self.standing.round; phase = l.self.standing.phase; sender = l.self.standing.me; target = q; body = (rules l.self.course).sends l.self.standing q }) (others l.target l.self.standing.me))

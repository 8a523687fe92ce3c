use Rattle.std.proofs.Common.{◌≡◌, ◌++◌, drop, map}
use Rattle.std.specs.List.{take_while}
use Rattle.std.specs.Option.{unwrap_or}
use Rattle.msh_write.specs.steps.Holders.{is_of}
use Rattle.msh_write.proofs.holders.add_parts.Given as goal

abbrev pub invariant-loop-held : goal.invariant-loop-held
invariant-loop-held l =
    l.parts.items ++ map (λ h. unwrap_or h.1 l.part) (take_while (is_of l.cell) (drop l.held-index l.holders))
    ≡ l.fn.parts.items ++ map (λ h. unwrap_or h.1 l.part) (take_while (is_of l.cell) l.holders)

use Rattle.std.proofs.Common.{◌≡◌, ◌∷◌, [], ◌++◌, flat_map, take}
use Rattle.msh_write.specs.Text.{name_line}
use Rattle.msh_write.proofs.lines.put_name_lines.Given as goal

abbrev pub invariant-loop-name : goal.invariant-loop-name
invariant-loop-name l =
    l.out.items ≡ l.fn.out.items ++ flat_map (λ name. name_line name ++ 10 ∷ []) (take l.name-index l.names)
